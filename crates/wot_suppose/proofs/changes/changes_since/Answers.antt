use Rattle.std.proofs.Common.{◌≡◌, ◌∷◌, ◌++◌, All, length, sym, ap, subst, ◌∙◌, arith}
use Rattle.std.specs.FinMap as finmap
use Rattle.std.specs.List.{flat_map}
use Rattle.std.proofs.lemmas.List.Elements.{All-tail}
use Rattle.wot_types.specs.Keyring.{Keyring}
use Rattle.wot_types.specs.Letters.{user_letters}
use Rattle.wot_types.specs.Levels.{rows_of}
use Rattle.wot_types.specs.Supposing.{changed_letters, changes_on}
use Rattle.wot_live.proofs.KeyWalks.{IsRisingFrom, rising_entries}
use Rattle.wot_suppose.proofs.Comparing.{IsEntryOf, behind, letters_in, letters_there, many_letters, one_key}
use Rattle.wot_suppose.proofs.changes.changes_since.Goals as goal

pub loop-keyblock-init : goal.loop-keyblock-init
loop-keyblock-init c =
    let e = c.args.engine.now in
    let iter = c.into_iter-keyblock-iterator.result in
    let all = c.into_iter-keyblock-iterator.ensures.into_iter_gives ∙ c.walk-keyblock-items.ensures.whole ∙ ap (λ (t : Keyring). finmap.entries t) c.table.ensures in
    record {
      state = c.letter_walk-walk.ensures.state;
      rising = subst (λ from. IsRisingFrom from iter) (sym c.letter_walk-walk.ensures.from) (subst (IsRisingFrom 0) (sym all) (rising_entries e.keys));
      found = subst (All (IsEntryOf e.keys)) (sym all) (subst (λ keys. All (IsEntryOf keys) (finmap.entries keys)) c.table.ensures c.walk-keyblock-items.ensures.found);
      left = λ s same old. (
        old ∙ ap (λ (keys : Keyring). letters_in s (finmap.entries keys)) same ∙ ap (letters_in s) (sym all),
        ap (λ xs. xs ++ flat_map (changes_on s e) iter) c.new-found.ensures ∙ ap (flat_map (changes_on s e)) all ∙ ap (λ (keys : Keyring). flat_map (changes_on s e) (finmap.entries keys)) (sym same),
      );
    }

pub split_at-requires : goal.split_at-requires
split_at-requires c =
    let s = c.requires.known.0 in
    let key = c.in-Some.keyblock in
    let rest = c.next.new.self in
    let so_far = c.loop-keyblock.invariant.left s c.requires.known.1 c.requires.known.2 in
    letters_there s key rest c.loop-keyblock.left.now c.key.result.users (so_far.0 ∙ ap (letters_in s) c.in-Some.ensures.steps) (omega (arith, c.key.ensures.users))

pub loop-keyblock-preserved : goal.loop-keyblock-preserved
loop-keyblock-preserved c =
    let e = c.args.engine.now in
    let key = c.in-Some.keyblock in
    let rest = c.next.new.self in
    let step = c.in-Some.ensures.steps in
    let found = c.loop-keyblock.found in
    let left = c.loop-keyblock.left.now in
    let users = c.key.result.users in
    let same_state = c.letters-letters.ensures.state ∙ c.loop-keyblock.invariant.state in
    record {
      state = c.letters-letters.ensures.kept ∙ c.loop-keyblock.invariant.state;
      rising = subst (λ from. IsRisingFrom from rest) (sym (c.letters-letters.ensures.from ∙ c.id.ensures)) (subst (IsRisingFrom c.loop-keyblock.walk.from) step c.loop-keyblock.invariant.rising).1;
      found = All-tail (IsEntryOf e.keys) key rest (subst (All (IsEntryOf e.keys)) step c.loop-keyblock.invariant.found);
      left = λ s same old.
          let so_far = c.loop-keyblock.invariant.left s same old in
          let here : left ≡ letters_in s (key ∷ rest) = so_far.0 ∙ ap (letters_in s) step in
          let many : length (user_letters s (rows_of s) key.0 key.1) ≡ users = omega (arith, many_letters s key, c.key.ensures.users) in (
            c.split_at.ensures.back ∙ behind s e key rest left users here many,
            ap (λ xs. xs ++ flat_map (changes_on s e) rest)
                (c.in_ok-add_changes.ensures ∙ (λ j. found ++ changed_letters key.0 0 (c.split_at.ensures.front j) (user_letters (same_state j) (rows_of (same_state j)) key.0 key.1)))
                ∙ one_key s e key rest found _ left users here many (ap (λ l. found ++ flat_map (changes_on s e) l) (sym step) ∙ so_far.1),
          );
    }
