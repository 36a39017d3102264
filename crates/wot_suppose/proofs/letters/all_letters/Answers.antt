use Rattle.std.proofs.Common.{ℕ, ◌++◌, All, sym, ap, subst, ◌∙◌}
use Rattle.std.specs.FinMap as finmap
use Rattle.std.specs.List.{flat_map}
use Rattle.std.proofs.lemmas.List.Elements.{All-tail}
use Rattle.wot_types.specs.declared.key.Key.{Key}
use Rattle.wot_types.specs.Keyring.{Keyring}
use Rattle.wot_types.specs.Letters.{user_letters}
use Rattle.wot_types.specs.Levels.{rows_of}
use Rattle.wot_types.specs.State.{State}
use Rattle.wot_live.proofs.KeyWalks.{IsRisingFrom, one_of_left, rising_entries}
use Rattle.wot_suppose.proofs.Comparing.{IsEntryOf}
use Rattle.wot_suppose.proofs.letters.all_letters.Goals as goal

pub loop-keyblock-init : goal.loop-keyblock-init
loop-keyblock-init c =
    let s = c.args.engine.now in
    let f = λ (e : ℕ × Key). user_letters s (rows_of s) e.0 e.1 in
    let all = c.into_iter-keyblock-iterator.ensures.into_iter_gives ∙ c.walk-keyblock-items.ensures.whole ∙ ap (λ (t : Keyring). finmap.entries t) c.table.ensures in
    record {
      state = c.letter_walk-walk.ensures.state;
      rising = subst (λ from. IsRisingFrom from c.into_iter-keyblock-iterator.result) (sym c.letter_walk-walk.ensures.from) (subst (IsRisingFrom 0) (sym all) (rising_entries s.keys));
      found = subst (All (IsEntryOf s.keys)) (sym all) (subst (λ keys. All (IsEntryOf keys) (finmap.entries keys)) c.table.ensures c.walk-keyblock-items.ensures.found);
      told = ap (λ xs. xs ++ flat_map f c.into_iter-keyblock-iterator.result) c.new-all.ensures.items ∙ ap (flat_map f) all;
    }

pub loop-keyblock-preserved : goal.loop-keyblock-preserved
loop-keyblock-preserved c =
    let s = c.args.engine.now in
    let f = λ (e : ℕ × Key). user_letters s (rows_of s) e.0 e.1 in
    let key = c.in-Some.keyblock in
    let rest = c.next.new.self in
    let step = c.in-Some.ensures.steps in
    let items = c.loop-keyblock.all.items in
    let same = c.letters-letters.ensures.state ∙ c.loop-keyblock.invariant.state in
    record {
      state = c.letters-letters.ensures.kept ∙ c.loop-keyblock.invariant.state;
      rising = subst (λ from. IsRisingFrom from rest) (sym (c.letters-letters.ensures.from ∙ c.id.ensures)) (subst (IsRisingFrom c.loop-keyblock.walk.from) step c.loop-keyblock.invariant.rising).1;
      found = All-tail (IsEntryOf s.keys) key rest (subst (All (IsEntryOf s.keys)) step c.loop-keyblock.invariant.found);
      told = ap (λ xs. xs ++ flat_map f rest) (c.in_ok-push_letters.ensures ∙ ap (λ (t : State). items ++ user_letters t (rows_of t) key.0 key.1) same)
          ∙ one_of_left f items _ key rest c.loop-keyblock.keyblock-iterator step c.loop-keyblock.invariant.told;
    }
