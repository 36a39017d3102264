use Rattle.std.proofs.Common.{◌≡◌, ℕ, ◌++◌, [], All, Some, sym, ap, subst, ◌∙◌, arith}
use Rattle.std.specs.FinMap as finmap
use Rattle.std.specs.List.{flat_map}
use Rattle.std.proofs.lemmas.List.Elements.{All-head, All-tail}
use Rattle.wot_types.specs.declared.key.Key.{Key}
use Rattle.wot_types.specs.State.{State}
use Rattle.wot_types.specs.Keyring.{Keyring}
use Rattle.wot_types.specs.Letters.{user_letters}
use Rattle.wot_types.specs.Levels.{rows_of}
use Rattle.wot_live.proofs.KeyWalks.{IsRisingFrom, none_of_left, one_of_left, rising_entries, told_of}
use Rattle.wot_print.specs.Counts.{counts_of}
use Rattle.wot_print.proofs.counts.count_letters.Goals as goal

abbrev IsEntryOf : Keyring → ℕ × Key → Type 0
IsEntryOf keys e = finmap.get keys e.0 ≡ Some e.1

pub loop-keyblock-init : goal.loop-keyblock-init
loop-keyblock-init c =
    let s = c.args.engine.now in
    let all = c.into_iter-keyblock-iterator.ensures.into_iter_gives ∙ c.walk-keyblock-items.ensures.whole ∙ ap finmap.entries c.table.ensures in
    record {
      state = c.letter_walk-walk.ensures.state;
      rising = subst (λ from. IsRisingFrom from c.into_iter-keyblock-iterator.result) (sym c.letter_walk-walk.ensures.from) (subst (IsRisingFrom 0) (sym all) (rising_entries s.keys));
      found = subst (All (IsEntryOf s.keys)) (sym all) (subst (λ keys. All (IsEntryOf keys) (finmap.entries keys)) c.table.ensures c.walk-keyblock-items.ensures.found);
      counted = ([], c.new-counts.ensures, ap (flat_map (λ e. user_letters s (rows_of s) e.0 e.1)) all);
    }

pub letters-letters-requires : goal.letters-letters-requires
letters-letters-requires c =
    let first = (subst (IsRisingFrom c.loop-keyblock.walk.from) c.in-Some.ensures.steps c.loop-keyblock.invariant.rising).0 in
    let id = c.id.ensures in
    record { rising = omega (arith, first, id) }

pub add_letters-requires : goal.add_letters-requires
add_letters-requires c =
    let now = c.loop-keyblock.walk.state in
    let key = c.in-Some.keyblock in
    let found = subst (λ (s : State). All (IsEntryOf s.keys) c.loop-keyblock.keyblock-iterator) (sym c.loop-keyblock.invariant.state) c.loop-keyblock.invariant.found in
    let there = All-head (IsEntryOf now.keys) key c.next.new.self (subst (All (IsEntryOf now.keys)) c.in-Some.ensures.steps found) in
    record { told = told_of c.letters-letters.result now c.id.result key c.id.ensures there c.letters-letters.ensures.told }

pub loop-keyblock-preserved : goal.loop-keyblock-preserved
loop-keyblock-preserved c =
    let s = c.args.engine.now in
    let key = c.in-Some.keyblock in
    let rest = c.next.new.self in
    let step = c.in-Some.ensures.steps in
    let so_far = c.loop-keyblock.invariant.counted in
    let same = c.letters-letters.ensures.state ∙ c.loop-keyblock.invariant.state in
    let more = user_letters s (rows_of s) key.0 key.1 in
    record {
      state = c.letters-letters.ensures.kept ∙ c.loop-keyblock.invariant.state;
      rising = subst (λ from. IsRisingFrom from rest) (sym (c.letters-letters.ensures.from ∙ c.id.ensures)) (subst (IsRisingFrom c.loop-keyblock.walk.from) step c.loop-keyblock.invariant.rising).1;
      found = All-tail (IsEntryOf s.keys) key rest (subst (All (IsEntryOf s.keys)) step c.loop-keyblock.invariant.found);
      counted = (
        so_far.0 ++ more,
        c.add_letters.ensures so_far.0 so_far.1 ∙ ap (λ s. counts_of (so_far.0 ++ user_letters s (rows_of s) key.0 key.1)) same,
        one_of_left (λ e. user_letters s (rows_of s) e.0 e.1) so_far.0 _ key rest c.loop-keyblock.keyblock-iterator step so_far.2,
      );
    }

pub returns : goal.returns
returns c =
    let s = c.args.engine.now in
    let so_far = c.loop-keyblock.invariant.counted in
    so_far.1 ∙ ap counts_of (none_of_left (λ e. user_letters s (rows_of s) e.0 e.1) so_far.0 _ c.loop-keyblock.keyblock-iterator c.in-None.ensures.steps.0 so_far.2)
