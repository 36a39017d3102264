use Rattle.std.proofs.Common.{◌≡◌, ◌≤◌, Bool, ℕ, List, [], ◌++◌, All, Some, refl, sym, ap, subst, ◌∙◌, arith}
use Rattle.std.specs.FinMap as map
use Rattle.std.specs.List.{flat_map}
use Rattle.std.proofs.lemmas.List.Elements.{All-cons, All-head, All-nil, All-tail}
use Rattle.wot_types.specs.declared.key.Key.{Key}
use Rattle.wot_types.specs.State.{State}
use Rattle.wot_types.specs.Keyring.{Keyring, key_certs}
use Rattle.wot_types.specs.Accepted.{IsFiled}
use Rattle.wot_types.specs.Levels.{rows_of}
use Rattle.wot_types.specs.Ownertrust.{ownertrust_of}
use Rattle.wot_types.specs.Printing.{key_lines}
use Rattle.wot_live.proofs.KeyWalks.{IsRisingFrom, none_of_left, one_of_left, rising_entries, told_of}
use Rattle.wot_print_laws.specs.Fits.{FitsKey}
use Rattle.wot_print.proofs.Room.{room_for_each}
use Rattle.wot_print.proofs.Walking.{own_id}
use Rattle.wot_print.proofs.listing.push_keys.Goals as goal

abbrev IsEntryOf : Keyring → ℕ × Key → Type 0
IsEntryOf keys e = map.get keys e.0 ≡ Some e.1

abbrev Fits : ℕ × Key → Type 0
Fits e = FitsKey e.1

abbrev Within : ℕ → ℕ × Key → Type 0
Within most e = key_certs e.1 ≤ most

pub loop-keyblock-init : goal.loop-keyblock-init
loop-keyblock-init g c =
    let s = c.args.engine.now in
    let all = c.into_iter-keyblock-iterator.ensures.into_iter_gives ∙ c.walk-keyblock-items.ensures.whole ∙ ap map.entries c.table.ensures in
    let kept = subst (λ (keys : Keyring). All IsFiled (map.entries keys)) c.table.ensures c.walk-keyblock-items.ensures.kept in
    record {
      state = c.letter_walk-walk.ensures.state;
      trusts = c.requires.trusts.0;
      beside = c.requires.trusts.1 ∙ sym c.letter_walk-walk.ensures.from;
      rising = subst (λ from. IsRisingFrom from c.into_iter-keyblock-iterator.result) (sym c.letter_walk-walk.ensures.from) (subst (IsRisingFrom 0) (sym all) (rising_entries s.keys));
      found = subst (All (IsEntryOf s.keys)) (sym all) (subst (λ keys. All (IsEntryOf keys) (map.entries keys)) c.table.ensures c.walk-keyblock-items.ensures.found);
      filed = subst (All IsFiled) (sym all) kept;
      room = λ sigs. subst (All (Within c.args.sheet.now.order.most)) (sym all) (room_for_each s.keys c.args.sheet.now.order.most kept (c.requires.room sigs));
      sigs = refl;
      same = refl;
      lines = ([], ap (flat_map (key_lines s (rows_of s) c.args.sheet.now.sigs)) all, g.met.W.Sink.none c.args.text.now);
      fits = λ sigs h. subst (All Fits) all h;
    }

pub ownertrust_of-kept-requires : goal.ownertrust_of-kept-requires
ownertrust_of-kept-requires g c =
    let step = c.in-Some.ensures.steps in
    let first = (subst (IsRisingFrom c.loop-keyblock.walk.from) step c.loop-keyblock.invariant.rising).0 in
    let own = own_id c.key.result.fpr.now c.in-Some.keyblock c.next.new.self c.loop-keyblock.keyblock-iterator c.key.ensures.fpr step c.loop-keyblock.invariant.filed in
    let beside = c.loop-keyblock.invariant.beside in
    record { rising = omega (arith, first, own, beside) }

pub letters-letters-requires : goal.letters-letters-requires
letters-letters-requires g c =
    let first = (subst (IsRisingFrom c.loop-keyblock.walk.from) c.in-Some.ensures.steps c.loop-keyblock.invariant.rising).0 in
    let id = c.id.ensures in
    record { rising = omega (arith, first, id) }

pub push_keyblock-requires : goal.push_keyblock-requires
push_keyblock-requires g c =
    let now = c.loop-keyblock.walk.state in
    let same = c.loop-keyblock.invariant.state in
    let key = c.in-Some.keyblock in
    let there = All-head (IsEntryOf now.keys) key c.next.new.self (subst (All (IsEntryOf now.keys)) c.in-Some.ensures.steps (subst (λ (s : State). All (IsEntryOf s.keys) c.loop-keyblock.keyblock-iterator) (sym same) c.loop-keyblock.invariant.found)) in
    let state = c.letters-letters.ensures.state ∙ same in
    record {
      told = told_of c.letters-letters.result now c.id.result key c.id.ensures there c.letters-letters.ensures.told;
      kept = c.ownertrust_of-kept.ensures.kept ∙ (λ i. ownertrust_of (c.loop-keyblock.invariant.trusts i) (c.key.ensures.fpr i)) ∙ ap (λ (t : State). ownertrust_of t.trusts key.1.fpr) (sym state);
      room = λ sigs. All-head (Within c.loop-keyblock.sheet.order.most) key c.next.new.self (subst (All (Within c.loop-keyblock.sheet.order.most)) c.in-Some.ensures.steps (c.loop-keyblock.invariant.room (sym c.loop-keyblock.invariant.sigs ∙ sigs)));
    }

pub loop-keyblock-preserved : goal.loop-keyblock-preserved
loop-keyblock-preserved g c =
    let s = c.args.engine.now in
    let key = c.in-Some.keyblock in
    let rest = c.next.new.self in
    let left = c.loop-keyblock.keyblock-iterator in
    let step = c.in-Some.ensures.steps in
    let f = key_lines s (rows_of s) c.args.sheet.now.sigs in
    let so_far = c.loop-keyblock.invariant.lines in
    let kept = c.loop-keyblock.invariant.sigs in
    let told = subst (λ (t : State). g.W.Sink.adds c.loop-keyblock.text (key_lines t (rows_of t) c.args.sheet.now.sigs key) c.push_keyblock.new.text) (c.letters-letters.ensures.state ∙ c.loop-keyblock.invariant.state)
    (subst (λ (sigs : Bool). g.W.Sink.adds c.loop-keyblock.text (key_lines c.letters-letters.result.state (rows_of c.letters-letters.result.state) sigs key) c.push_keyblock.new.text) kept c.in_ok-push_keyblock.ensures.lines) in
    record {
      state = c.letters-letters.ensures.kept ∙ c.loop-keyblock.invariant.state;
      trusts = c.ownertrust_of-kept.ensures.trusts ∙ c.loop-keyblock.invariant.trusts;
      beside = c.ownertrust_of-kept.ensures.from ∙ own_id c.key.result.fpr.now key rest left c.key.ensures.fpr step c.loop-keyblock.invariant.filed ∙ sym (c.letters-letters.ensures.from ∙ c.id.ensures);
      rising = subst (λ from. IsRisingFrom from rest) (sym (c.letters-letters.ensures.from ∙ c.id.ensures)) (subst (IsRisingFrom c.loop-keyblock.walk.from) step c.loop-keyblock.invariant.rising).1;
      found = All-tail (IsEntryOf s.keys) key rest (subst (All (IsEntryOf s.keys)) step c.loop-keyblock.invariant.found);
      filed = All-tail IsFiled key rest (subst (All IsFiled) step c.loop-keyblock.invariant.filed);
      room = λ sigs. subst (λ n. All (Within n) rest) (sym c.in_ok-push_keyblock.ensures.most)
          (All-tail (Within c.loop-keyblock.sheet.order.most) key rest (subst (All (Within c.loop-keyblock.sheet.order.most)) step (c.loop-keyblock.invariant.room sigs)));
      sigs = c.in_ok-push_keyblock.ensures.sigs ∙ kept;
      same = c.push_keyblock.ensures.same ∙ c.loop-keyblock.invariant.same;
      lines = (so_far.0 ++ f key, one_of_left f so_far.0 _ key rest left step so_far.1, g.met.W.Sink.both c.args.text.now c.loop-keyblock.text c.push_keyblock.new.text so_far.0 (f key) so_far.2 told);
      fits = λ sigs h. c.loop-keyblock.invariant.fits sigs (subst (All Fits) (sym step) (All-cons Fits key rest (c.in_ok-push_keyblock.ensures.fits (kept ∙ sigs)) h));
    }

pub returns-clause-lines : goal.returns-clause-lines
returns-clause-lines g c =
    let s = c.args.engine.now in
    let so_far = c.loop-keyblock.invariant.lines in
    let all = none_of_left (key_lines s (rows_of s) c.args.sheet.now.sigs) so_far.0 _ c.loop-keyblock.keyblock-iterator c.in-None.ensures.steps.0 so_far.1 in
    subst (λ (l : List ℕ). g.W.Sink.adds c.args.text.now l c.loop-keyblock.text) all so_far.2

pub returns-clause-fits : goal.returns-clause-fits
returns-clause-fits g c = λ sigs.
    c.loop-keyblock.invariant.fits sigs (subst (All Fits) (sym c.in-None.ensures.steps.0) (All-nil Fits))
