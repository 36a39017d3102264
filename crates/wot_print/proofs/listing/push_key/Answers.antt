use Rattle.std.proofs.Common.{◌≡◌, ℕ, List, append-nil, All, Some, OnOk, option_map, option_to_list, sym, ap, subst, ◌∙◌}
use Rattle.std.specs.FinMap as map
use Rattle.std.specs.List.{flat_map}
use Rattle.wot_types.specs.declared.key.Key.{Key}
use Rattle.wot_types.specs.State.{State}
use Rattle.wot_types.specs.Accepted.{IsFiled}
use Rattle.wot_types.specs.Levels.{rows_of}
use Rattle.wot_types.specs.Ownertrust.{ownertrust_of}
use Rattle.wot_types.specs.Printing.{key_lines, listed_keyblocks}
use Rattle.wot_levels.proofs.HeadLemmas.{found_key}
use Rattle.wot_live.proofs.KeyWalks.{told_of}
use Rattle.wot_print.proofs.Room.{room_for_key}
use Rattle.wot_print.proofs.Walking.{found_id}
use Rattle.wot_print.proofs.listing.push_key.Goals as goal

pub push_keyblock-requires : goal.push_keyblock-requires
push_keyblock-requires g c =
    let s = c.args.engine.now in
    let id = c.args.id in
    let at : option_map (λ (key : Key). (id, key)) (map.get s.keys id) ≡ Some c.in-Some.keyblock =
    sym (ap (λ keys. option_map (λ (key : Key). (id, key)) (map.get keys id)) c.table-2.ensures) ∙ sym c.in-Some.ensures in
    let same = found_id id (map.get s.keys id) c.in-Some.keyblock at in
    let there = ap (map.get s.keys) same ∙ found_key id (map.get s.keys id) c.in-Some.keyblock at in
    let state = c.letters-letters.ensures.state in
    record {
      told = told_of c.letters-letters.result s id c.in-Some.keyblock (sym same) there c.letters-letters.ensures.told;
      kept = c.ownertrust_of-kept.ensures ∙ (λ i. ownertrust_of (c.trusts.ensures i) (c.key.ensures.fpr i)) ∙ ap (λ (t : State). ownertrust_of t.trusts c.in-Some.keyblock.1.fpr) (sym state);
      room = λ sigs. room_for_key s.keys c.in-Some.keyblock.0 c.args.sheet.now.order.most c.in-Some.keyblock.1 (subst (λ keys. All IsFiled (map.entries keys)) c.table.ensures c.totals-totals.ensures.kept) (c.requires.room sigs) there;
    }

pub returns-in-Some-clause-adds : goal.returns-in-Some-clause-adds
returns-in-Some-clause-adds g c =
    let s = c.args.engine.now in
    let id = c.args.id in
    let f = key_lines s (rows_of s) c.args.sheet.now.sigs in
    let key = c.in-Some.keyblock in
    let at : option_map (λ (key : Key). (id, key)) (map.get s.keys id) ≡ Some key =
    sym (ap (λ keys. option_map (λ (key : Key). (id, key)) (map.get keys id)) c.table-2.ensures) ∙ sym c.in-Some.ensures in
    let listed : f key ≡ flat_map f (listed_keyblocks s (Some id)) = sym (append-nil (f key)) ∙ sym (ap (λ o. flat_map f (option_to_list o)) at) in
    let lines = subst (λ (t : State). OnOk c.push_keyblock.result (g.W.Sink.adds c.args.text.now (key_lines t (rows_of t) c.args.sheet.now.sigs key) c.push_keyblock.new.text)) c.letters-letters.ensures.state c.push_keyblock.ensures.lines in
    subst (λ (l : List ℕ). OnOk c.push_keyblock.result (g.W.Sink.adds c.args.text.now l c.push_keyblock.new.text)) listed lines
