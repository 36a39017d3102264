use Rattle.std.proofs.Common.{◌≡◌, ◌-◌, ◌<◌, map, sym, subst, ◌∙◌, arith}
use Rattle.std.specs.List.{slice_index}
use Rattle.std.proofs.lemmas.List.{get_or-map}
use Rattle.wot_types.specs.Keyring.{id_of}
use Rattle.wot_table.proofs.Batches.{one_higher}
use Rattle.wot_table.proofs.batch.are_rising.Goals as goal

pub loop-i-preserved : goal.loop-i-preserved
loop-i-preserved c =
    let keys = c.args.keys.now in
    let i = c.loop-i.i in
    let one = c.index-keys-i.result in
    let before = c.index-keys-i-in-loop-i.result in
    let ids = map id_of keys in
    let at_one : c.id.inside.0 ≡ slice_index ids i = c.id.view_is ∙ c.key_id.ensures ∙ sym (get_or-map id_of keys i one 0 c.loop-i-test.true) in
    let at_before : c.before-in-loop-i.inside.0 ≡ slice_index ids (i - 1) =
    c.before-in-loop-i.view_is ∙ c.key_id-in-loop-i.ensures ∙ sym (get_or-map id_of keys (i - 1) before 0 (omega (arith, c.loop-i-test.true))) in
    let last : slice_index ids (i - 1) < slice_index ids i = subst (λ n. n < slice_index ids i) at_before (subst (λ n. c.before-in-loop-i.inside.0 < n) at_one c.if-id-before.false) in
    record {
      start = omega (arith, c.loop-i.invariant.start);
      rising = one_higher ids i c.loop-i.invariant.start last c.loop-i.invariant.rising;
    }
