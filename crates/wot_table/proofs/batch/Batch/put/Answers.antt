use Rattle.std.proofs.Common.{◌<◌, ◌^◌, reverse, sym, ap, ap₂, subst, ◌∙◌, arith}
use Rattle.std.specs.FinMap as map
use Rattle.std.proofs.lemmas.List.{length-reverse}
use Rattle.wot_types.specs.Keyring.{id_of}
use Rattle.wot_table.specs.Weights.{HasRoom, IsSummed, plus, sums_of, weight_of}
use Rattle.wot_table.proofs.Batches.{added_last, len_at_most, nothing_less}
use Rattle.wot_table.proofs.Summing.{room, summed_with_key}
use Rattle.wot_table.proofs.batch.Batch.put.Goals as goal

pub plus-sums-requires : goal.plus-sums-requires
plus-sums-requires c =
    let es = c.self.inside.keys.items in
    let summed = subst (λ m. IsSummed m c.self.inside.sums) c.self.view_is c.self.invariant in
    let few : map.len c.args.self < 2 ^ 64 = omega (arith, ap map.len (sym c.self.view_is), len_at_most (reverse es), length-reverse es, c.len-fewer_than_2_63.ensures) in
    let w = c.weight.ensures ∙ ap weight_of c.in_ok-held.ensures in
    subst (HasRoom c.self.inside.sums) (sym w) (subst (λ s. HasRoom s (weight_of c.args.key)) (sym summed.counted) (room c.args.self c.args.key summed.kept c.requires.well_formed few))

pub returns : goal.returns
returns c =
    ap map.from_entries (added_last _ _ _ c.in_ok-push.ensures.items)
    ∙ ap (λ m. map.insert m c.key_id-id.result c.in_ok-held.held) c.self.view_is
    ∙ ap₂ (λ id k. map.insert c.args.self id k) c.key_id-id.ensures c.in_ok-held.ensures

pub invariant_of-result : goal.invariant_of-result
invariant_of-result c =
    let summed = subst (λ m. IsSummed m c.self.inside.sums) c.self.view_is c.self.invariant in
    let w = c.weight.ensures ∙ ap weight_of c.in_ok-held.ensures in
    let more = c.plus-sums.ensures ∙ ap₂ plus summed.counted w in
    let keys =
    ap map.from_entries (added_last _ _ _ c.in_ok-push.ensures.items)
    ∙ ap (λ m. map.insert m c.key_id-id.result c.in_ok-held.held) c.self.view_is
    ∙ ap₂ (λ id k. map.insert c.args.self id k) c.key_id-id.ensures c.in_ok-held.ensures in
    subst (λ s. IsSummed (map.from_entries (reverse c.push.new.self.items)) s) (sym more)
    (subst (λ m. IsSummed m (plus (sums_of c.args.self) (weight_of c.args.key))) (sym keys)
    (subst (IsSummed _) (nothing_less _ (map.get c.args.self (id_of c.args.key)) c.requires.absent)
    (summed_with_key c.args.self c.args.key summed.kept c.requires.well_formed)))
