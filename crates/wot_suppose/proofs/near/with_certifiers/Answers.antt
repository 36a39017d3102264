use Rattle.std.proofs.Common.{is_some, IfSome, ap, subst, arith}
use Rattle.std.specs.List.Sorted.{IsPermutation}
use Rattle.wot_types.specs.Selection.{Spot, spots_from}
use Rattle.wot_table.proofs.Placement.{length_spots}
use Rattle.wot_levels.proofs.SpotLemmas.{at_place}
use Rattle.wot_suppose.proofs.NearLemmas.{certified_more, wider_still}
use Rattle.wot_suppose.proofs.near.with_certifiers.Goals as goal

pub certs-requires : goal.certs-requires
certs-requires g c =
    let users = c.args.keyblock.now.1.users in
    let many = length_spots 0 users in
    let at = at_place (spots_from 0 users) c.loop-user.user (omega (arith, c.loop-user-test.true, many, c.requires.users)) in
    record { there = ap is_some at.1 }

pub loop-user-preserved : goal.loop-user-preserved
loop-user-preserved g c =
    let users = c.args.keyblock.now.1.users in
    let i = c.loop-user.user in
    let many = length_spots 0 users in
    let at = at_place (spots_from 0 users) i (omega (arith, c.loop-user-test.true, many, c.requires.users)) in
    let certs = c.certs.result.now in
    let moved = subst (λ o. IfSome o (λ (spot : Spot). IsPermutation spot.certs certs)) at.1 c.certs.ensures.same in
    let new = c.in_ok-near in
    record {
      there = λ y its. certified_more c.loop-user.near new.near users i at.0 certs at.1 moved new.ensures.wider new.ensures.there y (c.loop-user.invariant.there y its);
      wider = wider_still c.args.near c.loop-user.near new.near c.loop-user.invariant.wider new.ensures.wider;
    }
