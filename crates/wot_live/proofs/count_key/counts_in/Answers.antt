use Rattle.std.proofs.Common.{◌+◌, ◌∷◌, [], ◌++◌, drop, length, map, sum_by, is_some, sym, ap, ◌∙◌, arith}
use Rattle.std.proofs.lemmas.List.{append-nil, append_assoc, drop_all}
use Rattle.std.proofs.lemmas.List.Sums.{sum_by-cons}
use Rattle.wot_types.specs.Selection.{Spot, spots_from}
use Rattle.wot_table.proofs.Placement.{length_spots}
use Rattle.wot_levels.proofs.SpotLemmas.{at_place, spot_certs}
use Rattle.wot_live.specs.Counts.{spot_count}
use Rattle.wot_live.proofs.count_key.counts_in.Goals as goal

pub loop-user-init : goal.loop-user-init
loop-user-init g c =
    let key = c.args.keyblock.now.1 in
    record {
      counts = ap (λ xs. xs ++ map (spot_count c.args.state.now c.args.rows.now) (spots_from 0 key.users)) c.new-counts.ensures;
      ticks = let all = spot_certs 0 key.users in omega (arith, all);
    }

pub verdict_in-requires : goal.verdict_in-requires
verdict_in-requires g c =
    let key = c.args.keyblock.now.1 in
    let spots = spots_from 0 key.users in
    let many = length_spots 0 key.users in
    let users = c.key-users.ensures.users in
    let at = at_place spots c.loop-user.user (omega (arith, c.loop-user-test.true, many, users)) in
    record { there = ap is_some at.1 }

pub loop-user-preserved : goal.loop-user-preserved
loop-user-preserved g c =
    let key = c.args.keyblock.now.1 in
    let f = spot_count c.args.state.now c.args.rows.now in
    let i = c.loop-user.user in
    let old = c.loop-user.counts in
    let spots = spots_from 0 key.users in
    let many = length_spots 0 key.users in
    let users = c.key-users.ensures.users in
    let at = at_place spots i (omega (arith, c.loop-user-test.true, many, users)) in
    record {
      counts =
          ap (λ xs. xs ++ map f (drop (i + 1) spots)) (c.in_ok-counts.ensures ∙ ap (λ y. old ++ y ∷ []) (c.verdict_in.ensures.count at.0 at.1))
          ∙ append_assoc old (f at.0 ∷ []) (map f (drop (i + 1) spots))
          ∙ ap (λ xs. old ++ map f xs) (sym at.2) ∙ c.loop-user.invariant.counts;
      ticks =
          let one = ap (sum_by (λ (s : Spot). length s.certs)) at.2 ∙ sum_by-cons (λ (s : Spot). length s.certs) at.0 (drop (i + 1) spots) in
          let step = c.verdict_in.ensures.ticks at.0 at.1 in
          let sofar = c.loop-user.invariant.ticks in
          omega (arith, one, step, sofar);
    }

pub returns-in_err-counts-clause-ticks : goal.returns-in_err-counts-clause-ticks
returns-in_err-counts-clause-ticks g c =
    let key = c.args.keyblock.now.1 in
    let i = c.loop-user.user in
    let spots = spots_from 0 key.users in
    let many = length_spots 0 key.users in
    let users = c.key-users.ensures.users in
    let at = at_place spots i (omega (arith, c.loop-user-test.true, many, users)) in
    let one = ap (sum_by (λ (s : Spot). length s.certs)) at.2 ∙ sum_by-cons (λ (s : Spot). length s.certs) at.0 (drop (i + 1) spots) in
    let step = c.verdict_in.ensures.ticks at.0 at.1 in
    let sofar = c.loop-user.invariant.ticks in
    omega (arith, one, step, sofar)

pub returns-clause-counts : goal.returns-clause-counts
returns-clause-counts g c =
    let key = c.args.keyblock.now.1 in
    let f = spot_count c.args.state.now c.args.rows.now in
    let old = c.loop-user.counts in
    let spots = spots_from 0 key.users in
    let many = length_spots 0 key.users in
    let users = c.key-users.ensures.users in
    let past = drop_all c.loop-user.user spots (omega (arith, c.loop-user-test.false, many, users)) in
    sym (append-nil old) ∙ ap (λ xs. old ++ map f xs) (sym past) ∙ c.loop-user.invariant.counts

pub returns-clause-ticks : goal.returns-clause-ticks
returns-clause-ticks g c = let sofar = c.loop-user.invariant.ticks in omega (arith, sofar)
