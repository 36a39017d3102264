use Rattle.std.proofs.Common.{◌≡◌, true, ◌+◌, inl, inr, drop, length, sum_by, is_some, sym, ap, ◌∙◌, arith}
use Rattle.std.proofs.lemmas.Bool.{false≢true, or_cases}
use Rattle.std.proofs.lemmas.List.{drop_all}
use Rattle.std.proofs.lemmas.List.Sums.{sum_by-cons}
use Rattle.std.proofs.lemmas.List.Sorted.{list_any-IsPermutation}
use Rattle.wot_types.specs.Selection.{Spot, spots_from}
use Rattle.wot_types.specs.Touched.{is_certified_by}
use Rattle.wot_table.proofs.Placement.{length_spots}
use Rattle.wot_levels.specs.Certifiers.{StandsAt, has_issuer_at, is_level_of, stands_at}
use Rattle.wot_levels.proofs.CertifierLemmas.{has_cert_on, issuer_in, one_more}
use Rattle.wot_levels.proofs.SpotLemmas.{at_place, spot_certs}
use Rattle.wot_levels.proofs.certifiers.levels_in.Goals as goal

pub loop-user-init : goal.loop-user-init
loop-user-init g c = record {
  there = λ y its. inr its;
  only = λ n its. absurd (false≢true (sym (ap (λ levels. is_level_of levels n) c.new-levels.ensures.items) ∙ its));
  ticks = let all = spot_certs 0 c.args.keyblock.now.1.users in omega (arith, all);
}

pub certs_in-certs-requires : goal.certs_in-certs-requires
certs_in-certs-requires g c =
    let spots = spots_from 0 c.args.keyblock.now.1.users in
    let many = length_spots 0 c.args.keyblock.now.1.users in
    let at = at_place spots c.loop-user.user (omega (arith, c.loop-user-test.true, many, c.requires.users)) in
    record { there = ap is_some at.1 }

pub loop-user-preserved : goal.loop-user-preserved
loop-user-preserved g c =
    let k = c.args.keyblock.now.1 in
    let i = c.loop-user.user in
    let spots = spots_from 0 k.users in
    let many = length_spots 0 k.users in
    let at = at_place spots i (omega (arith, c.loop-user-test.true, many, c.requires.users)) in
    record {
      there = λ y its. one_more c.args.rows.now c.loop-user.levels.items c.in_ok-levels.levels.items 0 k.users i at.0 c.certs_in-certs.result.now at.1 (c.certs_in-certs.ensures.moved at.0 at.1)
          c.in_ok-levels.ensures.kept c.in_ok-levels.ensures.there y (c.loop-user.invariant.there y its);
      only = λ n its.
          let at_level = stands_at c.args.rows.now n in
          elim (or_cases (is_level_of c.loop-user.levels.items n) (has_issuer_at c.certs_in-certs.result.now c.args.rows.now n) (c.in_ok-levels.ensures.only n its)) as (λ _. is_certified_by at_level k ≡ true) [
            | inl before ↦ c.loop-user.invariant.only n before
            | inr here ↦ issuer_in at_level 0 k.users i at.0 at.1 (list_any-IsPermutation (λ p. at_level p.cert.issuer) at.0.certs c.certs_in-certs.result.now (c.certs_in-certs.ensures.moved at.0 at.1) ∙ here)
          ];
      ticks =
          let one = ap (sum_by (λ (s : Spot). length s.certs)) at.2 ∙ sum_by-cons (λ (s : Spot). length s.certs) at.0 (drop (i + 1) spots) in
          let step = c.certs_in-certs.ensures.ticks at.0 at.1 in
          let sofar = c.loop-user.invariant.ticks in
          omega (arith, one, step, sofar);
    }

pub returns-in_err-levels-clause-ticks : goal.returns-in_err-levels-clause-ticks
returns-in_err-levels-clause-ticks g c =
    let k = c.args.keyblock.now.1 in
    let i = c.loop-user.user in
    let spots = spots_from 0 k.users in
    let many = length_spots 0 k.users in
    let at = at_place spots i (omega (arith, c.loop-user-test.true, many, c.requires.users)) in
    let one = ap (sum_by (λ (s : Spot). length s.certs)) at.2 ∙ sum_by-cons (λ (s : Spot). length s.certs) at.0 (drop (i + 1) spots) in
    let step = c.certs_in-certs.ensures.ticks at.0 at.1 in
    let sofar = c.loop-user.invariant.ticks in
    omega (arith, one, step, sofar)

pub returns-clause-there : goal.returns-clause-there
returns-clause-there g c = λ y its.
    let users = c.args.keyblock.now.1.users in
    let past = drop_all c.loop-user.user users (omega (arith, c.loop-user-test.false, c.requires.users)) in
    elim (c.loop-user.invariant.there y its) as (λ _. StandsAt c.args.rows.now c.loop-user.levels.items y) [
      | inl known ↦ known
      | inr left ↦ absurd (false≢true (sym (ap (λ us. has_cert_on us y) past) ∙ left))
    ]

pub returns-clause-ticks : goal.returns-clause-ticks
returns-clause-ticks g c = let sofar = c.loop-user.invariant.ticks in omega (arith, sofar)
