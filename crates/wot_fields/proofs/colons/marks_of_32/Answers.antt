use Rattle.std.proofs.Common.{ℕ, ◌^◌, ◌<◌, eqb, cond, false, map, inl, inr, ap, ◌∙◌, subst, arith, w8}
use Rattle.std.specs.Int.{bit_at}
use Rattle.std.specs.Simd.Lanes.{mask_l}
use Rattle.std.proofs.lemmas.Bool.{cases_lt}
use Rattle.std.proofs.lemmas.Simd.{bitmask_splat, bit_mask_l, mask_l-lt, length-chunk, get_or-chunk}
use Rattle.std.proofs.lemmas.List.{get_or-map, length-map}
use Rattle.std.proofs.lemmas.Nat.Bits.{bit_at_above}
use lib.Lanes.{chunk}
use Rattle.wot_fields.proofs.colons.marks_of_32.Goals as goal

pub returns-clause-each : goal.returns-clause-each
returns-clause-each c k less =
    let p = λ (x : ℕ). eqb x 58 in
    let v = chunk c.args.at 32 c.args.line.now in
    let long = length-chunk c.args.at 32 c.args.line.now c.requires in
    ap (λ n. bit_at n k) (bitmask_splat w8 eqb v 32 58 long (omega arith)) ∙ bit_mask_l (map p v) k
    ∙ ap (λ b. cond b 1 0) (get_or-map p v k 0 false (omega (arith, long)) ∙ ap p (get_or-chunk c.args.at 32 c.args.line.now k 0 less))

pub returns-clause-only : goal.returns-clause-only
returns-clause-only c k set =
    let p = λ (x : ℕ). eqb x 58 in
    let v = chunk c.args.at 32 c.args.line.now in
    let long = length-chunk c.args.at 32 c.args.line.now c.requires in
    let mask = ap (λ n. bit_at n k) (bitmask_splat w8 eqb v 32 58 long (omega arith)) in
    let small : mask_l (map p v) < 2 ^ 32 = subst (λ n. mask_l (map p v) < 2 ^ n) (length-map v p ∙ long) (mask_l-lt (map p v)) in
    elim (cases_lt k 32) [
      | inl less ↦ less
      | inr above ↦ absurd (omega (arith, set, mask, bit_at_above (mask_l (map p v)) 32 k small above))
    ]
