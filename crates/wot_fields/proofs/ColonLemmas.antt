-- The colons of a line by the bits that tell of them.
use Rattle.std.proofs.Common.{◌≡◌, ◌≢◌, ℕ, ◌+◌, ◌-◌, ◌*◌, ◌/◌, ◌%◌, ◌^◌, ◌<◌, ◌≤◌, Bool, true, false, cond, List, length, drop, get_or, bit_or, inl, inr, refl, sym, ap, ◌∙◌, subst, arith, length-drop, shr-shr, w64}
use Rattle.std.specs.Int.{bit_at}
use Rattle.std.specs.List.{position_or_len}
use Rattle.std.proofs.lemmas.Bool.{cases_lt}
use Rattle.std.proofs.lemmas.List.{get_or-drop}
use Rattle.std.proofs.lemmas.List.Sums.{position_or_len_is}
use Rattle.std.proofs.lemmas.Nat.Bits.{bit_at-zero, bit_at-lt, bit_at_set_same, bit_at_set_other}
use Rattle.wot_types.specs.Fields.{is_colon}
use Rattle.wot_fields.specs.Colons.{Marks, IsAhead}

clear_fails : (b : Bool) → cond {A = ℕ} b 1 0 ≡ 0 → b ≡ false
clear_fails true e = absurd (omega arith)
clear_fails false e = refl

set_passes : (b : Bool) → cond {A = ℕ} b 1 0 ≡ 1 → b ≡ true
set_passes true e = refl
set_passes false e = absurd (omega arith)

-- 32 bytes that were read whole, and the bits of those before `at` dropped
pub shifted : (line : List ℕ) (start bits by at : ℕ) → Marks line start bits 0 → start + by ≡ at → length line ≤ start + 32 → Marks line at (bits / 2 ^ by) 0
shifted line start bits by at h e short =
    let moved : (k : ℕ) → bit_at (bits / 2 ^ by) k ≡ bit_at bits (by + k) = λ k. ap (λ x. x % 2) (shr-shr bits by k) in
    let place : (k : ℕ) → start + (by + k) ≡ at + k = λ k. omega (arith, e) in
    record {
      each = λ k less low within. moved k ∙ h.each (by + k) (omega (arith, e)) (omega arith) (omega (arith, e)) ∙ ap (λ j. cond (is_colon (get_or line j 0)) 1 0) (place k);
      only = λ k set. let old = h.only (by + k) (sym (moved k) ∙ set) in (omega (arith, old.0), omega arith, omega (arith, old.2, e));
    }

-- the bits of a short line, so far
pub record Seen (line : List ℕ) (bits at : ℕ) : Type 0 where
  pub each : (k : ℕ) → k < at → bit_at bits k ≡ cond (is_colon (get_or line k 0)) 1 0
  pub only : (k : ℕ) → bit_at bits k ≡ 1 → k < at

pub nothing_seen : (line : List ℕ) → Seen line 0 0
nothing_seen line = record { each = λ k less. absurd (omega arith); only = λ k set. absurd (omega (arith, set, bit_at-zero k)) }

pub colon_seen : (line : List ℕ) (bits at : ℕ) → Seen line bits at → at < 64 → is_colon (get_or line at 0) ≡ true → Seen line (bit_or bits (1 * 2 ^ at % 2 ^ 64)) (at + 1)
colon_seen line bits at h small colon =
    let here : bit_at (bit_or bits (1 * 2 ^ at % 2 ^ 64)) at ≡ cond (is_colon (get_or line at 0)) 1 0 = bit_at_set_same w64 bits at small ∙ ap (λ b. cond {A = ℕ} b 1 0) (sym colon) in
    record {
      each = λ k less. elim (cases_lt k at) [
        | inl before ↦ bit_at_set_other w64 bits at small k (λ e. omega (arith, e)) ∙ h.each k before
        | inr after ↦ let e : at ≡ k = omega arith in subst (λ n. bit_at (bit_or bits (1 * 2 ^ at % 2 ^ 64)) n ≡ cond (is_colon (get_or line n 0)) 1 0) e here
      ];
      only = λ k set. elim (cases_lt at k) [
        | inl above ↦ let old = h.only k (sym (bit_at_set_other w64 bits at small k (λ e. omega (arith, e))) ∙ set) in omega arith
        | inr below ↦ omega arith
      ];
    }

pub other_seen : (line : List ℕ) (bits at : ℕ) → Seen line bits at → is_colon (get_or line at 0) ≡ false → Seen line bits (at + 1)
other_seen line bits at h other = record {
  each = λ k less. elim (cases_lt k at) [
    | inl before ↦ h.each k before
    | inr after ↦
        let e : at ≡ k = omega arith in
        let clear : bit_at bits at ≡ 0 = elim (cases_lt (bit_at bits at) 1) [
          | inl none ↦ omega arith
          | inr some ↦ let one : bit_at bits at ≡ 1 = omega (arith, bit_at-lt bits at) in let below = h.only at one in absurd (omega arith)
        ] in
        subst (λ n. bit_at bits n ≡ cond (is_colon (get_or line n 0)) 1 0) e (clear ∙ ap (λ b. cond {A = ℕ} b 1 0) (sym other))
  ];
  only = λ k set. let old = h.only k set in omega arith;
}

pub all_seen : (line : List ℕ) (bits : ℕ) → length line < 32 → Seen line bits (length line) → Marks line 0 bits 0
all_seen line bits short h =
    let place : (k : ℕ) → 0 + k ≡ k = λ k. omega arith in
    record {
      each = λ k less low within. h.each k (omega arith) ∙ ap (λ j. cond (is_colon (get_or line j 0)) 1 0) (sym (place k));
      only = λ k set. let below = h.only k set in (omega arith, omega arith, omega arith);
    }

module _ (line : List ℕ) (block bits from : ℕ) (h : IsAhead line block bits from) where
  -- a place whose bit is clear
  no_colon : (j : ℕ) → from ≤ j → j < length line → j < block + 32 → (block ≤ j → bit_at bits (j - block) ≡ 0) → is_colon (get_or line j 0) ≡ false
  no_colon j low within near clear = elim (cases_lt j block) [
    | inl before ↦ h.passed j low before
    | inr after ↦
        let same : block + (j - block) ≡ j = omega arith in
        let told = h.marks.each (j - block) (omega arith) (omega (arith, same)) (omega (arith, same)) in
        subst (λ i. is_colon (get_or line i 0) ≡ false) same (clear_fails _ (sym told ∙ clear after))
  ]

  before : (end : ℕ) → end ≤ length line → end ≤ block + 32 → ((i : ℕ) → block + i < end → bit_at bits i ≡ 0) → (k : ℕ) → k < end - from → is_colon (get_or (drop from line) k 0) ≡ false
  before end within near clear k less =
      subst (λ b. is_colon b ≡ false) (sym (get_or-drop from line k 0))
      (no_colon (from + k) (omega arith) (omega arith) (omega arith) (λ after. clear (from + k - block) (omega arith)))

  -- no bit is set at the line's end
  pub ended : bits ≡ 0 → length line ≤ block + 32 → from ≤ length line → length line ≡ from + position_or_len is_colon (drop from line)
  ended none last start =
      let sized = length-drop from line in
      let at = position_or_len_is is_colon (drop from line) (length line - from) 0 (omega (arith, sized))
      (before (length line) (omega arith) last (λ i less. ap (λ n. bit_at n i) none ∙ bit_at-zero i)) (λ within. absurd (omega (arith, sized))) in
      omega (arith, at)

  -- the lowest bit that is set
  module _ (k : ℕ) (set : bit_at bits k ≡ 1) (below : (i : ℕ) → i < k → bit_at bits i ≡ 0) where
    pub found : block + k ≡ from + position_or_len is_colon (drop from line)
    found =
        let here = h.marks.only k set in
        let sized = length-drop from line in
        let same : from + (block + k - from) ≡ block + k = omega (arith, here.1) in
        let told = h.marks.each k here.0 here.1 here.2 in
        let colon : is_colon (get_or line (block + k) 0) ≡ true = set_passes _ (sym told ∙ set) in
        let at = position_or_len_is is_colon (drop from line) (block + k - from) 0 (omega (arith, sized, here.2))
        (before (block + k) (omega (arith, here.2)) (omega (arith, here.0)) (λ i less. below i (omega arith)))
        (λ within. ap is_colon (get_or-drop from line (block + k - from) 0 ∙ ap (λ j. get_or line j 0) same) ∙ colon) in
        omega (arith, at, here.1)

    -- is passed by clearing it
    pub cleared_ahead : (rest : ℕ) → bit_at rest k ≡ 0 → ((i : ℕ) → i < 64 → i ≢ k → bit_at rest i ≡ bit_at bits i) → ((i : ℕ) → bit_at rest i ≡ 1 → bit_at bits i ≡ 1)
        → IsAhead line block rest (block + k + 1)
    cleared_ahead rest clear kept no_more =
        let here = h.marks.only k set in
        record {
          marks = record {
            each = λ i less low within. kept i (omega arith) (λ e. omega (arith, e)) ∙ h.marks.each i less (omega (arith, here.1)) within;
            only = λ i one.
                let old = h.marks.only i (no_more i one) in
                let above : k < i = elim (cases_lt i k) [
                  | inl less ↦ absurd (omega (arith, below i less, no_more i one))
                  | inr most ↦ elim (cases_lt k i) [
                    | inl more ↦ more
                    | inr least ↦ let e : k ≡ i = omega arith in absurd (omega (arith, subst (λ n. bit_at rest n ≡ 0) e clear, one))
                  ]
                ] in
                (old.0, omega arith, old.2);
          };
          near = omega (arith, here.0);
          passed = λ j low less. absurd (omega arith);
        }

  -- the next 32 bytes
  pub later : bits ≡ 0 → block + 32 < length line → (more : ℕ) → Marks line (block + 32) more 0 → IsAhead line (block + 32) more from
  later none room more m = record {
    marks = record {
      each = λ k less low within. m.each k less (omega arith) within;
      only = λ k one. let old = m.only k one in (old.0, omega (arith, h.near), old.2);
    };
    near = omega (arith, h.near);
    passed = λ j low less. no_colon j low (omega arith) less (λ after. ap (λ n. bit_at n (j - block)) none ∙ bit_at-zero (j - block));
  }

-- before the first colon
pub at_start : (line : List ℕ) (bits : ℕ) → Marks line 0 bits 0 → IsAhead line 0 bits 0
at_start line bits m = record { marks = m; near = omega arith; passed = λ j low less. absurd (omega arith) }
