-- The certification that decides among those of one issuer: the last that is not disregarded.
use Rattle.std.proofs.Common.{◌≡◌, ◌==◌, ◌&&◌, not, ℕ, Bool, true, false, cond, List, [], ◌∷◌, ◌++◌, filter, Option, Some, option_and_then, refl, ap, ◌∙◌, arith}
use Rattle.std.specs.List.{AllByRecursion}
use Rattle.std.proofs.lemmas.Bool.Decides.{nat_tests}
use Rattle.std.proofs.lemmas.List.{append-nil}
use Rattle.std.proofs.lemmas.List.Elements.{filter-append}
use Rattle.wot_types.specs.declared.placed.Placed.{Placed}
use Rattle.wot_types.specs.Selection.{counts_for, in_force, is_disregarded, is_earlier, later_cert, latest_cert, usable}
use Rattle.wot_select.specs.Run.{IsBy}
use Rattle.wot_types.specs.Arrangement.{IsRising, is_before}

-- what stands before it is before it
abbrev AllBefore : Placed → List Placed → Type 0
AllBefore q ps = AllByRecursion (λ p. is_before p q ≡ true) ps

last_of : (P : Placed → Type 0) (ps : List Placed) (q : Placed) → AllByRecursion P (ps ++ q ∷ []) → P q
last_of P [] q h = h.0
last_of P (p ∷ ps) q h = last_of P ps q h.1

before_last : (ps : List Placed) (q : Placed) → IsRising (ps ++ q ∷ []) → AllBefore q ps
before_last [] q h = tt
before_last (p ∷ ps) q h = (last_of (λ x. is_before p x ≡ true) ps q h.0, before_last ps q h.1)

pub all_front : (P : Placed → Type 0) (ps qs : List Placed) → AllByRecursion P (ps ++ qs) → AllByRecursion P ps
all_front P [] qs h = tt
all_front P (p ∷ ps) qs h = (h.0, all_front P ps qs h.1)

all_back : (P : Placed → Type 0) (ps qs : List Placed) → AllByRecursion P (ps ++ qs) → AllByRecursion P qs
all_back P [] qs h = h
all_back P (p ∷ ps) qs h = all_back P ps qs h.1

pub rising_front : (ps qs : List Placed) → IsRising (ps ++ qs) → IsRising ps
rising_front [] qs h = tt
rising_front (p ∷ ps) qs h = (all_front (λ q. is_before p q ≡ true) ps qs h.0, rising_front ps qs h.1)

pub rising_back : (ps qs : List Placed) → IsRising (ps ++ qs) → IsRising qs
rising_back [] qs h = h
rising_back (p ∷ ps) qs h = rising_back ps qs h.1

-- the last one of a run decides, unless it is disregarded
latest_last : (level : ℕ) (fpr : Option (List ℕ)) (issuer : ℕ) (ps : List Placed) (q : Placed) → AllBefore q ps → IsBy issuer ps → q.cert.issuer ≡ issuer → is_disregarded level fpr q.cert ≡ false
    → latest_cert (filter (counts_for level fpr issuer) (ps ++ q ∷ [])) ≡ Some q
latest_last level fpr issuer [] q h by its kept = ap (λ b. latest_cert (cond b (q ∷ []) [])) (counts q its kept)
  where
    counts : (p : Placed) → p.cert.issuer ≡ issuer → is_disregarded level fpr p.cert ≡ false → counts_for level fpr issuer p ≡ true
    counts p e k =
        let itself : (p.cert.issuer == issuer) ≡ true = grind (arith, nat_tests) in
        (λ i. itself i && not (k i))
latest_last level fpr issuer (p ∷ ps) q h by its kept =
    let rest = filter (counts_for level fpr issuer) (ps ++ q ∷ []) in
    let behind = latest_last level fpr issuer ps q h.1 by.1 its kept in
    elim (counts_for level fpr issuer p) as (λ b. latest_cert (cond b (p ∷ rest) rest) ≡ Some q) [
      | true ↦ ap (λ o. Some (later_cert p o)) behind ∙ ap (λ b. Some (cond b q p)) (earlier p q h.0 by.0 its)
      | false ↦ behind
    ]
  where
    earlier : (p q : Placed) → is_before p q ≡ true → p.cert.issuer ≡ issuer → q.cert.issuer ≡ issuer → is_earlier p q ≡ true
    earlier p q h e f = grind (arith, nat_tests)

-- what is disregarded at the end of a run changes nothing
pub disregarded_last : (now level : ℕ) (fpr : Option (List ℕ)) (issuer : ℕ) (ps : List Placed) (q : Placed) → is_disregarded level fpr q.cert ≡ true
    → usable now level fpr issuer (ps ++ q ∷ []) ≡ usable now level fpr issuer ps
disregarded_last now level fpr issuer ps q h =
    ap (λ xs. option_and_then (in_force now) (latest_cert xs))
    (filter-append (counts_for level fpr issuer) ps (q ∷ []) ∙ ap (λ b. filter (counts_for level fpr issuer) ps ++ cond b (q ∷ []) []) (left_out (q.cert.issuer == issuer) (is_disregarded level fpr q.cert) h) ∙ append-nil (filter (counts_for level fpr issuer) ps))
  where
    left_out : (a b : Bool) → b ≡ true → (a && not b) ≡ false
    left_out true b h = ap not h
    left_out false b h = refl

pub usable_last : (now level : ℕ) (fpr : Option (List ℕ)) (issuer : ℕ) (ps : List Placed) (q : Placed) → IsRising (ps ++ q ∷ []) → IsBy issuer (ps ++ q ∷ []) → is_disregarded level fpr q.cert ≡ false
    → usable now level fpr issuer (ps ++ q ∷ []) ≡ in_force now q
usable_last now level fpr issuer ps q rising by kept =
    ap (option_and_then (in_force now))
    (latest_last level fpr issuer ps q (before_last ps q rising) (all_front (λ p. p.cert.issuer ≡ issuer) ps (q ∷ []) by) (last_of (λ p. p.cert.issuer ≡ issuer) ps q by) kept)
