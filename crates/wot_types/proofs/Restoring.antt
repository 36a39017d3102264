-- What is kept of a fingerprint, set again after something else was.
use Rattle.std.proofs.Common.{◌≡◌, ℕ, Bool, true, false, cond, if◌then◌else◌, List, Option, Some, None, IfSome, refl, sym, ap, ◌∙◌}
use Rattle.std.specs.Prelude.{unwrap_or}
use Rattle.std.specs.FinMap as map
use Rattle.std.specs.FinMap.{get-insert, get-remove, same_map}
use Rattle.std.specs.Ordering.{eq_by_cmp}
use Rattle.wot_types.specs.declared.ownertrust.Ownertrust.{Ownertrust}
use Rattle.wot_types.specs.Fingerprint.{fpr_cmp}
use Rattle.wot_types.specs.Ownertrust.{AreKept, OwnertrustMap, is_unset, ownertrust_of, unset, with_ownertrust}
use Rattle.wot_types.proofs.FinMaps.{IfSome-get}
use Rattle.wot_types.proofs.Fingerprints.{fpr_cmp_total, fpr_cmp-IsAntisymmetric}
use Rattle.wot_types.proofs.Removals.{equal}

-- what is found after something was set
get_set : (trusts : OwnertrustMap) (fpr : List ℕ) (kept : Ownertrust) (q : List ℕ)
    → map.get (with_ownertrust trusts fpr kept) q ≡ cond (eq_by_cmp fpr_cmp q fpr) (if is_unset kept then None else Some kept) (map.get trusts q)
get_set trusts fpr kept q = on (is_unset kept)
  where
    on : (b : Bool) → map.get (if b then map.remove trusts fpr else map.insert trusts fpr kept) q ≡ cond (eq_by_cmp fpr_cmp q fpr) (if b then None else Some kept) (map.get trusts q)
    on true = get-remove fpr_cmp_total trusts fpr q
    on false = get-insert fpr_cmp_total trusts fpr kept q

-- what is kept is found again
found_again : (found : Option Ownertrust) → IfSome found (λ kept. is_unset kept ≡ false)
    → ◌≡◌ {A = Option Ownertrust} (if is_unset (unwrap_or found unset) then None else Some (unwrap_or found unset)) found
found_again None set = refl
found_again (Some kept) set = ap (λ b. if b then None else Some kept) set

pub restored : (trusts : OwnertrustMap) (fpr : List ℕ) (other : Ownertrust) → AreKept trusts → with_ownertrust (with_ownertrust trusts fpr other) fpr (ownertrust_of trusts fpr) ≡ trusts
restored trusts fpr other each = same_map fpr_cmp_total fpr_cmp-IsAntisymmetric (with_ownertrust between fpr former) trusts (λ q. get_set between fpr former q ∙ by q (eq_by_cmp fpr_cmp q fpr) refl)
  where
    former : Ownertrust
    former = ownertrust_of trusts fpr

    between : OwnertrustMap
    between = with_ownertrust trusts fpr other

    by : (q : List ℕ) (b : Bool) → eq_by_cmp fpr_cmp q fpr ≡ b → cond b (if is_unset former then None else Some former) (map.get between q) ≡ map.get trusts q
    by q true same =
        found_again (map.get trusts fpr) (IfSome-get fpr_cmp_total fpr_cmp-IsAntisymmetric (λ entry. is_unset entry.1 ≡ false) trusts fpr each)
        ∙ ap (map.get trusts) (sym (fpr_cmp-IsAntisymmetric q fpr (equal (fpr_cmp q fpr) same)))
    by q false differs = get_set trusts fpr other q ∙ ap (λ b. cond b (if is_unset other then None else Some other) (map.get trusts q)) differs
