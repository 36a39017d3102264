-- Without the ownertrust of a key that has no row each letter is as it was: a row is given by the certifications, and the owner's trust only says what it is worth.
use Rattle.std.proofs.Common.{◌≡◌, nat_eq, ◌-◌, ◌≤◌, ◌==◌, ◌&&◌, ◌||◌, ℕ, zero, suc, Bool, true, false, cond, List, [], ◌∷◌, All, Some, None, option_and_then, unwrap_or, refl, sym, ap, ◌∙◌, arith}
use Rattle.std.specs.Cmp.{nat_cmp_total}
use Rattle.std.specs.Cmp.Lexicographic.{pointwise}
use Rattle.std.specs.FinMap as map
use Rattle.std.specs.FinMap.{get-insert, get-remove, nat_cmp-IsAntisymmetric, same_map}
use Rattle.std.proofs.lemmas.Bool.{true≢false}
use Rattle.wot_types.specs.declared.key.Key.{Key}
use Rattle.wot_types.specs.declared.ownertrust.Entry.{Entry}
use Rattle.wot_types.specs.declared.row.Row.{Row}
use Rattle.wot_types.specs.declared.trust.Trust.{Trust}
use Rattle.wot_types.specs.declared.trust.Trust.TheVariants.{Ultimate, Unknown}
use Rattle.wot_types.specs.Accepted.{IsFiled}
use Rattle.wot_types.specs.Candidates.{RowMap}
use Rattle.wot_types.specs.Expiry.{key_is_live}
use Rattle.wot_types.specs.Fingerprint.{key_id_of}
use Rattle.wot_types.specs.Keyring.{is_fpr_of}
use Rattle.wot_types.specs.Letters.{letter_at, letter_over}
use Rattle.wot_types.specs.Levels.{delegation, first_row, has_full_user, kept_or, new_row, row_by, rows_of, rows_upto, trust_of_owner}
use Rattle.wot_types.specs.Ownertrust.{OwnertrustMap, ownertrust_of, unset, with_ownertrust}
use Rattle.wot_types.specs.State.{State}
use Rattle.wot_types.specs.Supposing.{without_trust}
use Rattle.wot_types.specs.Trust.{is_ultimate}
use Rattle.wot_types.proofs.Fingerprints.{fpr_cmp_total, fpr_eq}
use Rattle.wot_types.proofs.LevelLemmas.{get_first, get_next, some_none, stays}
use Rattle.wot_types.proofs.Tests.{is_key}
use Rattle.wot_live.proofs.EditLemmas.{put_alike}
use Rattle.wot_live.proofs.Naming.{fpr_at}

-- the first of two tests that both pass
pub first_passes : (a b : Bool) → true ≡ (a && b) → a ≡ true
first_passes true b h = refl
first_passes false b h = absurd (true≢false h)

none_if : {X : Type 0} (b : Bool) (x y : X) → cond b (Some x) None ≡ None → cond b (Some y) None ≡ None
none_if true x y none = cc
none_if false x y none = refl

never : (b : Bool) → (b && false) ≡ false
never true = refl
never false = refl

-- ownertrust that is set to unknown is unknown
unknown_at : (trusts : OwnertrustMap) (fpr q : List ℕ) (flag : Bool) → pointwise nat_eq q fpr ≡ true → (ownertrust_of (with_ownertrust trusts fpr (record { trust = Unknown; disabled = flag })) q).trust ≡ Unknown
unknown_at trusts fpr q true same =
    ap (λ o. (unwrap_or o unset).trust) (get-insert fpr_cmp_total trusts fpr (record { trust = Unknown; disabled = true }) q ∙ ap (λ b. cond b (Some (record { trust = Unknown; disabled = true })) (map.get trusts q)) (fpr_eq q fpr ∙ same))
unknown_at trusts fpr q false same =
    ap (λ o. (unwrap_or o unset).trust) (get-remove fpr_cmp_total trusts fpr q ∙ ap (λ b. cond b None (map.get trusts q)) (fpr_eq q fpr ∙ same))

-- the owner of any other key has the trust it had
pub other_trust : (s : State) (fpr : List ℕ) (q : ℕ) (key : Key) → map.get s.keys q ≡ Some key → is_fpr_of fpr (map.get s.keys q) ≡ false → trust_of_owner s key ≡ trust_of_owner (without_trust s fpr) key
other_trust s fpr q key is other =
    let entry : Entry = record { fpr = fpr; trust = Unknown; disabled = (ownertrust_of s.trusts fpr).disabled } in
    (put_alike s [] (entry ∷ []) q (ap (λ b. b || false) other)).own key is

module _ (s : State) (fpr : List ℕ) (filed : All IsFiled (map.entries s.keys)) (rowless : map.get (rows_of s) (key_id_of fpr) ≡ None) where
  abbrev t : State
  t = without_trust s fpr

  -- no level gives a row
  none_before : (n : ℕ) → n ≤ s.options.depth - 1 → map.get (rows_upto s n) (key_id_of fpr) ≡ None
  none_before n low = elim (map.get (rows_upto s n) (key_id_of fpr)) as (λ o. map.get (rows_upto s n) (key_id_of fpr) ≡ o → o ≡ None) [
    | None ↦ λ _. refl
    | Some row ↦ λ is. absurd (some_none row (sym (stays s n (s.options.depth - 1 - n) (s.options.depth - 1) (key_id_of fpr) row (omega (arith, low)) is) ∙ rowless))
  ] refl

  no_row : (n q : ℕ) → n ≤ s.options.depth - 1 → is_fpr_of fpr (map.get s.keys q) ≡ true → map.get (rows_upto s n) q ≡ None
  no_row n q low its =
      ap (map.get (rows_upto s n)) (sym (is_key (key_id_of fpr) q (first_passes (key_id_of fpr == q) _ (sym its ∙ fpr_at s.keys fpr (key_id_of fpr) q filed refl)))) ∙ none_before n low

  first_is : (q : ℕ) (key : Key) → map.get s.keys q ≡ Some key → first_row t q key ≡ first_row s q key
  first_is q key is = elim (is_fpr_of fpr (map.get s.keys q)) as (λ b. is_fpr_of fpr (map.get s.keys q) ≡ b → first_row t q key ≡ first_row s q key) [
    | true ↦ λ its.
        ap (λ (trust : Trust). cond (key_is_live s.date key && is_ultimate trust) (Some (first q)) None) (unknown_at s.trusts fpr key.fpr (ownertrust_of s.trusts fpr).disabled (sym (ap (is_fpr_of fpr) is) ∙ its))
        ∙ ap (λ b. cond b (Some (first q)) None) (never (key_is_live s.date key))
        ∙ sym (sym (get_first s q ∙ ap (option_and_then (first_row s q)) is) ∙ no_row zero q (omega arith) its)
    | false ↦ λ other. ap (λ (trust : Trust). cond (key_is_live s.date key && is_ultimate trust) (Some (first q)) None) (sym (other_trust s fpr q key is other))
  ] refl
    where
      first : ℕ → Row
      first q = record { key = q; level = 0; trust = Ultimate; left = 0; scope = None; via = None }

  next_is : (n q : ℕ) → suc n ≤ s.options.depth - 1 → (key : Key) → map.get s.keys q ≡ Some key
      → kept_or (map.get (rows_upto s n) q) (new_row t (rows_upto s n) (suc n) q key) ≡ kept_or (map.get (rows_upto s n) q) (new_row s (rows_upto s n) (suc n) q key)
  next_is n q low key is = ap (kept_or (map.get rows q)) (elim (is_fpr_of fpr (map.get s.keys q)) as (λ b. is_fpr_of fpr (map.get s.keys q) ≡ b → new_row t rows (suc n) q key ≡ new_row s rows (suc n) q key) [
    | true ↦ λ its.
        let none : new_row s rows (suc n) q key ≡ None =
        sym (ap (λ o. kept_or o (new_row s rows (suc n) q key)) (no_row n q (omega (arith, low)) its))
        ∙ sym (get_next s n q ∙ ap (option_and_then (λ k. kept_or (map.get rows q) (new_row s rows (suc n) q k))) is) ∙ no_row (suc n) q low its in
        none_if (key_is_live s.date key && has_full_user s rows key) _ (by (trust_of_owner t key)) none ∙ sym none
    | false ↦ λ other. ap (λ (trust : Trust). cond (key_is_live s.date key && has_full_user s rows key) (Some (by trust)) None) (sym (other_trust s fpr q key is other))
  ] refl)
    where
      rows : RowMap
      rows = rows_upto s n

      by : Trust → Row
      by trust = row_by rows q (suc n) trust (delegation s rows key)

  same_rows : (n : ℕ) → n ≤ s.options.depth - 1 → rows_upto t n ≡ rows_upto s n
  same_rows zero low = same_map nat_cmp_total nat_cmp-IsAntisymmetric (rows_upto t zero) (rows_upto s zero) (λ q.
      get_first t q
      ∙ elim (map.get s.keys q) as (λ o. map.get s.keys q ≡ o → option_and_then (first_row t q) o ≡ option_and_then (first_row s q) o) [
        | None ↦ λ _. refl
        | Some key ↦ λ is. first_is q key is
      ] refl
      ∙ sym (get_first s q))
  same_rows (suc n) low = same_map nat_cmp_total nat_cmp-IsAntisymmetric (rows_upto t (suc n)) (rows_upto s (suc n)) (λ q.
      get_next t n q
      ∙ ap (λ rows. option_and_then (λ key. kept_or (map.get rows q) (new_row t rows (suc n) q key)) (map.get s.keys q)) (same_rows n (omega (arith, low)))
      ∙ elim (map.get s.keys q) as (λ o. map.get s.keys q ≡ o
      → option_and_then (λ key. kept_or (map.get (rows_upto s n) q) (new_row t (rows_upto s n) (suc n) q key)) o
      ≡ option_and_then (λ key. kept_or (map.get (rows_upto s n) q) (new_row s (rows_upto s n) (suc n) q key)) o) [
        | None ↦ λ _. refl
        | Some key ↦ λ is. next_is n q low key is
      ] refl
      ∙ sym (get_next s n q))

  pub same_rowless_letter : (id user : ℕ) → letter_at t id user ≡ letter_at s id user
  same_rowless_letter id user = ap (λ rows. letter_over t rows id user) (same_rows (s.options.depth - 1) (omega arith))
