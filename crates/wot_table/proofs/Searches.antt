-- The least key after another that passes a test, found by looking through the keys one after the other.
use Rattle.std.proofs.Common.{◌≡◌, ◌==◌, ℕ, ◌<◌, ◌≤◌, Bool, true, false, nat_lt, Option, Some, None, is_some, refl, ap, ◌∙◌, arith}
use Rattle.std.specs.FinMap as finmap
use Rattle.std.specs.List.{list_any}
use Rattle.std.specs.Option.{option_map_or}
use Rattle.std.proofs.lemmas.Bool.Decides.{nat_tests}
use Rattle.wot_types.specs.declared.key.Key.{Key}
use Rattle.wot_types.specs.Indexes.{has_cert_by, key_issuers}
use Rattle.wot_types.specs.Keyring.{Keyring}
use Rattle.wot_types.specs.Next.{IsAfter, IsNext}
use Rattle.wot_types.proofs.Nexts.{after_more}

-- none of the keys after the first one and up to the last one passes
pub record NoneUpTo (passes : ℕ → Bool) (after last : Option ℕ) : Type 0 where
  pub none : (x : ℕ) → IsAfter after x → passes x ≡ true → IsAfter last x
  pub later : (x : ℕ) → IsAfter last x → IsAfter after x

pub none_at_start : (passes : ℕ → Bool) (after : Option ℕ) → NoneUpTo passes after after
none_at_start passes after = record { none = λ x a _. a; later = λ x a. a }

false_from : (b : Bool) → (b ≡ true → ⊥) → b ≡ false
false_from true f = absurd (f refl)
false_from false f = refl

apart : (b : Bool) → b ≡ true → b ≡ false → ⊥
apart b h k = cc

module _ (there passes : ℕ → Bool) (within : (x : ℕ) → passes x ≡ true → there x ≡ true) (after last : Option ℕ) (so_far : NoneUpTo passes after last) where
  -- what passes after the last one is not below the next
  not_below : (id x : ℕ) → IsNext there last (Some id) → IsAfter after x → passes x ≡ true → id ≤ x
  not_below id x next a p = go (nat_lt x id) refl
    where
      below : (a b : ℕ) → nat_lt a b ≡ true → a < b
      below a b e = grind (arith, nat_tests)

      from : (a b : ℕ) → nat_lt a b ≡ false → b ≤ a
      from a b e = grind (arith, nat_tests)

      go : (b : Bool) → nat_lt x id ≡ b → id ≤ x
      go true e = absurd (apart (there x) (within x p) (next.2 x (so_far.none x a p) (below x id e)))
      go false e = from x id e

  pub none_more : (id : ℕ) → IsNext there last (Some id) → passes id ≡ false → NoneUpTo passes after (Some id)
  none_more id next fails = record {
    none = λ x a p. above id x (not_below id x next a p) (λ same. apart (passes id) (ap passes same ∙ p) fails);
    later = λ x l. so_far.later x (after_more last id x next.1 l);
  }
    where
      above : (id x : ℕ) → id ≤ x → (id ≡ x → ⊥) → id < x
      above id x h f = elim (nat_lt id x) as (λ b. nat_lt id x ≡ b → id < x) [
        | true ↦ λ e. lower id x e
        | false ↦ λ e. absurd (f (same id x h e))
      ] refl
        where
          lower : (a b : ℕ) → nat_lt a b ≡ true → a < b
          lower a b e = grind (arith, nat_tests)

          same : (a b : ℕ) → a ≤ b → nat_lt a b ≡ false → a ≡ b
          same a b h e = grind (arith, nat_tests)

  pub first_found : (id : ℕ) → IsNext there last (Some id) → passes id ≡ true → IsNext passes after (Some id)
  first_found id next here = (
    here,
    so_far.later id next.1,
    λ x a l. false_from (passes x) (λ p. apart (there x) (within x p) (next.2 x (so_far.none x a p) l)),
  )

  pub none_found : IsNext there last None → IsNext passes after None
  none_found next = λ x a. false_from (passes x) (λ p. apart (there x) (within x p) (next x (so_far.none x a p)))

-- a key that has a certification is one of the keyring's
pub signed_is_there : (keys : Keyring) (issuer id : ℕ) → has_cert_by keys issuer id ≡ true → finmap.contains_key keys id ≡ true
signed_is_there keys issuer id has = some (finmap.get keys id) has
  where
    some : (found : Option Key) → option_map_or (λ key. list_any (λ n. n == issuer) (key_issuers key)) found false ≡ true → is_some found ≡ true
    some None h = cc
    some (Some key) h = refl
