-- The keys from which a key can be come to over certifications, and those that were found so far.
use Rattle.std.specs.Prelude.{◌≡◌, ◌⊎◌, ℕ, zero, suc, Bool, true}
use Rattle.std.specs.BTreeSet as tree
use Rattle.std.specs.Ordering.{nat_cmp}
use Rattle.wot_types.specs.Indexes.{has_cert_by}
use Rattle.wot_types.specs.Keyring.{Keyring}
use Rattle.wot_levels.specs.Frontier.{among}
use Rattle.wot_suppose.specs.declared.near.Near.{Near}

-- over at most so many certifications one comes to a key from another: it is that key, or certified it, or certified one from which one comes to it over fewer
abbrev pub LeadsTo : Keyring → ℕ → ℕ → ℕ → Type 0
LeadsTo keys zero id y = id ≡ y
LeadsTo keys (suc n) id y = LeadsTo keys n id y ⊎ ((x : ℕ) × LeadsTo keys n id x × (has_cert_by keys y x ≡ true))

-- a key was found
abbrev pub is_found : Near → ℕ → Bool
is_found near y = tree.contains nat_cmp near.found y

-- a key is one of those whose certifications weren't read yet
abbrev pub is_unread : Near → ℕ → Bool
is_unread near y = among near.unread.items y

-- more keys are found: what came in is unread, as is what was unread before
pub record IsWider (old new : Near) : Type 0 where
  pub kept : (y : ℕ) → is_found old y ≡ true → is_found new y ≡ true
  pub left : (y : ℕ) → is_unread old y ≡ true → is_unread new y ≡ true
  pub listed : (y : ℕ) → is_found new y ≡ true → (is_found old y ≡ true) ⊎ (is_unread new y ≡ true)
