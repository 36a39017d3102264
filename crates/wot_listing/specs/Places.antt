-- Keys in the order in which they came, and the places of their key IDs.
use Rattle.std.specs.Prelude.{◌≡◌, ℕ, List, slice_get, Option, Some, IsSome, option_and_then}
use Rattle.std.specs.FinMap as finmap
use Rattle.std.specs.Ordering.{nat_cmp}
use Rattle.wot_types.specs.declared.key.Key.{Key}
use Rattle.wot_types.specs.Keyring.{Keyring}
use Rattle.wot_types.specs.Levels.{map_by}

abbrev pub Places : Type 0
Places = finmap.FinMap nat_cmp ℕ

-- the key at a place, unless it was taken out
abbrev pub key_at : List (Option Key) → ℕ → Option Key
key_at keys place = option_and_then (λ key. key) (slice_get keys place)

-- the keys by key ID
abbrev pub keys_at : Places → List (Option Key) → Keyring
keys_at places keys = map_by places (λ _ place. key_at keys place)

-- at each place there is a key, and no two key IDs have one place
pub record IsPlaced (places : Places) (keys : List (Option Key)) : Type 0 where
  pub there : (id place : ℕ) → finmap.get places id ≡ Some place → IsSome (key_at keys place)
  pub one : (id other place : ℕ) → finmap.get places id ≡ Some place → finmap.get places other ≡ Some place → id ≡ other
