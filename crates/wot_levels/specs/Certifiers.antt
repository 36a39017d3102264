-- At which levels the certifiers of a key stand.
use Rattle.std.specs.Prelude.{◌≡◌, ℕ, Bool, true, false, ◌==◌, List, Option, IfSome}
use Rattle.std.specs.FinMap as map
use Rattle.std.specs.List.{list_any}
use Rattle.std.specs.Option.{option_map_or}
use Rattle.wot_types.specs.declared.placed.Placed.{Placed}
use Rattle.wot_types.specs.declared.row.Row.{Row}
use Rattle.wot_types.specs.Candidates.{RowMap}
use Rattle.wot_types.specs.Explanation.{KeySet}

abbrev pub is_level_of : List ℕ → ℕ → Bool
is_level_of levels n = list_any (λ level. level == n) levels

-- where a key has a row, its level is one of these
abbrev pub StandsAt : RowMap → List ℕ → ℕ → Type 0
StandsAt rows levels id = IfSome (map.get rows id) (λ row. is_level_of levels row.level ≡ true)

-- one of the certifications is by this issuer
abbrev pub has_issuer : List Placed → ℕ → Bool
has_issuer certs issuer = list_any (λ p. p.cert.issuer == issuer) certs

-- there is a row, of this level
abbrev pub is_row_of : ℕ → Option Row → Bool
is_row_of level row = option_map_or (λ row. row.level == level) row false

-- the keys with a row of this level
abbrev pub stands_at : RowMap → ℕ → KeySet
stands_at rows level id = is_row_of level (map.get rows id)

-- one of the certifications is by a key with a row of this level
abbrev pub has_issuer_at : List Placed → RowMap → ℕ → Bool
has_issuer_at certs rows level = list_any (λ p. stands_at rows level p.cert.issuer) certs
