-- Keys whose key IDs rise.
use Rattle.std.specs.Prelude.{ℕ, ◌<◌, All}
use Rattle.std.specs.FinMap.{entries}
use Rattle.wot_types.specs.Keyring.{Keyring}

-- each key ID is below this one
abbrev pub AreBelow : Keyring → ℕ → Type 0
AreBelow keys id = All (λ entry. entry.0 < id) (entries keys)
