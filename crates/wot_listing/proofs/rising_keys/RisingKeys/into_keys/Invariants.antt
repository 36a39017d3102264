use Rattle.std.proofs.Common.{◌≡◌, ◌++◌, ℕ, map}
use Rattle.std.specs.FinMap.{values}
use Rattle.wot_types.specs.declared.key.Key.{Key}
use Rattle.wot_listing.proofs.rising_keys.RisingKeys.into_keys.Given as goal

-- the keys that were moved and those that are left are all
abbrev pub invariant-loop-key : goal.invariant-loop-key
invariant-loop-key l = l.all ++ map (λ (e : ℕ × Key). e.1) l.key-iterator.rest.items ≡ values l.fn.self
