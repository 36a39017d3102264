-- The bytes of one call.
use Rattle.std.specs.Prelude.{ℕ, min, Option, Some, None}

-- how many of n bytes pass in one call, where at most so many do
abbrev pub bytes_per_call : Option ℕ → ℕ → ℕ
bytes_per_call None n = n
bytes_per_call (Some most) n = min n most
