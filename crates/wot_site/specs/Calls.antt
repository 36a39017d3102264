-- How the calls of a site in memory are counted.
use Rattle.std.specs.Prelude.{ℕ, ◌+◌, ◌-◌, ◌^◌, min}
use Rattle.wot_site.specs.declared.memory.calls.Calls.{Calls}
use Rattle.wot_site.specs.declared.memory.plan.CallKind.{CallKind}
use Rattle.wot_site.specs.declared.memory.plan.CallKind.TheVariants.{Take, Tell, Size, Read, Write, Sync}

-- the calls of a kind
abbrev pub calls_in : CallKind → Calls → ℕ
calls_in Take calls = calls.takes
calls_in Tell calls = calls.tells
calls_in Size calls = calls.sizes
calls_in Read calls = calls.reads
calls_in Write calls = calls.writes
calls_in Sync calls = calls.syncs

-- a count after one more; at 2^64 - 1 it stays
abbrev pub one_more : ℕ → ℕ
one_more n = min (n + 1) (2 ^ 64 - 1)

-- the calls of the device after one more call of that kind
abbrev pub device_after : CallKind → ℕ → ℕ
device_after Take n = n
device_after Tell n = n
device_after kind n = one_more n
