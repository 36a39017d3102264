use Rattle.std.proofs.Common.{◌≡◌, length, take}
use Rattle.wot_site.proofs.bytes.copy_front.Given as goal

abbrev pub invariant-loop-i : goal.invariant-loop-i
invariant-loop-i l = record { length : length l.buf ≡ length l.fn.buf; front : take l.i l.buf ≡ take l.i l.from }
