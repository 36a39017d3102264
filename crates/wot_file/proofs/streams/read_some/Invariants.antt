use Rattle.std.proofs.Common.{◌≡◌, length}
use Rattle.std.specs.Io.KnownBytes.{Keeps}
use Rattle.wot_file.proofs.streams.read_some.Given as goal

abbrev pub invariant-loop-turn : goal.invariant-loop-turn
invariant-loop-turn g l = record { kept : Keeps (g.R.Read.remaining l.fn.reader) (g.R.Read.remaining l.reader); long : length l.buf ≡ length l.fn.buf }
