use Rattle.std.proofs.Common.{◌≡◌, drop}
use Rattle.wot_workers.specs.Pieces.{first_some}
use Rattle.wot_workers.proofs.pieces.first_some.Given as goal

-- the first of those left is the first of all
abbrev pub invariant-loop-one : goal.invariant-loop-one
invariant-loop-one g l = first_some (drop l.one-index l.told) ≡ first_some l.told
