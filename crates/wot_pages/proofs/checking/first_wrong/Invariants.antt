use Rattle.std.proofs.Common.{◌≡◌, ◌+◌, drop}
use Rattle.wot_pages.specs.Checking.{first_wrong}
use Rattle.wot_pages.proofs.checking.first_wrong.Given as goal

-- the first of those left is the first of all
abbrev pub invariant-loop-i : goal.invariant-loop-i
invariant-loop-i l = first_wrong l.epoch (l.from + l.i) l.contents (drop l.i l.seals) ≡ first_wrong l.epoch l.from l.contents l.seals
