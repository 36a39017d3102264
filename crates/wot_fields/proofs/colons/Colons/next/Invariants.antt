use Rattle.std.proofs.Common.{ℕ, ◌-◌, ◌≤◌, length}
use Rattle.wot_fields.specs.Colons.{IsAhead}
use Rattle.wot_fields.proofs.colons.Colons.next.Given as goal

-- the same colons are ahead
abbrev pub invariant-loop-bits : goal.invariant-loop-bits
invariant-loop-bits l = (l.block ≤ length l.line) × ((from : ℕ) → IsAhead l.line l.fn.self.block l.fn.self.bits from → IsAhead l.line l.block l.bits from)

abbrev pub decreases-loop-bits : goal.decreases-loop-bits
decreases-loop-bits l = length l.line - l.block
