use Rattle.std.proofs.Common.{◌-◌, ◌≤◌, length, get_or}
use Rattle.wot_fields.specs.Colons.{IsAhead}
use Rattle.wot_fields.proofs.FieldStartLemmas.{StartsSoFar}
use Rattle.wot_fields.proofs.fields.Fields.new.Given as goal

abbrev pub invariant-loop-count : goal.invariant-loop-count
invariant-loop-count l = StartsSoFar l.line l.starts l.count × (l.colons.block ≤ length l.line) × IsAhead l.line l.colons.block l.colons.bits (get_or l.starts l.count 0)

abbrev pub decreases-loop-count : goal.decreases-loop-count
decreases-loop-count l = 13 - l.count
