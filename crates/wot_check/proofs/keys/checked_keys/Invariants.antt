use Rattle.std.specs.FinMap as finmap
use Rattle.wot_check.specs.KeyWalk.{ids_left}
use Rattle.wot_check.proofs.Merging.{IsMerging, room_behind}
use Rattle.wot_check.proofs.keys.checked_keys.Given as goal

abbrev pub invariant-loop-id : goal.invariant-loop-id
invariant-loop-id l = IsMerging (λ x. finmap.contains_key l.table x) (λ x. finmap.contains_key l.rows x) l.ids.items (ids_left l.key l.walk) (ids_left l.row l.left)

abbrev pub decreases-loop-id : goal.decreases-loop-id
decreases-loop-id l = room_behind l.ids.items
