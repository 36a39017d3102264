use Rattle.std.proofs.Common.{false, ◌≡◌, ◌<◌, ◌/◌, ◌%◌, ℕ, get_or, length}
use Rattle.wot_regex.specs.Following.{IsRow, cells_by, in_eight}
use Rattle.wot_regex.specs.declared.followers.Row.{Row}
use Rattle.wot_regex.proofs.table.fill.Given as goal

-- the rows so far are noted
abbrev pub invariant-loop-k : goal.invariant-loop-k
invariant-loop-k l = record {
  same : length l.table ≡ length l.fn.table;
  noted : (j : ℕ) (d : Row) → j < l.k → IsRow l.nodes false (cells_by (in_eight (j % 64) (j / 64)) (length l.nodes)) (get_or l.table j d);
}
