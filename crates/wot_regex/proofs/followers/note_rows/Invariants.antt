use Rattle.std.proofs.Common.{false, ◌≡◌, ◌<◌, ℕ, get_or, length}
use Rattle.wot_regex.specs.Following.{IsRow, only}
use Rattle.wot_regex.specs.declared.followers.Row.{Row}
use Rattle.wot_regex.proofs.followers.note_rows.Given as goal

-- the rows so far are noted
abbrev pub invariant-loop-i : goal.invariant-loop-i
invariant-loop-i l = record {
  same : length l.rows ≡ length l.fn.rows;
  noted : (j : ℕ) (d : Row) → j < l.i → IsRow l.nodes false (only (length l.nodes) j) (get_or l.rows j d);
}
