use Rattle.std.proofs.Common.{◌≡◌, ◌≤◌, [], drop, length}
use Rattle.wot_regex.specs.Gathering.{all_gathered}
use Rattle.wot_regex.proofs.matching.reach_at.Given as goal

-- the parts so far and the rest are the whole
abbrev pub invariant-loop-i : goal.invariant-loop-i
invariant-loop-i l = record {
  few : length l.stack ≤ l.i;
  reached : all_gathered l.place (drop l.i l.nodes) (drop l.i l.cells) l.stack ≡ all_gathered l.place l.nodes l.cells [];
}
