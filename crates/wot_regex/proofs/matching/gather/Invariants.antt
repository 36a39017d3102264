use Rattle.std.proofs.Common.{◌≡◌, ◌≤◌, [], ◌++◌, drop, length, take}
use Rattle.wot_regex.specs.Gathering.{all_gathered, all_noted}
use Rattle.wot_regex.proofs.matching.gather.Given as goal

-- the parts so far and the rest are the whole
abbrev pub invariant-loop-i : goal.invariant-loop-i
invariant-loop-i l = record {
  few : length l.stack ≤ l.i;
  reached : all_gathered l.place (drop l.i l.nodes) (drop l.i l.cells) l.stack ≡ all_gathered l.place l.nodes l.fn.cells [];
  cells : take l.i l.cells ++ all_noted l.place (drop l.i l.nodes) (drop l.i l.cells) l.stack ≡ all_noted l.place l.nodes l.fn.cells [];
}
