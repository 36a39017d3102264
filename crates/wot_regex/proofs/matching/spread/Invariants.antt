use Rattle.std.proofs.Common.{◌≡◌, ◌+◌, ◌≤◌, drop, length, take}
use Rattle.wot_regex.specs.Gathering.{all_spread, back_at, back_start}
use Rattle.wot_regex.proofs.matching.spread.Given as goal

-- what is behind has been walked over, and the rest is as it was
abbrev pub invariant-loop-i : goal.invariant-loop-i
invariant-loop-i l = record {
  few : length l.entries + l.i ≤ length l.nodes + 1;
  behind : back_at l.entries l.member (drop l.i l.cells) ≡ all_spread l.b (drop l.i l.nodes) (drop l.i l.fn.cells) back_start;
  rest : take l.i l.cells ≡ take l.i l.fn.cells;
}
