use Rattle.std.proofs.Common.{◌≡◌, ◌<◌, ◌≤◌, ℕ, false, get_or}
use Rattle.wot_regex.specs.Following.{has}
use Rattle.wot_regex.specs.Reaching.{nowhere}
use Rattle.wot_regex.proofs.followers.set_of.Given as goal

-- the places so far that are marked, and no others
abbrev pub invariant-loop-i : goal.invariant-loop-i
invariant-loop-i l = record {
  done : (j : ℕ) → j < l.i → has l.set.words j ≡ (get_or l.cells j nowhere).ended;
  rest : (j : ℕ) → l.i ≤ j → has l.set.words j ≡ false;
}
