use Rattle.std.proofs.Common.{◌≡◌, ◌<◌, ◌≤◌, ℕ, true, false, get_or}
use Rattle.wot_regex.specs.Following.{IsStep, has}
use Rattle.wot_regex.specs.declared.followers.Row.{Row}
use Rattle.wot_regex.proofs.steps.steps_of.Given as goal

-- the places so far that are in the set are steps, and it has no others
abbrev pub invariant-loop-i : goal.invariant-loop-i
invariant-loop-i l = record {
  done : (j : ℕ) (e : Row) → j < l.i → has l.steps.words j ≡ true → IsStep l.first (get_or l.rows j e) j;
  rest : (j : ℕ) → l.i ≤ j → has l.steps.words j ≡ false;
}
