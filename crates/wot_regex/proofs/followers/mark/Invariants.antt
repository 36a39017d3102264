use Rattle.std.proofs.Common.{◌≡◌, ◌<◌, ℕ, get_or}
use Rattle.wot_regex.specs.Following.{has}
use Rattle.wot_regex.specs.Reaching.{marked}
use Rattle.wot_regex.specs.declared.reach.Reach.{Reach}
use Rattle.wot_regex.proofs.followers.mark.Given as goal

-- the cells so far are marked
abbrev pub invariant-loop-i : goal.invariant-loop-i
invariant-loop-i l = (j : ℕ) (d : Reach) → j < l.i → get_or l.cells j d ≡ marked (has l.marks.words j)
