use Rattle.std.proofs.Common.{◌≡◌, ◌-◌, ◌+◌, ℕ, length}
use Rattle.wot_live.specs.Agenda.{due_at}
use Rattle.wot_live.proofs.agenda.with_place.Given as goal

-- what was there is still due, and nothing else
abbrev pub invariant-loop-alloc : goal.invariant-loop-alloc
invariant-loop-alloc l = (m : ℕ) → due_at l.lists.items m ≡ due_at l.fn.lists.items m

abbrev pub decreases-loop-alloc : goal.decreases-loop-alloc
decreases-loop-alloc l = (l.place + 1) - length l.lists.items
