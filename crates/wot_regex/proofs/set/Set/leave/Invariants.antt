use Rattle.std.proofs.Common.{◌≡◌, ◌<◌, ◌≤◌, ℕ, get_or}
use Rattle.wot_regex.proofs.SetLemmas.{without}
use Rattle.wot_regex.proofs.set.Set.leave.Given as goal

-- the words so far are without the places of the other, and the rest as they were
abbrev pub invariant-loop-i : goal.invariant-loop-i
invariant-loop-i l = record {
  done : (k : ℕ) → k < l.i → get_or l.self.words k 0 ≡ without (get_or l.fn.self.words k 0) (get_or l.other.words k 0);
  rest : (k : ℕ) → l.i ≤ k → get_or l.self.words k 0 ≡ get_or l.fn.self.words k 0;
}
