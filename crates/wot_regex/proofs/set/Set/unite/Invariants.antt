use Rattle.std.proofs.Common.{◌≡◌, ◌<◌, ◌≤◌, ℕ, get_or, bit_or}
use Rattle.wot_regex.proofs.set.Set.unite.Given as goal

-- the words so far are made of both, and the others as they were
abbrev pub invariant-loop-i : goal.invariant-loop-i
invariant-loop-i l = record {
  done : (k : ℕ) → k < l.i → get_or l.self.words k 0 ≡ bit_or (get_or l.fn.self.words k 0) (get_or l.other.words k 0);
  rest : (k : ℕ) → l.i ≤ k → get_or l.self.words k 0 ≡ get_or l.fn.self.words k 0;
}
