use Rattle.std.proofs.Common.{◌≡◌, ◌<◌, ◌==◌, ◌+◌, ◌*◌, ℕ, get_or, length}
use Rattle.std.specs.Int.{bit_at}
use Rattle.wot_regex.specs.Following.{has, two_on}
use Rattle.wot_regex.proofs.set.Set.two_on.Given as goal

-- the words so far are those of the places two on
abbrev pub invariant-loop-i : goal.invariant-loop-i
invariant-loop-i l = record {
  same : length l.set.words ≡ 8;
  done : (k d : ℕ) → k < l.i → (j : ℕ) → j < 64 → (bit_at (get_or l.set.words k d) j == 1) ≡ two_on (has l.self.words) (64 * k + j);
}
