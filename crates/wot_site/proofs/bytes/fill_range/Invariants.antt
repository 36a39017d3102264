use Rattle.std.proofs.Common.{ℕ, ◌≡◌, ◌⊎◌, ◌+◌, ◌<◌, ◌≤◌, length}
use Rattle.std.specs.Prelude.{slice_index}
use Rattle.wot_site.proofs.bytes.fill_range.Given as goal

abbrev pub invariant-loop-i : goal.invariant-loop-i
invariant-loop-i l = record {
  length : length l.bytes.items ≡ length l.fn.bytes.items;
  kept : (i : ℕ) → (i < l.at) ⊎ (l.at + l.len ≤ i) → slice_index l.bytes.items i ≡ slice_index l.fn.bytes.items i;
  filled : (i : ℕ) → i < l.i → l.at ≤ i → i < l.at + l.len → slice_index l.bytes.items i ≡ l.byte;
}
