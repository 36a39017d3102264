use Rattle.std.proofs.Common.{◌≡◌, ◌<◌, ℕ, get_or, length}
use Rattle.wot_regex.specs.Following.{Holds, taking}
use Rattle.wot_regex.specs.declared.set.Set.{Set}
use Rattle.wot_regex.proofs.followers.note_masks.Given as goal

-- the bytes so far are noted
abbrev pub invariant-loop-b : goal.invariant-loop-b
invariant-loop-b l = record {
  same : length l.masks ≡ 256;
  noted : (j : ℕ) (d : Set) → j < l.b → Holds (get_or l.masks j d).words (taking l.nodes j);
}
