use Rattle.std.proofs.Common.{◌≡◌, take}
use Rattle.wot_print.specs.Counts.{counts_of}
use Rattle.wot_print.specs.KeyLetters.{letters_among}
use Rattle.wot_print.proofs.workers.count_keys.Given as goal

-- those of the keys so far
abbrev pub invariant-loop-id : goal.invariant-loop-id
invariant-loop-id g l = l.counts ≡ counts_of (letters_among l.state l.rows (take l.id-index l.ids))
