use Rattle.std.proofs.Common.{◌≡◌, ◌+◌, ◌≤◌, ◌∷◌, [], ℕ, true, take}
use Rattle.wot_levels.specs.Certifiers.{is_level_of}
use Rattle.wot_live.specs.Agenda.{HasMoreOf, is_due}
use Rattle.wot_live.proofs.agenda.Agenda.add_behind.Given as goal

abbrev pub invariant-loop-level : goal.invariant-loop-level
invariant-loop-level l = record {
  there : (n : ℕ) → is_level_of (take l.level-index l.levels) n ≡ true → l.first ≤ n + 1 → is_due l.agenda (n + 1) l.id ≡ true;
  more : HasMoreOf (l.id ∷ []) l.fn.self l.agenda;
}
