use Rattle.std.proofs.Common.{◌++◌, take}
use Rattle.wot_live.specs.Agenda.{HasAt, due_at}
use Rattle.wot_live.proofs.agenda.Agenda.add_all.Given as goal

abbrev pub invariant-loop-id : goal.invariant-loop-id
invariant-loop-id l = HasAt l.fn.self l.level (due_at l.fn.self l.level ++ take l.id-index l.more) l.agenda
