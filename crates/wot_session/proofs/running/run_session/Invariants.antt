use Rattle.std.proofs.Common.{◌≡◌}
use Rattle.wot_types.specs.LineByLine.{Position}
use Rattle.wot_session.specs.SessionState.{IsHere}
use Rattle.wot_session.proofs.Looping.{Running}
use Rattle.wot_session.proofs.running.run_session.Given as goal

abbrev pub invariant-loop-n : goal.invariant-loop-n
invariant-loop-n g l = record {
  running : (s : Position) → IsHere l.fn.session (g.S.Site.seen l.fn.site) s → Running s (g.S.Site.seen l.fn.site) (g.S.Site.seen l.site) l.session l.most l.room;
  quiet : g.S.Site.faults l.site ≡ g.S.Site.faults l.fn.site;
}

abbrev pub decreases-loop-n : goal.decreases-loop-n
decreases-loop-n g l = l.room
