use Rattle.std.proofs.Common.{◌≡◌, ◌-◌, ◌≤◌, ◌<◌}
use Rattle.wot_types.specs.WellFormedState.{IsWellFormedState}
use Rattle.wot_site.specs.Seen.{Honestly}
use Rattle.wot_journal.specs.Record.{most_side}
use Rattle.wot_store.proofs.Replaying.{Came}
use Rattle.wot_history.proofs.replay.replay_first.Given as goal

abbrev pub invariant-loop-done : goal.invariant-loop-done
invariant-loop-done g l = record {
  within : l.at < l.size;
  bound : l.at < most_side;
  sound : IsWellFormedState l.draft;
  few : l.done ≤ l.count;
  came : Honestly (g.S.Site.seen l.fn.site) (g.S.Site.seen l.site) (Came l.side l.start l.fn.base l.done l.at l.draft);
  quiet : g.S.Site.faults l.site ≡ g.S.Site.faults l.fn.site;
}

abbrev pub decreases-loop-done : goal.decreases-loop-done
decreases-loop-done g l = l.count - l.done
