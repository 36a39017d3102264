use Rattle.std.proofs.Common.{◌≡◌, ◌-◌, ◌≤◌, length, take}
use Rattle.wot_site.specs.Seen.{Honestly}
use Rattle.wot_tell.specs.Telling.{Telling}
use Rattle.wot_tell.proofs.tell.tell_all.Given as goal

abbrev pub invariant-loop-done : goal.invariant-loop-done
invariant-loop-done g l = record {
  within : l.done ≤ length l.bytes;
  told : Honestly (g.S.Site.seen l.fn.site) (g.S.Site.seen l.site) (Telling (take l.done l.bytes));
  quiet : g.S.Site.faults l.site ≡ g.S.Site.faults l.fn.site;
}

abbrev pub decreases-loop-done : goal.decreases-loop-done
decreases-loop-done g l = length l.bytes - l.done
