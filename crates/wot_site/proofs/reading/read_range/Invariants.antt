use Rattle.std.proofs.Common.{◌≡◌, ◌-◌, ◌≤◌, length}
use Rattle.wot_site.specs.Seen.{Honestly}
use Rattle.wot_site.specs.Reading.{IsRange}
use Rattle.wot_site.proofs.reading.read_range.Given as goal

abbrev pub invariant-loop-side : goal.invariant-loop-side
invariant-loop-side g l = record {
  within : length l.bytes.items ≤ l.len;
  range : Honestly (g.S.Site.seen l.fn.site) (g.S.Site.seen l.site) (IsRange l.side l.at (length l.bytes.items) l.bytes.items);
  quiet : g.S.Site.faults l.site ≡ g.S.Site.faults l.fn.site;
}

abbrev pub decreases-loop-side : goal.decreases-loop-side
decreases-loop-side g l = l.len - length l.bytes.items
