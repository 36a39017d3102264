use Rattle.std.proofs.Common.{◌-◌, ◌≡◌, ◌≤◌, length, take}
use Rattle.wot_site.specs.Reading.{IsRange}
use Rattle.wot_site.specs.Seen.{Honestly}
use Rattle.wot_pages.proofs.sealed.read_page.Given as goal

abbrev pub invariant-loop-filled : goal.invariant-loop-filled
invariant-loop-filled g l = record {
  long : length l.page ≡ 4096;
  within : l.filled ≤ 4096;
  range : Honestly (g.S.Site.seen l.fn.site) (g.S.Site.seen l.site) (IsRange l.side l.at (length (take l.filled l.page)) (take l.filled l.page));
  quiet : g.S.Site.faults l.site ≡ g.S.Site.faults l.fn.site;
}

abbrev pub decreases-loop-filled : goal.decreases-loop-filled
decreases-loop-filled g l = 4096 - l.filled
