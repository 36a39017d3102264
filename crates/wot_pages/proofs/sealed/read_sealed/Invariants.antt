use Rattle.std.proofs.Common.{◌≡◌, ◌*◌, length}
use Rattle.wot_site.specs.Seen.{Honestly}
use Rattle.wot_types.specs.PagePlaces.{content_size}
use Rattle.wot_pages.specs.Reading.{ReadsSealed}
use Rattle.wot_pages.proofs.sealed.read_sealed.Given as goal

abbrev pub invariant-loop-k : goal.invariant-loop-k
invariant-loop-k g l = record {
  long : length l.sealed.contents.items ≡ content_size * l.k;
  count : length l.sealed.seals.items ≡ l.k;
  read : Honestly (g.S.Site.seen l.fn.site) (g.S.Site.seen l.site) (ReadsSealed l.side l.k l.sealed.contents.items l.sealed.seals.items);
  quiet : g.S.Site.faults l.site ≡ g.S.Site.faults l.fn.site;
}
