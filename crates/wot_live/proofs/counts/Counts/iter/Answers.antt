use Rattle.std.proofs.Common.{sym, ap, ◌∙◌}
use Rattle.std.specs.Cmp.{nat_cmp_total}
use Rattle.std.specs.FinMap as map
use Rattle.wot_types.proofs.Maps.{entries_are}
use Rattle.wot_live.proofs.counts.Counts.iter.Goals as goal

pub returns : goal.returns
returns c =
    let there = entries_are nat_cmp_total c.self.inside.counts.entries c.iter.ensures.ordered in
    c.iter.ensures.rest ∙ sym there ∙ ap map.entries c.self.view_is
