use Rattle.std.proofs.Common.{All, sym, ap, subst, ◌∙◌}
use Rattle.std.specs.Cmp.{nat_cmp_total}
use Rattle.std.specs.FinMap as map
use Rattle.std.proofs.lemmas.List.Elements.{All-weaker}
use Rattle.wot_types.specs.Rows.{IsKeptRow, IsOwnRow}
use Rattle.wot_types.proofs.Maps.{entries_are}
use Rattle.wot_types.proofs.rows.Rows.iter.Goals as goal

pub returns-clause-rows : goal.returns-clause-rows
returns-clause-rows c =
    let there = entries_are nat_cmp_total c.self.inside.kept.entries c.iter.ensures.ordered in
    c.iter.ensures.rest ∙ sym there ∙ ap map.entries c.self.view_is

pub returns-clause-own : goal.returns-clause-own
returns-clause-own c =
    subst (λ m. All IsOwnRow (map.entries m)) c.self.view_is
    (All-weaker (IsKeptRow c.self.inside.scoped c.self.inside.filter) IsOwnRow (λ entry kept. kept.0) (map.entries (map.from_entries c.self.inside.kept.entries)) c.self.invariant)
