use Rattle.std.proofs.Common.{All, take, subst}
use Rattle.std.proofs.lemmas.List.{take_all}
use Rattle.std.proofs.lemmas.List.Elements.{All-more, All-weaker}
use Rattle.wot_types.specs.IdFilter.{Passes}
use Rattle.wot_types.proofs.rows.filter_of.Goals as goal

pub loop-row-preserved : goal.loop-row-preserved
loop-row-preserved c =
    let rows = c.args.rows.now in
    let i = c.loop-row.row-index in
    let before = All-weaker (λ row. Passes c.loop-row.filter row.key) (λ row. Passes c.add.new.self row.key) (λ row passes. c.add.ensures.kept row.key passes) (take i rows) c.loop-row.invariant in
    All-more (λ row. Passes c.add.new.self row.key) rows i c.row-item.result c.loop-row-test.true before
    (subst (λ row. Passes c.add.new.self row.key) c.row-item.is c.add.ensures.added)

pub returns : goal.returns
returns c = subst (All (λ row. Passes c.loop-row.filter row.key)) (take_all c.loop-row.row-index c.args.rows.now c.loop-row-test.false) c.loop-row.invariant
