use Rattle.std.proofs.Common.{◌≡◌, ◌++◌, map, sym, ap, subst, ◌∙◌}
use Rattle.std.proofs.lemmas.List.{append-nil}
use Rattle.std.specs.List.{Contains}
use Rattle.wot_index.proofs.Ranges.{row, row_all, row_found}
use Rattle.wot_index.proofs.index.Index.each_between.Goals as goal

pub returns-clause-found : goal.returns-clause-found
returns-clause-found c =
    let pairs = c.args.self.now.pairs in
    let ids = c.loop-pair.ids.items in
    let whole : ids ≡ row pairs c.args.above c.args.upto = sym (append-nil ids) ∙ ap (λ it. ids ++ map (λ pair. pair.1) it) (sym c.in-None.ensures.steps.0) ∙ c.loop-pair.invariant in
    λ id there. row_found pairs c.args.above c.args.upto id (subst (λ ids. Contains ids id) whole there)

pub returns-clause-all : goal.returns-clause-all
returns-clause-all c =
    let pairs = c.args.self.now.pairs in
    let ids = c.loop-pair.ids.items in
    let whole : ids ≡ row pairs c.args.above c.args.upto = sym (append-nil ids) ∙ ap (λ it. ids ++ map (λ pair. pair.1) it) (sym c.in-None.ensures.steps.0) ∙ c.loop-pair.invariant in
    λ n id above upto has. subst (λ ids. Contains ids id) (sym whole) (row_all pairs c.args.above c.args.upto n id above upto has)
