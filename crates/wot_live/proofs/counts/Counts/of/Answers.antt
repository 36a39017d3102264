use Rattle.std.proofs.Common.{◌≡◌, nat_cmp, reverse, sym, ap, subst, ◌∙◌}
use Rattle.std.specs.BTreeMap.{IsFromIterResult}
use Rattle.std.specs.Cmp.{nat_cmp_total}
use Rattle.std.specs.FinMap as finmap
use Rattle.std.specs.FinMap.{nat_cmp-IsAntisymmetric}
use Rattle.std.specs.Vec.Iter.{into_iter_items}
use Rattle.std.proofs.lemmas.List.{reverse-reverse}
use Rattle.wot_types.proofs.Maps.{collected}
use Rattle.wot_live.proofs.counts.Counts.of.Goals as goal

pub returns : goal.returns
returns c =
    let es = c.args.pairs.items in
    let run = c.in_ok-collect.ensures.runs tt in
    let behind = c.rev.ensures.runs run.0 run.0.seen run.1 in
    let turned = c.into_iter.ensures.runs_back behind.0 behind.0.seen in
    let items : run.0.items ≡ reverse es = sym behind.2.0.1 ∙ turned.4 (behind.2.1 ∙ run.2) ∙ ap (λ s. reverse (into_iter_items s)) behind.1 ∙ ap reverse c.into_iter.ensures.rest in
    let made = subst (λ xs. IsFromIterResult nat_cmp xs c.in_ok-collect.field-0) items run.3 in
    collected nat_cmp_total nat_cmp-IsAntisymmetric (reverse es) c.in_ok-collect.field-0 made ∙ ap finmap.from_entries (reverse-reverse es)
