use Rattle.std.proofs.Common.{◌&&◌, ◌++◌, ◌∷◌, [], take, take_all, sym, ap, ◌∙◌, arith}
use Rattle.std.specs.FinMap as finmap
use Rattle.std.proofs.lemmas.List.{take_more}
use Rattle.wot_table.specs.declared.heading.Heading.TheVariants.{Issuer}
use Rattle.wot_table.specs.Headings.{is_one_of, is_under}
use Rattle.wot_index.specs.Indexed.{has_pair}
use Rattle.wot_table.proofs.Merging.{one_more, same_pairs}
use Rattle.wot_table.proofs.indexing.pairs_of_piece.Goals as goal

pub returns : goal.returns
returns c = λ n k.
    let ids = c.args.ids.now in
    same_pairs n k c.loop-id.pairs.items c.sort_unstable.new.self.items c.sort_unstable.ensures.permutation
    ∙ c.loop-id.invariant n k
    ∙ ap (λ xs. is_one_of k xs && is_under Issuer n (finmap.get c.args.table.now k)) (take_all c.loop-id.id-index ids (omega (arith, c.loop-id-test.false)))

pub loop-id-init : goal.loop-id-init
loop-id-init c = λ n k. ap (has_pair n k) c.new-pairs.ensures.items

pub loop-id-preserved : goal.loop-id-preserved
loop-id-preserved c = λ n k.
    let ids = c.args.ids.now in
    one_more c.args.table.now n k c.id-item.result (take c.loop-id.id-index ids) _ _ (c.loop-id.invariant n k) (c.in_ok-push_pairs_of_id.ensures n k)
    ∙ ap (λ xs. is_one_of k xs && is_under Issuer n (finmap.get c.args.table.now k)) (sym (take_more ids c.loop-id.id-index c.id-item.result c.loop-id-test.true ∙ ap (λ id. take c.loop-id.id-index ids ++ id ∷ []) (sym c.id-item.is)))
