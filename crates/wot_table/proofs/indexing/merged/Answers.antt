use Rattle.std.proofs.Common.{All, IsOk, refl, sym, ap, subst, ◌∙◌}
use Rattle.std.specs.List.{list_any}
use Rattle.std.proofs.lemmas.Iterator.Adapters.{YieldsList-from_vec}
use Rattle.std.proofs.lemmas.Iterator.Consumers.{YieldsList-end}
use Rattle.std.proofs.lemmas.List.{map-id}
use Rattle.std.proofs.lemmas.List.Elements.{All-nil, All-push}
use Rattle.wot_index.specs.Indexed.{has_pair}
use Rattle.wot_table.specs.FoundPairs.{has_found}
use Rattle.wot_table.proofs.Merging.{one_piece, same_pairs}
use Rattle.wot_table.proofs.indexing.merged.Goals as goal

pub returns-clause-exact : goal.returns-clause-exact
returns-clause-exact c = λ n k.
    let made = c.into_iter-piece-iterator.ensures.into_iter_gives in
    let all = (YieldsList-end (YieldsList-from_vec {s = c.into_iter-piece-iterator.result} c.args.pieces.items made.0 (made.1 ∙ c.args.pieces.ok.0)) c.loop-piece.yielded c.loop-piece.piece-iterator c.loop-piece.yielded_by c.next.result c.next.new.self c.in-None.is c.next.ensures.steps).0 in
    same_pairs n k c.shrink_to_fit.new.self.items c.sort.new.self.items c.sort.ensures.permutation
    ∙ ap (has_pair n k) c.shrink_to_fit.ensures.items
    ∙ c.loop-piece.invariant.exact n k
    ∙ ap (list_any (has_found n k)) (sym (map-id c.loop-piece.yielded) ∙ all)

pub loop-piece-init : goal.loop-piece-init
loop-piece-init c = record {
  whole = All-nil IsOk;
  exact = λ n k. ap (has_pair n k) c.new-pairs.ensures.items;
}

pub loop-piece-preserved : goal.loop-piece-preserved
loop-piece-preserved c = record {
  whole = All-push IsOk c.loop-piece.yielded c.in-Some.piece c.loop-piece.invariant.whole (subst IsOk (sym c.in_ok-piece.was) refl);
  exact = λ n k.
      ap (has_pair n k) c.in_ok-append.ensures.items
      ∙ one_piece n k c.loop-piece.pairs.items c.loop-piece.yielded c.in-Some.piece c.in_ok-piece.field-0 c.in_ok-piece.was (c.loop-piece.invariant.exact n k);
}

pub returns-clause-whole : goal.returns-clause-whole
returns-clause-whole c =
    let made = c.into_iter-piece-iterator.ensures.into_iter_gives in
    let all = (YieldsList-end (YieldsList-from_vec {s = c.into_iter-piece-iterator.result} c.args.pieces.items made.0 (made.1 ∙ c.args.pieces.ok.0)) c.loop-piece.yielded c.loop-piece.piece-iterator c.loop-piece.yielded_by c.next.result c.next.new.self c.in-None.is c.next.ensures.steps).0 in
    subst (All IsOk) (sym (map-id c.loop-piece.yielded) ∙ all) c.loop-piece.invariant.whole
