use Rattle.std.proofs.Common.{◌≡◌, ◌||◌, ℕ, Bool, true, false, refl, sym, ap, ap₂, subst, ◌∙◌}
use Rattle.std.proofs.lemmas.List.Elements.{All-nil}
use Rattle.std.proofs.lemmas.Result.{IfOk-weaker}
use Rattle.wot_types.specs.declared.key.Key.{Key}
use Rattle.wot_table.specs.Headings.{AreInRange}
use Rattle.wot_index.specs.Indexed.{has_pair}
use Rattle.wot_table.proofs.Filed.{number_in_range}
use Rattle.wot_table.proofs.Walks.{entries_filed, entries_under, one_passed}
use Rattle.wot_table.proofs.pairs.index_of.Goals as goal

pub loop-id-init : goal.loop-id-init
loop-id-init c = record {
  agrees = λ n k.
      let es = c.args.keys.now.entries in
      ap₂ (λ pairs left. has_pair n k pairs || entries_under c.args.heading n k left) c.new-pairs.ensures.items (c.into_iter-id-iterator.ensures.into_iter_gives ∙ c.iter-id-items.ensures.rest)
      ∙ entries_filed c.args.heading n k es c.iter-id-items.ensures.ordered;
  in_range = subst (AreInRange c.args.heading) (sym c.new-pairs.ensures.items) (All-nil _);
}

pub loop-id-preserved : goal.loop-id-preserved
loop-id-preserved c = record {
  agrees = λ n k.
      let e : ℕ × Key = (c.in-Some.id.now, c.in-Some.held.now) in
      one_passed c.args.heading n k (has_pair n k c.loop-id.pairs.items) _ c.loop-id.id-iterator c.next.new.self e c.in-Some.ensures.steps (c.in_ok-push_pairs.ensures.added n k) ∙ c.loop-id.invariant.agrees n k;
  in_range = c.in_ok-push_pairs.ensures.in_range c.loop-id.invariant.in_range;
}

pub returns-clause-agrees : goal.returns-clause-agrees
returns-clause-agrees c = IfOk-weaker c.of.result _ _ (λ index all n k.
    let old = has_pair n k c.loop-id.pairs.items in
    all n k ∙ sym (or_false old) ∙ ap (λ left. old || entries_under c.args.heading n k left) (sym c.in-None.ensures.steps.0) ∙ c.loop-id.invariant.agrees n k) c.of.ensures
  where
    or_false : (b : Bool) → (b || false) ≡ b
    or_false true = refl
    or_false false = refl

pub returns-clause-in_range : goal.returns-clause-in_range
returns-clause-in_range c = IfOk-weaker c.of.result _ _ (λ index all n k there.
    number_in_range c.args.heading n k c.loop-id.pairs.items c.loop-id.invariant.in_range (sym (all n k) ∙ there)) c.of.ensures
