use Rattle.std.proofs.Common.{sym, ap, ◌∙◌}
use Rattle.std.specs.FinMap.{empty}
use Rattle.std.proofs.lemmas.List.{nil_from_length}
use Rattle.wot_listing.proofs.RisingLemmas.{all_set, none_sorted, with_all}
use Rattle.wot_listing.proofs.rising_keys.RisingKeys.take_placed.Goals as goal

pub invariant_of-self : goal.invariant_of-self
invariant_of-self c = none_sorted c.replace-pairs.new.dest.items (ap (λ v. v.items) c.replace-pairs.ensures.after ∙ c.new.ensures.items)

pub invariant_of-self-2 : goal.invariant_of-self-2
invariant_of-self-2 c = none_sorted c.replace-pairs.new.dest.items (ap (λ v. v.items) c.replace-pairs.ensures.after ∙ c.new.ensures.items)

pub loop-id-init : goal.loop-id-init
loop-id-init c =
    let all = c.into_iter-id-iterator.ensures.into_iter_gives.0 ∙ ap (λ v. v.items) c.replace-pairs.ensures.value in
    ap (λ m. with_all m c.into_iter-id-iterator.result.rest.items) c.new-placed.ensures
    ∙ ap (with_all empty) all
    ∙ all_set c.self.inside.pairs.items c.self.invariant
    ∙ c.self.view_is

pub loop-id-preserved : goal.loop-id-preserved
loop-id-preserved c =
    ap (λ m. with_all m c.next.new.self.rest.items) c.in_ok-insert.ensures
    ∙ ap (with_all c.loop-id.placed) (sym c.in-Some.ensures.steps.0) ∙ c.loop-id.invariant

pub returns : goal.returns
returns c = ap (with_all c.loop-id.placed) (sym (nil_from_length c.loop-id.id-iterator.rest.items (sym c.loop-id.id-iterator.rest.ok.0 ∙ c.in-None.ensures.steps.0))) ∙ c.loop-id.invariant
