use Rattle.std.proofs.Common.{Some, None, sym, subst, ◌∙◌}
use Rattle.std.specs.FinMap.{values}
use Rattle.std.proofs.lemmas.List.{append-nil}
use Rattle.wot_listing.proofs.PlaceLemmas.{IsTaking, all_taken, none_taken, one_taken}
use Rattle.wot_listing.proofs.placed_keys.PlacedKeys.into_keys.Goals as goal

pub loop-place-init : goal.loop-place-init
loop-place-init c =
    let gives = c.into_iter-place-iterator.ensures.into_iter_gives in
    let slots = c.self.inside.keys.items in
    subst (λ all. IsTaking (values c.args.self) all slots c.into_iter-place-iterator.result) (sym c.in_ok-all.ensures)
    (subst (IsTaking (values c.args.self) _ slots) (sym gives.0)
    (subst (λ m. IsTaking (values m) _ slots c.self.inside.places.entries) c.self.view_is
    (none_taken c.self.inside.places.entries slots gives.5 c.self.invariant)))

pub loop-place-preserved-in-Continue-branch-2 : goal.loop-place-preserved-in-Continue-branch-2
loop-place-preserved-in-Continue-branch-2 c =
    one_taken (c.in-Some.field-0-0, c.in-Some.place) (Some c.in-Some-take_at.key) c.loop-place.invariant c.in-Some.ensures.steps
    (sym c.in-Some-take_at.is ∙ c.take_at.ensures.found) c.take_at.ensures.others c.in_ok-push.ensures.ok

pub loop-place-preserved : goal.loop-place-preserved
loop-place-preserved c =
    one_taken (c.in-Some.field-0-0, c.in-Some.place) None c.loop-place.invariant c.in-Some.ensures.steps
    (sym c.in_default.is ∙ c.take_at.ensures.found) c.take_at.ensures.others (sym (append-nil c.loop-place.all))

pub returns : goal.returns
returns c = all_taken c.loop-place.invariant c.in-None.ensures.steps.0
