use Rattle.std.proofs.Common.{sym, subst}
use Rattle.wot_types.specs.Image.{IsBase}
use Rattle.wot_types.specs.PagePlaces.{content_size}
use Rattle.wot_types.specs.State.{State}
use Rattle.wot_history.proofs.base.take_base.Goals as goal

pub returns-in-Ok-clause-base : goal.returns-in-Ok-clause-base
returns-in-Ok-clause-base g c =
    let image = c.in-Ok-Some.image in
    let found = rw c.deref.ensures.value at (rw c.in-Ok-Some.field-0-is at c.in-Ok-Some.ensures.found) in
    (image.rows, subst (λ (s : State). IsBase content_size c.args.contents.items s image.rows) (sym c.in-Ok.ensures) found)

pub returns-in-Ok-None-clause-none : goal.returns-in-Ok-None-clause-none
returns-in-Ok-None-clause-none g c = rw c.deref.ensures.value at (rw c.in-Ok-None.field-0-is at c.in-Ok-None.ensures.none)
