use Rattle.std.proofs.Common.{◌≡◌, Option, sym, subst}
use Rattle.wot_types.specs.Candidates.{RowMap}
use Rattle.wot_types.specs.Image.{IsBase}
use Rattle.wot_types.specs.PagePlaces.{content_size}
use Rattle.wot_types.specs.State.{State}
use Rattle.wot_image.specs.States.{image_state}
use Rattle.wot_store.specs.Base.{IsBaseOf, IsNoBase}
use Rattle.wot_store.specs.declared.error.BadStore.{BadStore}
use Rattle.wot_store.specs.declared.error.BadStore.TheVariants.{Spelling}
use Rattle.wot_store.proofs.Errors.{if_ok_both}
use Rattle.wot_store.proofs.base.take_base.Goals as goal

pub returns-in-Ok-Some-clause-base : goal.returns-in-Ok-Some-clause-base
returns-in-Ok-Some-clause-base g c =
    let contents = c.args.contents.items in
    let image = c.in-Ok-Some.image in
    let found = rw c.deref.ensures.value at (rw c.in-Ok-Some.field-0-is at c.in-Ok-Some.ensures.found) in
    if_ok_both _ _ _ c.take_rows.result c.take_rows.ensures.draft c.take_rows.ensures.stand
    (λ draft is stand. subst (λ (s : State). IsBaseOf contents s) (sym is) (record { current = image.rows; spelled = found; rows = stand }))

pub returns-in-Ok-Some-clause-bad : goal.returns-in-Ok-Some-clause-bad
returns-in-Ok-Some-clause-bad g c b is =
    let contents = c.args.contents.items in
    let image = c.in-Ok-Some.image in
    let found = rw c.deref.ensures.value at (rw c.in-Ok-Some.field-0-is at c.in-Ok-Some.ensures.found) in
    let wrong = c.take_rows.ensures.bad b is in
    subst (λ (d : BadStore). IsNoBase contents d) (sym wrong.2)
    (image_state image, wrong.1, subst (λ (current : Option RowMap). IsBase content_size contents (image_state image) current) wrong.3 found, wrong.4)

pub returns-in-Ok-None-clause-bad : goal.returns-in-Ok-None-clause-bad
returns-in-Ok-None-clause-bad g c b is =
    let same : Spelling ≡ b = cc is in
    let none = rw c.deref.ensures.value at (rw c.in-Ok-None.field-0-is at c.in-Ok-None.ensures.none) in
    subst (λ (d : BadStore). IsNoBase c.args.contents.items d) same none
