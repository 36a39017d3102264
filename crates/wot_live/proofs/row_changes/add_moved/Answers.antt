use Rattle.std.proofs.Common.{◌≡◌, ℕ, ap, ◌∙◌}
use Rattle.wot_types.specs.Indexes.{has_cert_by}
use Rattle.wot_live.specs.Recounting.{among}
use Rattle.wot_live.proofs.Agendas.{put_off_same}
use Rattle.wot_live.proofs.Lists.{grown_same}
use Rattle.wot_live.proofs.row_changes.add_moved.Goals as goal

pub returns-clause-todo : goal.returns-clause-todo
returns-clause-todo c =
    let set = has_cert_by c.args.table.now c.args.id in
    let members : (x : ℕ) → among c.deref.result.now x ≡ set x = λ x. ap (λ xs. among xs x) c.deref.ensures.value ∙ c.in_ok-ids.ensures x in
    grown_same (among c.deref.result.now) set c.args.course.todo c.in_ok-add_all.field-0 c.in_ok-add_all.ensures members

pub returns-clause-agenda : goal.returns-clause-agenda
returns-clause-agenda c =
    let set = has_cert_by c.args.table.now c.args.id in
    let members : (x : ℕ) → among c.deref-2.result.now x ≡ set x = λ x. ap (λ xs. among xs x) c.deref-2.ensures.value ∙ c.in_ok-ids.ensures x in
    put_off_same (among c.deref-2.result.now) set c.args.level c.args.course.agenda c.in_ok-add_all-2.field-0 members c.in_ok-add_all-2.ensures
