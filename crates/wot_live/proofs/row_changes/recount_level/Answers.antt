use Rattle.std.proofs.Common.{◌≡◌, ◌+◌, ℕ, List, nat_eq, sym, ap, subst, ◌∙◌, arith}
use Rattle.std.specs.List.{IsDistinct}
use Rattle.std.proofs.lemmas.Result.{IfOk-weaker}
use Rattle.wot_live.specs.Agenda.{AreDue, IsWithin, due_at}
use Rattle.wot_live.specs.Recounting.{IsRecounted, among}
use Rattle.wot_live.proofs.Agendas.{due_behind, within_behind}
use Rattle.wot_live.proofs.Passes.{same_step}
use Rattle.wot_live.proofs.Weights.{weight_within}
use Rattle.wot_live.proofs.row_changes.recount_level.Goals as goal

pub recount_all-requires : goal.recount_all-requires
recount_all-requires g c = record { distinct = subst (IsDistinct nat_eq) (sym c.deref.ensures.value) c.each_once-ids.ensures.distinct }

pub returns-clause-pass : goal.returns-clause-pass
returns-clause-pass g c =
    let t = c.args.state.now in
    let n = c.args.level in
    let rows = c.args.course.rows in
    let todo = c.args.course.todo in
    let ids = c.deref.result.now in
    let due = due_at c.args.course.agenda n in
    let moved = c.args.course.moved.before in
    let here = c.args.course.moved.here in
    IfOk-weaker c.recount_all.result (λ new. IsRecounted t n moved ids rows todo here new.rows new.todo new.moved.here) (λ new. IsRecounted t n moved due rows todo here new.rows new.todo new.moved.here)
    (λ new step. same_step t n moved ids due rows todo here new.rows new.todo new.moved.here (λ x. ap (λ xs. among xs x) c.deref.ensures.value ∙ c.each_once-ids.ensures.same x ∙ ap (λ xs. among xs x) (c.into_vec.ensures ∙ c.take-agenda.ensures.ids)) step) c.recount_all.ensures.pass

pub returns-clause-due : goal.returns-clause-due
returns-clause-due g c =
    let keys = c.args.state.now.keys in
    let n = c.args.level in
    let rows = c.args.course.rows in
    let old = c.args.course.agenda in
    IfOk-weaker c.recount_all.result (λ new. (ids : List ℕ) → AreDue keys rows (n + 1) ids c.take-agenda.result.agenda → AreDue keys new.rows (n + 1) ids new.agenda)
    (λ new. (ids : List ℕ) → AreDue keys rows n ids old → AreDue keys new.rows (n + 1) ids new.agenda)
    (λ new after ids due. after ids (due_behind n ids old c.take-agenda.result.agenda c.take-agenda.ensures.agenda keys rows due)) c.recount_all.ensures.due

pub returns-clause-within : goal.returns-clause-within
returns-clause-within g c =
    let todo = c.args.course.todo in
    let old = c.args.course.agenda in
    IfOk-weaker c.recount_all.result (λ new. IsWithin todo c.take-agenda.result.agenda → IsWithin new.todo new.agenda) (λ new. IsWithin todo old → IsWithin new.todo new.agenda)
    (λ new after within. after (within_behind c.args.level todo old c.take-agenda.result.agenda c.take-agenda.ensures.agenda within)) c.recount_all.ensures.within

pub returns-clause-ticks : goal.returns-clause-ticks
returns-clause-ticks g c = λ set its.
    let members : (x : ℕ) → among c.deref.result.now x ≡ among (due_at c.args.course.agenda c.args.level) x = λ x. ap (λ xs. among xs x) c.deref.ensures.value ∙ c.each_once-ids.ensures.same x ∙ ap (λ xs. among xs x) (c.into_vec.ensures ∙ c.take-agenda.ensures.ids) in
    let less = weight_within set c.args.state.now.keys c.deref.result.now (subst (IsDistinct nat_eq) (sym c.deref.ensures.value) c.each_once-ids.ensures.distinct) (λ x there. its x (sym (members x) ∙ there)) in
    let cost = c.recount_all.ensures.ticks in
    omega (arith, less, cost)
