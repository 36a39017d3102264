use Rattle.std.proofs.Common.{◌≡◌, ◌≤◌, ◌∷◌, ◌++◌, [], true}
use Rattle.std.proofs.lemmas.Result.{IfOk-weaker}
use Rattle.wot_live.specs.Agenda.{HasAt, HasMoreOf, due_at, is_due}
use Rattle.wot_live.proofs.Plans.{added_more, added_there}
use Rattle.wot_live.proofs.agenda.Agenda.add_from.Goals as goal

pub returns-clause-there : goal.returns-clause-there
returns-clause-there c =
    IfOk-weaker c.add.result (HasAt c.args.self c.args.level (due_at c.args.self c.args.level ++ c.args.id ∷ [])) (λ new. c.args.first ≤ c.args.level → is_due new c.args.level c.args.id ≡ true)
    (λ new is _. added_there c.args.self new c.args.level c.args.id is) c.add.ensures

pub returns-clause-more : goal.returns-clause-more
returns-clause-more c =
    IfOk-weaker c.add.result (HasAt c.args.self c.args.level (due_at c.args.self c.args.level ++ c.args.id ∷ [])) (HasMoreOf (c.args.id ∷ []) c.args.self)
    (λ new is. added_more c.args.self new c.args.level c.args.id is) c.add.ensures
