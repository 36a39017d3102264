use Rattle.std.proofs.Common.{refl}
use Rattle.wot_live.specs.Follows.{uncounted_state}
use Rattle.wot_live.proofs.uncounted.Uncounted.set_date.Goals as goal

pub returns-clause-since : goal.returns-clause-since
returns-clause-since c = λ s names due. c.in_ok-todo.ensures s (uncounted_state c.args.self) names refl refl due
