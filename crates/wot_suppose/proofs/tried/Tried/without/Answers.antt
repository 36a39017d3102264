use Rattle.std.proofs.Common.{sym}
use Rattle.wot_suppose.proofs.tried.Tried.without.Goals as goal

pub make-requires-2 : goal.make-requires-2
make-requires-2 g c =
    let s = c.in_ok-draft.draft in
    record { allowed = (c.in_ok-edit.ensures.back s (sym c.trusts.ensures)).edit_allowed s }

pub returns-clause-allowed : goal.returns-clause-allowed
returns-clause-allowed g c = (c.in_ok-edit.ensures.back c.in_ok-draft.draft (sym c.trusts.ensures)).back_allowed c.in_ok-engine.engine
