use Rattle.std.proofs.Common.{◌≡◌, [], Some, rules, subst, sym}
use Rattle.std.proofs.lemmas.Result.{on_ok_weaker}
use Rattle.wot_site.proofs.Honest.{honest_weaker}
use Rattle.wot_session.specs.SessionState.{IsHere}
use Rattle.wot_session.specs.Answering.{Said, SaidPrefix}
use Rattle.wot_session.proofs.Feeds.{start_said}
use Rattle.wot_session.proofs.Outcomes.{if_err_weaker}
use Rattle.wot_session.proofs.Sayings.{last_after, last_made, last_none}
use Rattle.wot_session.proofs.session.Session.answer_last.Goals as goal

pub returns-then-is_empty-clause-told : goal.returns-then-is_empty-clause-told
returns-then-is_empty-clause-told g c p here =
    let none : c.args.self.now.line ≡ Some [] = search rules in
    honest_weaker _ _ _ _ (start_said _ p _ here.holds) (λ x y said. subst (λ commands. Said p.progress commands x y) (sym (last_none p _ none)) said)

pub returns-clause-at : goal.returns-clause-at
returns-clause-at g c =
    let some : c.args.self.now.line ≡ Some [] → ⊥ = search rules in
    on_ok_weaker c.answer.result (λ at p here. subst (IsHere _ _) (sym (last_after p _ some)) (at p here)) c.answer.ensures.at

pub returns-clause-told : goal.returns-clause-told
returns-clause-told g c =
    let some : c.args.self.now.line ≡ Some [] → ⊥ = search rules in
    on_ok_weaker c.answer.result
    (λ told p here. honest_weaker _ _ _ _ (told p here) (λ x y said. subst (λ commands. Said p.progress commands x y) (sym (last_made p _ some)) said))
    c.answer.ensures.told

pub returns-clause-prefix : goal.returns-clause-prefix
returns-clause-prefix g c =
    let some : c.args.self.now.line ≡ Some [] → ⊥ = search rules in
    if_err_weaker _ _ c.answer.result c.answer.ensures.prefix
    (λ stop prefix p here. honest_weaker _ _ _ _ (prefix p here) (λ x y said. subst (λ commands. SaidPrefix p.progress commands stop x y) (sym (last_made p _ some)) said))
