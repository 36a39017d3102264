use Rattle.std.proofs.Common.{◌≡◌, Ok, rules, sym, ap, ◌∙◌, subst}
use Rattle.std.proofs.lemmas.Result.{on_ok_weaker}
use Rattle.wot_site.proofs.Honest.{honest_weaker}
use Rattle.wot_types.specs.LineByLine.{Position, after_line, reply_to_line}
use Rattle.wot_answer.specs.declared.reply.Answer.{Answer}
use Rattle.wot_session.specs.declared.session.Session.{Session}
use Rattle.wot_session.specs.SessionState.{IsAt, IsDue}
use Rattle.wot_session.specs.Answering.{Said}
use Rattle.wot_session.proofs.Feeds.{due_here, start_said}
use Rattle.wot_session.proofs.Outcomes.{if_err_memory}
use Rattle.wot_session.proofs.Sayings.{one_made, given_said, giving_said, no_memory}
use Rattle.wot_session.proofs.session.Session.answer.Goals as goal

abbrev Due : Session → Session → Answer → Type 0
Due old new answer = (p : Position) → IsAt old p → IsDue new answer p.progress (after_line p old.line) (reply_to_line p old.line)

-- a session that no block changed
due_left : (old held new : Session) (answer : Answer) → held ≡ old → Due held new answer → Due old new answer
due_left old held new answer left due = subst (λ session. Due session new answer) left due

pub returns-in-Ok-true-clause-told : goal.returns-in-Ok-true-clause-told
returns-in-Ok-true-clause-told g c p here =
    let none = c.read_on.ensures.quiet (c.in-Ok-true.is ∙ ap Ok c.in-Ok-true.field-0-test) p here.at in
    honest_weaker _ _ _ _ (start_said _ p _ here.holds) (λ x y said. subst (λ commands. Said p.progress commands x y) (sym none) said)

pub returns-in-Err-Memory-clause-prefix : goal.returns-in-Err-Memory-clause-prefix
returns-in-Err-Memory-clause-prefix g c p here = no_memory _ p.progress _ _ here.holds

pub reply-requires-clause-at : goal.reply-requires-clause-at
reply-requires-clause-at g c =
    let left = c.read_on.ensures.left (c.in-Ok-false.is ∙ ap Ok c.in-Ok-false.field-0-test) in
    (c.requires.0, subst (λ session. IsAt session c.requires.0) (sym left) c.requires.1.at)

pub returns-in-Err-Memory-reply-clause-prefix : goal.returns-in-Err-Memory-reply-clause-prefix
returns-in-Err-Memory-reply-clause-prefix g c p here = no_memory _ p.progress _ _ here.holds

pub give-requires : goal.give-requires
give-requires g c =
    let left = c.read_on.ensures.left (c.in-Ok-false.is ∙ ap Ok c.in-Ok-false.field-0-test) in
    (search rules, (search rules, (_, _, _, due_here c.args.self.now c.reply.new.self c.in-Ok.answer _ c.requires.0 _ _ (c.reply.ensures.place ∙ c.read_on.ensures.place) (c.reply.ensures.refused ∙ c.read_on.ensures.refused) c.requires.1 (due_left _ _ _ _ left c.in-Ok.ensures.due c.requires.0 c.requires.1.at))))

pub returns-clause-at : goal.returns-clause-at
returns-clause-at g c =
    let left = c.read_on.ensures.left (c.in-Ok-false.is ∙ ap Ok c.in-Ok-false.field-0-test) in
    on_ok_weaker c.give.result (λ all p here. all _ _ _ (due_here c.args.self.now c.reply.new.self c.in-Ok.answer _ p _ _ (c.reply.ensures.place ∙ c.read_on.ensures.place) (c.reply.ensures.refused ∙ c.read_on.ensures.refused) here (due_left _ _ _ _ left c.in-Ok.ensures.due p here.at))) c.give.ensures.here

pub returns-clause-told : goal.returns-clause-told
returns-clause-told g c =
    let left = c.read_on.ensures.left (c.in-Ok-false.is ∙ ap Ok c.in-Ok-false.field-0-test) in
    on_ok_weaker c.give.result
    (λ all p here. honest_weaker _ _ _ _ (all _ _ _ (due_here c.args.self.now c.reply.new.self c.in-Ok.answer _ p _ _ (c.reply.ensures.place ∙ c.read_on.ensures.place) (c.reply.ensures.refused ∙ c.read_on.ensures.refused) here (due_left _ _ _ _ left c.in-Ok.ensures.due p here.at)))
    (λ x y. given_said p.progress _ x y (one_made p.division c.args.self.now.line)))
    c.give.ensures.given

pub returns-clause-prefix : goal.returns-clause-prefix
returns-clause-prefix g c =
    let left = c.read_on.ensures.left (c.in-Ok-false.is ∙ ap Ok c.in-Ok-false.field-0-test) in
    if_err_memory _ _ c.give.result c.give.ensures.prefix c.give.ensures.memory
    (λ stop all memory p here. giving_said _ p.progress _ stop _ _ (one_made p.division c.args.self.now.line) here.holds memory
    (all _ _ _ (due_here c.args.self.now c.reply.new.self c.in-Ok.answer _ p _ _ (c.reply.ensures.place ∙ c.read_on.ensures.place) (c.reply.ensures.refused ∙ c.read_on.ensures.refused) here (due_left _ _ _ _ left c.in-Ok.ensures.due p here.at))))
