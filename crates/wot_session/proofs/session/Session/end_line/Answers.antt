use Rattle.std.proofs.Common.{◌≡◌, ℕ, List, Ok, Option, rules, sym, ap, ◌∙◌, subst}
use Rattle.std.proofs.lemmas.Result.{on_ok_weaker}
use Rattle.wot_site.specs.Seen.{Honestly, Seen}
use Rattle.wot_site.proofs.Honest.{honest_weaker}
use Rattle.wot_types.specs.Commands.{made_by}
use Rattle.wot_types.specs.LineByLine.{Position, after_line}
use Rattle.wot_session.specs.declared.session.Session.{Session}
use Rattle.wot_session.specs.OpenLine.{more}
use Rattle.wot_session.specs.SessionState.{IsAt, IsHere}
use Rattle.wot_session.specs.Answering.{Said, SaidPrefix}
use Rattle.wot_session.proofs.Feeds.{here_as, start_said}
use Rattle.wot_session.proofs.Outcomes.{if_err_weaker}
use Rattle.wot_session.proofs.Sayings.{no_memory}
use Rattle.wot_session.proofs.session.Session.end_line.Goals as goal

-- a session that no block changed, and which holds the bytes behind the open line
module _ (old read held : Session) (bytes : List ℕ) (left : read ≡ old) (line : held.line ≡ more read.line bytes) (at : (p : Position) → IsAt read p → IsAt held p) (place : held.place ≡ read.place) (refused : held.refused ≡ read.refused) where
  held_line : held.line ≡ more old.line bytes
  held_line = subst (λ (session : Session). held.line ≡ more session.line bytes) left line

  held_here : (seen : Option Seen) (p : Position) → IsHere old seen p → IsHere held seen p
  held_here seen p here =
      here_as old held seen p (subst (λ (session : Session). held.place ≡ session.place) left place) (subst (λ (session : Session). held.refused ≡ session.refused) left refused)
      (subst (λ (session : Session). (q : Position) → IsAt session q → IsAt held q) left at p here.at) here

pub returns-in-Ok-true-clause-told : goal.returns-in-Ok-true-clause-told
returns-in-Ok-true-clause-told g c p here =
    let none = c.read_whole.ensures.quiet (c.in-Ok-true.is ∙ ap Ok c.in-Ok-true.field-0-test) p here.at in
    honest_weaker _ _ _ _ (start_said _ p _ here.holds) (λ x y said. subst (λ commands. Said p.progress commands x y) (sym none) said)

pub returns-in-Err-Memory-clause-prefix : goal.returns-in-Err-Memory-clause-prefix
returns-in-Err-Memory-clause-prefix g c p here = no_memory _ p.progress _ _ here.holds

pub returns-in-Err-Memory-hold-clause-prefix : goal.returns-in-Err-Memory-hold-clause-prefix
returns-in-Err-Memory-hold-clause-prefix g c p here = no_memory _ p.progress _ _ here.holds

pub answer-requires : goal.answer-requires
answer-requires g c =
    let left = c.read_whole.ensures.left (c.in-Ok-false.is ∙ ap Ok c.in-Ok-false.field-0-test) in
    let here = held_here _ _ c.hold.new.self c.args.bytes.now left c.in_default.ensures.line c.hold.ensures.at c.hold.ensures.place c.hold.ensures.refused _ c.requires.0 c.requires.1 in
    (search rules, (search rules, (_, here)))

pub returns-clause-at : goal.returns-clause-at
returns-clause-at g c =
    let left = c.read_whole.ensures.left (c.in-Ok-false.is ∙ ap Ok c.in-Ok-false.field-0-test) in
    let line = held_line _ _ c.hold.new.self c.args.bytes.now left c.in_default.ensures.line c.hold.ensures.at c.hold.ensures.place c.hold.ensures.refused in
    let held = held_here _ _ c.hold.new.self c.args.bytes.now left c.in_default.ensures.line c.hold.ensures.at c.hold.ensures.place c.hold.ensures.refused in
    on_ok_weaker c.answer.result (λ all p here. subst (λ line. IsHere c.answer.new.self (g.S.Site.seen c.answer.new.site) (after_line p line)) line (all p (held _ p here))) c.answer.ensures.at

pub returns-clause-told : goal.returns-clause-told
returns-clause-told g c =
    let left = c.read_whole.ensures.left (c.in-Ok-false.is ∙ ap Ok c.in-Ok-false.field-0-test) in
    let line = held_line _ _ c.hold.new.self c.args.bytes.now left c.in_default.ensures.line c.hold.ensures.at c.hold.ensures.place c.hold.ensures.refused in
    let held = held_here _ _ c.hold.new.self c.args.bytes.now left c.in_default.ensures.line c.hold.ensures.at c.hold.ensures.place c.hold.ensures.refused in
    on_ok_weaker c.answer.result (λ all p here. subst (λ line. Honestly (g.S.Site.seen c.args.site.now) (g.S.Site.seen c.answer.new.site) (Said p.progress (made_by p.division line))) line (all p (held _ p here))) c.answer.ensures.told

pub returns-clause-prefix : goal.returns-clause-prefix
returns-clause-prefix g c =
    let left = c.read_whole.ensures.left (c.in-Ok-false.is ∙ ap Ok c.in-Ok-false.field-0-test) in
    let line = held_line _ _ c.hold.new.self c.args.bytes.now left c.in_default.ensures.line c.hold.ensures.at c.hold.ensures.place c.hold.ensures.refused in
    let held = held_here _ _ c.hold.new.self c.args.bytes.now left c.in_default.ensures.line c.hold.ensures.at c.hold.ensures.place c.hold.ensures.refused in
    if_err_weaker _ _ c.answer.result c.answer.ensures.prefix
    (λ stop all p here. subst (λ line. Honestly (g.S.Site.seen c.args.site.now) (g.S.Site.seen c.answer.new.site) (SaidPrefix p.progress (made_by p.division line) stop)) line (all p (held _ p here)))
