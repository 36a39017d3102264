use Rattle.std.proofs.Common.{Err, ap, inl, inr, rules, sym, subst, true, false}
use Rattle.wot_site.proofs.Honest.{honest_and, honest_weaker}
use Rattle.wot_session.specs.Run.{Ran}
use Rattle.wot_session.specs.Words.{WordsEnded}
use Rattle.wot_session.proofs.Openings.{bad_ran, opened_ended, opened_stopped, opened_then, some_opened, stopped_ran, unopened}
use Rattle.wot_session.proofs.program.run_words.Goals as goal

pub returns-in-Err-Bad-clause-ran : goal.returns-in-Err-Bad-clause-ran
returns-in-Err-Bad-clause-ran g c = rw c.in-Err-Bad.bad-is
    (bad_ran c.args.words.now c.in-Err-Bad.bad _ _ (honest_and _ _ _ _ c.open_store.ensures.any_moment c.open_store.ensures.written) (c.in-Err-Bad.ensures.bad c.in-Err-Bad.bad (ap (λ e. Err e) c.in-Err-Bad.field-0-is)))

pub returns-in-Err-DiskFault-clause-ran : goal.returns-in-Err-DiskFault-clause-ran
returns-in-Err-DiskFault-clause-ran g c =
    honest_weaker _ _ _ _ (honest_and _ _ _ _ c.open_store.ensures.any_moment c.open_store.ensures.written) (λ x y both. inl (unopened c.args.words.now x y both.0 both.1))

pub returns-in-Err-Memory-clause-ran : goal.returns-in-Err-Memory-clause-ran
returns-in-Err-Memory-clause-ran g c =
    honest_weaker _ _ _ _ (honest_and _ _ _ _ (honest_and _ _ _ _ c.open_store.ensures.any_moment c.open_store.ensures.written) (c.in-Err-Memory.ensures.memory (ap (λ e. Err e) c.in-Err-Memory.field-0-is)))
    (λ x y both. inr (inl (unopened c.args.words.now x y both.0.0 both.0.1, both.1)))

pub run_opened-requires : goal.run_opened-requires
run_opened-requires g c = (search rules, (search rules, some_opened c.in-Ok.opened _ _ c.in-Ok.ensures.sound c.in-Ok.ensures.opened))

pub returns-in-Ok-true-clause-ran : goal.returns-in-Ok-true-clause-ran
returns-in-Ok-true-clause-ran g c =
    opened_then c.in-Ok.opened _ _ _ _ _ c.in-Ok.ensures.sound (honest_and _ _ _ _ (honest_and _ _ _ _ c.open_store.ensures.any_moment c.in-Ok.ensures.opened) c.open_store.ensures.written) c.in-Ok-true.ensures.ended
    (λ x y z opening opens wrote ended. opened_ended opens.shown c.args.words.now x y opening opens.before opens.stored wrote c.args.most true z
    (subst (λ b. WordsEnded opens.shown c.args.words.now c.args.most b y z) c.in-Ok-true.field-0-test ended))

pub returns-in-Ok-false-clause-ran : goal.returns-in-Ok-false-clause-ran
returns-in-Ok-false-clause-ran g c =
    opened_then c.in-Ok.opened _ _ _ _ _ c.in-Ok.ensures.sound (honest_and _ _ _ _ (honest_and _ _ _ _ c.open_store.ensures.any_moment c.in-Ok.ensures.opened) c.open_store.ensures.written) c.in-Ok-false.ensures.ended
    (λ x y z opening opens wrote ended. opened_ended opens.shown c.args.words.now x y opening opens.before opens.stored wrote c.args.most false z
    (subst (λ b. WordsEnded opens.shown c.args.words.now c.args.most b y z) c.in-Ok-false.field-0-test ended))

pub returns-in-Err-clause-ran : goal.returns-in-Err-clause-ran
returns-in-Err-clause-ran g c =
    opened_then c.in-Ok.opened _ _ _ _ _ c.in-Ok.ensures.sound (honest_and _ _ _ _ (honest_and _ _ _ _ c.open_store.ensures.any_moment c.in-Ok.ensures.opened) c.open_store.ensures.written) c.in-Err.ensures.stopped
    (λ x y z opening opens wrote stopped. subst (λ status. Ran c.args.words.now c.args.most status x z) (sym c.status.ensures)
    (stopped_ran c.args.words.now c.args.most c.in-Err.stop x z stopped.sound (opened_stopped opens.shown c.args.words.now x y opening opens.before opens.stored wrote c.args.most c.in-Err.stop z stopped)))
