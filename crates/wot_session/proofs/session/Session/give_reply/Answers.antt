use Rattle.std.proofs.Common.{◌≡◌, ◌∙◌, refl, subst, sym}
use Rattle.wot_site.proofs.Honest.{honest_and, honest_weaker}
use Rattle.wot_site.specs.Site.{TellRose}
use Rattle.wot_store.specs.Changing.{ShowsEither}
use Rattle.wot_tell.specs.Telling.{Telling}
use Rattle.wot_session.specs.Ready.{text_of}
use Rattle.wot_session.specs.declared.stop.Stop.TheVariants.{Memory}
use Rattle.wot_session.proofs.Givings.{due_performs, due_text, given_here, given_none, giving_all, giving_prefix, holds_there, nothing_written, still_holds, still_known, undone}
use Rattle.wot_session.proofs.session.Session.give_reply.Goals as goal

pub returns-in-Err-Memory-clause-prefix : goal.returns-in-Err-Memory-clause-prefix
returns-in-Err-Memory-clause-prefix g c p after text due =
    let t = after.progress.store in
    honest_weaker _ _ _ _ (honest_and _ _ _ _ (undone due.place p.store t (g.S.Site.seen c.args.site.now) due.holds) (nothing_written p.store t (g.S.Site.seen c.args.site.now)))
    (λ x y both. given_none p.store t text x y both.0 both.1 Memory tt)

pub do_effect-requires : goal.do_effect-requires
do_effect-requires g c =
    let due = c.requires.3 in
    (c.requires.0.store, c.requires.1.progress.store, due_performs c.args.self.now c.in-Some.engine c.in-Some-take.place c.args.reply c.args.effect c.requires.0 c.requires.1 c.requires.2 c.in-Some.is (sym c.take.ensures.value ∙ c.in-Some-take.is) due.due, holds_there c.args.self.now.place c.in-Some-take.place due.place (g.S.Site.seen c.args.site.now) c.requires.0.store (sym c.take.ensures.value ∙ c.in-Some-take.is) due.there due.holds)

pub returns-in-Err-clause-prefix : goal.returns-in-Err-clause-prefix
returns-in-Err-clause-prefix g c p after text due =
    let t = after.progress.store in
    let performs = due_performs c.args.self.now c.in-Some.engine c.in-Some-take.place c.args.reply c.args.effect p after text c.in-Some.is (sym c.take.ensures.value ∙ c.in-Some-take.is) due.due in
    let holds = holds_there c.args.self.now.place c.in-Some-take.place due.place (g.S.Site.seen c.args.site.now) p.store (sym c.take.ensures.value ∙ c.in-Some-take.is) due.there due.holds in
    honest_weaker _ _ _ _ (honest_and _ _ _ _ (c.do_effect.ensures.any_moment p.store t performs holds) (c.do_effect.ensures.written p.store t performs holds))
    (λ x y both. given_none p.store t text x y both.0 both.1 c.in-Err.stop c.in-Err.ensures.sound)

pub returns-in-Ok-tell_ready-clause-here : goal.returns-in-Ok-tell_ready-clause-here
returns-in-Ok-tell_ready-clause-here g c p after text due =
    let t = after.progress.store in
    let performs = due_performs c.args.self.now c.in-Some.engine c.in-Some-take.place c.args.reply c.args.effect p after text c.in-Some.is (sym c.take.ensures.value ∙ c.in-Some-take.is) due.due in
    let holds = holds_there c.args.self.now.place c.in-Some-take.place due.place (g.S.Site.seen c.args.site.now) p.store (sym c.take.ensures.value ∙ c.in-Some-take.is) due.there due.holds in
    let known = still_known (c.args.self.now.refused ≡ p.refused) (ShowsEither p.store t) (g.S.Site.seen c.args.site.now) (g.S.Site.seen c.do_effect.new.site) due.refused
    (c.do_effect.ensures.any_moment p.store t performs holds) in
    given_here c.args.self.now c.in-Some.engine c.in-Some-take.place c.args.reply c.args.effect p after text c.in-Some.is (sym c.take.ensures.value ∙ c.in-Some-take.is) due.due c.in-Ok-do_effect.after c.is_refused_after-refused.result (g.S.Site.seen c.tell_ready.new.site)
    c.is_refused_after-refused.ensures (c.in-Ok-do_effect.ensures.place p.store t performs)
    (still_holds c.in-Ok-do_effect.after t (text_of c.in-Ok.ready) _ _ (c.in-Ok-do_effect.ensures.holds p.store t performs holds) c.in-Ok-tell_ready.ensures.told)
    (still_known (c.args.self.now.refused ≡ p.refused) (Telling (text_of c.in-Ok.ready)) (g.S.Site.seen c.do_effect.new.site) (g.S.Site.seen c.tell_ready.new.site) known c.in-Ok-tell_ready.ensures.told)

pub returns-in-Ok-tell_ready-clause-given : goal.returns-in-Ok-tell_ready-clause-given
returns-in-Ok-tell_ready-clause-given g c p after text due =
    let t = after.progress.store in
    let performs = due_performs c.args.self.now c.in-Some.engine c.in-Some-take.place c.args.reply c.args.effect p after text c.in-Some.is (sym c.take.ensures.value ∙ c.in-Some-take.is) due.due in
    let holds = holds_there c.args.self.now.place c.in-Some-take.place due.place (g.S.Site.seen c.args.site.now) p.store (sym c.take.ensures.value ∙ c.in-Some-take.is) due.there due.holds in
    giving_all _ p.store t _ _ _ (c.in-Ok-do_effect.ensures.holds p.store t performs holds)
    (honest_and _ _ _ _ (c.do_effect.ensures.any_moment p.store t performs holds) (c.do_effect.ensures.written p.store t performs holds)) (text_of c.in-Ok.ready) text
    (c.in-Ok.ensures ∙ due_text c.args.self.now c.in-Some.engine c.in-Some-take.place c.args.reply c.args.effect p after text c.in-Some.is (sym c.take.ensures.value ∙ c.in-Some-take.is) due.due) c.in-Ok-tell_ready.ensures.told

pub returns-clause-prefix : goal.returns-clause-prefix
returns-clause-prefix g c p after text due =
    let t = after.progress.store in
    let performs = due_performs c.args.self.now c.in-Some.engine c.in-Some-take.place c.args.reply c.args.effect p after text c.in-Some.is (sym c.take.ensures.value ∙ c.in-Some-take.is) due.due in
    let holds = holds_there c.args.self.now.place c.in-Some-take.place due.place (g.S.Site.seen c.args.site.now) p.store (sym c.take.ensures.value ∙ c.in-Some-take.is) due.there due.holds in
    giving_prefix _ p.store t _ _ _ (c.in-Ok-do_effect.ensures.holds p.store t performs holds)
    (honest_and _ _ _ _ (c.do_effect.ensures.any_moment p.store t performs holds) (c.do_effect.ensures.written p.store t performs holds)) (text_of c.in-Ok.ready) text
    (c.in-Ok.ensures ∙ due_text c.args.self.now c.in-Some.engine c.in-Some-take.place c.args.reply c.args.effect p after text c.in-Some.is (sym c.take.ensures.value ∙ c.in-Some-take.is) due.due) c.in-Err-tell_ready.ensures.prefix

pub returns-in-Err-clause-cause : goal.returns-in-Err-clause-cause
returns-in-Err-clause-cause g c =
    let stops = c.in-Err.ensures.cause in
    record { why = record { quiet = tt; cause = stops.why.cause }; kinds = stops.kinds }

pub returns-in-Ok-tell_ready-clause-cause : goal.returns-in-Ok-tell_ready-clause-cause
returns-in-Ok-tell_ready-clause-cause g c =
    let quiet = c.in-Ok-do_effect.ensures.cause.why.quiet in
    record { why = record { quiet = c.in-Ok-tell_ready.ensures.cause.quiet ∙ quiet; cause = tt }; kinds = tt }

pub returns-clause-cause : goal.returns-clause-cause
returns-clause-cause g c =
    let quiet = c.in-Ok-do_effect.ensures.cause.why.quiet in
    record {
      why = record {
        quiet = tt;
        cause = subst (λ faults. TellRose faults (g.S.Site.faults c.tell_ready.new.site)) quiet (c.in-Err-tell_ready.ensures.cause.failed refl);
      };
      kinds = tt;
    }
