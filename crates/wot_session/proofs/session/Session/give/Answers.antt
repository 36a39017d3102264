use Rattle.std.proofs.Common.{ℕ, List, OnOk, subst, sym}
use Rattle.wot_types.specs.LineByLine.{Position}
use Rattle.wot_types.specs.Session.{Progress}
use Rattle.wot_session.specs.SessionState.{CanGive, IsDueHere, IsHere}
use Rattle.wot_session.proofs.session.Session.give.Goals as goal

pub give_reply-requires-after_bounds : goal.give_reply-requires-after_bounds
give_reply-requires-after_bounds g c κs within = subst (λ answer. CanGive c.args.self.now answer (g.S.Site.seen c.args.site.now)) c.in-Told.is c.requires

pub give_earlier-requires-after_bounds : goal.give_earlier-requires-after_bounds
give_earlier-requires-after_bounds g c κs within = subst (λ answer. CanGive c.args.self.now answer (g.S.Site.seen c.args.site.now)) c.in-Earlier.is c.requires

pub returns-in-Told-clause-here : goal.returns-in-Told-clause-here
returns-in-Told-clause-here g c =
    subst
    (λ answer. OnOk c.give_reply.result ((p : Progress) (after : Position) (reply : List ℕ) → IsDueHere c.args.self.now answer (g.S.Site.seen c.args.site.now) p after reply
    → IsHere c.give_reply.new.self (g.S.Site.seen c.give_reply.new.site) after)) (sym c.in-Told.is) c.give_reply.ensures.here

pub returns-in-Earlier-clause-here : goal.returns-in-Earlier-clause-here
returns-in-Earlier-clause-here g c =
    subst
    (λ answer. OnOk c.give_earlier.result ((p : Progress) (after : Position) (reply : List ℕ) → IsDueHere c.args.self.now answer (g.S.Site.seen c.args.site.now) p after reply
    → IsHere c.give_earlier.new.self (g.S.Site.seen c.give_earlier.new.site) after)) (sym c.in-Earlier.is) c.give_earlier.ensures.here
