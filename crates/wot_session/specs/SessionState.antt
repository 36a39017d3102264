-- How a session's fields stand for how far it has come.
use Rattle.std.specs.Prelude.{◌≡◌, ℕ, Bool, ◌||◌, List, length, Option, Some}
use Rattle.std.specs.Option.{IsSomeAnd}
use Rattle.wot_types.specs.Store.{Store}
use Rattle.wot_types.specs.LineByLine.{Position}
use Rattle.wot_types.specs.Numbers.{capped}
use Rattle.wot_types.specs.Session.{Progress}
use Rattle.wot_types.specs.State.{State}
use Rattle.wot_types.specs.WellFormedState.{IsWellFormedState}
use Rattle.wot_answer.specs.Answer.{Does, IsAsked, IsDivision, answer_text, effect_of, is_refusal}
use Rattle.wot_answer.specs.declared.reply.Answer.{Answer}
use Rattle.wot_answer.specs.declared.division.Division.TheVariants.{Over}
use Rattle.wot_answer.specs.declared.reply.Effect.{Effect}
use Rattle.wot_site.specs.Seen.{Honestly, IfHonest, Seen}
use Rattle.wot_store.specs.Shows.{IsStored}
use Rattle.wot_store.specs.declared.opening.Opened.{Opened}
use Rattle.wot_store.specs.declared.place.Place.{Place}
use Rattle.wot_session.specs.declared.session.Session.{Session}

-- the store's journal ends at this place, and has so many records; their number stops at 2^64 - 1
pub record IsPlace (place : Place) (store : Store) : Type 0 where
  pub epoch : place.epoch ≡ store.epoch
  pub end : place.end ≡ store.end
  pub records : capped place.records ≡ capped (length store.edits)

-- the session has come so far
pub record IsAt (session : Session) (p : Position) : Type 0 where
  pub engine : session.engine ≡ Some p.progress.store.state
  pub sound : IsWellFormedState p.progress.store.state
  pub place : IsSomeAnd session.place (λ place. IsPlace place p.progress.store)
  pub division : IsDivision session.division p.division

-- the site, if it tells, has this store open at this place
abbrev pub Holds : Place → Option Seen → Store → Type 0
Holds place seen store = IfHonest seen (λ s. IsStored place store s.disks)

-- the session knows whether some command was refused. A command that asks of an earlier state is refused by what the store has there,
-- so only a site that tells can say it
abbrev pub KnowsRefused : Session → Option Seen → Bool → Type 0
KnowsRefused session seen refused = IfHonest seen (λ s. session.refused ≡ refused)

-- the session has come so far, and the site's store is its own
pub record IsHere (session : Session) (seen : Option Seen) (p : Position) : Type 0 where
  pub at : IsAt session p
  pub place : Place
  pub there : session.place ≡ Some place
  pub holds : Holds place seen p.progress.store
  pub refused : KnowsRefused session seen p.progress.refused

-- from wherever the session had come, the site went so
abbrev pub FromHere : Session → Option Seen → Option Seen → (Position → Seen → Seen → Type 0) → Type 0
FromHere session before after P = (p : Position) → IsHere session before p → Honestly before after (P p)

-- from wherever the session had come, it has come on to there
abbrev pub MovesTo : Session → Option Seen → Session → Option Seen → (Position → Position) → Type 0
MovesTo session before new after next = (p : Position) → IsHere session before p → IsHere new after (next p)

-- it has come to some point of some input
abbrev pub IsSomewhere : Session → Option Seen → Type 0
IsSomewhere session seen = (p : Position) × IsHere session seen p

-- no further line is read: `quit` was answered, or the input is at its end
abbrev pub IsOver : Session → Type 0
IsOver session = session.division ≡ Over

-- a command was answered with this reply: all but the store has come so far, and the answer leads the store there
pub record IsDue (session : Session) (answer : Answer) (p : Progress) (after : Position) (reply : List ℕ) : Type 0 where
  pub text : answer_text answer after.progress.store ≡ reply
  pub refused : after.progress.refused ≡ (p.refused || is_refusal answer after.progress.store)
  pub asked : IsAsked answer after.progress.store
  pub engine : session.engine ≡ Some after.progress.store.state
  pub sound : IsWellFormedState p.store.state
  pub place : IsSomeAnd session.place (λ place. IsPlace place p.store)
  pub division : IsDivision session.division after.division
  pub does : Does (effect_of answer) p.store after.progress.store

-- the same, where the site's store is the session's own
pub record IsDueHere (session : Session) (answer : Answer) (seen : Option Seen) (p : Progress) (after : Position) (reply : List ℕ) : Type 0 where
  pub due : IsDue session answer p after reply
  pub place : Place
  pub there : session.place ≡ Some place
  pub holds : Holds place seen p.store
  pub refused : KnowsRefused session seen p.refused

-- whatever the answer was due with, the site went so from the one store to the other, with this reply
abbrev pub AsDue : Session → Answer → Option Seen → Option Seen → (Store → Store → List ℕ → Seen → Seen → Type 0) → Type 0
AsDue session answer before after P =
    (p : Progress) (next : Position) (reply : List ℕ) → IsDueHere session answer before p next reply → Honestly before after (P p.store next.progress.store reply)

-- wherever the answer was to lead, the session has come there
abbrev pub ComesWhereDue : Session → Answer → Option Seen → Session → Option Seen → Type 0
ComesWhereDue session answer before new after = (p : Progress) (next : Position) (reply : List ℕ) → IsDueHere session answer before p next reply → IsHere new after next

-- to perform the effect leads the store at this place from the one to the other, whose state the engine has
pub record Performs (place : Place) (engine : State) (effect : Effect) (s t : Store) : Type 0 where
  pub at : IsPlace place s
  pub sound : IsWellFormedState s.state
  pub does : Does effect s t
  pub state : engine ≡ t.state

-- the effect may be performed here
abbrev pub IsReadyFor : Place → State → Effect → Option Seen → Type 0
IsReadyFor place engine effect seen = (s t : Store) × Performs place engine effect s t × Holds place seen s

-- the answer may be given here
abbrev pub CanGive : Session → Answer → Option Seen → Type 0
CanGive session answer seen = (p : Progress) × (after : Position) × (reply : List ℕ) × IsDueHere session answer seen p after reply

-- this store was opened
pub record IsOpened (opened : Opened) (store : Store) : Type 0 where
  pub engine : opened.engine ≡ store.state
  pub sound : IsWellFormedState store.state
  pub place : IsPlace opened.place store
