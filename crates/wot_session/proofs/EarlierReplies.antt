-- An earlier state that was read, and the reply to a query of it.
use Rattle.std.proofs.Common.{◌≡◌, ℕ, ◌≤◌, Bool, ◌||◌, List, length, Option, Some, None, Result, Ok, Err, refl, sym, ap, ap₂, ◌∙◌, subst}
use Rattle.wot_types.specs.declared.query.Query.{Query}
use Rattle.wot_types.specs.EarlierStates.{earlier_state}
use Rattle.wot_types.specs.LineByLine.{Position}
use Rattle.wot_types.specs.Outcome.{outcome_in}
use Rattle.wot_types.specs.Session.{Progress}
use Rattle.wot_types.specs.State.{State}
use Rattle.wot_types.specs.Store.{Store}
use Rattle.wot_types.specs.WellFormedState.{IsWellFormedState}
use Rattle.wot_site.specs.Seen.{Honestly, IfHonest, Seen}
use Rattle.wot_site.specs.Site.{Stays}
use Rattle.wot_site.specs.declared.side.Side.{Side}
use Rattle.wot_site.proofs.Honest.{honest_and, honest_then, honest_with}
use Rattle.wot_tell.specs.Telling.{Telling, TellingPrefix}
use Rattle.wot_answer.specs.Answer.{is_err, reply_of}
use Rattle.wot_answer.specs.declared.reply.Answer.TheVariants.{Earlier}
use Rattle.wot_answer.specs.declared.reply.Reply.{Reply}
use Rattle.wot_history.specs.History.{IsEarlier}
use Rattle.wot_history.specs.declared.error.HistoryError.{HistoryError}
use Rattle.wot_history.specs.declared.error.HistoryError.TheVariants as why
use Rattle.wot_store.specs.Changing.{ShowsEither}
use Rattle.wot_store.specs.Shows.{IsStored}
use Rattle.wot_store.specs.declared.place.Place.{Place}
use Rattle.wot_session.specs.Answering.{Given, GivenPrefix}
use Rattle.wot_session.specs.Earlier.{RepliesIn, unread_state}
use Rattle.wot_session.specs.SessionState.{Holds, IsDueHere, IsHere, IsPlace}
use Rattle.wot_session.specs.Stop.{IsNoBadStore}
use Rattle.wot_session.specs.declared.session.Session.{Session}
use Rattle.wot_session.specs.declared.stop.Stop.{Stop}
use Rattle.wot_session.specs.declared.stop.Stop.TheVariants.{TellFault}
use Rattle.wot_session.proofs.Givings.{Doing, Leading, given_none, giving_all, giving_prefix, holds_there, nothing_written, place_at, still_holds, undone}

-- ---- reading it

module _ (place : Place) (s : Store) (n : ℕ) where
  -- what is read where the store is open
  earlier_is : (seen : Option Seen) (result found : Result State HistoryError) → result ≡ found → Holds place seen s → IfHonest seen (λ x. IsStored place s x.disks → IsEarlier s n result)
      → IfHonest seen (λ x. IsEarlier s n found)
  earlier_is None result found same holds known = tt
  earlier_is (Some x) result found same holds known = subst (IsEarlier s n) same (known holds)

  -- the state that was read is the earlier one: the reply there is that of the query
  pub replies_there : (seen : Option Seen) (query : Query) (result : Result State HistoryError) (engine found : State) (reply : Reply) → result ≡ Ok engine → Holds place seen s
      → IfHonest seen (λ x. IsStored place s x.disks → IsEarlier s n result) → found ≡ engine
      → reply_of reply engine ≡ (outcome_in engine query).text → is_err reply ≡ (outcome_in engine query).refused
      → IfHonest seen (λ x. RepliesIn (earlier_state s n) query found reply)
  replies_there seen query result engine found reply is holds known same text refused = told seen (earlier_is seen result (Ok engine) is holds known)
    where
      replies : engine ≡ earlier_state s n → RepliesIn (earlier_state s n) query found reply
      replies state = record {
        text = ap (reply_of reply) same ∙ text ∙ ap (λ (t : State). (outcome_in t query).text) state;
        refused = refused ∙ ap (λ (t : State). (outcome_in t query).refused) state;
      }

      told : (seen : Option Seen) → IfHonest seen (λ x. engine ≡ earlier_state s n) → IfHonest seen (λ x. RepliesIn (earlier_state s n) query found reply)
      told None known = tt
      told (Some x) known = replies known

  -- it isn't read for want of memory or by a fault of the disk alone
  pub reads_sound : (seen : Option Seen) (side : Side) (result : Result State HistoryError) (fault : HistoryError) (stop : Stop) → result ≡ Err fault → stop ≡ unread_state side fault → Holds place seen s
      → IfHonest seen (λ x. IsStored place s x.disks → IsEarlier s n result) → IfHonest seen (λ x. IsNoBadStore stop)
  reads_sound seen side result fault stop is told holds known = sound seen (earlier_is seen result (Err fault) is holds known)
    where
      no_bad : (fault : HistoryError) → IsEarlier s n (Err fault) → IsNoBadStore (unread_state side fault)
      no_bad why.DiskFault known = tt
      no_bad why.Memory known = tt
      no_bad (why.Short at) known = absurd known
      no_bad (why.Seal page) known = absurd known
      no_bad why.Spelling known = absurd known
      no_bad (why.Lost number) known = absurd known
      no_bad (why.BadPayload number) known = absurd known
      no_bad (why.BadEdit number) known = absurd known

      sound : (seen : Option Seen) → IfHonest seen (λ x. IsEarlier s n (Err fault)) → IfHonest seen (λ x. IsNoBadStore stop)
      sound None known = tt
      sound (Some x) known = subst IsNoBadStore (sym told) (no_bad fault known)

-- a stop that is known to be none by a fault of the store is so on a site that tells
pub known_sound : (stop : Stop) → IsNoBadStore stop → (seen : Option Seen) → IfHonest seen (λ x. IsNoBadStore stop)
known_sound stop sound None = tt
known_sound stop sound (Some x) = sound

-- ---- giving the reply

-- a query of an earlier state that is due at the place that the session has: the store stays
module _ (session : Session) (place : Place) (n : ℕ) (query : Query) (a : Option Seen) (p : Progress) (after : Position) (text : List ℕ)
    (there : session.place ≡ Some place) (due : IsDueHere session (Earlier n query) a p after text) where
  still : after.progress.store ≡ p.store
  still = due.due.does

  holds : Holds place a p.store
  holds = holds_there session.place place due.place a p.store there due.there due.holds

  -- the store that is open has so many edits
  pub open_there : Holds place a after.progress.store
  open_there = subst (Holds place a) (sym still) holds

  pub many : n ≤ length after.progress.store.edits
  many = due.due.asked.0

  -- the reply is that of the query there
  abbrev pub RepliesThere : State → Reply → Type 0
  RepliesThere engine reply = RepliesIn (earlier_state after.progress.store n) query engine reply

  -- nothing was written
  doing : (b : Option Seen) → Honestly a b Stays → Honestly a b (Doing p.store after.progress.store)
  doing b stays =
      honest_then (Doing p.store after.progress.store) Stays (Doing p.store after.progress.store) a a b
      (honest_and (ShowsEither p.store after.progress.store) (Leading p.store after.progress.store) a a
      (undone place p.store after.progress.store a holds) (nothing_written p.store after.progress.store a)) stays
      (λ x y z done same. subst (Doing p.store after.progress.store x) (sym same) done)

  still_there : (b : Option Seen) → Honestly a b Stays → Holds place b after.progress.store
  still_there b stays = stays_open a b open_there stays
    where
      stays_open : (a b : Option Seen) → Holds place a after.progress.store → Honestly a b Stays → Holds place b after.progress.store
      stays_open None None holds stays = tt
      stays_open None (Some y) holds stays = absurd stays
      stays_open (Some x) None holds stays = absurd stays
      stays_open (Some x) (Some y) holds stays = subst (λ (s : Seen). IsStored place after.progress.store s.disks) (sym stays) holds

  -- it stopped before the reply
  pub earlier_stopped : (b : Option Seen) (stop : Stop) → IfHonest a (λ x. IsNoBadStore stop) → Honestly a b Stays → Honestly a b (GivenPrefix p.store after.progress.store text stop)
  earlier_stopped b stop sound stays =
      honest_with (λ x. IsNoBadStore stop) (Doing p.store after.progress.store) (GivenPrefix p.store after.progress.store text stop) a b sound (doing b stays)
      (λ x y sound done. given_none p.store after.progress.store text x y done.0 done.1 stop sound)

  module _ (b c : Option Seen) (engine : State) (reply : Reply) (ready : List ℕ) (stays : Honestly a b Stays) (replies : IfHonest a (λ x. RepliesThere engine reply)) (is : ready ≡ reply_of reply engine) where
    ready_text : RepliesThere engine reply → ready ≡ text
    ready_text replies = is ∙ replies.text ∙ due.due.text

    -- the reply was told
    pub earlier_given : Honestly b c (Telling ready) → Honestly a c (Given p.store after.progress.store text)
    earlier_given tells =
        honest_with (λ x. RepliesThere engine reply) (Given p.store after.progress.store ready) (Given p.store after.progress.store text) a c replies
        (giving_all place p.store after.progress.store a b c (still_there b stays) (doing b stays) ready ready refl tells)
        (λ x z replies given. subst (λ text. Given p.store after.progress.store text x z) (ready_text replies) given)

    -- a prefix of it
    pub earlier_prefix : Honestly b c (TellingPrefix ready) → Honestly a c (GivenPrefix p.store after.progress.store text TellFault)
    earlier_prefix tells =
        honest_with (λ x. RepliesThere engine reply) (GivenPrefix p.store after.progress.store ready TellFault) (GivenPrefix p.store after.progress.store text TellFault) a c replies
        (giving_prefix place p.store after.progress.store a b c (still_there b stays) (doing b stays) ready ready refl tells)
        (λ x z replies given. subst (λ text. GivenPrefix p.store after.progress.store text TellFault x z) (ready_text replies) given)

    -- the session stays where it was, and knows whether the query was refused
    pub earlier_here : (refused : Bool) → refused ≡ (session.refused || is_err reply) → Honestly b c (Telling ready) → IsHere (record session { place = Some place; refused = refused }) c after
    earlier_here refused same tells = record {
      at = record {
        engine = due.due.engine;
        sound = subst (λ (s : Store). IsWellFormedState s.state) (sym still) due.due.sound;
        place = subst (IsPlace place) (sym still) (place_at session.place place p.store there due.due.place);
        division = due.due.division;
      };
      place = place;
      there = refl;
      holds = still_holds place after.progress.store ready b c (still_there b stays) tells;
      refused = knows a b c due.refused replies stays tells;
    }
      where
        knows : (a b c : Option Seen) → IfHonest a (λ x. session.refused ≡ p.refused) → IfHonest a (λ x. RepliesThere engine reply) → Honestly a b Stays → Honestly b c (Telling ready)
            → IfHonest c (λ x. refused ≡ after.progress.refused)
        knows a b None known replies stays tells = tt
        knows a None (Some z) known replies stays tells = absurd tells
        knows None (Some y) (Some z) known replies stays tells = absurd stays
        knows (Some x) (Some y) (Some z) known replies stays tells = same ∙ ap₂ (λ u v. u || v) known replies.refused ∙ sym due.due.refused
