-- What an answer does to the store, and then its reply.
use Rattle.std.proofs.Common.{◌≡◌, inl, inr, ℕ, ◌+◌, Bool, true, false, List, [], ◌++◌, length, Option, Some, None, ◌||◌, refl, sym, ap, ◌∙◌, subst, append_assoc, arith}
use Rattle.std.specs.Prelude.{nat_eq}
use Rattle.std.specs.Option.{IsSomeAnd}
use Rattle.std.proofs.lemmas.List.{append-nil, length_push}
use Rattle.std.proofs.lemmas.Bool.Decides.{nat_tests}
use Rattle.std.proofs.lemmas.Option.{same_Some}
use Rattle.wot_types.specs.LineByLine.{Position}
use Rattle.wot_types.specs.Numbers.{capped}
use Rattle.wot_types.specs.Session.{Progress}
use Rattle.wot_types.proofs.Capped.{capped_add}
use Rattle.wot_types.specs.Store.{Store}
use Rattle.wot_types.specs.State.{State}
use Rattle.wot_types.specs.declared.edit.Edit.{Edit}
use Rattle.wot_types.specs.Compaction.{compacted_store, last_epoch}
use Rattle.wot_types.specs.Outcome.{edited_store}
use Rattle.wot_types.specs.WellFormedState.{IsWellFormedState}
use Rattle.wot_types.proofs.WellFormedStates.{makes_sound}
use Rattle.wot_journal.specs.Record.{Framed}
use Rattle.wot_answer.specs.Answer.{Does, Leads, is_err, reply_of}
use Rattle.wot_answer.specs.declared.reply.Answer.TheVariants.{Told as Replied}
use Rattle.wot_answer.specs.declared.reply.Effect.{Effect}
use Rattle.wot_answer.specs.declared.reply.Reply.{Reply}
use Rattle.wot_answer.specs.declared.reply.Effect.TheVariants.{Nothing, Append, Compact}
use Rattle.wot_site.specs.Seen.{Honestly, IfHonest, Moment, Seen}
use Rattle.wot_site.specs.Disk.{Disks}
use Rattle.wot_site.specs.Work.{Quiet, Since, Works, moment_of}
use Rattle.wot_site.proofs.Honest.{And, honest_after, honest_then, honest_weaker, honest_with}
use Rattle.wot_site.proofs.Works.{since_then, since_weaker, works_start, works_weaker}
use Rattle.wot_site.specs.Site.{Stays}
use Rattle.wot_store.specs.Appending.{IsRecordHere, IsRecordOf, place_after}
use Rattle.wot_store.specs.Changing.{IsStoredAfter, ShowsEither}
use Rattle.wot_store.specs.Compacting.{IsCompactable, compacted_place}
use Rattle.wot_store.specs.Shows.{IsStored}
use Rattle.wot_store.specs.Written.{Spares, WritesBetween}
use Rattle.wot_store.proofs.Written.{stored_side}
use Rattle.wot_store.specs.declared.place.Place.{Place}
use Rattle.wot_session.specs.SessionState.{Holds, IsDue, IsHere, IsPlace, Performs}
use Rattle.wot_session.specs.declared.session.Session.{Session}
use Rattle.wot_session.specs.declared.stop.Stop.{Stop}
use Rattle.wot_session.specs.declared.stop.Stop.TheVariants.{TellFault}
use Rattle.wot_session.specs.Stop.{IsNoBadStore}
use Rattle.wot_session.specs.CrashImages.{AllShow, AllShowEither, IsAround}
use Rattle.wot_session.specs.Written.{IsAnswered, WritesTo}
use Rattle.wot_tell.specs.Telling.{IsTelling, Telling, TellingPrefix}
use Rattle.wot_session.specs.Answering.{Given, GivenPrefix}
use Rattle.wot_session.proofs.Keeping.{stored_shows}
use Rattle.wot_session.proofs.Compactings.{epoch_moves, place_moves, same_true}
use Rattle.wot_session.proofs.Trails.{writes_still}

-- nothing is done to the store
pub undone : (place : Place) (s t : Store) (seen : Option Seen) → Holds place seen s → Honestly seen seen (ShowsEither s t)
undone place s t None holds = tt
undone place s t (Some x) holds = works_start (AllShowEither s t) x (λ image is. inl (stored_shows s x.disks holds image is))

-- what an effect that is known leads to
pub performs_as : (place : Place) (engine : State) (effect known : Effect) (s t : Store) → effect ≡ known → Performs place engine effect s t → Performs place engine known s t
performs_as place engine effect known s t is performs = subst (λ effect. Performs place engine effect s t) is performs

pub done_by : (place : Place) (engine : State) (effect known : Effect) (s t : Store) → effect ≡ known → Performs place engine effect s t → Does known s t
done_by place engine effect known s t is performs = subst (λ effect. Does effect s t) is performs.does

-- the state after it is sound
pub does_sound : (effect : Effect) (s t : Store) → IsWellFormedState s.state → Does effect s t → IsWellFormedState t.state
does_sound Nothing s t sound same = subst (λ (store : Store). IsWellFormedState store.state) (sym same) sound
does_sound (Append built) s t sound leads =
    subst (λ (store : Store). IsWellFormedState store.state) (sym leads.after) (makes_sound s.state leads.edit sound leads.accepts.allowed leads.payload.proper)
does_sound Compact s t sound same = subst (λ (store : Store). IsWellFormedState store.state) (sym same) sound

-- the record may be appended
record_of : (built : Framed) (s t : Store) (leads : Leads built s t) → IsRecordOf built s leads.edit
record_of built s t leads = record { place = leads.place; spells = leads.payload; allowed = leads.accepts.allowed }

pub leads_next : (place : Place) (built : Framed) (s t : Store) (seen : Option Seen) → Leads built s t → Holds place seen s → IfHonest seen (λ x. IsRecordHere place built x.disks)
leads_next place built s t None leads holds = tt
leads_next place built s t (Some x) leads holds = record { shown = s; edit = leads.edit; stored = holds; record_of = record_of built s t leads }

-- the store after it is another: its journal's end is further on
pub leads_on : (built : Framed) (s t : Store) → Leads built s t → t ≡ s → ⊥
leads_on built s t leads same = omega (arith, ap (λ (store : Store). store.end) (sym leads.after ∙ same))

-- one more, counted from a number that is known as far as 64 bits can tell
capped_more : (n : ℕ) → capped (n + 1) ≡ capped (capped n + 1)
capped_more n = sym (capped_add n 1)

capped_next : (m n : ℕ) → capped m ≡ capped n → capped (capped (capped m + 1)) ≡ capped (n + 1)
capped_next m n same = grind (arith, nat_tests)

-- the place after it is that of the store after it
pub appended_place : (place : Place) (built : Framed) (s t : Store) → IsPlace place s → Leads built s t → IsPlace (place_after place built) t
appended_place place built s t at leads =
    subst (IsPlace (place_after place built)) (sym leads.after) (record {
      epoch = at.epoch;
      end = omega (arith, leads.place, ap length leads.payload.is);
      records = ap capped (capped_more place.records) ∙ capped_next place.records (length s.edits) at.records ∙ ap capped (sym (length_push s.edits leads.edit));
    })

-- what leads the store from the one to the other
abbrev pub Leading : Store → Store → Seen → Seen → Type 0
Leading s t x y = Works (WritesTo s t x.disks) x y

pub nothing_written : (s t : Store) (seen : Option Seen) → Honestly seen seen (Leading s t)
nothing_written s t None = tt
nothing_written s t (Some x) = works_start (WritesTo s t x.disks) x (writes_still s t x.disks)

-- what is written from the place at which a store is open to the one behind a record
writes_between : (place : Place) (built : Framed) (s t : Store) (d e : Disks) → Leads built s t → IsStored place s d
    → WritesBetween place.side place.end ((place_after place built).end + 1) d e → WritesTo s t d e
writes_between place built s t d e leads stored between = record {
  still = λ same. absurd (leads_on built s t leads same);
  some = inr (inl (
    ap (λ (store : Store). store.epoch) leads.after,
    record {
      side = place.side;
      shown = stored_side place s d stored;
      between = subst (λ n. WritesBetween place.side n (t.end + 1) d e) stored.end
          (subst (λ n. WritesBetween place.side place.end (n + 1) d e)
          (appended_place place built s t (record { epoch = stored.epoch; end = stored.end; records = ap capped stored.records }) leads).end between);
    },
  ));
}

pub record_written : (place : Place) (built : Framed) (s t : Store) (a b : Option Seen) → Leads built s t → Holds place a s
    → Honestly a b (λ x y. Works (WritesBetween place.side place.end ((place_after place built).end + 1) x.disks) x y) → Honestly a b (Leading s t)
record_written place built s t a b leads holds written =
    honest_with (λ x. IsStored place s x.disks) (λ x y. Works (WritesBetween place.side place.end ((place_after place built).end + 1) x.disks) x y) (Leading s t) a b holds written
    (λ x y stored works. works_weaker (WritesBetween place.side place.end ((place_after place built).end + 1) x.disks) (WritesTo s t x.disks) x y (λ e. writes_between place built s t x.disks e leads stored) works)

-- what is stored after it
pub appending_is : (built : Framed) (s t : Store) (a b : Option Seen) → Leads built s t
    → ((edit : Edit) → IsRecordOf built s edit → Honestly a b (ShowsEither s (edited_store s edit))) → Honestly a b (ShowsEither s t)
appending_is built s t a b leads all = subst (λ t. Honestly a b (ShowsEither s t)) (sym leads.after) (all leads.edit (record_of built s t leads))

held : (place : Place) (store : Store) (a b : Option Seen) → Honestly a b (IsStoredAfter place store) → Holds place b store
held place store None None appends = tt
held place store None (Some y) appends = absurd appends
held place store (Some x) None appends = absurd appends
held place store (Some x) (Some y) appends = appends

pub appended_is : (place : Place) (built : Framed) (s t : Store) (a b : Option Seen) → Leads built s t
    → ((edit : Edit) → IsRecordOf built s edit → Honestly a b (IsStoredAfter place (edited_store s edit))) → Holds place b t
appended_is place built s t a b leads all = subst (Holds place b) (sym leads.after) (held place _ a b (all leads.edit (record_of built s t leads)))

-- the store may be compacted
compact_state : (place : Place) (engine : State) (s t : Store) → Performs place engine Compact s t → engine ≡ s.state
compact_state place engine s t performs = performs.state ∙ ap (λ (store : Store). store.state) performs.does

pub compact_sound : (place : Place) (engine : State) (s t : Store) → Performs place engine Compact s t → IsWellFormedState engine
compact_sound place engine s t performs = subst IsWellFormedState (sym (compact_state place engine s t performs)) performs.sound

pub compactable : (place : Place) (engine : State) (s t : Store) (seen : Option Seen) → Performs place engine Compact s t → Holds place seen s
    → IfHonest seen (λ x. IsCompactable place engine x.disks)
compactable place engine s t None performs holds = tt
compactable place engine s t (Some x) performs holds = record { shown = s; state = sym (compact_state place engine s t performs); stored = holds }

pub compacted_at : (place : Place) (engine : State) (s t : Store) → Performs place engine Compact s t → IsPlace (compacted_place place engine) t
compacted_at place engine s t performs =
    subst (IsPlace (compacted_place place engine)) (sym performs.does) (place_moves place engine s performs.at (compact_state place engine s t performs))

pub compacted_is : (place : Place) (engine : State) (s t : Store) (a b : Option Seen) → Performs place engine Compact s t → Holds place a s
    → ((shown : Store) → shown.state ≡ engine → Holds place a shown → Honestly a b (IsStoredAfter (compacted_place place engine) (compacted_store shown)))
    → Holds (compacted_place place engine) b t
compacted_is place engine s t a b performs holds all =
    subst (Holds (compacted_place place engine) b) (sym performs.does)
    (held (compacted_place place engine) (compacted_store s) a b (all s (sym (compact_state place engine s t performs)) holds))

pub compacting_is : (place : Place) (engine : State) (s t : Store) (a b : Option Seen) → Performs place engine Compact s t → Holds place a s
    → ((shown : Store) → shown.state ≡ engine → Holds place a shown → Honestly a b (ShowsEither shown (compacted_store shown))) → Honestly a b (ShowsEither s t)
compacting_is place engine s t a b performs holds all =
    subst (λ t. Honestly a b (ShowsEither s t)) (sym performs.does) (all s (sym (compact_state place engine s t performs)) holds)

-- before the last epoch the other side is written, and in it nothing is
writes_other : (place : Place) (s t : Store) (d e : Disks) → (t.epoch ≡ s.epoch → ⊥) → IsStored place s d → Spares place.side d e → WritesTo s t d e
writes_other place s t d e moves stored spared = record {
  still = λ same. absurd (moves (ap (λ (store : Store). store.epoch) same));
  some = inr (inr (moves, record { side = place.side; shown = stored_side place s d stored; spared = spared }));
}

pub side_written : (place : Place) (engine : State) (s t : Store) (a b : Option Seen) → Performs place engine Compact s t → Holds place a s
    → Honestly a b (λ x y. Works (Spares place.side x.disks) x y) → (place.epoch ≡ last_epoch → Honestly a b Stays) → Honestly a b (Leading s t)
side_written place engine s t a b performs holds written unwritten = by_epoch (nat_eq s.epoch last_epoch) refl
  where
    by_epoch : (last : Bool) → nat_eq s.epoch last_epoch ≡ last → Honestly a b (Leading s t)
    by_epoch true is =
        honest_weaker Stays (Leading s t) a b (unwritten (performs.at.epoch ∙ same_true s.epoch last_epoch is))
        (λ x y same. subst (λ y. Leading s t x y) (sym same) (works_start (WritesTo s t x.disks) x (writes_still s t x.disks)))
    by_epoch false is =
        let moves : t.epoch ≡ s.epoch → ⊥ = λ same. epoch_moves s is (ap (λ (store : Store). store.epoch) (sym performs.does) ∙ same) in
        honest_with (λ x. IsStored place s x.disks) (λ x y. Works (Spares place.side x.disks) x y) (Leading s t) a b holds written
        (λ x y stored works. works_weaker (Spares place.side x.disks) (WritesTo s t x.disks) x y (λ e. writes_other place s t x.disks e moves stored) works)

-- a moment before the reply
working_around : (s t : Store) (reply told : List ℕ) (m : Moment) → m.told ≡ told → AllShowEither s t m.disks → IsAround s t reply told m
working_around s t reply told m same either = record {
  prefix = [];
  is_prefix = (reply, refl);
  told = same ∙ sym (append-nil told);
  either = either;
  answered = inr refl;
}

-- a moment while the reply is told
telling_around : {place : Place} (s t : Store) (reply : List ℕ) (x y : Seen) (m : Moment) → y.told ≡ x.told → IsStored place t y.disks → IsTelling y.disks y.told reply m → IsAround s t reply x.told m
telling_around s t reply x y m same stored is =
    let shows : AllShow t m.disks = subst (AllShow t) (sym is.disks) (stored_shows t y.disks stored) in
    record {
      prefix = is.prefix;
      is_prefix = is.is_prefix;
      told = is.told ∙ ap (λ told. told ++ is.prefix) same;
      either = λ image at. inr (shows image at);
      answered = inl shows;
    }

module _ (s t : Store) (reply : List ℕ) (x y : Seen) (works : ShowsEither s t x y) (leading : Leading s t x y) where
  before_reply : Since (IsAround s t reply x.told) x y
  before_reply = since_weaker _ _ x y (λ m at. working_around s t reply x.told m at.told at.disks) works.since

  writing : (left : Disks) → Since (IsAnswered (WritesTo s t x.disks) reply x.told left) x y
  writing left =
      since_weaker (Quiet (WritesTo s t x.disks) x.told) (IsAnswered (WritesTo s t x.disks) reply x.told left) x y
      (λ m at. record { prefix = []; is_prefix = (reply, refl); told = at.told ∙ sym (append-nil x.told); sides = inr (refl, at.disks) }) leading.since

  -- nothing of the reply was told
  pub given_none : (stop : Stop) → IsNoBadStore stop → GivenPrefix s t reply stop x y
  given_none stop sound = record {
    sound = sound;
    told = record {
      prefix = [];
      is_prefix = (reply, refl);
      told = record { told = works.told ∙ sym (append-nil x.told); left = works.left; taken = works.taken; asks = works.asks };
    };
    since = before_reply;
    here = working_around s t reply x.told (moment_of y) works.told works.last;
    writes = writing y.disks;
    last = leading.last;
  }

  module _ {place : Place} (z : Seen) (stored : IsStored place t y.disks) where
    while_told : (prefix : List ℕ) → (rest : List ℕ) × (prefix ++ rest ≡ reply) → (m : Moment) → IsTelling y.disks y.told prefix m → IsAround s t reply x.told m
    while_told prefix (rest, split) m is = telling_around s t reply x y m works.told stored (record {
      disks = is.disks;
      prefix = is.prefix;
      is_prefix = (is.is_prefix.0 ++ rest, sym (append_assoc is.prefix is.is_prefix.0 rest) ∙ ap (λ text. text ++ rest) is.is_prefix.1 ∙ split);
      told = is.told;
    })

    -- telling writes nothing
    then_told : (prefix : List ℕ) → (rest : List ℕ) × (prefix ++ rest ≡ reply) → Telling prefix y z → Since (IsAnswered (WritesTo s t x.disks) reply x.told z.disks) x z
    then_told prefix (rest, split) telling =
        since_then (IsAnswered (WritesTo s t x.disks) reply x.told z.disks) x y z (writing z.disks)
        (since_weaker (IsTelling y.disks y.told prefix) (IsAnswered (WritesTo s t x.disks) reply x.told z.disks) y z
        (λ m is. record {
          prefix = is.prefix;
          is_prefix = (is.is_prefix.0 ++ rest, sym (append_assoc is.prefix is.is_prefix.0 rest) ∙ ap (λ text. text ++ rest) is.is_prefix.1 ∙ split);
          told = is.told ∙ ap (λ told. told ++ is.prefix) works.told;
          sides = inl (is.disks ∙ sym telling.disks);
        }) telling.since)

    -- the reply was told
    pub given_all : Telling reply y z → Given s t reply x z
    given_all telling = record {
      told = record {
        told = telling.told.told ∙ ap (λ told. told ++ reply) works.told;
        left = telling.told.left ∙ works.left;
        taken = telling.told.taken ∙ works.taken;
        asks = telling.told.asks ∙ works.asks;
      };
      since = since_then _ x y z before_reply (since_weaker _ _ y z (while_told reply ([], append-nil reply)) telling.since);
      writes = then_told reply ([], append-nil reply) telling;
      last = subst (WritesTo s t x.disks) (sym telling.disks) leading.last;
    }

    -- a prefix of it
    pub given_prefix : TellingPrefix reply y z → GivenPrefix s t reply TellFault x z
    given_prefix part =
        let telling = part.telling in
        record {
          sound = tt;
          told = record {
            prefix = part.prefix;
            is_prefix = part.is_prefix;
            told = record {
              told = telling.told.told ∙ ap (λ told. told ++ part.prefix) works.told;
              left = telling.told.left ∙ works.left;
              taken = telling.told.taken ∙ works.taken;
              asks = telling.told.asks ∙ works.asks;
            };
          };
          since = since_then _ x y z before_reply (since_weaker _ _ y z (while_told part.prefix part.is_prefix) telling.since);
          here = telling_around s t reply x y (moment_of z) works.told stored
              (record { disks = telling.disks; prefix = part.prefix; is_prefix = part.is_prefix; told = telling.told.told });
          writes = then_told part.prefix part.is_prefix telling;
          last = subst (WritesTo s t x.disks) (sym telling.disks) leading.last;
        }

pub still_holds : (place : Place) (t : Store) (reply : List ℕ) (a b : Option Seen) → Holds place a t → Honestly a b (Telling reply) → Holds place b t
still_holds place t reply a b holds telling =
    honest_after _ (λ z. IsStored place t z.disks) (Telling reply) a b holds telling (λ y z stored told. subst (IsStored place t) (sym told.disks) stored)

-- what is done to the store
abbrev pub Doing : Store → Store → Seen → Seen → Type 0
Doing s t = And (ShowsEither s t) (Leading s t)

-- both steps of a site: the store, and then the reply
module _ (place : Place) (s t : Store) (a b c : Option Seen) (holds : Holds place b t) (does : Honestly a b (Doing s t)) where
  pub giving_all : (text reply : List ℕ) → text ≡ reply → Honestly b c (Telling text) → Honestly a c (Given s t reply)
  giving_all text reply same tells =
      honest_then _ _ _ a b c does
      (honest_with (λ y. IsStored place t y.disks) (Telling text) (λ y z. IsStored place t y.disks × Telling text y z) b c holds tells (λ y z stored tells. (stored, tells)))
      (λ x y z does told. subst (λ reply. Given s t reply x z) same (given_all s t text x y does.0 does.1 z told.0 told.1))

  pub giving_prefix : (text reply : List ℕ) → text ≡ reply → Honestly b c (TellingPrefix text) → Honestly a c (GivenPrefix s t reply TellFault)
  giving_prefix text reply same tells =
      honest_then _ _ _ a b c does
      (honest_with (λ y. IsStored place t y.disks) (TellingPrefix text) (λ y z. IsStored place t y.disks × TellingPrefix text y z) b c holds tells (λ y z stored tells. (stored, tells)))
      (λ x y z does told. subst (λ reply. GivenPrefix s t reply TellFault x z) same (given_prefix s t text x y does.0 does.1 z told.0 told.1))

-- what is known of a site that tells stays known
pub still_known : (K : Type 0) (P : Seen → Seen → Type 0) (a b : Option Seen) → IfHonest a (λ x. K) → Honestly a b P → IfHonest b (λ x. K)
still_known K P a b known step = honest_after (λ x. K) (λ x. K) P a b known step (λ x y known step. known)

-- the place that a session has
pub place_at : (has : Option Place) (place : Place) (store : Store) → has ≡ Some place → IsSomeAnd has (λ place. IsPlace place store) → IsPlace place store
place_at has place store there at = subst (λ has. IsSomeAnd has (λ place. IsPlace place store)) there at

pub holds_there : (has : Option Place) (place other : Place) (seen : Option Seen) (store : Store) → has ≡ Some place → has ≡ Some other → Holds other seen store → Holds place seen store
holds_there has place other seen store there known holds = subst (λ (place : Place). Holds place seen store) (same_Some other place (sym known ∙ there)) holds

-- a reply that is due, by the engine and at the place that the session has
module _ (session : Session) (engine : State) (place : Place) (reply : Reply) (effect : Effect) (p : Progress) (after : Position) (text : List ℕ)
    (is : session.engine ≡ Some engine) (there : session.place ≡ Some place) (due : IsDue session (Replied reply effect) p after text) where
  engine_is : engine ≡ after.progress.store.state
  engine_is = same_Some engine after.progress.store.state (sym is ∙ due.engine)

  pub due_performs : Performs place engine effect p.store after.progress.store
  due_performs = record { at = place_at session.place place p.store there due.place; sound = due.sound; does = due.does; state = engine_is }

  pub due_text : reply_of reply engine ≡ text
  due_text = ap (reply_of reply) engine_is ∙ due.text

  -- it was given
  pub given_here : (new : Place) (refused : Bool) (seen : Option Seen) → refused ≡ (session.refused || is_err reply) → IsPlace new after.progress.store → Holds new seen after.progress.store
      → IfHonest seen (λ s. session.refused ≡ p.refused) → IsHere (record session { place = Some new; refused = refused }) seen after
  given_here new refused seen same at holds known = record {
    at = record {
      engine = due.engine;
      sound = does_sound effect p.store after.progress.store due.sound due.does;
      place = at;
      division = due.division;
    };
    place = new;
    there = refl;
    holds = holds;
    refused = knows seen known;
  }
    where
      knows : (seen : Option Seen) → IfHonest seen (λ s. session.refused ≡ p.refused) → IfHonest seen (λ s. refused ≡ after.progress.refused)
      knows None known = tt
      knows (Some x) known = same ∙ ap (λ b. b || is_err reply) known ∙ sym due.refused
