-- One call of `take`, and then the replies to the lines of its bytes.
use Rattle.std.proofs.Common.{◌≡◌, ◌⊎◌, inl, inr, ℕ, ◌+◌, ◌<◌, ◌≤◌, List, [], ◌∷◌, ◌++◌, length, take, drop, Option, refl, sym, ap, ◌∙◌, subst, arith}
use Rattle.std.specs.Prelude.{min}
use Rattle.std.proofs.Math.Nat.{min-le_left, min-le_right}
use Rattle.std.proofs.lemmas.List.{append-nil, take-take, take-append-drop, length-take-le}
use Rattle.wot_types.specs.Store.{Store}
use Rattle.wot_types.specs.Commands.Division.{over}
use Rattle.wot_types.specs.LineByLine.{Position}
use Rattle.wot_types.specs.Session.{after_all, replies}
use Rattle.wot_site.specs.Seen.{Honestly, Seen}
use Rattle.wot_site.specs.Site.{Takes, TakesNothing, asked_at}
use Rattle.wot_site.specs.Work.{Since, moment_of}
use Rattle.wot_site.proofs.Honest.{honest_after}
use Rattle.wot_store.specs.Shows.{IsStored}
use Rattle.wot_store.specs.declared.place.Place.{Place}
use Rattle.wot_types.specs.Commands.{Command}
use Rattle.std.proofs.lemmas.List.Elements.{All-nil}
use Rattle.wot_session.specs.declared.stop.Stop.{Stop}
use Rattle.wot_session.specs.declared.stop.Stop.TheVariants.{BadStore, DiskFault, ReadFault, TellFault, Memory, TooLong}
use Rattle.wot_session.specs.declared.session.Session.{Session}
use Rattle.wot_session.specs.SessionState.{Holds, IsHere}
use Rattle.wot_session.specs.CrashImages.{IsWhole, Kept}
use Rattle.wot_session.specs.Written.{Written}
use Rattle.wot_session.specs.Answering.{IsAnswering, Said, SaidPrefix}
use Rattle.wot_session.specs.Turn.{IsBetween, StoppedTurn, TookAll, Turned, commands_fed, division_fed}
use Rattle.wot_session.proofs.Keeping.{kept_here, stored_shows, whole_all, whole_here, whole_kept}
use Rattle.wot_session.proofs.Trails.{written_later, written_still}

-- `take` leaves the store
disks_asked : (place : Place) (store : Store) (x y : Seen) → IsStored place store x.disks → TakesNothing x y → IsStored place store y.disks
disks_asked place store x y stored (inl noted) = subst (λ (s : Seen). IsStored place store s.disks) (sym noted) stored
disks_asked place store x y stored (inr stays) = subst (λ (s : Seen). IsStored place store s.disks) (sym stays) stored

still_taken : (place : Place) (store : Store) (n : ℕ) (buf : List ℕ) (a b : Option Seen) → Holds place a store → Honestly a b (Takes n buf) → Holds place b store
still_taken place store n buf a b holds takes =
    honest_after _ (λ y. IsStored place store y.disks) (Takes n buf) a b holds takes (λ x y stored took. subst (λ (s : Seen). IsStored place store s.disks) (sym took.after) stored)

-- why answering stops is no fault of reading and no bound
pub no_read : (stop : Stop) → IsAnswering stop → stop ≡ ReadFault → ⊥
no_read ReadFault kind is = kind
no_read TellFault kind is = cc
no_read DiskFault kind is = cc
no_read (BadStore bad) kind is = cc
no_read Memory kind is = cc
no_read TooLong kind is = cc

pub no_long : (stop : Stop) → IsAnswering stop → stop ≡ TooLong → ⊥
no_long ReadFault kind is = cc
no_long TellFault kind is = cc
no_long DiskFault kind is = cc
no_long (BadStore bad) kind is = cc
no_long Memory kind is = cc
no_long TooLong kind is = kind

pub is_memory : (stop : Stop) → IsAnswering stop → IsBetween stop → stop ≡ Memory
is_memory stop kind (inl read) = absurd (no_read stop kind read)
is_memory stop kind (inr (inl long)) = absurd (no_long stop kind long)
is_memory stop kind (inr (inr memory)) = memory

-- reading failed
pub turn_failed : {place : Place} (p : Position) (line : Option (List ℕ)) (room : ℕ) (x y : Seen) → IsStored place p.progress.store x.disks → TakesNothing x y
    → StoppedTurn p line room ReadFault x y
turn_failed p line room x y stored nothing =
    let after = disks_asked _ p.progress.store x y stored nothing in
    let commands = commands_fed p line [] in
    record {
      sound = tt;
      piece = [];
      input = (x.left, refl);
      text = [];
      is_prefix = (replies p.progress commands, refl);
      told = told_same nothing ∙ sym (append-nil x.told);
      asks = asks_same nothing;
      read_fault = λ _. (taken_same nothing, told_same nothing);
      too_long = λ other. cc;
      since = record {
        first = kept_here p.progress commands x.told (moment_of x) refl (stored_shows _ x.disks stored);
        moments = [];
        is = moments_same nothing ∙ sym (append-nil x.moments);
        each = All-nil _;
      };
      here = kept_here p.progress commands x.told (moment_of y) (told_same nothing) (stored_shows _ y.disks after);
      whole = λ _. whole_here p.progress commands x.told y (told_same nothing) after;
      written = written_still p.progress commands x y (disks_same nothing) (moments_same nothing);
    }
  where
    told_same : TakesNothing x y → y.told ≡ x.told
    told_same (inl noted) = ap (λ (s : Seen). s.told) noted
    told_same (inr stays) = ap (λ (s : Seen). s.told) stays

    taken_same : TakesNothing x y → y.taken ≡ x.taken
    taken_same (inl noted) = ap (λ (s : Seen). s.taken) noted
    taken_same (inr stays) = ap (λ (s : Seen). s.taken) stays

    asks_same : TakesNothing x y → (y.asks ≡ x.asks ++ asked_at x ∷ []) ⊎ (y.asks ≡ x.asks)
    asks_same (inl noted) = inl (ap (λ (s : Seen). s.asks) noted)
    asks_same (inr stays) = inr (ap (λ (s : Seen). s.asks) stays)

    moments_same : TakesNothing x y → y.moments ≡ x.moments
    moments_same (inl noted) = ap (λ (s : Seen). s.moments) noted
    moments_same (inr stays) = ap (λ (s : Seen). s.moments) stays

    disks_same : TakesNothing x y → y.disks ≡ x.disks
    disks_same (inl noted) = ap (λ (s : Seen). s.disks) noted
    disks_same (inr stays) = ap (λ (s : Seen). s.disks) stays

module _ (n : ℕ) (buf : List ℕ) {x y : Seen} (takes : Takes n buf x y) where
  -- the first bytes of the buffer are the first of the input
  piece_is : (m : ℕ) → m ≤ n → take m buf ≡ take m x.left
  piece_is m within = sym (take-take m n buf within) ∙ ap (take m) takes.front ∙ take-take m n x.left within

  piece_rest : (m : ℕ) → m ≤ n → take m buf ++ drop m x.left ≡ x.left
  piece_rest m within = ap (λ front. front ++ drop m x.left) (piece_is m within) ∙ take-append-drop m x.left

  told_same : y.told ≡ x.told
  told_same = ap (λ (s : Seen). s.told) takes.after

  -- what came after the call, from before it
  from_before : (p : Position) (commands : List Command) (z : Seen) → Since (Kept p.progress commands y.told) y z → Since (Kept p.progress commands x.told) x z
  from_before p commands z =
      subst (λ (y : Seen). Since (Kept p.progress commands y.told) y z → Since (Kept p.progress commands x.told) x z) (sym takes.after)
      (λ since. record { first = since.first; moments = since.moments; is = since.is; each = since.each })

  -- `take` writes nothing
  written_before : (p : Position) (commands : List Command) (z : Seen) → Written p.progress commands y z → Written p.progress commands x z
  written_before p commands z written =
      written_later p.progress commands x y z told_same (ap (λ (s : Seen). s.disks) takes.after) (ap (λ (s : Seen). s.moments) takes.after) written

  module _ (m : ℕ) (within : m ≤ n) (p : Position) (line : Option (List ℕ)) where
    -- the lines of the first bytes that came were answered: of all, or up to `quit`
    pub turn_read : (z : Seen) → 0 < length buf → n ≤ length buf → (n ≡ m) ⊎ (division_fed p line (take m buf) ≡ over)
        → Said p.progress (commands_fed p line (take m buf)) y z → Turned p line (take m buf) x z
    turn_read z some fits all said =
        let size : length (take m buf) ≡ m = length-take-le m buf (omega (arith, within, fits)) in
        let left : z.left ≡ drop n x.left = said.told.left ∙ ap (λ (s : Seen). s.left) takes.after in
        let taken : z.taken ≡ x.taken + n = said.told.taken ∙ ap (λ (s : Seen). s.taken) takes.after in
        record {
          input = (drop m x.left, piece_rest m within);
          taken = omega (arith, size, taken, within);
          took = took_all size left taken all;
          told = said.told.told ∙ ap (λ told. told ++ replies p.progress (commands_fed p line (take m buf))) told_same;
          asks = said.told.asks ∙ ap (λ (s : Seen). s.asks) takes.after;
          since = from_before p (commands_fed p line (take m buf)) z said.since;
          written = written_before p (commands_fed p line (take m buf)) z said.written;
        }
      where
        took_all : length (take m buf) ≡ m → z.left ≡ drop n x.left → z.taken ≡ x.taken + n → (n ≡ m) ⊎ (division_fed p line (take m buf) ≡ over)
            → TookAll (take m buf) x z ⊎ (division_fed p line (take m buf) ≡ over)
        took_all size left taken (inl same) = inl (record {
          input = sym (piece_rest m within) ∙ ap (λ k. take m buf ++ drop k x.left) (sym same) ∙ ap (λ left. take m buf ++ left) (sym left);
          taken = omega (arith, taken, same, size);
          last = λ none. takes.last (same ∙ sym size ∙ ap length none) some;
        })
        took_all size left taken (inr ended) = inr ended

    -- it stopped while it answered them
    pub turn_broken : (room : ℕ) (stop : Stop) (z : Seen) → IsAnswering stop
        → SaidPrefix p.progress (commands_fed p line (take m buf)) stop y z → StoppedTurn p line room stop x z
    turn_broken room stop z kind said = record {
      sound = said.sound;
      piece = take m buf;
      input = (drop m x.left, piece_rest m within);
      text = said.told.prefix;
      is_prefix = said.told.is_prefix;
      told = said.told.told.told ∙ ap (λ told. told ++ said.told.prefix) told_same;
      asks = inl (said.told.told.asks ∙ ap (λ (s : Seen). s.asks) takes.after);
      read_fault = λ is. absurd (no_read stop kind is);
      too_long = λ is. absurd (no_long stop kind is);
      since = from_before p (commands_fed p line (take m buf)) z said.since;
      here = subst (λ told. Kept p.progress (commands_fed p line (take m buf)) told (moment_of z)) told_same said.here;
      whole = λ between. subst (λ told. IsWhole p.progress (commands_fed p line (take m buf)) told z) told_same (said.whole (is_memory stop kind between));
      written = written_before p (commands_fed p line (take m buf)) z said.written;
    }

    -- more bytes came than there is room for, and no `quit` among those that there is room for
    pub turn_long : {place : Place} (z : Seen) → m < n → (division_fed p line (take m buf) ≡ over → ⊥)
        → IsStored place (after_all p.progress (commands_fed p line (take m buf))).store z.disks
        → Said p.progress (commands_fed p line (take m buf)) y z → StoppedTurn p line m TooLong x z
    turn_long z less goes stored said =
        let commands = commands_fed p line (take m buf) in
        let told = said.told.told ∙ ap (λ told. told ++ replies p.progress commands) told_same in
        let whole = whole_all p.progress commands x.told z told stored in
        record {
          sound = tt;
          piece = take m buf;
          input = (drop m x.left, piece_rest m within);
          text = replies p.progress commands;
          is_prefix = ([], append-nil (replies p.progress commands));
          told = told;
          asks = inl (said.told.asks ∙ ap (λ (s : Seen). s.asks) takes.after);
          read_fault = λ other. cc;
          too_long = λ _. (
            omega (arith, takes.within, less),
            omega (arith, said.told.taken, ap (λ (s : Seen). s.taken) takes.after, less),
            told ∙ ap (λ piece. x.told ++ replies p.progress (commands_fed p line piece)) (piece_is m within),
            λ ended. goes (ap (division_fed p line) (piece_is m within) ∙ ended),
          );
          since = from_before p commands z said.since;
          here = whole_kept p.progress commands x.told z whole;
          whole = λ _. whole;
          written = written_before p (commands_fed p line (take m buf)) z said.written;
        }

pub few : (n room m : ℕ) → m ≡ min n room → m ≤ n
few n room m is = omega (arith, is, min-le_left n room)

pub few_room : (n room m : ℕ) → m ≡ min n room → m ≤ room
few_room n room m is = omega (arith, is, min-le_right n room)

-- fewer than came: just so many as there is room for
pub less_room : (n room m : ℕ) → m ≡ min n room → m < n → m ≡ room
less_room n room m is less = grind (arith, is)

-- a session stays where it is
pub taken_here : (session : Session) (p : Position) (n : ℕ) (buf : List ℕ) (a b : Option Seen) → IsHere session a p → Honestly a b (Takes n buf) → IsHere session b p
taken_here session p n buf a b here takes = record {
  at = here.at;
  place = here.place;
  there = here.there;
  holds = still_taken here.place p.progress.store n buf a b here.holds takes;
  refused = honest_after (λ x. session.refused ≡ p.progress.refused) (λ y. session.refused ≡ p.progress.refused) (Takes n buf) a b here.refused takes (λ x y known took. known);
}

-- no fewer than came: all of it
pub all_read : (n room m : ℕ) → m ≡ min n room → n ≤ m → n ≡ m
all_read n room m is all = omega (arith, is, min-le_left n room, all)
