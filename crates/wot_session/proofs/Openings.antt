-- The opening, and then the session.
use Rattle.std.proofs.Common.{◌≡◌, ◌⊎◌, inl, inr, ℕ, Bool, true, false, List, [], ◌∷◌, ◌++◌, length, map, if◌then◌else◌, Option, Some, None, refl, sym, ap, ◌∙◌, subst, append_assoc, ◌==◌}
use Rattle.std.specs.Prelude.{replicate}
use Rattle.std.proofs.lemmas.List.{append-nil, length-replicate}
use Rattle.std.proofs.lemmas.List.Elements.{All-append, All-nil, All-weaker}
use Rattle.wot_types.specs.declared.edit.Edit.TheVariants.{Date}
use Rattle.wot_types.specs.Grammar.{has_block}
use Rattle.wot_types.specs.Numbers.{capped}
use Rattle.wot_types.specs.WellFormedState.{IsWellFormedState}
use Rattle.wot_types.specs.Lines.{lines, read_line}
use Rattle.wot_types.specs.Store.{Store}
use Rattle.wot_types.specs.Commands.{Command, begun_command, commands_from, first_division, takes_input}
use Rattle.wot_types.specs.LineByLine.{Position, at_first}
use Rattle.wot_types.specs.Session.{Progress, after_all, at_start, commands_of, output_of, replies}
use Rattle.wot_site.specs.Disk.{Disks, Image, reads_of}
use Rattle.wot_site.specs.Seen.{Honestly, Moment, Seen}
use Rattle.wot_site.specs.Work.{Quiet, Since, Works, moment_of}
use Rattle.wot_site.proofs.Works.{since_then, since_weaker}
use Rattle.wot_site.proofs.Honest.{And, honest_and, honest_weaker}
use Rattle.wot_store.specs.declared.opening.Opened.{Opened}
use Rattle.wot_store.specs.declared.place.Place.{Place}
use Rattle.wot_store.specs.declared.error.BadStore.{BadStore}
use Rattle.wot_store.specs.Opening.{AreBlank, AreUnwritten, FindsBad, Keeps, Opening, Opens, WritesOnlyBlank}
use Rattle.wot_store.specs.Shows.{IsStored, Shows, ShowsAs}
use Rattle.wot_store.proofs.Unwritten.{unwritten_settled}
use Rattle.wot_store.proofs.Unique.{shows_once}
use Rattle.wot_answer.specs.Answer.{IsDivision}
use Rattle.wot_answer.specs.Block.{IsBlockOf}
use Rattle.wot_answer.specs.declared.division.Division.TheVariants.{Within}
use Rattle.wot_answer.specs.declared.block.Block.{Block}
use Rattle.wot_answer.proofs.Answering.{block_opens}
use Rattle.wot_session.specs.SessionState.{Holds, IsOpened}
use Rattle.wot_session.specs.Input as input
use Rattle.wot_session.specs.Input.{HasQuit, IsFurther, IsOnTime, IsPunctual, IsRead, commands_at}
use Rattle.wot_tell.specs.Telling.{IsPrefixOf}
use Rattle.wot_session.specs.CrashImages.{IsSafe, IsWhole, Kept}
use Rattle.wot_session.specs.OpenStore.{IsOpen}
use Rattle.wot_session.specs.Run.{RunEnded, IsCrashSafe, IsUntouched, IsWritten, Ran, RunStopped, Unopened, WritesForChanges}
use Rattle.wot_session.specs.Stop.{IsNoBadStore, status_of}
use Rattle.wot_session.specs.Answering.{IsAnswering, Said, SaidPrefix}
use Rattle.wot_session.specs.Words.{IsUnread, Read, WordsEnded, WordsStopped}
use Rattle.wot_session.specs.Written.{Trail, Written, change_count}
use Rattle.wot_session.specs.declared.stop.Stop.{Stop}
use Rattle.wot_session.specs.declared.stop.Stop.TheVariants.{DiskFault, Memory, ReadFault, TellFault, TooLong}
use Rattle.wot_session.specs.declared.stop.Stop.TheVariants as stops
use Rattle.wot_session.proofs.Keeping.{kept_here, stored_shows, whole_here}
use Rattle.wot_session.proofs.Prefixes.{kept_safe, whole_exact}
use Rattle.wot_session.proofs.Runs.{pairs_none}
use Rattle.wot_session.proofs.Trails.{trail_still, written_start}
use Rattle.wot_session.proofs.Turns.{is_memory, no_long, no_read}

-- what left the input untouched since the opening left it so since the start
unread_later : {x y z : Seen} → Opening x y → IsUnread y z → IsUnread x z
unread_later opening unread = record { left = unread.left ∙ opening.left; taken = unread.taken ∙ opening.taken; asks = unread.asks ∙ opening.asks }

-- `take` was not called
not_asked : (s : Position) (x y : Seen) → y.asks ≡ x.asks → IsPunctual s x y
not_asked s x y asks = record { since = []; asks = asks ∙ sym (append-nil x.asks); each = All-nil _; rising = pairs_none IsFurther }

-- what shows as the sides read shows the one store
shown : (store : Store) (reads image : Image) → Shows reads store → (image ≡ reads) ⊎ ShowsAs image reads → Shows image store
shown store reads image shows (inl same) = subst (λ c. Shows c store) (sym same) shows
shown store reads image shows (inr other) = subst (Shows image) (shows_once reads other.shown store other.there shows) other.here

-- a moment at which a crash leaves what the sides read at the start, or what shows the same
keeps_safe : (store : Store) (commands : List Command) (x : Seen) (m : Moment) → Shows (reads_of x.disks) store → m.told ≡ x.told → Keeps x.disks m.disks
    → IsSafe (at_start store) commands x.told m
keeps_safe store commands x m shows told keeps =
    kept_safe (at_start store) commands x.told m (kept_here (at_start store) commands x.told m told (λ image is. shown store (reads_of x.disks) image shows (keeps image is)))

-- the moments of an opening
pub opening_safe : (store : Store) (commands : List Command) (x y : Seen) → Shows (reads_of x.disks) store → Opening x y → IsCrashSafe store commands x y
opening_safe store commands x y shows opening = record {
  first = opening.first;
  later = opening.later;
  is = opening.is;
  few = opening.few;
  before = opening.before;
  settled = λ still. All-weaker (Quiet (AreUnwritten x.disks) x.told) (IsSafe (at_start store) commands x.told)
      (λ m at. keeps_safe store commands x m shows at.told (unwritten_settled x.disks m.disks still at.disks)) opening.first opening.before;
  each = All-weaker (Quiet (Keeps x.disks) x.told) (IsSafe (at_start store) commands x.told) (λ m at. keeps_safe store commands x m shows at.told at.disks) opening.later opening.each;
}

-- and then those of a session
safe_then : (store : Store) (commands : List Command) (x y z : Seen) → y.told ≡ x.told → IsCrashSafe store commands x y
    → Since (Kept (at_start store) commands y.told) y z → IsCrashSafe store commands x z
safe_then store commands x y z told safe since = record {
  first = safe.first;
  later = safe.later ++ since.moments;
  is = since.is ∙ ap (λ moments. moments ++ since.moments) safe.is ∙ append_assoc x.moments (safe.first ++ safe.later) since.moments
      ∙ ap (λ moments. x.moments ++ moments) (append_assoc safe.first safe.later since.moments);
  few = safe.few;
  before = safe.before;
  settled = safe.settled;
  each = All-append (IsSafe (at_start store) commands x.told) safe.later since.moments safe.each
      (All-weaker _ _ (λ m kept. kept_safe (at_start store) commands x.told m (subst (λ told. Kept (at_start store) commands told m) told kept)) since.moments since.each);
}

-- where not both sides were blank, neither was written
unwritten_there : (d e : Disks) → (AreBlank d → ⊥) → WritesOnlyBlank d e → AreUnwritten d e
unwritten_there d e there writes = record { zero = writes.zero there; one = writes.one }

untouched_opening : (x y : Seen) → (AreBlank x.disks → ⊥) → Works (WritesOnlyBlank x.disks) x y → IsUntouched x y
untouched_opening x y there works = record {
  since = since_weaker (Quiet (WritesOnlyBlank x.disks) x.told) (λ m. AreUnwritten x.disks m.disks) x y (λ m at. unwritten_there x.disks m.disks there at.disks) works.since;
  last = unwritten_there x.disks y.disks there works.last;
}

-- and nothing was written after it
untouched_then : (p : Progress) (commands : List Command) (x y z : Seen) → change_count p commands ≡ 0 → IsUntouched x y → Written p commands y z → IsUntouched x z
untouched_then p commands x y z none before written =
    let still = trail_still p commands y.told y.disks written.moments z.disks none written.trail in
    let unwritten : (d : Disks) → d ≡ y.disks → AreUnwritten x.disks d = λ d same. subst (AreUnwritten x.disks) (sym same) before.last in
    record {
      since = since_then (λ m. AreUnwritten x.disks m.disks) x y z before.since (record {
        first = before.last;
        moments = written.moments;
        is = written.is;
        each = All-weaker (λ m. m.disks ≡ y.disks) (λ m. AreUnwritten x.disks m.disks) (λ m same. unwritten m.disks same) written.moments still.1;
      });
      last = unwritten z.disks still.0;
    }

-- the store was not opened
pub unopened : (words : List (List ℕ)) (x y : Seen) → Opening x y → Works (WritesOnlyBlank x.disks) x y → Unopened words x y
unopened words x y opening written = record {
  opening = opening;
  told = opening.told;
  left = opening.left;
  asks = opening.asks;
  safe = λ store shows. opening_safe store (commands_of words x.left) x y shows opening;
  written = written;
  untouched = λ there. untouched_opening x y there written;
}

module _ {place : Place} (store : Store) (words : List (List ℕ)) (x y : Seen) (opening : Opening x y) (before : Shows (reads_of x.disks) store) (stored : IsStored place store y.disks) (wrote : Works (WritesOnlyBlank x.disks) x y) where
  punctual_later : (z : Seen) → IsPunctual (at_first store words) y z → IsPunctual (at_first store words) x z
  punctual_later z punctual =
      record {
        since = punctual.since;
        asks = punctual.asks ∙ ap (λ asks. asks ++ punctual.since) opening.asks;
        each = All-weaker (IsOnTime (at_first store words) y z) (IsOnTime (at_first store words) x z)
            (λ ask at. record { told = rw (← opening.told, ← opening.taken, ← opening.left) at.told; goes = rw (← opening.taken, ← opening.left) at.goes })
            punctual.since punctual.each;
        rising = punctual.rising;
      }

  safe_later : (z : Seen) → Since (Kept (at_start store) (commands_of words y.left) y.told) y z → IsCrashSafe store (commands_of words x.left) x z
  safe_later z since =
      safe_then store (commands_of words x.left) x y z opening.told (opening_safe store (commands_of words x.left) x y before opening)
      (subst (λ left. Since (Kept (at_start store) (commands_of words left) y.told) y z) opening.left since)

  written_of : (z : Seen) → Written (at_start store) (commands_of words y.left) y z → Written (at_start store) (commands_of words x.left) y z
  written_of z written = subst (λ left. Written (at_start store) (commands_of words left) y z) opening.left written

  written_after : (z : Seen) → Written (at_start store) (commands_of words x.left) y z → IsWritten store (commands_of words x.left) x z
  written_after z written = record {
    opening = wrote.since.moments;
    later = written.moments;
    is = written.is ∙ ap (λ moments. moments ++ written.moments) wrote.since.is ∙ append_assoc x.moments wrote.since.moments written.moments;
    opened = y.disks;
    before = All-weaker (Quiet (WritesOnlyBlank x.disks) x.told) (λ m. WritesOnlyBlank x.disks m.disks) (λ m at. at.disks) wrote.since.moments wrote.since.each;
    left = wrote.last;
    is_open = record { place = place; stored = stored };
    trail = subst (λ text. Trail (at_start store) (commands_of words x.left) text y.disks written.moments z.disks) opening.told written.trail;
  }

  untouched_later : (z : Seen) → Written (at_start store) (commands_of words x.left) y z → WritesForChanges store (commands_of words x.left) x z
  untouched_later z written there none = untouched_then (at_start store) (commands_of words x.left) x y z none (untouched_opening x y there wrote) written

  -- the run came to its end
  pub opened_ended : (most : ℕ) (refused : Bool) (z : Seen) → WordsEnded store words most refused y z → RunEnded words most refused x z
  opened_ended most refused z ended =
      record {
        store = store;
        shows = before;
        told = rw (← opening.told, ← opening.left) ended.told;
        refusals = rw (← opening.left) ended.refusals;
        read = read_later opening (takes_input words) ended.read;
        stored = rw (← opening.left) ended.stored;
        punctual = punctual_later z ended.punctual;
        safe = safe_later z ended.since;
        written = written_after z (written_of z ended.written);
        untouched = untouched_later z (written_of z ended.written);
      }
    where
      read_later : Opening x y → (b : Bool) → Read (at_first store words) b most y z → Read (at_first store words) b most x z
      read_later opening true (inl read) = inl (record { all = read.all; within = rw (← opening.left) read.within })
      read_later opening true (inr quit) = inr (record {
        bytes = quit.bytes;
        is_prefix = rw (← opening.left) quit.is_prefix;
        within = quit.within;
        taken = rw (← opening.taken) quit.taken;
        quits = quit.quits;
      })
      read_later opening false unread = unread_later opening unread

  pub opened_stopped : (most : ℕ) (stop : Stop) (z : Seen) → WordsStopped store words most stop y z → RunStopped words most stop x z
  opened_stopped most stop z stopped =
      let told = stopped.told ∙ ap (λ told. told ++ stopped.text) opening.told in
      let here = subst (λ t. Kept (at_start store) (commands_of words x.left) t (moment_of z)) opening.told (subst (λ left. Kept (at_start store) (commands_of words left) y.told (moment_of z)) opening.left stopped.here) in
      record {
        store = store;
        shows = before;
        text = stopped.text;
        told = told;
        is_prefix = rw (← opening.left) stopped.is_prefix;
        unread = λ none. unread_later opening (stopped.unread none);
        read_fault = λ is. rw (← opening.told, ← opening.taken, ← opening.left) (stopped.read_fault is);
        too_long = λ is. rw (← opening.told, ← opening.taken, ← opening.left) (stopped.too_long is);
        punctual = punctual_later z stopped.punctual;
        safe = safe_later z stopped.since;
        written = written_after z (written_of z stopped.written);
        untouched = untouched_later z (written_of z stopped.written);
        here = kept_safe (at_start store) (commands_of words x.left) x.told (moment_of z) here;
        exact = λ between. whole_exact (at_start store) (commands_of words x.left) x.told stopped.text z told
            (subst (λ t. IsWhole (at_start store) (commands_of words x.left) t z) opening.told (subst (λ left. IsWhole (at_start store) (commands_of words left) y.told z) opening.left (stopped.whole between)));
      }

-- a run over its input is a run of these words
module _ (store : Store) (words : List (List ℕ)) (takes : takes_input words ≡ true) (y z : Seen) where
  same_input : (bytes : List ℕ) → commands_at (at_first store words) bytes ≡ commands_of words bytes
  same_input bytes = ap (λ b. commands_from (first_division words) (if b then map read_line (lines bytes) else [])) (sym takes)

  pub input_ended : (most : ℕ) (refused : Bool) → input.SessionEnded (at_first store words) most refused y z → WordsEnded store words most refused y z
  input_ended most refused ended = record {
    told = ended.told ∙ ap (λ commands. y.told ++ replies (at_start store) commands) (same_input y.left);
    refusals = ended.refusals ∙ ap (λ commands. (after_all (at_start store) commands).refused) (same_input y.left);
    read = subst (λ b. Read (at_first store words) b most y z) (sym takes) ended.read;
    stored = subst (λ commands. IsOpen (after_all (at_start store) commands).store z.disks) (same_input y.left) ended.stored;
    punctual = ended.punctual;
    since = subst (λ commands. Since (Kept (at_start store) commands y.told) y z) (same_input y.left) ended.since;
    written = subst (λ commands. Written (at_start store) commands y z) (same_input y.left) ended.written;
  }

  pub input_stopped : (most : ℕ) (stop : Stop) → input.SessionStopped (at_first store words) most stop y z → WordsStopped store words most stop y z
  input_stopped most stop stopped = record {
    sound = stopped.sound;
    text = stopped.text;
    told = stopped.told;
    is_prefix = subst (λ commands. IsPrefixOf stopped.text (replies (at_start store) commands)) (same_input y.left) stopped.is_prefix;
    unread = λ none. cc;
    read_fault = stopped.read_fault;
    too_long = stopped.too_long;
    punctual = stopped.punctual;
    since = subst (λ commands. Since (Kept (at_start store) commands y.told) y z) (same_input y.left) stopped.since;
    here = subst (λ commands. Kept (at_start store) commands y.told (moment_of z)) (same_input y.left) stopped.here;
    whole = λ between. subst (λ commands. IsWhole (at_start store) commands y.told z) (same_input y.left) (stopped.whole between);
    written = subst (λ commands. Written (at_start store) commands y z) (same_input y.left) stopped.written;
  }

-- a run of one command without a block
same_one : (words : List (List ℕ)) (bytes : List ℕ) → (words ≡ [] → ⊥) → has_block words ≡ false → commands_of words bytes ≡ begun_command words ∷ []
same_one [] bytes some none = absurd (some refl)
same_one (name ∷ words) bytes some none = ap (λ b. commands_from (first_division (name ∷ words)) (if b then map read_line (lines bytes) else [])) none

takes_one : (words : List (List ℕ)) → (words ≡ [] → ⊥) → has_block words ≡ false → takes_input words ≡ false
takes_one [] some none = absurd (some refl)
takes_one (name ∷ words) some none = none

module _ (store : Store) (words : List (List ℕ)) (some : words ≡ [] → ⊥) (none : has_block words ≡ false) (y z : Seen) where
  pub one_ended : {place : Place} (most : ℕ) (refused : Bool) → refused ≡ (after_all (at_start store) (begun_command words ∷ [])).refused
      → IsStored place (after_all (at_start store) (begun_command words ∷ [])).store z.disks → Said (at_start store) (begun_command words ∷ []) y z → WordsEnded store words most refused y z
  one_ended most refused refusals stored said =
      let same = sym (same_one words y.left some none) in
      record {
        told = said.told.told ∙ ap (λ commands. y.told ++ replies (at_start store) commands) same;
        refusals = refusals ∙ ap (λ commands. (after_all (at_start store) commands).refused) same;
        read = subst (λ b. Read (at_first store words) b most y z) (sym (takes_one words some none)) (record { left = said.told.left; taken = said.told.taken; asks = said.told.asks });
        stored = subst (λ commands. IsOpen (after_all (at_start store) commands).store z.disks) same (record { place = _; stored = stored });
        punctual = not_asked (at_first store words) y z said.told.asks;
        since = subst (λ commands. Since (Kept (at_start store) commands y.told) y z) same said.since;
        written = subst (λ commands. Written (at_start store) commands y z) same said.written;
      }

  pub one_stopped : (most : ℕ) (stop : Stop) → IsAnswering stop → SaidPrefix (at_start store) (begun_command words ∷ []) stop y z → WordsStopped store words most stop y z
  one_stopped most stop kind said =
      let same = sym (same_one words y.left some none) in
      let told = said.told.told in
      record {
        sound = said.sound;
        text = said.told.prefix;
        told = told.told;
        is_prefix = subst (λ commands. IsPrefixOf said.told.prefix (replies (at_start store) commands)) same said.told.is_prefix;
        unread = λ _. record { left = told.left; taken = told.taken; asks = told.asks };
        read_fault = λ is. absurd (no_read stop kind is);
        too_long = λ is. absurd (no_long stop kind is);
        punctual = not_asked (at_first store words) y z told.asks;
        since = subst (λ commands. Since (Kept (at_start store) commands y.told) y z) same said.since;
        here = subst (λ commands. Kept (at_start store) commands y.told (moment_of z)) same said.here;
        whole = λ between. subst (λ commands. IsWhole (at_start store) commands y.told z) same (said.whole (is_memory stop kind between));
        written = subst (λ commands. Written (at_start store) commands y z) same said.written;
      }

-- no memory for the block of the one command
words_nothing_at : {place : Place} (store : Store) (words : List (List ℕ)) (most : ℕ) (x : Seen) → IsStored place store x.disks → WordsStopped store words most Memory x x
words_nothing_at store words most x stored =
    let here = kept_here (at_start store) (commands_of words x.left) x.told (moment_of x) refl (stored_shows store x.disks stored) in
    record {
      sound = tt;
      text = [];
      told = sym (append-nil x.told);
      is_prefix = (output_of store words x.left, refl);
      unread = λ _. record { left = refl; taken = refl; asks = refl };
      read_fault = λ is. cc;
      too_long = λ is. cc;
      punctual = not_asked (at_first store words) x x refl;
      since = record { first = here; moments = []; is = sym (append-nil x.moments); each = All-nil _ };
      here = here;
      whole = λ _. whole_here (at_start store) (commands_of words x.left) x.told x refl stored;
      written = written_start (at_start store) (commands_of words x.left) x;
    }

pub words_nothing : (place : Place) (store : Store) (words : List (List ℕ)) (most : ℕ) (a : Option Seen) → Holds place a store → Honestly a a (WordsStopped store words most Memory)
words_nothing place store words most None holds = tt
words_nothing place store words most (Some x) holds = words_nothing_at store words most x holds

-- what an opening writes
abbrev pub WritingBlank : Seen → Seen → Type 0
WritingBlank x y = Works (WritesOnlyBlank x.disks) x y

-- a store that this may be, where the site tells nothing
abbrev some_store : Opened → Store
some_store opened = record {
  state = opened.engine;
  epoch = opened.place.epoch;
  end = opened.place.end;
  base = opened.engine;
  edits = replicate opened.place.records (Date 0);
}

-- the store that was opened
opened_is : (opened : Opened) (store : Store) (y : Seen) → store.state ≡ opened.engine → IsWellFormedState opened.engine → IsStored opened.place store y.disks → IsOpened opened store
opened_is opened store y same sound stored = record {
  engine = sym same;
  sound = subst IsWellFormedState (sym same) sound;
  place = record { epoch = stored.epoch; end = stored.end; records = ap capped stored.records };
}

pub some_opened : (opened : Opened) (a b : Option Seen) → IsWellFormedState opened.engine → Honestly a b (Opens opened.place opened.engine) → (store : Store) × IsOpened opened store × Holds opened.place b store
some_opened opened None None sound opens =
    (some_store opened, record { engine = refl; sound = sound; place = record { epoch = refl; end = refl; records = ap capped (sym (length-replicate opened.place.records (Date 0))) } }, tt)
some_opened opened None (Some y) sound opens = absurd opens
some_opened opened (Some x) None sound opens = absurd opens
some_opened opened (Some x) (Some y) sound opens = (opens.shown, opened_is opened opens.shown y opens.is_state sound opens.stored, opens.stored)

-- the opening, and what follows it
pub opened_then : (opened : Opened) (P : Store → Seen → Seen → Type 0) (R : Seen → Seen → Type 0) (a b c : Option Seen) → IsWellFormedState opened.engine
    → Honestly a b (And (And Opening (Opens opened.place opened.engine)) WritingBlank)
    → ((store : Store) → IsOpened opened store → Holds opened.place b store → Honestly b c (P store))
    → ((x y z : Seen) → Opening x y → (opens : Opens opened.place opened.engine x y) → WritingBlank x y → P opens.shown y z → R x z) → Honestly a c R
opened_then opened P R None None None sound opens follows both = tt
opened_then opened P R None None (Some z) sound opens follows both =
    let known = some_opened opened None None sound opens in absurd (follows known.0 known.1 known.2)
opened_then opened P R None (Some y) c sound opens follows both = absurd opens
opened_then opened P R (Some x) None c sound opens follows both = absurd opens
opened_then opened P R (Some x) (Some y) None sound opens follows both =
    absurd (follows opens.0.1.shown (opened_is opened opens.0.1.shown y opens.0.1.is_state sound opens.0.1.stored) opens.0.1.stored)
opened_then opened P R (Some x) (Some y) (Some z) sound opens follows both =
    both x y z opens.0.0 opens.0.1 opens.1 (follows opens.0.1.shown (opened_is opened opens.0.1.shown y opens.0.1.is_state sound opens.0.1.stored) opens.0.1.stored)

pub stopped_ran : (words : List (List ℕ)) (most : ℕ) (stop : Stop) (x z : Seen) → IsNoBadStore stop → RunStopped words most stop x z → Ran words most (status_of stop) x z
stopped_ran words most ReadFault x z sound stopped = stopped
stopped_ran words most TellFault x z sound stopped = stopped
stopped_ran words most DiskFault x z sound stopped = inr stopped
stopped_ran words most (stops.BadStore bad) x z sound stopped = absurd sound
stopped_ran words most Memory x z sound stopped = inr (inr stopped)
stopped_ran words most TooLong x z sound stopped = stopped

-- the block of the one command
opens_block : (block : Block) (words : List (List ℕ)) → IsBlockOf block (begun_command words) → has_block words ≡ true
opens_block block words of = block_opens block (begun_command words) words of refl

pub first_block : (block : Block) (words : List (List ℕ)) → IsBlockOf block (begun_command words) → IsDivision (Within block) (first_division words)
first_block block [] of = let none : false ≡ true = opens_block block [] of in cc
first_block block (name ∷ words) of = of

pub takes_block : (block : Block) (words : List (List ℕ)) → IsBlockOf block (begun_command words) → takes_input words ≡ true
takes_block block [] of = refl
takes_block block (name ∷ words) of = opens_block block (name ∷ words) of

-- the store is bad
pub bad_ran : (words : List (List ℕ)) (bad : BadStore) (a b : Option Seen) → Honestly a b (And Opening WritingBlank) → Honestly a b (FindsBad bad)
    → Honestly a b (λ x y. Unopened words x y × FindsBad bad x y)
bad_ran words bad a b opening finds =
    honest_weaker (And (And Opening WritingBlank) (FindsBad bad)) (λ x y. Unopened words x y × FindsBad bad x y) a b (honest_and (And Opening WritingBlank) (FindsBad bad) a b opening finds)
    (λ x y both. (unopened words x y both.0.0 both.0.1, both.1))
