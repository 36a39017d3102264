-- How far a run has come: what was fed, and that each call of `take` came on time.
use Rattle.std.proofs.Common.{◌≡◌, ◌⊎◌, inl, inr, ℕ, ◌+◌, ◌-◌, ◌<◌, ◌≤◌, Bool, List, [], ◌∷◌, ◌++◌, length, take, Some, refl, sym, ap, ◌∙◌, append_assoc, subst, ⊎_elim, length-append, arith}
use Rattle.std.specs.Prelude.{slice_index_or}
use Rattle.std.specs.List.{All, AllPairs}
use Rattle.std.proofs.lemmas.Bool.{cases_lt}
use Rattle.std.proofs.lemmas.List.{append-nil, get_or_append_left, get_or_push, length_push}
use Rattle.std.proofs.lemmas.List.Elements.{All-nil, All-push, All-weaker}
use Rattle.std.proofs.Math.Seq.{take-append_seam, take-append-add}
use Rattle.wot_types.specs.Commands.{Command}
use Rattle.wot_types.specs.Commands.Division.{over}
use Rattle.wot_types.specs.LineByLine.{Position}
use Rattle.wot_types.specs.Session.{Progress, after_all, replies}
use Rattle.wot_site.specs.Seen.{Moment, Seen}
use Rattle.wot_site.specs.Site.{asked_at}
use Rattle.wot_site.specs.Work.{Since, moment_of}
use Rattle.wot_site.proofs.Works.{since_start, since_then, since_weaker}
use Rattle.wot_site.specs.declared.asked.Asked.{Asked}
use Rattle.wot_store.specs.Shows.{IsStored}
use Rattle.wot_store.specs.declared.place.Place.{Place}
use Rattle.wot_session.specs.declared.stop.Stop.{Stop}
use Rattle.wot_session.specs.AtEnd.{at_end, last_commands}
use Rattle.wot_session.specs.OpenLine.{open_from}
use Rattle.wot_tell.specs.Telling.{IsPrefixOf}
use Rattle.wot_session.specs.CrashImages.{IsWhole, Kept}
use Rattle.wot_session.specs.OpenStore.{IsOpen}
use Rattle.wot_session.specs.Answering.{IsAnswering, Said, SaidPrefix}
use Rattle.wot_session.specs.Turn.{StoppedTurn, TookAll, Turned, commands_fed}
use Rattle.wot_session.specs.Written.{Written}
use Rattle.wot_session.specs.Input.{SessionEnded, IsFurther, IsOnTime, IsPunctual, SessionStopped, commands_at, division_at, end_at, so_far_at, whole_at}
use Rattle.wot_session.proofs.Inputs.{commands_end, commands_more, commands_over, division_more, end_is, fed_division, output_is, position_after, progress_after, so_far_append, so_far_prefix, whole_more}
use Rattle.wot_session.proofs.Keeping.{kept_more, kept_then, stored_shows, whole_then, whole_more as whole_before}
use Rattle.wot_session.proofs.Trails.{written_more, written_start, written_then}
use Rattle.wot_session.proofs.Turns.{is_memory, no_long, no_read}

-- where R holds of each element and each later one, and of each and one more, it does with that one at the end
pairs_push : {X : Type 0} (R : X → X → Type 0) (xs : List X) (x : X) → AllPairs R xs → All (λ y. R y x) xs → AllPairs R (xs ++ x ∷ [])
pairs_push R xs x pairs each i j d less within =
    let long = length_push xs x in
    let low : slice_index_or (xs ++ x ∷ []) i d ≡ slice_index_or xs i d = get_or_append_left xs (x ∷ []) d i (omega arith) in
    ⊎_elim
    (λ inside. rw (low, get_or_append_left xs (x ∷ []) d j inside) (pairs i j d less inside))
    (λ at_end. rw (low, get_or_push xs x d j (omega arith)) (each i d (omega arith)))
    (cases_lt j (length xs))

pub pairs_none : {X : Type 0} (R : X → X → Type 0) → AllPairs R []
pairs_none R i j d less within = absurd (omega arith)

-- a call of `take` after these bytes were fed, and all replies to the commands that are whole in them told
pub record OnTime (s : Position) (first now : Seen) (ask : Asked) : Type 0 where
  pub fed : List ℕ
  pub rest : List ℕ
  pub input : fed ++ rest ≡ first.left
  pub taken : ask.taken ≡ first.taken + length fed
  pub told : ask.told ≡ length (first.told ++ so_far_at s fed)
  pub is_prefix : IsPrefixOf (first.told ++ so_far_at s fed) now.told
  pub goes : (position_after s fed).division ≡ over → ⊥

-- each call of `take` came on time and after more bytes were taken than each before it, and before it fewer than this bound
pub record Timely (s : Position) (bound : ℕ) (first now : Seen) : Type 0 where
  pub since : List Asked
  pub asks : now.asks ≡ first.asks ++ since
  pub each : All (OnTime s first now) since
  pub rising : AllPairs IsFurther since
  pub below : All (λ (ask : Asked). ask.taken < bound) since

-- these bytes were fed, and all commands that are whole in them answered
pub record Heard (s : Position) (fed : List ℕ) (bound : ℕ) (first now : Seen) : Type 0 where
  pub input : IsPrefixOf fed first.left
  pub taken : first.taken + length fed ≤ now.taken
  pub told : now.told ≡ first.told ++ so_far_at s fed
  pub timely : Timely s bound first now
  pub since : Since (Kept s.progress (whole_at s fed) first.told) first now
  pub written : Written s.progress (whole_at s fed) first now

-- the same, nothing else was taken, each call of `take` moved some bytes, and `quit` did not come
pub record Reached (s : Position) (fed : List ℕ) (first now : Seen) : Type 0 where
  pub heard : Heard s fed now.taken first now
  pub left : first.left ≡ fed ++ now.left
  pub taken : now.taken ≡ first.taken + length fed
  pub goes : (position_after s fed).division ≡ over → ⊥

-- these bytes were fed, all commands that are whole in them answered, and nothing is left: the last call of `take` moved nothing
pub record ReachedEnd (s : Position) (fed : List ℕ) (first now : Seen) : Type 0 where
  pub heard : Heard s fed (now.taken + 1) first now
  pub left : first.left ≡ fed ++ now.left
  pub all : now.left ≡ []

pub reached_start : {place : Place} (s : Position) (x : Seen) → IsStored place s.progress.store x.disks → (s.division ≡ over → ⊥) → Reached s [] x x
reached_start s x stored goes = record {
  heard = record {
    input = (x.left, refl);
    taken = omega arith;
    told = sym (append-nil x.told);
    timely = record { since = []; asks = sym (append-nil x.asks); each = All-nil _; rising = pairs_none IsFurther; below = All-nil _ };
    since = since_start _ x (refl, stored_shows s.progress.store x.disks stored);
    written = written_start s.progress (whole_at s []) x;
  };
  left = refl;
  taken = omega arith;
  goes = goes;
}

module _ (s : Position) where
  on_time_later : (first now next : Seen) (text : List ℕ) → next.told ≡ now.told ++ text → (ask : Asked) → OnTime s first now ask → OnTime s first next ask
  on_time_later first now next text told ask on_time =
      let front = first.told ++ so_far_at s on_time.fed in
      let back = on_time.is_prefix.0 in
      record {
        fed = on_time.fed;
        rest = on_time.rest;
        input = on_time.input;
        taken = on_time.taken;
        told = on_time.told;
        is_prefix = (back ++ text, sym (append_assoc front back text) ∙ ap (λ told. told ++ text) on_time.is_prefix.1 ∙ sym told);
        goes = on_time.goes;
      }

  timely_told : {bound : ℕ} (later : ℕ) (first now next : Seen) (text : List ℕ) → bound ≤ later → Timely s bound first now
      → next.told ≡ now.told ++ text → next.asks ≡ now.asks → Timely s later first next
  timely_told {bound} later first now next text within timely told asks = record {
    since = timely.since;
    asks = asks ∙ timely.asks;
    each = All-weaker _ _ (on_time_later first now next text told) timely.since timely.each;
    rising = timely.rising;
    below = All-weaker (λ (ask : Asked). ask.taken < bound) (λ (ask : Asked). ask.taken < later) (λ ask less. omega (arith, less, within)) timely.since timely.below;
  }

  timely_asked : (bound : ℕ) (fed : List ℕ) (first now next : Seen) (text : List ℕ) → now.taken < bound → Reached s fed first now → next.told ≡ now.told ++ text
      → (next.asks ≡ now.asks ++ asked_at now ∷ []) ⊎ (next.asks ≡ now.asks) → Timely s bound first next
  timely_asked bound fed first now next text further reached told (inl noted) =
      let timely = reached.heard.timely in
      let before : All (λ (ask : Asked). ask.taken < bound) timely.since
      = All-weaker (λ (ask : Asked). ask.taken < now.taken) (λ (ask : Asked). ask.taken < bound) (λ ask less. omega (arith, less, further)) timely.since timely.below in
      record {
        since = timely.since ++ asked_at now ∷ [];
        asks = noted ∙ ap (λ asks. asks ++ asked_at now ∷ []) timely.asks ∙ append_assoc first.asks timely.since (asked_at now ∷ []);
        each = All-push (OnTime s first next) _ _ (All-weaker _ _ (on_time_later first now next text told) timely.since timely.each) this;
        rising = pairs_push IsFurther timely.since (asked_at now) timely.rising timely.below;
        below = All-push (λ (ask : Asked). ask.taken < bound) timely.since (asked_at now) before further;
      }
    where
      this : OnTime s first next (asked_at now)
      this = record {
        fed = fed;
        rest = now.left;
        input = sym reached.left;
        taken = reached.taken;
        told = ap length reached.heard.told;
        is_prefix = (text, ap (λ told. told ++ text) (sym reached.heard.told) ∙ sym told);
        goes = reached.goes;
      }
  timely_asked bound fed first now next text further reached told (inr stays) =
      timely_told bound first now next text (omega (arith, further)) reached.heard.timely told stays

  -- the bytes that were fed are the first of the input
  fed_is : (fed rest left : List ℕ) (k : ℕ) → fed ++ rest ≡ left → k ≡ length fed → take k left ≡ fed
  fed_is fed rest left k input size = rw (← input, size) (take-append_seam fed rest)

  on_time_is : (first now : Seen) (ask : Asked) → OnTime s first now ask → IsOnTime s first now ask
  on_time_is first now ask on_time =
      let front = first.told ++ so_far_at s on_time.fed in
      let told = fed_is front on_time.is_prefix.0 now.told ask.told on_time.is_prefix.1 on_time.told in
      let fed = fed_is on_time.fed on_time.rest first.left (ask.taken - first.taken) on_time.input (omega (arith, on_time.taken)) in
      record {
        told = told ∙ ap (λ bytes. first.told ++ so_far_at s bytes) (sym fed);
        goes = λ is. on_time.goes (sym (fed_division s on_time.fed) ∙ ap (division_at s) (sym fed) ∙ is);
      }

  punctual : {bound : ℕ} (first now : Seen) → Timely s bound first now → IsPunctual s first now
  punctual first now timely = record {
    since = timely.since;
    asks = timely.asks;
    each = All-weaker _ _ (on_time_is first now) timely.since timely.each;
    rising = timely.rising;
  }

  -- where the next replies are told, they follow those that were told
  joined : (fed more : List ℕ) (first now next : Seen) → now.told ≡ first.told ++ so_far_at s fed → next.told ≡ now.told ++ more → next.told ≡ first.told ++ (so_far_at s fed ++ more)
  joined fed more first now next before told = told ∙ ap (λ told. told ++ more) before ∙ append_assoc first.told (so_far_at s fed) more

  -- what holds of the commands of a piece, or of the end, holds of all where those before were answered
  kept_behind : (fed : List ℕ) (more : List Command) (first now : Seen) (m : Moment) → now.told ≡ first.told ++ so_far_at s fed
      → Kept (position_after s fed).progress more now.told m → Kept s.progress (whole_at s fed ++ more) first.told m
  kept_behind fed more first now m told kept =
      kept_then s.progress (whole_at s fed) more first.told m
      (subst (λ p. Kept p more (first.told ++ so_far_at s fed) m) (progress_after s fed) (subst (λ told. Kept (position_after s fed).progress more told m) told kept))

  whole_behind : (fed : List ℕ) (more : List Command) (first now next : Seen) → now.told ≡ first.told ++ so_far_at s fed
      → IsWhole (position_after s fed).progress more now.told next → IsWhole s.progress (whole_at s fed ++ more) first.told next
  whole_behind fed more first now next told whole =
      whole_then s.progress (whole_at s fed) more first.told next
      (subst (λ p. IsWhole p more (first.told ++ so_far_at s fed) next) (progress_after s fed) (subst (λ told. IsWhole (position_after s fed).progress more told next) told whole))

  -- the moments up to here, and those of what follows
  since_behind : {bound : ℕ} (fed : List ℕ) (more : List Command) (first now next : Seen) → Heard s fed bound first now
      → Since (Kept (position_after s fed).progress more now.told) now next → Since (Kept s.progress (whole_at s fed ++ more) first.told) first next
  since_behind fed more first now next heard later =
      since_then _ first now next
      (since_weaker _ _ first now (kept_more s.progress (whole_at s fed) more first.told) heard.since)
      (since_weaker _ _ now next (λ m. kept_behind fed more first now m heard.told) later)

  -- what was written up to here, and for what follows
  written_behind : {bound : ℕ} (fed : List ℕ) (more : List Command) (first now next : Seen) → Heard s fed bound first now
      → Written (position_after s fed).progress more now next → Written s.progress (whole_at s fed ++ more) first next
  written_behind fed more first now next heard later =
      written_then s.progress (whole_at s fed) more first now next heard.told heard.written (subst (λ p. Written p more now next) (progress_after s fed) later)

  pub heard_more : (bound : ℕ) (fed piece : List ℕ) (first now next : Seen) → now.taken < bound → Reached s fed first now
      → Turned (position_after s fed) (open_from (Some []) fed) piece now next → Heard s (fed ++ piece) bound first next
  heard_more bound fed piece first now next further reached turned = record {
    input = (turned.input.0, append_assoc fed piece turned.input.0 ∙ ap (λ left. fed ++ left) turned.input.1 ∙ sym reached.left);
    taken = omega (arith, turned.taken, reached.taken, length-append fed piece);
    told = joined fed _ first now next reached.heard.told turned.told ∙ ap (λ text. first.told ++ text) (sym (so_far_append s fed piece));
    timely = timely_asked bound fed first now next _ further reached turned.told (inl turned.asks);
    since = subst (λ commands. Since (Kept s.progress commands first.told) first next) (sym (whole_more s fed piece))
        (since_behind fed (commands_fed (position_after s fed) (open_from (Some []) fed) piece) first now next reached.heard turned.since);
    written = subst (λ commands. Written s.progress commands first next) (sym (whole_more s fed piece))
        (written_behind fed (commands_fed (position_after s fed) (open_from (Some []) fed) piece) first now next reached.heard turned.written);
  }

  left_more : (fed piece : List ℕ) (first now next : Seen) → Reached s fed first now → TookAll piece now next → first.left ≡ (fed ++ piece) ++ next.left
  left_more fed piece first now next reached took = reached.left ∙ ap (λ left. fed ++ left) took.input ∙ sym (append_assoc fed piece next.left)

  pub reached_more : (fed piece : List ℕ) (first now next : Seen) → 0 < length piece → Reached s fed first now
      → Turned (position_after s fed) (open_from (Some []) fed) piece now next → TookAll piece now next → ((position_after s (fed ++ piece)).division ≡ over → ⊥)
      → Reached s (fed ++ piece) first next
  reached_more fed piece first now next some reached turned took goes = record {
    heard = heard_more next.taken fed piece first now next (omega (arith, took.taken, some)) reached turned;
    left = left_more fed piece first now next reached took;
    taken = omega (arith, took.taken, reached.taken, length-append fed piece);
    goes = goes;
  }

  pub reached_end : (fed piece : List ℕ) (first now next : Seen) → piece ≡ [] → Reached s fed first now
      → Turned (position_after s fed) (open_from (Some []) fed) piece now next → TookAll piece now next → ReachedEnd s (fed ++ piece) first next
  reached_end fed piece first now next none reached turned took = record {
    heard = heard_more (next.taken + 1) fed piece first now next (omega (arith, took.taken)) reached turned;
    left = left_more fed piece first now next reached took;
    all = ap (λ piece. piece ++ next.left) (sym none) ∙ sym took.input ∙ took.last none;
  }

  -- `quit` came
  pub over_run : {place : Place} {bound : ℕ} (most : ℕ) (refused : Bool) (fed : List ℕ) (first next : Seen) → length fed ≤ most → (position_after s fed).division ≡ over
      → refused ≡ (position_after s fed).progress.refused → Heard s fed bound first next → IsStored place (position_after s fed).progress.store next.disks → SessionEnded s most refused first next
  over_run most refused fed first next within ended refusals heard stored =
      let all : commands_at s first.left ≡ whole_at s fed = ap (commands_at s) (sym heard.input.1) ∙ commands_over s fed heard.input.0 ended in
      let end : (position_after s fed).progress ≡ end_at s first.left = progress_after s fed ∙ ap (after_all s.progress) (sym all) in
      record {
        told = heard.told ∙ ap (λ commands. first.told ++ replies s.progress commands) (sym all);
        read = inr (record {
          bytes = fed;
          is_prefix = heard.input;
          within = within;
          taken = omega (arith, heard.taken);
          quits = fed_division s fed ∙ ended;
        });
        refusals = refusals ∙ ap (λ (p : Progress). p.refused) end;
        stored = subst (λ (p : Progress). IsOpen p.store next.disks) end (record { place = _; stored = stored });
        punctual = punctual first next heard.timely;
        since = subst (λ commands. Since (Kept s.progress commands first.told) first next) (sym all) heard.since;
        written = subst (λ commands. Written s.progress commands first next) (sym all) heard.written;
      }

  -- the turn stopped
  pub stop_turn : (most room : ℕ) (stop : Stop) (fed : List ℕ) (first now next : Seen) → length fed + room ≡ most → Reached s fed first now
      → StoppedTurn (position_after s fed) (open_from (Some []) fed) room stop now next → SessionStopped s most stop first next
  stop_turn most room stop fed first now next bound reached stopped =
      let heard = reached.heard in
      record {
        sound = stopped.sound;
        text = so_far_at s fed ++ stopped.text;
        is_prefix = (
          stopped.is_prefix.0 ++ whole.0,
          sym (append_assoc (so_far_at s fed ++ stopped.text) stopped.is_prefix.0 whole.0) ∙ ap (λ text. text ++ whole.0) part ∙ whole.1 ∙ ap (λ input. replies s.progress (commands_at s input)) (sym input),
        );
        told = joined fed stopped.text first now next heard.told stopped.told;
        punctual = punctual first next (timely_asked (now.taken + 1) fed first now next stopped.text (omega arith) reached stopped.told stopped.asks);
        read_fault = λ is.
            let same = stopped.read_fault is in
            let taken : next.taken - first.taken ≡ length fed = omega (arith, same.0, reached.taken) in
            (omega (arith, taken, bound), same.1 ∙ heard.told ∙ ap (λ bytes. first.told ++ so_far_at s bytes) (sym (fed_is fed now.left first.left _ (sym reached.left) taken)));
        too_long = λ is.
            let long = stopped.too_long is in (
              omega (arith, long.0, bound, ap length reached.left, length-append fed now.left),
              omega (arith, long.1, bound, reached.taken),
              joined fed _ first now next heard.told long.2 ∙ ap (λ text. first.told ++ text) (sym (so_far_append s fed (take room now.left)))
                  ∙ ap (λ bytes. first.told ++ so_far_at s bytes) (sym first_bytes),
              λ ended. long.3 (sym (division_more s fed (take room now.left)) ∙ ap (division_at s) (sym first_bytes) ∙ ended),
            );
        since = subst (λ commands. Since (Kept s.progress commands first.told) first next) (sym all)
            (since_behind fed (piece_commands ++ others) first now next heard (since_weaker _ _ now next (λ m. kept_more (position_after s fed).progress piece_commands others now.told m) stopped.since));
        here = subst (λ commands. Kept s.progress commands first.told (moment_of next)) (sym all)
            (kept_behind fed (piece_commands ++ others) first now (moment_of next) heard.told (kept_more (position_after s fed).progress piece_commands others now.told (moment_of next) stopped.here));
        whole = λ between. subst (λ commands. IsWhole s.progress commands first.told next) (sym all)
            (whole_behind fed (piece_commands ++ others) first now next heard.told (whole_before (position_after s fed).progress piece_commands others now.told next (stopped.whole between)));
        written = subst (λ commands. Written s.progress commands first next) (sym all)
            (written_behind fed (piece_commands ++ others) first now next heard (written_more (position_after s fed).progress piece_commands others now next stopped.written));
      }
    where
      piece_commands : List Command
      piece_commands = commands_fed (position_after s fed) (open_from (Some []) fed) stopped.piece

      others : List Command
      others =
          commands_fed (position_after s (fed ++ stopped.piece)) (open_from (Some []) (fed ++ stopped.piece)) stopped.input.0
          ++ last_commands (position_after s (fed ++ stopped.piece ++ stopped.input.0)) (open_from (Some []) (fed ++ stopped.piece ++ stopped.input.0))

      input : first.left ≡ fed ++ stopped.piece ++ stopped.input.0
      input = reached.left ∙ ap (λ left. fed ++ left) (sym stopped.input.1) ∙ sym (append_assoc fed stopped.piece stopped.input.0)

      all : commands_at s first.left ≡ whole_at s fed ++ (piece_commands ++ others)
      all =
          ap (commands_at s) input ∙ commands_more s (fed ++ stopped.piece) stopped.input.0
          ∙ ap (λ front. front ++ others) (whole_more s fed stopped.piece) ∙ append_assoc (whole_at s fed) piece_commands others

      whole : IsPrefixOf (so_far_at s (fed ++ stopped.piece)) (replies s.progress (commands_at s (fed ++ stopped.piece ++ stopped.input.0)))
      whole = so_far_prefix s (fed ++ stopped.piece) stopped.input.0

      part : so_far_at s fed ++ stopped.text ++ stopped.is_prefix.0 ≡ so_far_at s (fed ++ stopped.piece)
      part = append_assoc (so_far_at s fed) stopped.text stopped.is_prefix.0 ∙ ap (λ text. so_far_at s fed ++ text) stopped.is_prefix.1 ∙ sym (so_far_append s fed stopped.piece)

      first_bytes : take most first.left ≡ fed ++ take room now.left
      first_bytes = ap (take most) reached.left ∙ ap (λ k. take k (fed ++ now.left)) (sym bound) ∙ take-append-add fed now.left room

  all_fed : (fed : List ℕ) (first now : Seen) → ReachedEnd s fed first now → first.left ≡ fed
  all_fed fed first now end = end.left ∙ ap (λ left. fed ++ left) end.all ∙ append-nil fed

  end_commands : (fed : List ℕ) (first now : Seen) → ReachedEnd s fed first now
      → commands_at s first.left ≡ whole_at s fed ++ last_commands (position_after s fed) (open_from (Some []) fed)
  end_commands fed first now end = ap (commands_at s) (all_fed fed first now end) ∙ commands_end s fed

  -- the end of the input came, and the rest was answered
  pub end_run : {place : Place} (most : ℕ) (refused : Bool) (fed : List ℕ) (first now next : Seen) → length fed ≤ most
      → refused ≡ (at_end (position_after s fed) (open_from (Some []) fed)).progress.refused
      → ReachedEnd s fed first now → Said (position_after s fed).progress (last_commands (position_after s fed) (open_from (Some []) fed)) now next
      → IsStored place (at_end (position_after s fed) (open_from (Some []) fed)).progress.store next.disks → SessionEnded s most refused first next
  end_run most refused fed first now next bound refusals end said stored =
      let input = all_fed fed first now end in
      let heard = end.heard in
      let last : end_at s first.left ≡ (at_end (position_after s fed) (open_from (Some []) fed)).progress = ap (end_at s) input ∙ end_is s fed in
      record {
        told = joined fed _ first now next heard.told said.told.told ∙ ap (λ text. first.told ++ text) (sym (output_is s fed)) ∙ ap (λ bytes. first.told ++ replies s.progress (commands_at s bytes)) (sym input);
        read = inl (record { all = said.told.left ∙ end.all; within = omega (arith, bound, ap length input) });
        refusals = refusals ∙ ap (λ (p : Progress). p.refused) (sym last);
        stored = subst (λ (p : Progress). IsOpen p.store next.disks) (sym last) (record { place = _; stored = stored });
        punctual = punctual first next (timely_told (now.taken + 1) first now next _ (omega arith) heard.timely said.told.told said.told.asks);
        since = subst (λ commands. Since (Kept s.progress commands first.told) first next) (sym (end_commands fed first now end))
            (since_behind fed _ first now next heard said.since);
        written = subst (λ commands. Written s.progress commands first next) (sym (end_commands fed first now end))
            (written_behind fed _ first now next heard said.written);
      }

  pub stop_end : (most : ℕ) (stop : Stop) (fed : List ℕ) (first now next : Seen) → IsAnswering stop
      → ReachedEnd s fed first now → SaidPrefix (position_after s fed).progress (last_commands (position_after s fed) (open_from (Some []) fed)) stop now next → SessionStopped s most stop first next
  stop_end most stop fed first now next kind end said =
      let input = all_fed fed first now end in
      let heard = end.heard in
      let text = said.told.prefix in
      let back = said.told.is_prefix.0 in
      let all = sym (end_commands fed first now end) in
      record {
        sound = said.sound;
        text = so_far_at s fed ++ text;
        is_prefix = (back, append_assoc (so_far_at s fed) text back ∙ ap (λ text. so_far_at s fed ++ text) said.told.is_prefix.1 ∙ sym (output_is s fed) ∙ ap (λ input. replies s.progress (commands_at s input)) (sym input));
        told = joined fed text first now next heard.told said.told.told.told;
        punctual = punctual first next (timely_told (now.taken + 1) first now next text (omega arith) heard.timely said.told.told.told said.told.told.asks);
        read_fault = λ is. absurd (no_read stop kind is);
        too_long = λ is. absurd (no_long stop kind is);
        since = subst (λ commands. Since (Kept s.progress commands first.told) first next) all (since_behind fed _ first now next heard said.since);
        here = subst (λ commands. Kept s.progress commands first.told (moment_of next)) all (kept_behind fed _ first now (moment_of next) heard.told said.here);
        whole = λ between. subst (λ commands. IsWhole s.progress commands first.told next) all
            (whole_behind fed _ first now next heard.told (said.whole (is_memory stop kind between)));
        written = subst (λ commands. Written s.progress commands first next) all (written_behind fed _ first now next heard said.written);
      }
