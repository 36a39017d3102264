-- The loop of a run, over what its site tells.
use Rattle.std.proofs.Common.{◌≡◌, ◌⊎◌, inl, inr, ℕ, ◌+◌, ◌-◌, ◌<◌, ◌≤◌, Bool, List, [], ◌++◌, length, Option, Some, None, sym, ap, ◌∙◌, length-append, arith}
use Rattle.wot_types.specs.Commands.Division.{over}
use Rattle.wot_types.specs.LineByLine.{Position, after_lines}
use Rattle.wot_site.specs.Seen.{Seen, Honestly}
use Rattle.wot_site.proofs.Honest.{honest_then}
use Rattle.wot_store.specs.declared.place.Place.{Place}
use Rattle.wot_session.specs.declared.session.Session.{Session}
use Rattle.wot_session.specs.declared.stop.Stop.{Stop}
use Rattle.wot_session.specs.AtEnd.{at_end, last_commands}
use Rattle.wot_session.specs.OpenLine.{whole_from, open_from}
use Rattle.wot_session.specs.SessionState.{Holds, IsHere, IsOver}
use Rattle.wot_session.specs.Answering.{IsAnswering, Said, SaidPrefix}
use Rattle.wot_session.specs.Turn.{StoppedTurn, TookAll, Turned, division_fed}
use Rattle.wot_session.specs.Input.{SessionEnded, SessionStopped}
use Rattle.wot_session.proofs.Feeds.{is_over, known_here, not_over, said_known}
use Rattle.wot_session.proofs.Parts.{open_append}
use Rattle.wot_session.proofs.Inputs.{position_after, position_append}
use Rattle.wot_session.proofs.Runs.{Reached, ReachedEnd, end_run, heard_more, over_run, reached_end, reached_more, reached_start, stop_end, stop_turn}

-- these bytes were fed, and there is room for so many more
pub record Running (s : Position) (first now : Option Seen) (session : Session) (most room : ℕ) : Type 0 where
  pub fed : List ℕ
  pub at : IsHere session now (position_after s fed)
  pub line : session.line ≡ open_from (Some []) fed
  pub bound : length fed + room ≡ most
  pub reached : Honestly first now (Reached s fed)

-- the whole input was fed
pub record Ending (s : Position) (first now : Option Seen) (session : Session) (most : ℕ) : Type 0 where
  pub fed : List ℕ
  pub at : IsHere session now (position_after s fed)
  pub line : session.line ≡ open_from (Some []) fed
  pub bound : length fed ≤ most
  pub reached : Honestly first now (ReachedEnd s fed)

start_reached : (place : Place) (s : Position) (a : Option Seen) → Holds place a s.progress.store → (s.division ≡ over → ⊥) → Honestly a a (Reached s [])
start_reached place s None holds goes = tt
start_reached place s (Some x) holds goes = reached_start s x holds goes

pub running_start : (s : Position) (a : Option Seen) (session : Session) (most : ℕ) → IsHere session a s → session.line ≡ Some [] → (IsOver session → ⊥)
    → Running s a a session most most
running_start s a session most at line goes = record {
  fed = [];
  at = at;
  line = line;
  bound = omega arith;
  reached = start_reached at.place s a at.holds (not_over session s at.at goes);
}

module _ {s : Position} {first now : Option Seen} {session : Session} {most room : ℕ} (running : Running s first now session most room) where
  -- the turn stopped
  pub running_stop : (next : Option Seen) (stop : Stop)
      → ((p : Position) → IsHere session now p → Honestly now next (StoppedTurn p session.line room stop)) → Honestly first next (SessionStopped s most stop)
  running_stop next stop stopped =
      honest_then _ _ _ first now next running.reached (rw running.line at (stopped (position_after s running.fed) running.at))
      (λ x y z. stop_turn s most room stop running.fed x y z running.bound)

  module _ (next : Option Seen) (turned : Session) (piece : List ℕ)
      (at : (p : Position) → IsHere session now p → IsHere turned next (after_lines p (whole_from session.line piece)))
      (turn : (p : Position) → IsHere session now p → Honestly now next (Turned p session.line piece)) where
    turned_at : IsHere turned next (position_after s (running.fed ++ piece))
    turned_at = rw (position_append s running.fed piece, ← running.line) (at (position_after s running.fed) running.at)

    turned_here : Honestly now next (Turned (position_after s running.fed) (open_from (Some []) running.fed) piece)
    turned_here = rw running.line at (turn (position_after s running.fed) running.at)

    fed_size : (n : ℕ) → length piece ≡ n → length (running.fed ++ piece) ≡ length running.fed + n
    fed_size n size = length-append running.fed piece ∙ ap (λ k. length running.fed + k) size

    -- `quit` came
    pub running_over : (n : ℕ) (refused : Bool) → length piece ≡ n → n ≤ room → IsOver turned
        → refused ≡ turned.refused → Honestly first next (SessionEnded s most refused)
    running_over n refused size within ended refusals =
        honest_then _ _ _ first now next running.reached (said_known _ _ now next turned_here (known_here turned next _ turned_at))
        (λ x y z reached both. over_run s most refused (running.fed ++ piece) x z (omega (arith, fed_size n size, within, running.bound))
        (is_over turned _ turned_at.at ended) (refusals ∙ both.1.1) (heard_more s (y.taken + 1) running.fed piece x y z (omega arith) reached both.0) both.1.0)

    module _ (goes : IsOver turned → ⊥) (line : IsOver turned ⊎ (turned.line ≡ open_from session.line piece)) where
      turned_line : turned.line ≡ open_from (Some []) (running.fed ++ piece)
      turned_line = stays line ∙ ap (λ line. open_from line piece) running.line ∙ sym (open_append running.fed piece (Some []))
        where
          stays : IsOver turned ⊎ (turned.line ≡ open_from session.line piece) → turned.line ≡ open_from session.line piece
          stays (inl ended) = absurd (goes ended)
          stays (inr line) = line

      took : (y z : Seen) → Turned (position_after s running.fed) (open_from (Some []) running.fed) piece y z → TookAll piece y z
      took y z turned_there = cases turned_there.took
        where
          cases : TookAll piece y z ⊎ (division_fed (position_after s running.fed) (open_from (Some []) running.fed) piece ≡ over) → TookAll piece y z
          cases (inl all) = all
          cases (inr ended) = absurd (not_over turned _ turned_at.at goes (ap (λ (p : Position). p.division) (position_append s running.fed piece) ∙ ended))

      still : (position_after s (running.fed ++ piece)).division ≡ over → ⊥
      still = not_over turned _ turned_at.at goes

      -- a piece came
      pub running_more : (n : ℕ) → length piece ≡ n → n ≤ room → 0 < n → Running s first next turned most (room - n)
      running_more n size within some = record {
        fed = running.fed ++ piece;
        at = turned_at;
        line = turned_line;
        bound = omega (arith, running.bound, fed_size n size, within);
        reached = honest_then _ _ _ first now next running.reached turned_here (λ x y z reached there. reached_more s running.fed piece x y z (omega (arith, some, size)) reached there (took y z there) still);
      }

      -- none came
      pub running_end : piece ≡ [] → Ending s first next turned most
      running_end none = record {
        fed = running.fed ++ piece;
        at = turned_at;
        line = turned_line;
        bound = omega (arith, running.bound, length-append running.fed piece, ap length none);
        reached = honest_then _ _ _ first now next running.reached turned_here (λ x y z reached there. reached_end s running.fed piece x y z none reached there (took y z there));
      }

module _ {s : Position} {first now : Option Seen} {session : Session} {most : ℕ} (ending : Ending s first now session most) where
  -- the rest was answered
  pub ending_ok : (next : Option Seen) (ended : Session) (refused : Bool)
      → ((p : Position) → IsHere session now p → IsHere ended next (at_end p session.line))
      → ((p : Position) → IsHere session now p → Honestly now next (Said p.progress (last_commands p session.line)))
      → refused ≡ ended.refused
      → Honestly first next (SessionEnded s most refused)
  ending_ok next ended refused at said refusals =
      let here = rw ending.line at (at (position_after s ending.fed) ending.at) in
      honest_then _ _ _ first now next ending.reached (said_known _ _ now next (rw ending.line at (said (position_after s ending.fed) ending.at)) (known_here ended next _ here))
      (λ x y z end both. end_run s most refused ending.fed x y z ending.bound (refusals ∙ both.1.1) end both.0 both.1.0)

  pub ending_stop : (next : Option Seen) (stop : Stop) → IsAnswering stop
      → ((p : Position) → IsHere session now p → Honestly now next (SaidPrefix p.progress (last_commands p session.line) stop))
      → Honestly first next (SessionStopped s most stop)
  ending_stop next stop kind said =
      honest_then _ _ _ first now next ending.reached (rw ending.line at (said (position_after s ending.fed) ending.at))
      (λ x y z. stop_end s most stop ending.fed x y z kind)
