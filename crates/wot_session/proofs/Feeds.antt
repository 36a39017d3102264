-- How far bytes have been fed to a session.
use Rattle.std.proofs.Common.{◌≡◌, ℕ, Bool, false, List, [], ◌∷◌, ◌++◌, Option, Some, None, refl, sym, ap, ◌∙◌, append_assoc, subst}
use Rattle.std.proofs.lemmas.List.{append-nil}
use Rattle.std.specs.List.{slice_split}
use Rattle.wot_types.specs.Lines.{is_newline}
use Rattle.wot_types.specs.Commands.{ReadLine, division_after, made_by, whole_commands}
use Rattle.wot_types.specs.Commands.Division.{over}
use Rattle.wot_types.specs.LineByLine.{Position, after_line, after_lines, commands_in}
use Rattle.wot_types.specs.Session.{after_all}
use Rattle.wot_types.proofs.Divisions.{after_one, lines_append, none_over, one_line, stays_over, whole_append}
use Rattle.wot_answer.specs.Answer.{IsDivision}
use Rattle.wot_answer.proofs.Answering as answering
use Rattle.wot_answer.specs.declared.division.Division.{Division}
use Rattle.wot_answer.specs.declared.reply.Answer.{Answer}
use Rattle.wot_answer.specs.declared.division.Division.TheVariants.{Between, Over, Within}
use Rattle.wot_site.specs.Seen.{Seen, Honestly, IfHonest}
use Rattle.wot_site.proofs.Honest.{honest_then, honest_weaker}
use Rattle.wot_store.specs.Shows.{IsStored}
use Rattle.wot_store.specs.declared.place.Place.{Place}
use Rattle.wot_session.specs.declared.session.Session.{Session}
use Rattle.wot_session.specs.OpenLine.{more, whole_from, open_from}
use Rattle.wot_session.specs.SessionState.{Holds, IsAt, IsDue, IsDueHere, IsHere, IsOver, KnowsRefused}
use Rattle.wot_session.specs.declared.stop.Stop.{Stop}
use Rattle.wot_session.specs.declared.stop.Stop.TheVariants.{Memory}
use Rattle.wot_session.specs.Answering.{Said, SaidPrefix}
use Rattle.wot_session.proofs.Parts.{whole_at, open_at, whole_none, open_none}
use Rattle.wot_session.proofs.Sayings.{said_none, said_prefix, said_prefix_more, said_then, said_then_prefix}

-- a session that is over stands behind `quit`
pub is_over : (session : Session) (p : Position) → IsAt session p → IsOver session → p.division ≡ over
is_over session p at ended = answering.is_over p.division (subst (λ division. IsDivision division p.division) ended at.division)

over_division : (division : Division) → IsDivision division over → division ≡ Over
over_division Between is = absurd is
over_division (Within block) is = absurd is
over_division Over is = refl

pub not_over : (session : Session) (p : Position) → IsAt session p → (IsOver session → ⊥) → p.division ≡ over → ⊥
not_over session p at goes is = goes (over_division session.division (subst (IsDivision session.division) is at.division))

-- behind `quit` lines change nothing
pub over_commands : (p : Position) (lines : List ReadLine) → p.division ≡ over → commands_in p lines ≡ []
over_commands p lines is = ap (λ division. whole_commands division lines) is ∙ none_over lines

pub over_lines : (p : Position) (lines : List ReadLine) → p.division ≡ over → after_lines p lines ≡ p
over_lines p lines is =
    ap (λ commands. record { progress = after_all p.progress commands; division = division_after p.division lines }) (over_commands p lines is)
    ∙ ap (λ division. record { progress = p.progress; division = division }) (ap (λ division. division_after division lines) is ∙ stays_over lines ∙ sym is)

-- one line more
pub after_push : (p : Position) (xs : List ReadLine) (line : ReadLine) → after_lines p (xs ++ line ∷ []) ≡ after_line (after_lines p xs) line
after_push p xs line = lines_append p xs (line ∷ []) ∙ after_one (after_lines p xs) line

pub commands_push : (p : Position) (xs : List ReadLine) (line : ReadLine) → commands_in p (xs ++ line ∷ []) ≡ commands_in p xs ++ made_by (after_lines p xs).division line
commands_push p xs line = whole_append p.division xs (line ∷ []) ∙ ap (λ last. commands_in p xs ++ last) (one_line (after_lines p xs).division line)

-- a session at the place at which the store is open
pub here_at : {place : Place} (session : Session) (seen : Option Seen) (p : Position) → session.place ≡ Some place → IsAt session p → Holds place seen p.progress.store
    → KnowsRefused session seen p.progress.refused → IsHere session seen p
here_at {place = place} session seen p there at holds known = record { at = at; place = place; there = there; holds = holds; refused = known }

-- a session that has answered nothing knows of no refusal
pub knows_start : (session : Session) (seen : Option Seen) → session.refused ≡ false → KnowsRefused session seen false
knows_start session None none = tt
knows_start session (Some x) none = none

-- and what it knows it knows while it reads on
knows_at : (old held : Session) (seen : Option Seen) (refused : Bool) → held.refused ≡ old.refused → KnowsRefused old seen refused → KnowsRefused held seen refused
knows_at old held None refused same known = tt
knows_at old held (Some x) refused same known = same ∙ known

-- a session that is where another was, with the same store and as many refusals
pub here_as : (old held : Session) (seen : Option Seen) (p : Position) → held.place ≡ old.place → held.refused ≡ old.refused → IsAt held p → IsHere old seen p → IsHere held seen p
here_as old held seen p place refused at here = here_at held seen p (place ∙ here.there) at here.holds (knows_at old held seen p.progress.refused refused here.refused)

-- an answer that is due there
pub due_here : (old held : Session) (answer : Answer) (seen : Option Seen) (p after : Position) (text : List ℕ) → held.place ≡ old.place → held.refused ≡ old.refused
    → IsHere old seen p → IsDue held answer p.progress after text → IsDueHere held answer seen p.progress after text
due_here old held answer seen p after text place refused here due = record {
  due = due;
  place = here.place;
  there = place ∙ here.there;
  holds = here.holds;
  refused = knows_at old held seen p.progress.refused refused here.refused;
}

-- what a site that tells has where a session is
abbrev pub Known : Place → Session → Position → Seen → Type 0
Known place session p s = IsStored place p.progress.store s.disks × (session.refused ≡ p.progress.refused)

pub known_here : (session : Session) (seen : Option Seen) (p : Position) → (here : IsHere session seen p) → IfHonest seen (Known here.place session p)
known_here session None p here = tt
known_here session (Some x) p here = (here.holds, here.refused)

-- these bytes were given to a session at its start, the rest of them is to be fed, and the lines before it are done
pub record Feeding (first now : Option Seen) (start session : Session) (bytes rest : List ℕ) : Type 0 where
  pub done : List ReadLine
  pub at : (p : Position) → IsHere start first p → IsHere session now (after_lines p done)
  pub said : (p : Position) → IsHere start first p → Honestly first now (Said p.progress (commands_in p done))
  pub whole : done ++ whole_from session.line rest ≡ whole_from start.line bytes
  pub line : open_from session.line rest ≡ open_from start.line bytes

pub start_said : (place : Place) (p : Position) (a : Option Seen) → Holds place a p.progress.store → Honestly a a (Said p.progress [])
start_said place p None holds = tt
start_said place p (Some x) holds = said_none p.progress x holds

pub feeding_start : (a : Option Seen) (session : Session) (bytes : List ℕ) → Feeding a a session session bytes bytes
feeding_start a session bytes = record {
  done = [];
  at = λ p here. here;
  said = λ p here. start_said here.place p a here.holds;
  whole = refl;
  line = refl;
}

-- a step, and what is known after it
pub said_known : (P : Seen → Seen → Type 0) (K : Seen → Type 0) (a b : Option Seen) → Honestly a b P → IfHonest b K → Honestly a b (λ x y. P x y × K y)
said_known P K None None step known = tt
said_known P K None (Some y) step known = absurd step
said_known P K (Some x) None step known = absurd step
said_known P K (Some x) (Some y) step known = (step, known)

module _ {first now : Option Seen} {start session : Session} {bytes rest : List ℕ} (feeding : Feeding first now start session bytes rest) where
  all_commands : (p : Position) → commands_in p (whole_from start.line bytes) ≡ commands_in p feeding.done ++ commands_in (after_lines p feeding.done) (whole_from session.line rest)
  all_commands p = ap (commands_in p) (sym feeding.whole) ∙ whole_append p.division feeding.done (whole_from session.line rest)

  -- no memory for the next line
  pub feeding_stop : (p : Position) → IsHere start first p → Honestly first now (SaidPrefix p.progress (commands_in p (whole_from start.line bytes)) Memory)
  feeding_stop p here =
      honest_weaker _ _ first now (said_known _ _ first now (feeding.said p here) (feeding.at p here).holds)
      (λ x y both. subst (λ commands. SaidPrefix p.progress commands Memory x y) (sym (all_commands p))
      (said_prefix p.progress (commands_in p feeding.done) (commands_in (after_lines p feeding.done) (whole_from session.line rest)) x y both.0 both.1))

  -- `quit` came, and the rest of the bytes is passed
  module _ (ended : IsOver session) where
    pub over_at : (p : Position) → IsHere start first p → IsHere session now (after_lines p (whole_from start.line bytes))
    over_at p here =
        let same = over_lines (after_lines p feeding.done) (whole_from session.line rest) (is_over session _ (feeding.at p here).at ended) in
        subst (IsHere session now) (sym same ∙ sym (lines_append p feeding.done (whole_from session.line rest)) ∙ ap (after_lines p) feeding.whole) (feeding.at p here)

    pub over_said : (p : Position) → IsHere start first p → Honestly first now (Said p.progress (commands_in p (whole_from start.line bytes)))
    over_said p here =
        let none = over_commands (after_lines p feeding.done) (whole_from session.line rest) (is_over session _ (feeding.at p here).at ended) in
        honest_weaker _ _ first now (feeding.said p here)
        (λ x y said. subst (λ commands. Said p.progress commands x y)
        (sym (append-nil (commands_in p feeding.done)) ∙ ap (λ last. commands_in p feeding.done ++ last) (sym none) ∙ sym (all_commands p)) said)

  module _ (part after : List ℕ) (split : slice_split is_newline rest ≡ part ∷ slice_split is_newline after) where
    next_whole : feeding.done ++ (more session.line part) ∷ [] ++ whole_from (Some []) after ≡ whole_from start.line bytes
    next_whole =
        append_assoc feeding.done ((more session.line part) ∷ []) (whole_from (Some []) after)
        ∙ ap (λ lines. feeding.done ++ lines) (sym (whole_at session.line rest part after split))
        ∙ feeding.whole

    -- the next line was answered
    pub feeding_more : (next : Option Seen) (answered : Session)
        → ((p : Position) → IsHere session now p → IsHere answered next (after_line p (more session.line part)))
        → answered.line ≡ Some []
        → ((p : Position) → IsHere session now p → Honestly now next (Said p.progress (made_by p.division (more session.line part))))
        → Feeding first next start answered bytes after
    feeding_more next answered at clear said = record {
      done = feeding.done ++ (more session.line part) ∷ [];
      at = λ p here. subst (IsHere answered next) (sym (after_push p feeding.done (more session.line part))) (at (after_lines p feeding.done) (feeding.at p here));
      said = λ p here. honest_then _ _ _ first now next (feeding.said p here) (said (after_lines p feeding.done) (feeding.at p here))
          (λ x y z before after. subst (λ commands. Said p.progress commands x z) (sym (commands_push p feeding.done (more session.line part)))
          (said_then p.progress (commands_in p feeding.done) (made_by (after_lines p feeding.done).division (more session.line part)) x y z before after));
      whole = ap (λ line. feeding.done ++ (more session.line part) ∷ [] ++ whole_from line after) clear ∙ next_whole;
      line = ap (λ line. open_from line after) clear ∙ sym (open_at session.line rest part after split) ∙ feeding.line;
    }

    -- it stopped there
    pub feeding_broken : (next : Option Seen) (stop : Stop)
        → ((p : Position) → IsHere session now p → Honestly now next (SaidPrefix p.progress (made_by p.division (more session.line part)) stop))
        → (p : Position) → IsHere start first p → Honestly first next (SaidPrefix p.progress (commands_in p (whole_from start.line bytes)) stop)
    feeding_broken next stop prefix p here =
        let line = made_by (after_lines p feeding.done).division (more session.line part) in
        let others = commands_in (after_lines p (feeding.done ++ (more session.line part) ∷ [])) (whole_from (Some []) after) in
        let split : commands_in p (whole_from start.line bytes) ≡ (commands_in p feeding.done ++ line) ++ others =
        ap (commands_in p) (sym next_whole) ∙ whole_append p.division (feeding.done ++ (more session.line part) ∷ []) (whole_from (Some []) after)
        ∙ ap (λ front. front ++ others) (commands_push p feeding.done (more session.line part)) in
        honest_then _ _ _ first now next (feeding.said p here) (prefix (after_lines p feeding.done) (feeding.at p here))
        (λ x y z before broken. subst (λ commands. SaidPrefix p.progress commands stop x z) (sym split)
        (said_prefix_more p.progress (commands_in p feeding.done ++ line) others x z stop
        (said_then_prefix p.progress (commands_in p feeding.done) line x y stop z before broken)))

  -- no line ends in the rest
  module _ (unended : slice_split is_newline rest ≡ rest ∷ []) where
    all_done : feeding.done ≡ whole_from start.line bytes
    all_done =
        sym (append-nil feeding.done) ∙ ap (λ lines. feeding.done ++ lines) (sym (whole_none session.line rest unended)) ∙ feeding.whole

    pub fed_at : (held : Session) → ((p : Position) → IsAt session p → IsAt held p) → held.place ≡ session.place → held.refused ≡ session.refused
        → (p : Position) → IsHere start first p → IsHere held now (after_lines p (whole_from start.line bytes))
    fed_at held held_at held_place held_refused p here =
        subst (λ lines. IsHere held now (after_lines p lines)) all_done
        (here_as session held now (after_lines p feeding.done) held_place held_refused (held_at _ (feeding.at p here).at) (feeding.at p here))

    pub fed_line : open_from start.line bytes ≡ more session.line rest
    fed_line = sym feeding.line ∙ open_none session.line rest unended

    pub fed_said : (p : Position) → IsHere start first p → Honestly first now (Said p.progress (commands_in p (whole_from start.line bytes)))
    fed_said p here = honest_weaker _ _ first now (feeding.said p here) (λ x y said. subst (λ lines. Said p.progress (commands_in p lines) x y) all_done said)
