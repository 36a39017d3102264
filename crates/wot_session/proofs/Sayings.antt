-- Replies to some commands, and then to others.
use Rattle.std.proofs.Common.{◌≡◌, ◌⊎◌, ◌==◌, length, arith, inl, inr, ℕ, true, false, List, [], ◌∷◌, ◌++◌, if◌then◌else◌, Option, Some, None, refl, sym, ap, ◌∙◌, subst}
use Rattle.std.proofs.lemmas.Bool.Decides.{nat_tests}
use Rattle.std.proofs.lemmas.List.{append-nil}
use Rattle.wot_site.specs.Seen.{Honestly, Moment, Seen}
use Rattle.wot_site.specs.Site.{Stays}
use Rattle.wot_site.specs.Work.{Since, moment_of}
use Rattle.wot_site.proofs.Works.{since_start, since_then, since_weaker}
use Rattle.wot_store.specs.Shows.{IsStored}
use Rattle.wot_store.specs.declared.place.Place.{Place}
use Rattle.wot_types.specs.Commands.{Command, Division, ReadLine, closed_command, ends, made_by, of_line, opens_block, unfinished_commands}
use Rattle.wot_types.specs.Commands.Division.{between, over, within}
use Rattle.wot_types.specs.Session.{Progress, after_command, after_all, replies, reply_to}
use Rattle.wot_types.specs.LineByLine.{Position, after_line, after_lines, commands_in}
use Rattle.wot_types.proofs.Divisions.{after_one, commands_append, one_line}
use Rattle.wot_session.specs.OpenLine.{last_lines}
use Rattle.wot_session.specs.SessionState.{Holds}
use Rattle.wot_session.specs.CrashImages.{IsAround, IsWhole, Kept}
use Rattle.wot_session.specs.Answering.{Given, GivenPrefix, Said, SaidPrefix}
use Rattle.wot_session.specs.declared.stop.Stop.{Stop}
use Rattle.wot_session.specs.declared.stop.Stop.TheVariants.{Memory}
use Rattle.wot_session.proofs.Keeping.{kept_here, kept_more, kept_then, stored_shows, whole_here, whole_more, whole_then}
use Rattle.wot_session.specs.Written.{IsAnswered, WritesTo, Written}
use Rattle.wot_session.proofs.Trails.{written_more, written_none, written_one, written_start, written_then}
use Rattle.wot_tell.proofs.Texts.{told_none, told_then, told_then_prefix, prefix_more}

-- nothing was done yet
pub said_none : {place : Place} (p : Progress) (x : Seen) → IsStored place p.store x.disks → Said p [] x x
said_none p x stored = record { told = told_none x; since = since_start _ x (refl, stored_shows p.store x.disks stored); written = written_start p [] x }

-- where there is no reply and the store stays
none_kept : (p : Progress) (told : List ℕ) (m : Moment) → IsAround p.store p.store [] told m → Kept p [] told m
none_kept p told m around = (
  around.told ∙ ap (λ prefix. told ++ prefix) (none around.prefix around.is_prefix.0 around.is_prefix.1) ∙ append-nil told,
  λ image is. same (around.either image is),
)
  where
    none : (front back : List ℕ) → front ++ back ≡ [] → front ≡ []
    none [] back e = refl
    none (b ∷ front) back e = cc

    same : {P : Type 0} → P ⊎ P → P
    same (inl shows) = shows
    same (inr shows) = shows

-- one answer, to one command or to none
pub record AtMostOne (commands : List Command) : Type 0 where
  pub cases : (commands ≡ []) ⊎ ((command : Command) × (commands ≡ command ∷ []))

no_more : (command other : Command) (commands : List Command) → AtMostOne (command ∷ other ∷ commands) → ⊥
no_more command other commands one = no one.cases
  where
    no : ((command ∷ other ∷ commands) ≡ []) ⊎ ((single : Command) × ((command ∷ other ∷ commands) ≡ single ∷ [])) → ⊥
    no (inl none) = cc
    no (inr (single, is)) = cc

around_kept : (p : Progress) (commands : List Command) (told : List ℕ) (m : Moment) → AtMostOne commands
    → IsAround p.store (after_all p commands).store (replies p commands) told m → Kept p commands told m
around_kept p [] told m one around = none_kept p told m around
around_kept p (command ∷ []) told m one around = inl (subst (λ reply. IsAround p.store (after_command p command).store reply told m) (append-nil (reply_to p command)) around)
around_kept p (command ∷ other ∷ commands) told m one around = absurd (no_more command other commands one)

around_written : (p : Progress) (commands : List Command) (x y : Seen) → AtMostOne commands
    → Since (IsAnswered (WritesTo p.store (after_all p commands).store x.disks) (replies p commands) x.told y.disks) x y
    → WritesTo p.store (after_all p commands).store x.disks y.disks → Written p commands x y
around_written p [] x y one since last = written_none p x y since last
around_written p (command ∷ []) x y one since last =
    written_one p command x y (subst (λ reply. Since (IsAnswered (WritesTo p.store (after_command p command).store x.disks) reply x.told y.disks) x y) (append-nil (reply_to p command)) since) last
around_written p (command ∷ other ∷ commands) x y one since last = absurd (no_more command other commands one)

-- a line makes at most one command whole, and the input's end one more
pub one_made : (division : Division) (line : ReadLine) → AtMostOne (made_by division line)
one_made over line = record { cases = inl refl }
one_made between line = elim (opens_block line) as (λ b. AtMostOne (if b then [] else of_line line ∷ [])) [
  | true ↦ record { cases = inl refl }
  | false ↦ record { cases = inr (of_line line, refl) }
]
one_made (within command) line = elim (ends command line) as (λ b. AtMostOne (if b then closed_command command ∷ [] else [])) [
  | true ↦ record { cases = inr (closed_command command, refl) }
  | false ↦ record { cases = inl refl }
]

pub one_unfinished : (division : Division) → AtMostOne (unfinished_commands division)
one_unfinished between = record { cases = inl refl }
one_unfinished (within command) = record { cases = inr (command, refl) }
one_unfinished over = record { cases = inl refl }

-- an answer that was given
pub given_said : (p : Progress) (commands : List Command) (x y : Seen) → AtMostOne commands → Given p.store (after_all p commands).store (replies p commands) x y → Said p commands x y
given_said p commands x y one given = record {
  told = given.told;
  since = since_weaker _ _ x y (λ m. around_kept p commands x.told m one) given.since;
  written = around_written p commands x y one given.writes given.last;
}

pub given_said_prefix : (p : Progress) (commands : List Command) (stop : Stop) (x y : Seen) → AtMostOne commands → (stop ≡ Memory → IsWhole p commands x.told y)
    → GivenPrefix p.store (after_all p commands).store (replies p commands) stop x y → SaidPrefix p commands stop x y
given_said_prefix p commands stop x y one whole given = record {
  sound = given.sound;
  told = given.told;
  since = since_weaker _ _ x y (λ m. around_kept p commands x.told m one) given.since;
  here = around_kept p commands x.told (moment_of y) one given.here;
  whole = whole;
  written = around_written p commands x y one given.writes given.last;
}

-- where memory was wanted, nothing was done
whole_still : {place : Place} (p : Progress) (commands : List Command) (x y : Seen) → IsStored place p.store x.disks → y ≡ x → IsWhole p commands x.told y
whole_still p commands x y stored same = subst (IsWhole p commands x.told) (sym same) (whole_here p commands x.told x refl stored)

pub giving_said : (place : Place) (p : Progress) (commands : List Command) (stop : Stop) (a b : Option Seen) → AtMostOne commands → Holds place a p.store
    → (stop ≡ Memory → Honestly a b Stays) → Honestly a b (GivenPrefix p.store (after_all p commands).store (replies p commands) stop) → Honestly a b (SaidPrefix p commands stop)
giving_said place p commands stop None None one holds memory given = tt
giving_said place p commands stop None (Some y) one holds memory given = absurd given
giving_said place p commands stop (Some x) None one holds memory given = absurd given
giving_said place p commands stop (Some x) (Some y) one holds memory given =
    given_said_prefix p commands stop x y one (λ is. whole_still p commands x y holds (memory is)) given

-- no memory for an answer
pub said_nothing : {place : Place} (p : Progress) (commands : List Command) (x : Seen) → IsStored place p.store x.disks → SaidPrefix p commands Memory x x
said_nothing p commands x stored =
    let here = kept_here p commands x.told (moment_of x) refl (stored_shows p.store x.disks stored) in
    record {
      sound = tt;
      told = record { prefix = []; is_prefix = (replies p commands, refl); told = told_none x };
      since = since_start _ x here;
      here = here;
      whole = λ _. whole_here p commands x.told x refl stored;
      written = written_start p commands x;
    }

pub no_memory : (place : Place) (p : Progress) (commands : List Command) (a : Option Seen) → Holds place a p.store → Honestly a a (SaidPrefix p commands Memory)
no_memory place p commands None holds = tt
no_memory place p commands (Some x) holds = said_nothing p commands x holds

module _ (p : Progress) (xs ys : List Command) (x y : Seen) where
  later : y.told ≡ x.told ++ replies p xs → (m : Moment) → Kept (after_all p xs) ys y.told m → Kept p (xs ++ ys) x.told m
  later told m kept = kept_then p xs ys x.told m (subst (λ t. Kept (after_all p xs) ys t m) told kept)

  pub said_then : (z : Seen) → Said p xs x y → Said (after_all p xs) ys y z → Said p (xs ++ ys) x z
  said_then z before after = record {
    told = rw (commands_append p xs ys) (told_then _ _ x y z before.told after.told);
    since = since_then _ x y z (since_weaker _ _ x y (kept_more p xs ys x.told) before.since) (since_weaker _ _ y z (later before.told.told) after.since);
    written = written_then p xs ys x y z before.told.told before.written after.written;
  }

  pub said_then_prefix : (stop : Stop) (z : Seen) → Said p xs x y → SaidPrefix (after_all p xs) ys stop y z → SaidPrefix p (xs ++ ys) stop x z
  said_then_prefix stop z before after = record {
    sound = after.sound;
    told = rw (commands_append p xs ys) (told_then_prefix _ _ x y z before.told after.told);
    since = since_then _ x y z (since_weaker _ _ x y (kept_more p xs ys x.told) before.since) (since_weaker _ _ y z (later before.told.told) after.since);
    here = later before.told.told (moment_of z) after.here;
    whole = λ is. whole_then p xs ys x.told z (subst (λ t. IsWhole (after_all p xs) ys t z) before.told.told (after.whole is));
    written = written_then p xs ys x y z before.told.told before.written after.written;
  }

  -- some commands were answered, and there was no memory for the others
  pub said_prefix : {place : Place} → Said p xs x y → IsStored place (after_all p xs).store y.disks → SaidPrefix p (xs ++ ys) Memory x y
  said_prefix said stored = said_then_prefix Memory y said (said_nothing (after_all p xs) ys y stored)

  pub said_prefix_more : (stop : Stop) → SaidPrefix p xs stop x y → SaidPrefix p (xs ++ ys) stop x y
  said_prefix_more stop said = record {
    sound = said.sound;
    told = rw (commands_append p xs ys) (prefix_more _ _ x y said.told);
    since = since_weaker _ _ x y (kept_more p xs ys x.told) said.since;
    here = kept_more p xs ys x.told (moment_of y) said.here;
    whole = λ is. whole_more p xs ys x.told y (said.whole is);
    written = written_more p xs ys x y said.written;
  }

not_empty : (b : ℕ) (bytes : List ℕ) → (length (b ∷ bytes) == 0) ≡ false
not_empty b bytes = grind (arith, nat_tests)

-- an open line that is not empty is the last one
last_line : (line : Option (List ℕ)) → (line ≡ Some [] → ⊥) → last_lines line ≡ line ∷ []
last_line None some = refl
last_line (Some []) some = absurd (some refl)
last_line (Some (b ∷ bytes)) some = ap (λ t. if t then [] else Some (b ∷ bytes) ∷ []) (not_empty b bytes)

pub last_after : (p : Position) (line : Option (List ℕ)) → (line ≡ Some [] → ⊥) → after_lines p (last_lines line) ≡ after_line p line
last_after p line some = ap (after_lines p) (last_line line some) ∙ after_one p line

pub last_made : (p : Position) (line : Option (List ℕ)) → (line ≡ Some [] → ⊥) → commands_in p (last_lines line) ≡ made_by p.division line
last_made p line some = ap (commands_in p) (last_line line some) ∙ one_line p.division line

pub last_none : (p : Position) (line : Option (List ℕ)) → line ≡ Some [] → commands_in p (last_lines line) ≡ []
last_none p line is = ap (λ line. commands_in p (last_lines line)) is

-- one command by its words
one_only : (command : Command) → AtMostOne (command ∷ [])
one_only command = record { cases = inr (command, refl) }

pub given_one : (p : Progress) (command : Command) (x y : Seen) → Given p.store (after_command p command).store (reply_to p command) x y → Said p (command ∷ []) x y
given_one p command x y given =
    given_said p (command ∷ []) x y (one_only command) (subst (λ reply. Given p.store (after_command p command).store reply x y) (sym (append-nil (reply_to p command))) given)

pub giving_one : (place : Place) (p : Progress) (command : Command) (stop : Stop) (a b : Option Seen) → Holds place a p.store
    → (stop ≡ Memory → Honestly a b Stays) → Honestly a b (GivenPrefix p.store (after_command p command).store (reply_to p command) stop) → Honestly a b (SaidPrefix p (command ∷ []) stop)
giving_one place p command stop a b holds memory given =
    giving_said place p (command ∷ []) stop a b (one_only command) holds memory
    (subst (λ reply. Honestly a b (GivenPrefix p.store (after_command p command).store reply stop)) (sym (append-nil (reply_to p command))) given)
