-- The replies of a session: one line for each of them ends it.
use Rattle.std.proofs.Common.{◌≡◌, ℕ, ◌+◌, Bool, true, false, not, List, [], ◌∷◌, ◌++◌, cond, count_by, sum_by, refl, sym, ap, subst, ◌∙◌, All}
use Rattle.std.specs.List.{flat_map, list_any}
use Rattle.std.specs.Prelude.{if◌then◌else◌}
use Rattle.std.proofs.lemmas.Bool.{or_parts}
use Rattle.std.proofs.lemmas.Grind.{flat_map-append}
use Rattle.std.proofs.lemmas.List.Elements.{All-head, All-tail}
use Rattle.std.proofs.lemmas.List.Sums.{sum_by-append, sum_by-cons}
use Rattle.wot_types.specs.State.{State}
use Rattle.wot_types.specs.Commands.{Command}
use Rattle.wot_types.specs.Lines.{whole_lines}
use Rattle.wot_types.specs.Outcome.{outcome}
use Rattle.wot_types.specs.Refusals.{reply_line}
use Rattle.wot_types.specs.Session.{Progress, after_command, is_edit, replies, states}
use Rattle.wot_types.proofs.Counting.{kept}
use Rattle.wot_reply_laws.specs.Replies.{AreWellFormed, HasHistory, WereWellFormed, ends_reply, is_silent}
use Rattle.wot_reply_laws.proofs.Histories.{history_after}
use Rattle.wot_reply_laws.proofs.PlainTexts.{ArePlain}
use Rattle.wot_reply_laws.proofs.ReplyLines.{all_plain}
use Rattle.wot_reply_laws.proofs.ReplyEnds.{Answered, answered, silent, whole_lines_are}

-- whole lines, of which so many end a reply
record Holds (n : ℕ) (text : List ℕ) : Type 0 where
  lines : List (List ℕ)
  is : text ≡ flat_map reply_line lines
  plain : ArePlain lines
  many : count_by ends_reply lines ≡ n

nothing : Holds 0 []
nothing = record { lines = []; is = refl; plain = tt; many = refl }

both : (m n : ℕ) (a b : List ℕ) → Holds m a → Holds n b → Holds (m + n) (a ++ b)
both m n a b p q = record {
  lines = p.lines ++ q.lines;
  is = (λ i. p.is i ++ q.is i) ∙ sym (flat_map-append reply_line p.lines q.lines);
  plain = all_plain p.lines q.lines p.plain q.plain;
  many = sum_by-append (λ line. cond (ends_reply line) 1 0) p.lines q.lines ∙ (λ i. p.many i + q.many i);
}

none_ends : (lines : List (List ℕ)) → list_any ends_reply lines ≡ false → count_by ends_reply lines ≡ 0
none_ends [] h = refl
none_ends (line ∷ lines) h =
    let parts = or_parts (ends_reply line) (list_any ends_reply lines) h in
    sum_by-cons (λ line. cond (ends_reply line) 1 0) line lines ∙ (λ i. cond (parts.0 i) 1 0 + none_ends lines parts.1 i)

one : (refused : Bool) (text : List ℕ) → Answered refused text → Holds 1 text
one refused text a =
    let last_ends : count_by ends_reply (a.last ∷ []) ≡ 1 = sum_by-cons (λ line. cond (ends_reply line) 1 0) a.last [] ∙ (λ i. cond (a.ends i) 1 0 + 0) in
    record {
      lines = a.lines ++ a.last ∷ [];
      is = a.is;
      plain = a.plain;
      many = sum_by-append (λ line. cond (ends_reply line) 1 0) a.lines (a.last ∷ []) ∙ (λ i. none_ends a.lines a.none i + last_ends i);
    }

-- a command's reply
held : (p : Progress) (command : Command) → AreWellFormed p.store.state.keys → WereWellFormed p.store → (quiet : Bool) → is_silent command ≡ quiet → Holds (cond (not quiet) 1 0) (outcome p.store command).text
held p command w before true e = subst (Holds 0) (sym (silent p.store command e)) nothing
held p command w before false e = one (outcome p.store command).refused (outcome p.store command).text (answered p.store command w before e)

-- ---- the states of a session

abbrev AreGood : List State → Type 0
AreGood all = All (λ (s : State). AreWellFormed s.keys) all

first_good : (p : Progress) (commands : List Command) → AreGood (states p commands) → AreWellFormed p.store.state.keys
first_good p [] w = All-head (λ (s : State). AreWellFormed s.keys) p.store.state [] w
first_good p (command ∷ commands) w = cases (first_good (after_command p command) commands) (is_edit p command) refl w
  where
    cases : (AreGood (states (after_command p command) commands) → AreWellFormed (after_command p command).store.state.keys) → (edit : Bool) → is_edit p command ≡ edit
        → AreGood (if edit then p.store.state ∷ states (after_command p command) commands else states (after_command p command) commands) → AreWellFormed p.store.state.keys
    cases next true is w = All-head (λ (s : State). AreWellFormed s.keys) p.store.state (states (after_command p command) commands) w
    cases next false is w = subst (λ (s : State). AreWellFormed s.keys) (kept p command is) (next w)

rest_good : (edit : Bool) (first : State) (rest : List State) → AreGood (if edit then first ∷ rest else rest) → AreGood rest
rest_good true first rest w = All-tail (λ (s : State). AreWellFormed s.keys) first rest w
rest_good false first rest w = w

-- ---- all replies

abbrev answers : Command → ℕ
answers command = cond (not (is_silent command)) 1 0

held_all : (p : Progress) (commands : List Command) → HasHistory p.store → AreGood (states p commands) → Holds (sum_by answers commands) (replies p commands)
held_all p [] history w = nothing
held_all p (command ∷ commands) history w =
    let now = first_good p (command ∷ commands) w in
    let rest = rest_good (is_edit p command) p.store.state (states (after_command p command) commands) w in
    let next = history_after (outcome p.store command).change p.store history now (first_good (after_command p command) commands rest) in
    subst (λ n. Holds n (replies p (command ∷ commands))) (sym (sum_by-cons answers command commands))
    (both (answers command) (sum_by answers commands) (outcome p.store command).text (replies (after_command p command) commands)
    (held p command now history.earlier (is_silent command) refl)
    (held_all (after_command p command) commands next rest))

pub counted : (p : Progress) (commands : List Command) → HasHistory p.store → AreGood (states p commands)
    → count_by ends_reply (whole_lines (replies p commands)) ≡ count_by (λ command. not (is_silent command)) commands
counted p commands history w =
    let all = held_all p commands history w in
    ap (λ text. count_by ends_reply (whole_lines text)) all.is ∙ ap (count_by ends_reply) (whole_lines_are all.lines all.plain) ∙ all.many
