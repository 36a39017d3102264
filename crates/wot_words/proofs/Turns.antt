-- What clap makes of one word, by what the word is.
use Rattle.std.proofs.Common.{◌≡◌, ◌∙◌, ◌++◌, ◌∷◌, ◌&&◌, Bool, true, false, List, [], Option, Some, None, refl, ap, codes}
use Rattle.clap.specs.Words.{Kinds, Text}
use Rattle.clap.specs.Faults.{settle_fault, turn_fault, use_fault, walk_fault}
use Rattle.clap.specs.Kinds.{or_else}
use Rattle.clap.specs.Walk.{Held, Row, Waiting, Walk, idle, is_pending, option, positional, settled, used, walked}
use Rattle.clap.specs.declared.error.kind.ErrorKind.{ErrorKind}
use Rattle.clap.specs.declared.error.kind.ErrorKind.TheVariants.{UnknownArgument}
use Rattle.wot_words.proofs.Built.{end_of, held, or_none, read_from, read_or, rules, shape, word_rule, workers_rule}
use Rattle.wot_words.proofs.WordKinds.{IsPlain, IsUnknown}

abbrev pub standing : Held → Waiting → Bool → Walk
standing h waiting is_trailing = record { held = h; waiting = waiting; position = 1; is_trailing = is_trailing; stopped = None }

-- where an option or a word of the command may come: after a word of the command, or not
abbrev pub between : Bool → Waiting
between true = positional
between false = idle

-- what the walk holds with a use of an argument before it
abbrev pub rows_at : List Row → Option (Text × List Text) → List Row
rows_at rows pending = (settled rules (held rows pending)).rows

abbrev pub fault_at : List Row → Option (Text × List Text) → Kinds
fault_at rows pending = settle_fault rules false (held rows pending)

abbrev pub workers : Text
workers = codes "workers"

abbrev pub word_id : Text
word_id = codes "word"

-- ---- a turn, and the words after it

turn_passes : (w : Walk) (word : Text) (rest : List Text) → turn_fault shape [] w word ≡ [] → read_from w (word ∷ rest) ≡ read_from (walked rules [] w word) rest
unfolding walk_fault
turn_passes w word rest e =
    let next = walked rules [] w word in
    ap (λ k. read_or (or_else (or_else k (walk_fault shape [] next rest)) (settle_fault rules false (end_of next rest))) (settled rules (end_of next rest)).rows) e

pub turn_fails : (w : Walk) (word : Text) (rest : List Text) (k : ErrorKind) (ks : Kinds) → turn_fault shape [] w word ≡ k ∷ ks → read_from w (word ∷ rest) ≡ None
unfolding walk_fault
turn_fails w word rest k ks e =
    let next = walked rules [] w word in
    ap (λ k. read_or (or_else (or_else k (walk_fault shape [] next rest)) (settle_fault rules false (end_of next rest))) (settled rules (end_of next rest)).rows) e

abbrev pub Turns : Walk → Text → Kinds → Walk → Type 0
Turns w word fault after = (turn_fault shape [] w word ≡ fault) × (walked rules [] w word ≡ after)

pub turned : (w : Walk) (word : Text) (rest : List Text) (after : Walk) → Turns w word [] after → read_from w (word ∷ rest) ≡ read_from after rest
turned w word rest after t = turn_passes w word rest t.0 ∙ ap (λ x. read_from x rest) t.1

-- the end of the words
pub stopped : (rows : List Row) (pending : Option (Text × List Text)) (waiting : Waiting) (is_trailing : Bool) → read_from (standing (held rows pending) waiting is_trailing) [] ≡ read_or (fault_at rows pending) (rows_at rows pending)
unfolding walk_fault
stopped rows pending waiting is_trailing = refl

-- ---- each kind of word

pub at_end : (rows : List Row) (pending : Option (Text × List Text)) (waiting : Waiting) → Turns (standing (held rows pending) waiting false) (codes "--") [] (standing (held rows pending) waiting true)
unfolding walked
at_end rows pending idle = (refl, refl)
at_end rows pending (option id) = (refl, refl)
at_end rows pending positional = (refl, refl)

pub at_name : (rows : List Row) (pending : Option (Text × List Text)) (waiting : Waiting)
    → Turns (standing (held rows pending) waiting false) (codes "--workers") (fault_at rows pending) (standing (held (rows_at rows pending) (Some (workers, []))) (option workers) false)
unfolding walked
at_name rows pending idle = (or_none _, refl)
at_name rows pending (option id) = (or_none _, refl)
at_name rows pending positional = (or_none _, refl)

pub at_number : (rows : List Row) (pending : Option (Text × List Text)) (waiting : Waiting) (value : Text)
    → Turns (standing (held rows pending) waiting false) (codes "--workers=" ++ value)
    (or_else (fault_at rows pending) (use_fault false workers_rule (value ∷ []) (rows_at rows pending)))
    (standing (held (used workers_rule (value ∷ []) (rows_at rows pending)) None) idle false)
unfolding walked
at_number rows pending idle value = (or_none _, refl)
at_number rows pending (option id) value = (or_none _, refl)
at_number rows pending positional value = (or_none _, refl)

pub at_unknown : (rows : List Row) (pending : Option (Text × List Text)) (waiting : Waiting) (word : Text) → IsUnknown word → turn_fault shape [] (standing (held rows pending) waiting false) word ≡ UnknownArgument ∷ []
at_unknown rows pending idle word u = rw (u.not_end, u.refused rows pending) refl
at_unknown rows pending (option id) word u = rw (u.not_end, u.refused rows pending) refl
at_unknown rows pending positional word u = rw (u.not_end, u.refused rows pending) refl

never : (b : Bool) → (b && false) ≡ false
never true = refl
never false = refl

pub at_trailing : (rows : List Row) (pending : Option (Text × List Text)) (waiting : Waiting) (word : Text)
    → Turns (standing (held rows pending) waiting true) word (fault_at rows pending) (standing (held (rows_at rows pending) (Some (word_id, word ∷ []))) positional true)
unfolding walked
at_trailing rows pending waiting word = (rw (never (is_pending word_rule pending)) refl, rw (never (is_pending word_rule pending)) refl)

pub at_word : (rows : List Row) (pending : Option (Text × List Text)) (b : Bool) (word : Text) → IsPlain word
    → Turns (standing (held rows pending) (between b) false) word (fault_at rows pending) (standing (held (rows_at rows pending) (Some (word_id, word ∷ []))) positional false)
unfolding walked
at_word rows pending true word p = (rw (p.not_end, p.not_long, p.not_short, never (is_pending word_rule pending)) refl, rw (p.not_end, p.not_long, p.not_short, never (is_pending word_rule pending)) refl)
at_word rows pending false word p = (rw (p.not_end, p.not_long, p.not_short, never (is_pending word_rule pending)) refl, rw (p.not_end, p.not_long, p.not_short, never (is_pending word_rule pending)) refl)

pub at_value : (rows : List Row) (word : Text) → IsPlain word
    → Turns (standing (held rows (Some (workers, []))) (option workers) false) word [] (standing (held rows (Some (workers, word ∷ []))) idle false)
unfolding walked
at_value rows word p = (rw (p.not_end, p.not_long, p.not_short) refl, rw (p.not_end, p.not_long, p.not_short) refl)
