-- What clap reads of a list of words is what the grammar says.
use Rattle.std.proofs.Common.{◌≡◌, ◌∙◌, ◌++◌, ◌∷◌, Bool, true, false, List, [], Option, Some, None, is_some, refl, ap, ap₂, sym, subst, codes, cond, append-nil, append_assoc}
use Rattle.std.specs.Prelude.{IsUtf8, option_and_then, option_map}
use Rattle.clap.specs.Words.{Kinds, Text, fault_of, matches_of}
use Rattle.clap.specs.Faults.{use_fault}
use Rattle.clap.specs.Kinds.{or_else}
use Rattle.clap.specs.Walk.{Row, Waiting, idle, option, positional, used}
use Rattle.clap.specs.declared.error.kind.ErrorKind.{ErrorKind}
use Rattle.clap.specs.declared.error.kind.ErrorKind.TheVariants.{InvalidValue}
use Rattle.wot_words.specs.CommandLine.{Texts, asked_by, command_line}
use Rattle.wot_words.specs.ProgramWords.{Command, Options, Workers, program_words}
use Rattle.wot_words.proofs.Built.{held, read_from, read_or, reads, workers_rule}
use Rattle.wot_words.proofs.Rows.{HasRead, first_is, no_fault, twice, uses_number, uses_word}
use Rattle.wot_words.proofs.Texts.{in_two_steps, texts_after, with_front}
use Rattle.wot_words.proofs.Turns.{at_end, at_name, at_number, at_trailing, at_unknown, at_value, at_word, between, fault_at, rows_at, standing, stopped, turn_fails, turned, word_id, workers}
use Rattle.wot_words.proofs.WordKinds.{Kind, ends, gives, kind_of, names, plain, unknown}

abbrev pub AllText : List Text → Type 0
AllText [] = Unit {0}
AllText (word ∷ rest) = IsUtf8 word × AllText rest

-- ---- a fault that is not seen yet

trailing_fails : (words : List Text) (rows : List Row) (pending : Option (Text × List Text)) (waiting : Waiting) (k : ErrorKind) (ks : Kinds) → fault_at rows pending ≡ k ∷ ks
    → read_from (standing (held rows pending) waiting true) words ≡ None
trailing_fails [] rows pending waiting k ks e = stopped rows pending waiting true ∙ ap (λ f. read_or f (rows_at rows pending)) e
trailing_fails (word ∷ rest) rows pending waiting k ks e = turn_fails _ word rest k ks ((at_trailing rows pending waiting word).0 ∙ e)

options_fail : (words : List Text) → AllText words → (rows : List Row) (pending : Option (Text × List Text)) (b : Bool) (k : ErrorKind) (ks : Kinds) → fault_at rows pending ≡ k ∷ ks
    → read_from (standing (held rows pending) (between b) false) words ≡ None
options_fail [] text rows pending b k ks e = stopped rows pending (between b) false ∙ ap (λ f. read_or f (rows_at rows pending)) e
options_fail (word ∷ rest) text rows pending b k ks e =
    let w = standing (held rows pending) (between b) false in
    elim (kind_of word text.0) [
      | ends is ↦ ap (λ x. read_from w (x ∷ rest)) is ∙ turned w (codes "--") rest _ (at_end rows pending (between b)) ∙ trailing_fails rest rows pending (between b) k ks e
      | names is ↦ ap (λ x. read_from w (x ∷ rest)) is ∙ turn_fails w (codes "--workers") rest k ks ((at_name rows pending (between b)).0 ∙ e)
      | gives value is ↦ ap (λ x. read_from w (x ∷ rest)) is ∙ turn_fails w (codes "--workers=" ++ value) rest k _
          ((at_number rows pending (between b) value).0 ∙ ap (λ f. or_else f (use_fault false workers_rule (value ∷ []) (rows_at rows pending))) e)
      | unknown u ↦ turn_fails w word rest _ _ (at_unknown rows pending (between b) word u)
      | plain p ↦ turn_fails w word rest k ks ((at_word rows pending b word p).0 ∙ e)
    ]

-- ---- the words that are left

more_front : (front : List Text) (word : Text) (o : Option Texts) → option_map (with_front (front ++ word ∷ [])) o ≡ option_map (with_front front) (option_map (with_front (word ∷ [])) o)
more_front front word None = refl
more_front front word (Some texts) = ap (λ c. Some (texts.0, c)) (append_assoc front (word ∷ []) texts.1)

ended : (rows : List Row) (pending : Option (Text × List Text)) (waiting : Waiting) (b : Bool) (given : Option Text) (front : List Text) → fault_at rows pending ≡ [] → HasRead (rows_at rows pending) given front
    → read_from (standing (held rows pending) waiting b) [] ≡ Some (given, front ++ [])
ended rows pending waiting b given front e read =
    stopped rows pending waiting b ∙ ap (λ f. read_or f (rows_at rows pending)) e
    ∙ ap₂ (λ g c. Some (g, c)) (first_is (rows_at rows pending) given front read) (read.words ∙ sym (append-nil front))

-- after `--`
reads_command : (words : List Text) (rows : List Row) (pending : Option (Text × List Text)) (waiting : Waiting) (given : Option Text) (front : List Text)
    → fault_at rows pending ≡ [] → HasRead (rows_at rows pending) given front
    → read_from (standing (held rows pending) waiting true) words ≡ option_map (with_front front) (texts_after Command given words)
unfolding texts_after
reads_command [] rows pending waiting given front e read = ended rows pending waiting true given front e read
reads_command (word ∷ rest) rows pending waiting given front e read =
    let t = at_trailing rows pending waiting word in
    let now = rows_at rows pending in
    turned _ word rest _ (t.0 ∙ e, t.1)
    ∙ reads_command rest now (Some (word_id, word ∷ [])) positional given (front ++ word ∷ []) refl (uses_word now given front word read)
    ∙ more_front front word (texts_after Command given rest)

-- before `--`, and where the number of workers comes next
record Reads (words : List Text) : Type 0 where
  options : (rows : List Row) (pending : Option (Text × List Text)) (b : Bool) (given : Option Text) (front : List Text) → fault_at rows pending ≡ [] → HasRead (rows_at rows pending) given front
      → read_from (standing (held rows pending) (between b) false) words ≡ option_map (with_front front) (texts_after Options given words)
  number : (rows : List Row) (given : Option Text) (front : List Text) → HasRead rows given front
      → read_from (standing (held rows (Some (workers, []))) (option workers) false) words ≡ option_map (with_front front) (texts_after Workers given words)

module _ (rest : List Text) (text : AllText rest) (next : Reads rest) where
  -- the number in its own word
  takes_value : (rows : List Row) (given : Option Text) (front : List Text) (value : Text) → HasRead rows given front
      → read_from (standing (held rows (Some (workers, value ∷ []))) idle false) rest ≡ option_map (with_front front) (cond (is_some given) None (texts_after Options (Some value) rest))
  takes_value rows None front value read =
      next.options rows (Some (workers, value ∷ [])) false (Some value) front (no_fault rows front value read) (uses_number rows front value read)
  takes_value rows (Some before) front value read =
      options_fail rest text rows (Some (workers, value ∷ [])) false _ _ (twice rows before front value read)

  -- the number with the option
  takes_number : (rows : List Row) (pending : Option (Text × List Text)) (waiting : Waiting) (given : Option Text) (front : List Text) (value : Text)
      → fault_at rows pending ≡ [] → HasRead (rows_at rows pending) given front
      → read_from (standing (held rows pending) waiting false) ((codes "--workers=" ++ value) ∷ rest) ≡ option_map (with_front front) (cond (is_some given) None (texts_after Options (Some value) rest))
  takes_number rows pending waiting None front value e read =
      let t = at_number rows pending waiting value in
      let now = rows_at rows pending in
      turned _ _ rest _ (t.0 ∙ ap₂ or_else e (no_fault now front value read), t.1)
      ∙ next.options (used workers_rule (value ∷ []) now) None false (Some value) front refl (uses_number now front value read)
  takes_number rows pending waiting (Some before) front value e read =
      turn_fails _ _ rest _ _ ((at_number rows pending waiting value).0 ∙ ap₂ or_else e (twice (rows_at rows pending) before front value read))

  one_more_option : (word : Text) → Kind word → (rows : List Row) (pending : Option (Text × List Text)) (b : Bool) (given : Option Text) (front : List Text)
      → fault_at rows pending ≡ [] → HasRead (rows_at rows pending) given front
      → read_from (standing (held rows pending) (between b) false) (word ∷ rest) ≡ option_map (with_front front) (texts_after Options given (word ∷ rest))
  unfolding texts_after
  one_more_option word kind rows pending b given front e read =
      let w = standing (held rows pending) (between b) false in
      let now = rows_at rows pending in
      let Same = λ (x : Text). read_from w (x ∷ rest) ≡ option_map (with_front front) (texts_after Options given (x ∷ rest)) in
      elim kind [
        | ends is ↦ subst Same (sym is) (turned w (codes "--") rest _ (at_end rows pending (between b)) ∙ reads_command rest rows pending (between b) given front e read)
        | names is ↦
            let t = at_name rows pending (between b) in
            subst Same (sym is) (turned w (codes "--workers") rest _ (t.0 ∙ e, t.1) ∙ next.number now given front read)
        | gives value is ↦ subst Same (sym is) (takes_number rows pending (between b) given front value e read)
        | unknown u ↦ turn_fails w word rest _ _ (at_unknown rows pending (between b) word u) ∙ rw (u.not_end, u.not_name, u.not_given, u.dashed) refl
        | plain p ↦
            let t = at_word rows pending b word p in
            turned w word rest _ (t.0 ∙ e, t.1)
            ∙ next.options now (Some (word_id, word ∷ [])) true given (front ++ word ∷ []) refl (uses_word now given front word read)
            ∙ more_front front word (texts_after Options given rest)
            ∙ rw (p.not_end, p.not_name, p.not_given, p.plain) refl
      ]

  one_more_value : (word : Text) → Kind word → (rows : List Row) (given : Option Text) (front : List Text) → HasRead rows given front
      → read_from (standing (held rows (Some (workers, []))) (option workers) false) (word ∷ rest) ≡ option_map (with_front front) (texts_after Workers given (word ∷ rest))
  unfolding texts_after
  one_more_value word kind rows given front read =
      let none = Some (workers, []) in
      let w = standing (held rows none) (option workers) false in
      let Same = λ (x : Text). read_from w (x ∷ rest) ≡ option_map (with_front front) (texts_after Workers given (x ∷ rest)) in
      elim kind [
        | ends is ↦ subst Same (sym is) (turned w (codes "--") rest _ (at_end rows none (option workers)) ∙ trailing_fails rest rows none (option workers) InvalidValue [] refl)
        | names is ↦ subst Same (sym is) (turn_fails w (codes "--workers") rest InvalidValue [] (at_name rows none (option workers)).0)
        | gives value is ↦ subst Same (sym is) (turn_fails w (codes "--workers=" ++ value) rest InvalidValue [] (at_number rows none (option workers) value).0)
        | unknown u ↦ turn_fails w word rest _ _ (at_unknown rows none (option workers) word u) ∙ rw u.dashed refl
        | plain p ↦ turned w word rest _ (at_value rows word p) ∙ takes_value rows given front word read ∙ rw p.plain refl
      ]

reads_on : (words : List Text) → AllText words → Reads words
unfolding texts_after
reads_on [] text = record {
  options = λ rows pending b given front e read. ended rows pending (between b) false given front e read;
  number = λ rows given front read. stopped rows (Some (workers, [])) (option workers) false;
}
reads_on (word ∷ rest) text =
    let next = reads_on rest text.1 in
    record {
      options = one_more_option rest text.1 next word (kind_of word text.0);
      number = one_more_value rest text.1 next word (kind_of word text.0);
    }

no_front : (o : Option Texts) → option_map (with_front []) o ≡ o
no_front None = refl
no_front (Some texts) = refl

-- clap reads what the grammar asks for, but for a `-` and the number
pub reads_words : (words : List Text) → AllText words → option_and_then asked_by (read_or (fault_of command_line words) (matches_of command_line words)) ≡ program_words words
reads_words words text =
    let read = (reads_on words text).options [] None false None [] refl (record { number = refl; words = refl }) in
    ap (option_and_then asked_by) (reads words ∙ read ∙ no_front (texts_after Options None words)) ∙ sym (in_two_steps Options None words)
