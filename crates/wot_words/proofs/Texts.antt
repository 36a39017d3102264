-- The grammar of the words in two steps: the number of workers as a text, and then what the texts ask for.
use Rattle.std.proofs.Common.{◌++◌, ◌∷◌, ◌&&◌, ℕ, Bool, true, false, not, List, [], Option, Some, None, refl, ap, sym, codes, length, cond, is_some, ◌≡◌, ◌∙◌, ◌==◌, ◌||◌, inl, inr, eqb-true}
use Rattle.std.proofs.lemmas.Bool.{cases_Bool}
use Rattle.std.proofs.lemmas.Slice.Eq.{bytes_eq-Decides}
use Rattle.std.specs.Prelude.{drop, option_and_then, option_map, if◌then◌else◌}
use Rattle.std.specs.List.{list_any}
use Rattle.clap.specs.Words.{Text}
use Rattle.clap.proofs.WalkLemmas.{both}
use Rattle.wot_types.specs.Bytes.{is_word}
use Rattle.wot_words.specs.ProgramWords.{Command, Options, Stage, Workers, begins_with, in_range, with_command, with_word, words_after, workers_given}
use Rattle.wot_words.specs.CommandLine.{Texts, asked_by, workers_asked}
use Rattle.wot_words.specs.declared.words.ProgramWords.{ProgramWords}

abbrev pub with_front : List Text → Texts → Texts
with_front front texts = (texts.0, front ++ texts.1)

abbrev pub dash : Text
dash = codes "-"

-- an option, or a fault, before `--`
abbrev pub is_dashed : Text → Bool
is_dashed word = begins_with dash word && not (is_word dash word)

-- the texts of the words that are left, where the number of workers may have been given
unfoldable pub texts_after : Stage → Option Text → List Text → Option Texts
texts_after Options workers [] = Some (workers, [])
texts_after Options workers (word ∷ rest) =
    if is_word (codes "--") word then texts_after Command workers rest else
    if is_word (codes "--workers") word then texts_after Workers workers rest else
    if begins_with (codes "--workers=") word then (if is_some workers then None else texts_after Options (Some (drop 10 word)) rest) else
    if is_dashed word then None else option_map (with_front (word ∷ [])) (texts_after Options workers rest)
texts_after Workers workers [] = None
texts_after Workers workers (value ∷ rest) = if is_dashed value || is_some workers then None else texts_after Options (Some value) rest
texts_after Command workers [] = Some (workers, [])
texts_after Command workers (word ∷ rest) = option_map (with_front (word ∷ [])) (texts_after Command workers rest)

-- the numbers of workers that a text may have given
abbrev number_of : Option Text → Option (Option ℕ)
number_of None = Some None
number_of (Some text) = option_map (λ n. Some n) (workers_given None text)

never : {A B : Type 0} (o : Option A) → option_and_then {T = A} {U = B} (λ _. None) o ≡ None
never None = refl
never (Some x) = refl

flat : {A B C : Type 0} (f : B → Option C) (g : A → B) (o : Option A) → option_and_then (λ x. f (g x)) o ≡ option_and_then f (option_map g o)
flat f g None = refl
flat f g (Some x) = refl

mapped : {A B C : Type 0} (f : B → C) (g : A → Option B) (o : Option A) → option_and_then (λ x. option_map f (g x)) o ≡ option_map f (option_and_then g o)
mapped f g None = refl
mapped f g (Some x) = refl

dashes : (word : Text) → is_word dash word ≡ true → begins_with dash word ≡ true
dashes word e = let is : word ≡ dash = (bytes_eq-Decides word dash).0 e in ap (begins_with dash) is

-- a number has no hyphen
no_number : (value : Text) → begins_with dash value ≡ true → workers_given None value ≡ None
no_number [] e = cc
no_number (b ∷ rest) e = elim (cases_Bool (b == 45)) [
  | inl is ↦ rw (eqb-true b 45 is) (no_digits (length (b ∷ rest) == 0))
  | inr other ↦ let bad : false ≡ true = rw other at e in cc
]
  where
    no_digits : (t : Bool) → option_and_then in_range (cond t None None) ≡ None
    no_digits true = refl
    no_digits false = refl

-- a word of the command
one_word : (word : Text) (texts : Texts) → is_word dash word ≡ false → option_map (with_word word) (asked_by texts) ≡ asked_by (with_front (word ∷ []) texts)
one_word word texts e = rw e (go (workers_asked texts.0) (list_any (is_word dash) texts.1))
  where
    go : (n : Option ℕ) (b : Bool) → option_map (with_word word) (option_and_then (λ k. option_map (with_command (Some k)) (cond b None (Some texts.1))) n)
        ≡ option_and_then (λ k. option_map (with_command (Some k)) (cond b None (Some (word ∷ texts.1)))) n
    go None b = refl
    go (Some k) true = refl
    go (Some k) false = refl

takes_word : (word : Text) (o : Option Texts) → is_word dash word ≡ false → option_map (with_word word) (option_and_then asked_by o) ≡ option_and_then asked_by (option_map (with_front (word ∷ [])) o)
takes_word word None e = refl
takes_word word (Some texts) e = one_word word texts e

takes_no_dash : (word : Text) (o : Option Texts) → is_word dash word ≡ true → option_and_then asked_by (option_map (with_front (word ∷ [])) o) ≡ None
takes_no_dash word None e = refl
takes_no_dash word (Some texts) e = rw e (never (workers_asked texts.0))

-- no more words
ends : (given : Option Text) → option_and_then (λ n. Some (with_command n [])) (number_of given) ≡ asked_by (given, [])
ends None = refl
ends (Some text) = sym (flat (λ n. Some (with_command n [])) (λ n. Some n) (workers_given None text))

module _ (rest : List Text) where
  abbrev after : Stage → Option ℕ → Option ProgramWords
  after stage n = words_after stage n rest

  -- a number
  pub takes_number : (given : Option Text) (value : Text) → option_and_then (after Options) (number_of (Some value)) ≡ option_and_then asked_by (texts_after Options (Some value) rest)
      → option_and_then (λ n. option_and_then (λ k. after Options (Some k)) (workers_given n value)) (number_of given)
      ≡ option_and_then asked_by (cond (is_some given) None (texts_after Options (Some value) rest))
  takes_number None value e = flat (after Options) (λ k. Some k) (workers_given None value) ∙ e
  takes_number (Some text) value e = go (workers_given None text)
    where
      go : (o : Option ℕ) → option_and_then (λ n. option_and_then (λ k. after Options (Some k)) (workers_given n value)) (option_map (λ n. Some n) o) ≡ None
      go None = refl
      go (Some n) = refl

  pub takes_value : (given : Option Text) (value : Text) → option_and_then (after Options) (number_of (Some value)) ≡ option_and_then asked_by (texts_after Options (Some value) rest)
      → option_and_then (λ n. option_and_then (λ k. after Options (Some k)) (workers_given n value)) (number_of given)
      ≡ option_and_then asked_by (cond (is_dashed value || is_some given) None (texts_after Options (Some value) rest))
  takes_value given value e = elim (cases_Bool (is_dashed value)) [
    | inl dashed ↦ rw dashed (go given (no_number value (both (begins_with dash value) _ dashed).0))
    | inr plain ↦ rw plain (takes_number given value e)
  ]
    where
      none : (o : Option ℕ) → option_and_then (λ n. option_and_then (λ k. after Options (Some k)) (workers_given n value)) (option_map (λ n. Some n) o) ≡ None
      none None = refl
      none (Some n) = refl

      go : (o : Option Text) → workers_given None value ≡ None → option_and_then (λ n. option_and_then (λ k. after Options (Some k)) (workers_given n value)) (number_of o) ≡ None
      go None e = ap (option_and_then (λ k. after Options (Some k))) e
      go (Some text) e = none (workers_given None text)

  pub takes_command : (given : Option Text) (word : Text) → option_and_then (after Command) (number_of given) ≡ option_and_then asked_by (texts_after Command given rest)
      → option_and_then (λ n. cond (is_word dash word) None (option_map (with_word word) (after Command n))) (number_of given)
      ≡ option_and_then asked_by (option_map (with_front (word ∷ [])) (texts_after Command given rest))
  takes_command given word e = elim (cases_Bool (is_word dash word)) [
    | inl is ↦ rw is (never (number_of given) ∙ sym (takes_no_dash word (texts_after Command given rest) is))
    | inr other ↦ rw other (mapped (with_word word) (after Command) (number_of given) ∙ ap (option_map (with_word word)) e ∙ takes_word word (texts_after Command given rest) other)
  ]

  pub takes_other : (given : Option Text) (word : Text) → option_and_then (after Options) (number_of given) ≡ option_and_then asked_by (texts_after Options given rest)
      → option_and_then (λ n. cond (begins_with dash word) None (option_map (with_word word) (after Options n))) (number_of given)
      ≡ option_and_then asked_by (cond (is_dashed word) None (option_map (with_front (word ∷ [])) (texts_after Options given rest)))
  takes_other given word e = elim (cases_Bool (is_word dash word)) [
    | inl is ↦ rw (dashes word is, is) (never (number_of given) ∙ sym (takes_no_dash word (texts_after Options given rest) is))
    | inr other ↦ elim (cases_Bool (begins_with dash word)) [
      | inl dashed ↦ rw (other, dashed) (never (number_of given))
      | inr plain ↦ rw plain (mapped (with_word word) (after Options) (number_of given) ∙ ap (option_map (with_word word)) e ∙ takes_word word (texts_after Options given rest) other)
    ]
  ]

pub in_two_steps : (stage : Stage) (given : Option Text) (words : List Text) → option_and_then (λ n. words_after stage n words) (number_of given) ≡ option_and_then asked_by (texts_after stage given words)
unfolding words_after texts_after
in_two_steps Options given [] = ends given
in_two_steps Options given (word ∷ rest) = elim (cases_Bool (is_word (codes "--") word)) [
  | inl e ↦ rw e (in_two_steps Command given rest)
  | inr not_end ↦ elim (cases_Bool (is_word (codes "--workers") word)) [
    | inl e ↦ rw (not_end, e) (in_two_steps Workers given rest)
    | inr not_name ↦ elim (cases_Bool (begins_with (codes "--workers=") word)) [
      | inl e ↦ rw (not_end, not_name, e) (takes_number rest given (drop 10 word) (in_two_steps Options (Some (drop 10 word)) rest))
      | inr not_given ↦ rw (not_end, not_name, not_given) (takes_other rest given word (in_two_steps Options given rest))
    ]
  ]
]
in_two_steps Workers given [] = never (number_of given)
in_two_steps Workers given (value ∷ rest) = takes_value rest given value (in_two_steps Options (Some value) rest)
in_two_steps Command given [] = ends given
in_two_steps Command given (word ∷ rest) = takes_command rest given word (in_two_steps Command given rest)
