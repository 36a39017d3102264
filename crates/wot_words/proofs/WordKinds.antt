-- What a word is, to the grammar and to clap.
use Rattle.std.proofs.Common.{◌≡◌, ◌∙◌, ◌++◌, ◌∷◌, ◌+◌, ◌<◌, ◌==◌, ◌||◌, ℕ, Bool, true, false, List, [], Option, Some, None, refl, ap, sym, subst, codes, length, take, drop, take-append-drop, ap₂, inl, inr, suc, eqb-true, eq-eqb, true≢false, arith}
use Rattle.std.proofs.lemmas.Bool.{cases_Bool, false_from_ne_true, not-false}
use Rattle.std.proofs.lemmas.Slice.Eq.{bytes_eq-Decides}
use Rattle.std.proofs.lemmas.Str.{IsUtf8-past_char, encode_ascii, encodes-chars}
use Rattle.std.specs.Prelude.{slice_get, IsUtf8, encode_utf8_all, encode_utf8}
use Rattle.std.specs.Str.{bytes_eq, chars}
use Rattle.std.specs.List.{before_first, position_or_len}
use Rattle.std.specs.Option.{option_map_or}
use Rattle.clap.specs.Lexer.{has_byte, long_of, short_of}
use Rattle.clap.specs.Words.{Text}
use Rattle.clap.specs.Faults.{bundle_fault, bundle_step_fault, flag_word_fault, flags_fault}
use Rattle.clap.specs.Walk.{Row}
use Rattle.clap.specs.declared.error.kind.ErrorKind.TheVariants.{UnknownArgument}
use Rattle.clap.proofs.SimpleLemmas.{is_false}
use Rattle.clap.proofs.WalkLemmas.{both}
use Rattle.wot_types.specs.Bytes.{is_word}
use Rattle.wot_words.specs.ProgramWords.{begins_with}
use Rattle.wot_words.proofs.Built.{held, rules}
use Rattle.wot_words.proofs.Texts.{dash, is_dashed}

-- an option that clap doesn't know
pub record IsUnknown (word : Text) : Type 0 where
  pub not_end : is_word (codes "--") word ≡ false
  pub not_name : is_word (codes "--workers") word ≡ false
  pub not_given : begins_with (codes "--workers=") word ≡ false
  pub dashed : is_dashed word ≡ true
  pub refused : (rows : List Row) (pending : Option (Text × List Text)) → flag_word_fault rules false (long_of word) word (held rows pending) ≡ UnknownArgument ∷ []

-- no option
pub record IsPlain (word : Text) : Type 0 where
  pub not_end : is_word (codes "--") word ≡ false
  pub not_name : is_word (codes "--workers") word ≡ false
  pub not_given : begins_with (codes "--workers=") word ≡ false
  pub plain : is_dashed word ≡ false
  pub not_long : long_of word ≡ None
  pub not_short : short_of word ≡ None

pub data Kind (word : Text) : Type 0 where
  ends : word ≡ codes "--" → Kind word
  names : word ≡ codes "--workers" → Kind word
  gives : (value : Text) → word ≡ codes "--workers=" ++ value → Kind word
  unknown : IsUnknown word → Kind word
  plain : IsPlain word → Kind word

-- a text has a first character
has_char : (bs : List ℕ) → IsUtf8 bs → 0 < length bs → (c : ℕ) × (slice_get (chars bs) 0 ≡ Some c)
has_char bs text some = go (chars bs) refl
  where
    go : (cs : List ℕ) → chars bs ≡ cs → (c : ℕ) × (slice_get (chars bs) 0 ≡ Some c)
    go [] e =
        let none : [] ≡ bs = ap encode_utf8_all (sym e) ∙ encodes-chars bs text in
        let bad : 0 ≡ length bs = ap length none in
        absurd (omega arith)
    go (c ∷ cs) e = (c, ap (λ xs. slice_get xs 0) e)

before_more : (x : ℕ) (xs : List ℕ) → (x == 61) ≡ false → before_first (λ y. y == 61) (x ∷ xs) ≡ x ∷ before_first (λ y. y == 61) xs
before_more x xs other =
    let n = position_or_len (λ y. y == 61) xs in
    let one : 1 + n ≡ suc n = omega arith in
    rw other (ap (λ k. take k (x ∷ xs)) one)

-- the name before an `=` is the text, where all is the text, or the text and a value
named : (text rest : List ℕ) → has_byte 61 text ≡ false → is_word text (before_first (λ x. x == 61) rest) ≡ (is_word text rest || begins_with (text ++ 61 ∷ []) rest)
named [] [] lacks = refl
named [] (x ∷ xs) lacks = elim (cases_Bool (x == 61)) [ inl is ↦ rw is refl | inr other ↦ rw (before_more x xs other, other) refl ]
named (t ∷ ts) [] lacks = refl
named (t ∷ ts) (x ∷ xs) lacks = elim (cases_Bool (x == 61)) [
  | inl is ↦
      let differs : (x == t) ≡ false = false_from_ne_true (x == t) (λ e.
      let hit : (t == 61) ≡ true = eq-eqb t 61 (sym (eqb-true x t e) ∙ eqb-true x 61 is) in
      true≢false (ap (λ b. b || has_byte 61 ts) (sym hit) ∙ lacks)) in
      rw (is, differs) refl
  | inr other ↦ elim (cases_Bool (x == t)) [
    | inl same ↦ rw (before_more x xs other, same) (named ts xs (no_more (t == 61) (has_byte 61 ts) lacks))
    | inr differs ↦ rw (before_more x xs other, differs) refl
  ]
]
  where
    no_more : (a b : Bool) → (a || b) ≡ false → b ≡ false
    no_more true b e = absurd (true≢false e)
    no_more false b e = e

long_refused : (rest : List ℕ) (rows : List Row) (pending : Option (Text × List Text)) → is_word (codes "--") (45 ∷ 45 ∷ rest) ≡ false → is_word (codes "--workers") (45 ∷ 45 ∷ rest) ≡ false
    → begins_with (codes "--workers=") (45 ∷ 45 ∷ rest) ≡ false → flag_word_fault rules false (long_of (45 ∷ 45 ∷ rest)) (45 ∷ 45 ∷ rest) (held rows pending) ≡ UnknownArgument ∷ []
long_refused [] rows pending not_end not_name not_given = absurd (true≢false not_end)
long_refused (x ∷ xs) rows pending not_end not_name not_given =
    let name = before_first (λ y. y == 61) (x ∷ xs) in
    let other : is_word (codes "workers") name ≡ false = named (codes "workers") (x ∷ xs) refl ∙ ap₂ (λ a b. a || b) not_name not_given in
    let differs : bytes_eq (codes "workers") name ≡ false = false_from_ne_true (bytes_eq (codes "workers") name) (λ e.
    let same : codes "workers" ≡ name = (bytes_eq-Decides (codes "workers") name).0 e in
    true≢false (ap (is_word (codes "workers")) same ∙ other)) in
    rw differs refl

bundle_refused : (x : ℕ) (xs : List ℕ) (rows : List Row) (pending : Option (Text × List Text)) (c : ℕ) → slice_get (chars (x ∷ xs)) 0 ≡ Some c
    → bundle_fault rules false (x ∷ xs) (held rows pending) ≡ UnknownArgument ∷ []
unfolding flags_fault
bundle_refused x xs rows pending c first = ap (λ o. bundle_step_fault rules false o (x ∷ xs) 0 (held rows pending) (flags_fault rules false (length xs))) first

short_refused : (x : ℕ) (xs : List ℕ) (rows : List Row) (pending : Option (Text × List Text)) → IsUtf8 (45 ∷ x ∷ xs) → (x == 45) ≡ false
    → flag_word_fault rules false (long_of (45 ∷ x ∷ xs)) (45 ∷ x ∷ xs) (held rows pending) ≡ UnknownArgument ∷ []
short_refused x xs rows pending text other =
    let parts : 45 ∷ x ∷ xs ≡ encode_utf8 45 ++ x ∷ xs = ap (λ bs. bs ++ x ∷ xs) (sym (encode_ascii 45 (omega arith))) in
    let first = has_char (x ∷ xs) (IsUtf8-past_char (45 ∷ x ∷ xs) (x ∷ xs) 45 text parts) (omega arith) in
    let short : short_of (45 ∷ x ∷ xs) ≡ Some (x ∷ xs) = rw other refl in
    let not_long : long_of (45 ∷ x ∷ xs) ≡ None = rw other refl in
    ap (λ o. flag_word_fault rules false o (45 ∷ x ∷ xs) (held rows pending)) not_long
    ∙ ap (λ o. option_map_or (λ flags. bundle_fault rules false flags (held rows pending)) o []) short
    ∙ bundle_refused x xs rows pending first.0 first.1

abbrev Claim : Text → Type 0
Claim word = IsUtf8 word → is_word (codes "--") word ≡ false → is_word (codes "--workers") word ≡ false → begins_with (codes "--workers=") word ≡ false → is_word dash word ≡ false
    → (rows : List Row) (pending : Option (Text × List Text)) → flag_word_fault rules false (long_of word) word (held rows pending) ≡ UnknownArgument ∷ []

at_dash : (rest : List ℕ) → Claim (45 ∷ rest)
at_dash [] text not_end not_name not_given not_dash rows pending = absurd (true≢false not_dash)
at_dash (x ∷ xs) text not_end not_name not_given not_dash rows pending = elim (cases_Bool (x == 45)) [
  | inl is ↦ subst (λ y. Claim (45 ∷ y ∷ xs)) (sym (eqb-true x 45 is)) (λ _ a b c _ rs p. long_refused xs rs p a b c) text not_end not_name not_given not_dash rows pending
  | inr other ↦ short_refused x xs rows pending text other
]

flag_refused : (word : Text) → begins_with dash word ≡ true → Claim word
flag_refused [] begins = absurd (true≢false (sym begins))
flag_refused (b ∷ rest) begins = subst (λ c. Claim (c ∷ rest)) (sym (eqb-true b 45 (both (b == 45) _ begins).0)) (at_dash rest)

-- the word, by what it begins with
begins : (text word : Text) → begins_with text word ≡ true → word ≡ text ++ drop (length text) word
begins text word e = sym (take-append-drop (length text) word) ∙ ap (λ t. t ++ drop (length text) word) ((bytes_eq-Decides (take (length text) word) text).0 e)

no_flag : (word : Text) → is_dashed word ≡ false → (long_of word ≡ None) × (short_of word ≡ None)
no_flag [] flat = (refl, refl)
no_flag (b ∷ rest) flat = elim (cases_Bool (b == 45)) [
  | inl is ↦
      let starts : begins_with dash (b ∷ rest) ≡ true = rw is refl in
      let same : b ∷ rest ≡ dash = (bytes_eq-Decides (b ∷ rest) dash).0 (not-false _ (rw starts at flat)) in
      (ap long_of same, ap short_of same)
  | inr other ↦ (rw other refl, rw other refl)
]

pub kind_of : (word : Text) → IsUtf8 word → Kind word
kind_of word text = elim (cases_Bool (is_word (codes "--") word)) [
  | inl e ↦ ends ((bytes_eq-Decides word (codes "--")).0 e)
  | inr not_end ↦ elim (cases_Bool (is_word (codes "--workers") word)) [
    | inl e ↦ names ((bytes_eq-Decides word (codes "--workers")).0 e)
    | inr not_name ↦ elim (cases_Bool (begins_with (codes "--workers=") word)) [
      | inl e ↦ gives (drop 10 word) (begins (codes "--workers=") word e)
      | inr not_given ↦ elim (cases_Bool (is_dashed word)) [
        | inl dashed ↦
            let parts = both (begins_with dash word) _ dashed in
            unknown (record {
              not_end = not_end;
              not_name = not_name;
              not_given = not_given;
              dashed = dashed;
              refused = flag_refused word parts.0 text not_end not_name not_given (is_false _ parts.1);
            })
        | inr flat ↦
            let flags = no_flag word flat in
            plain (record {
              not_end = not_end;
              not_name = not_name;
              not_given = not_given;
              plain = flat;
              not_long = flags.0;
              not_short = flags.1;
            })
      ]
    ]
  ]
]
