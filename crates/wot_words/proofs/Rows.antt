-- What the rows of a parse say of the two arguments, and what a use of one does to them.
use Rattle.std.proofs.Common.{◌≡◌, ◌∙◌, ◌++◌, ◌∷◌, Bool, true, false, List, [], Option, Some, None, is_some, refl, ap, codes, cond, inl, inr}
use Rattle.std.specs.Prelude.{find, option_and_then, option_map, slice_get, unwrap_or}
use Rattle.std.specs.Str.{bytes_eq}
use Rattle.std.proofs.lemmas.Bool.{cases_Bool}
use Rattle.std.proofs.lemmas.Slice.Eq.{bytes_eq-Decides}
use Rattle.clap.specs.Words.{Text, all_of, first_of}
use Rattle.clap.specs.Faults.{use_fault}
use Rattle.clap.specs.Walk.{Row, has_row, used, with_values, without}
use Rattle.clap.specs.declared.builder.value_parser.Reading.{Reading}
use Rattle.clap.specs.declared.parser.matches.ValueSource.{ValueSource}
use Rattle.clap.specs.declared.error.kind.ErrorKind.TheVariants.{ArgumentConflict}
use Rattle.wot_words.proofs.Built.{word_rule, workers_rule}

abbrev values_of : Option Row → Option (List Text)
values_of = option_map (λ r. r.values)

all_of_next : (id : Text) (r : Row) (rs : List Row) → all_of id (r ∷ rs) ≡ cond (bytes_eq r.id id) (Some r.values) (all_of id rs)
all_of_next id r rs = go (bytes_eq r.id id)
  where
    go : (b : Bool) → values_of (cond b (Some r) (find (λ x. bytes_eq x.id id) rs)) ≡ cond b (Some r.values) (all_of id rs)
    go true = refl
    go false = refl

pub has_row-all_of : (id : Text) (rows : List Row) → has_row id rows ≡ is_some (all_of id rows)
has_row-all_of id [] = refl
has_row-all_of id (r ∷ rs) = elim (cases_Bool (bytes_eq r.id id)) [
  | inl hit ↦ rw hit refl
  | inr miss ↦ rw miss (has_row-all_of id rs)
]

first_of-all_of : (id : Text) (rows : List Row) → first_of id rows ≡ option_and_then (λ vs. slice_get vs 0) (all_of id rows)
first_of-all_of id rows = go (find (λ r. bytes_eq r.id id) rows)
  where
    go : (o : Option Row) → option_and_then (λ r. slice_get r.values 0) o ≡ option_and_then (λ vs. slice_get vs 0) (values_of o)
    go None = refl
    go (Some r) = refl

without-none : (id : Text) (rows : List Row) → has_row id rows ≡ false → without id rows ≡ rows
without-none id [] none = refl
without-none id (r ∷ rs) none = elim (cases_Bool (bytes_eq r.id id)) [
  | inl hit ↦ let bad : true ≡ false = rw hit at none in cc
  | inr miss ↦
      let rest : has_row id rs ≡ false = rw miss at none in
      rw miss (ap (λ xs. r ∷ xs) (without-none id rs rest))
]

module _ (id : Text) (how : Reading) (source : ValueSource) (values : List Text) where
  -- the values of a use follow those before
  all_of-same : bytes_eq id id ≡ true → (rows : List Row) → all_of id (with_values id how source values rows) ≡ Some (unwrap_or (all_of id rows) [] ++ values)
  all_of-same own [] = rw own refl
  all_of-same own (r ∷ rs) = elim (cases_Bool (bytes_eq r.id id)) [
    | inl hit ↦ rw (hit, hit) refl
    | inr miss ↦ rw (miss, miss) (all_of-same own rs)
  ]

  -- and the other argument's stay
  all_of-other : (other : Text) → bytes_eq id other ≡ false → (rows : List Row) → all_of other (with_values id how source values rows) ≡ all_of other rows
  all_of-other other differs [] = rw differs refl
  all_of-other other differs (r ∷ rs) = elim (cases_Bool (bytes_eq r.id id)) [
    | inl hit ↦
        let same : bytes_eq r.id other ≡ false = ap (λ t. bytes_eq t other) ((bytes_eq-Decides r.id id).0 hit) ∙ differs in
        rw (hit, same) refl
    | inr miss ↦
        let rest = all_of-other other differs rs in
        rw (miss, all_of_next other r rs, all_of_next other r (with_values id how source values rs), rest) refl
  ]

-- the number of workers that the rows have as a text, and the words of the command
pub record HasRead (rows : List Row) (given : Option Text) (front : List Text) : Type 0 where
  pub number : all_of (codes "workers") rows ≡ option_map (λ text. text ∷ []) given
  pub words : unwrap_or (all_of (codes "word") rows) [] ≡ front

pub first_is : (rows : List Row) (given : Option Text) (front : List Text) → HasRead rows given front → first_of (codes "workers") rows ≡ given
first_is rows given front read = first_of-all_of (codes "workers") rows ∙ ap (option_and_then (λ vs. slice_get vs 0)) read.number ∙ go given
  where
    go : (o : Option Text) → option_and_then (λ vs. slice_get vs 0) (option_map (λ text. text ∷ []) o) ≡ o
    go None = refl
    go (Some text) = refl

has_workers : (rows : List Row) (given : Option Text) (front : List Text) → HasRead rows given front → has_row (codes "workers") rows ≡ is_some given
has_workers rows given front read = has_row-all_of (codes "workers") rows ∙ ap is_some read.number ∙ go given
  where
    go : (o : Option Text) → is_some (option_map (λ text. text ∷ []) o) ≡ is_some o
    go None = refl
    go (Some text) = refl

-- a word of the command
pub uses_word : (rows : List Row) (given : Option Text) (front : List Text) (word : Text) → HasRead rows given front → HasRead (used word_rule (word ∷ []) rows) given (front ++ word ∷ [])
uses_word rows given front word read = record {
  number = all_of-other (codes "word") _ _ (word ∷ []) (codes "workers") refl rows ∙ read.number;
  words = ap (λ o. unwrap_or o []) (all_of-same (codes "word") _ _ (word ∷ []) refl rows) ∙ ap (λ f. f ++ word ∷ []) read.words;
}

-- the number of workers, for the first time
pub uses_number : (rows : List Row) (front : List Text) (value : Text) → HasRead rows None front → HasRead (used workers_rule (value ∷ []) rows) (Some value) front
uses_number rows front value read =
    let same = without-none (codes "workers") rows (has_workers rows None front read) in
    rw same (record {
      number = all_of-same (codes "workers") _ _ (value ∷ []) refl rows ∙ ap (λ o. Some (unwrap_or o [] ++ value ∷ [])) read.number;
      words = ap (λ o. unwrap_or o []) (all_of-other (codes "workers") _ _ (value ∷ []) (codes "word") refl rows) ∙ read.words;
    })

pub no_fault : (rows : List Row) (front : List Text) (value : Text) → HasRead rows None front → use_fault false workers_rule (value ∷ []) rows ≡ []
no_fault rows front value read = rw (has_workers rows None front read) refl

-- and again
pub twice : (rows : List Row) (text : Text) (front : List Text) (value : Text) → HasRead rows (Some text) front → use_fault false workers_rule (value ∷ []) rows ≡ ArgumentConflict ∷ []
twice rows text front value read = rw (has_workers rows (Some text) front read) refl
