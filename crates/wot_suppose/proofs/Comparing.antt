-- The letters of a key's user IDs before and after.
use Rattle.std.proofs.Common.{◌≡◌, ℕ, zero, suc, ◌+◌, ◌≤◌, arith, length-append, slice_get, slice_index_or, List, [], ◌∷◌, ◌++◌, append_assoc, length, Option, Some, None, take, drop, refl, sym, ap, ◌∙◌}
use Rattle.std.specs.Prelude.{option_to_list}
use Rattle.std.specs.FinMap as finmap
use Rattle.std.specs.List.{cons_option, flat_map}
use Rattle.std.proofs.lemmas.List.{take_at, drop_at, length-map}
use Rattle.std.proofs.lemmas.Option.{same_Some}
use Rattle.wot_types.specs.declared.change.Change.{Change}
use Rattle.wot_types.specs.declared.key.Key.{Key}
use Rattle.wot_types.specs.declared.letter.Letter.{Letter}
use Rattle.wot_types.specs.Keyring.{Keyring}
use Rattle.wot_types.specs.Letters.{user_letter, user_letters}
use Rattle.wot_types.specs.Levels.{rows_of}
use Rattle.wot_types.specs.Selection.{spots_from}
use Rattle.wot_types.specs.State.{State}
use Rattle.wot_types.specs.Supposing.{change_of, changed_letters, changes_on}
use Rattle.wot_table.proofs.Placement.{length_spots}

-- a key with its ID, of this keyring
abbrev pub IsEntryOf : Keyring → ℕ × Key → Type 0
IsEntryOf keys e = finmap.get keys e.0 ≡ Some e.1

cons_is : {X : Type 0} (o : Option X) (xs : List X) → cons_option o xs ≡ option_to_list o ++ xs
cons_is None xs = refl
cons_is (Some x) xs = refl

-- one user ID more is compared
pub one_more : (found whole : List Change) (id user : ℕ) (old new : Letter) (olds news : List Letter)
    → found ++ changed_letters id user (old ∷ olds) (new ∷ news) ≡ whole → (found ++ option_to_list (change_of id user old new)) ++ changed_letters id (user + 1) olds news ≡ whole
one_more found whole id user old new olds news so_far =
    append_assoc found (option_to_list (change_of id user old new)) (changed_letters id (user + 1) olds news)
    ∙ ap (λ l. found ++ l) (sym (cons_is (change_of id user old new) (changed_letters id (user + 1) olds news))) ∙ so_far

-- the letters of these keys
abbrev pub letters_in : State → List (ℕ × Key) → List Letter
letters_in s left = flat_map (λ e. user_letters s (rows_of s) e.0 e.1) left

-- all user IDs of a key are compared: its letters are the first of those that are left
module _ (s t : State) (k : ℕ × Key) (rest : List (ℕ × Key)) where
  mine : (left : List Letter) (users : ℕ) → left ≡ letters_in s (k ∷ rest) → length (user_letters s (rows_of s) k.0 k.1) ≡ users → take users left ≡ user_letters s (rows_of s) k.0 k.1
  mine left users is many = ap (take users) is ∙ take_at (user_letters s (rows_of s) k.0 k.1) (letters_in s rest) users many

  pub behind : (left : List Letter) (users : ℕ) → left ≡ letters_in s (k ∷ rest) → length (user_letters s (rows_of s) k.0 k.1) ≡ users → drop users left ≡ letters_in s rest
  behind left users is many = ap (drop users) is ∙ drop_at (user_letters s (rows_of s) k.0 k.1) (letters_in s rest) users many

  pub one_key : (found whole : List Change) (left : List Letter) (users : ℕ) → left ≡ letters_in s (k ∷ rest) → length (user_letters s (rows_of s) k.0 k.1) ≡ users
      → found ++ flat_map (changes_on s t) (k ∷ rest) ≡ whole → (found ++ changed_letters k.0 0 (take users left) (user_letters t (rows_of t) k.0 k.1)) ++ flat_map (changes_on s t) rest ≡ whole
  one_key found whole left users is many so_far =
      ap (λ olds. (found ++ changed_letters k.0 0 olds (user_letters t (rows_of t) k.0 k.1)) ++ flat_map (changes_on s t) rest) (mine left users is many)
      ∙ append_assoc found (changes_on s t k) (flat_map (changes_on s t) rest) ∙ so_far

-- an item at a place that is there
pub index_is : (xs : List Letter) (i : ℕ) (d x : Letter) → slice_get xs i ≡ Some x → slice_index_or xs i d ≡ x
index_is [] i d x is = absurd (cc is)
index_is (y ∷ ys) zero d x is = same_Some y x is
index_is (y ∷ ys) (suc i) d x is = index_is ys i d x is

-- a key has a letter for each of its user IDs
pub many_letters : (s : State) (k : ℕ × Key) → length (user_letters s (rows_of s) k.0 k.1) ≡ length k.1.users
many_letters s k = length-map (spots_from 0 k.1.users) (user_letter s (rows_of s) k.0 k.1) ∙ length_spots 0 k.1.users

-- the letters of the first of these keys are there
pub letters_there : (s : State) (k : ℕ × Key) (rest : List (ℕ × Key)) (left : List Letter) (users : ℕ) → left ≡ letters_in s (k ∷ rest) → users ≡ length k.1.users → users ≤ length left
letters_there s k rest left users is many =
    omega (arith, ap length is, length-append (user_letters s (rows_of s) k.0 k.1) (letters_in s rest), many_letters s k, many)
