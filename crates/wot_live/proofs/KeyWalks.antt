-- A walk over keys: they rise, each is told its letters, and what is done of them so far.
use Rattle.std.proofs.Common.{◌≡◌, ◌≤◌, ℕ, T, List, [], ◌∷◌, ◌++◌, append_assoc, append-nil, Option, Some, option_map, sym, ap, subst, ◌∙◌, arith}
use Rattle.std.specs.FinMap as map
use Rattle.std.specs.FinMap.{FinMap, entries_sorted, is_sorted}
use Rattle.std.specs.FinMap.Entries.{below_all}
use Rattle.std.specs.List.{flat_map}
use Rattle.std.specs.Ordering.{is_lt, nat_cmp}
use Rattle.std.proofs.lemmas.Bool.Decides.{nat_tests}
use Rattle.std.proofs.lemmas.Option.{same_Some}
use Rattle.wot_types.specs.declared.key.Key.{Key}
use Rattle.wot_types.specs.declared.letter.Letter.{Letter}
use Rattle.wot_types.specs.Selection.{Spot}
use Rattle.wot_types.specs.State.{State}
use Rattle.wot_types.proofs.Tests.{first_part, second_part}
use Rattle.wot_live.specs.declared.letters.Letters.{Letters}
use Rattle.wot_live.specs.KeyLetters.{AreOfKey}

above : (x y : ℕ) → T (is_lt (nat_cmp x y)) → x ≤ y
above x y h = grind (arith, nat_tests)

module _ {X : Type 0} where
  -- no entry is below this key, nor below the entry before it
  abbrev pub IsRisingFrom : ℕ → List (ℕ × X) → Type 0
  IsRisingFrom from [] = Unit {0}
  IsRisingFrom from (e ∷ left) = (from ≤ e.0) × IsRisingFrom e.0 left

  rising_behind : (x : ℕ) (left : List (ℕ × X)) → T (below_all nat_cmp x left) → T (is_sorted nat_cmp left) → IsRisingFrom x left
  rising_behind x [] below sorted = tt
  rising_behind x (e ∷ left) below sorted = (above x e.0 (first_part _ _ below), rising_behind e.0 left (first_part _ _ sorted) (second_part _ _ sorted))

  rising_all : (left : List (ℕ × X)) → T (is_sorted nat_cmp left) → IsRisingFrom 0 left
  rising_all [] sorted = tt
  rising_all (e ∷ left) sorted = (omega arith, rising_behind e.0 left (first_part _ _ sorted) (second_part _ _ sorted))

  pub rising_entries : (m : FinMap nat_cmp X) → IsRisingFrom 0 (map.entries m)
  rising_entries m = rising_all (map.entries m) (entries_sorted m)

-- what tells the letters of the keys of a state by their IDs, for one of its keys
pub told_of : (letters : Letters) (s : State) (id : ℕ) (k : ℕ × Key) → id ≡ k.0 → map.get s.keys k.0 ≡ Some k.1 → ((key : Key) → map.get s.keys id ≡ Some key → AreOfKey letters (id, key)) → AreOfKey letters k
told_of letters s id k same there told = subst (λ n. AreOfKey letters (n, k.1)) same (told k.1 (ap (map.get s.keys) same ∙ there))

-- the letter that is told of a user ID is that of its spot
pub letter_found : (letter_of : Spot → Letter) (found : Option Spot) (spot : Spot) (letter : Letter) → found ≡ Some spot → option_map letter_of found ≡ Some letter → letter ≡ letter_of spot
letter_found letter_of found spot letter at told = same_Some letter (letter_of spot) (sym told ∙ ap (option_map letter_of) at)

-- one thing of those that are left is done
pub one_of_left : {X Y : Type 0} (f : X → List Y) (done whole : List Y) (x : X) (rest all : List X) → all ≡ x ∷ rest → done ++ flat_map f all ≡ whole → (done ++ f x) ++ flat_map f rest ≡ whole
one_of_left f done whole x rest all is so_far = append_assoc done (f x) (flat_map f rest) ∙ ap (λ l. done ++ flat_map f l) (sym is) ∙ so_far

-- once none is left, what is done is the whole
pub none_of_left : {X Y : Type 0} (f : X → List Y) (done whole : List Y) (all : List X) → all ≡ [] → done ++ flat_map f all ≡ whole → done ≡ whole
none_of_left f done whole all is so_far = sym (append-nil done) ∙ ap (λ l. done ++ flat_map f l) (sym is) ∙ so_far
