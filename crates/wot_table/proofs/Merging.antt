-- Pairs found for the pieces of a list of key IDs, put together.
use Rattle.std.proofs.Common.{◌≡◌, ◌==◌, ◌&&◌, ◌||◌, ◌+◌, ◌*◌, ◌<◌, suc, ℕ, Bool, true, false, List, [], ◌∷◌, ◌++◌, All, IfOk, IsOk, length, drop, take, take_all, Some, None, Ok, Err, refl, sym, ap, ap₂, subst, ◌∙◌, arith}
use Rattle.std.specs.FinMap as finmap
use Rattle.std.specs.Fork.{slice_chunk}
use Rattle.std.specs.Global.{Vec}
use Rattle.std.specs.Int.{div_ceil}
use Rattle.std.specs.List.{list_any, slice_get}
use Rattle.std.specs.List.Sorted.{IsPermutation}
use Rattle.std.proofs.lemmas.Bool.Decides.{nat_tests}
use Rattle.std.proofs.lemmas.Grind.{div_ceil_times}
use Rattle.std.proofs.lemmas.List.{drop-drop}
use Rattle.std.proofs.lemmas.List.Elements.{All-head, All-tail}
use Rattle.std.proofs.lemmas.List.Folds.{list_any-append}
use Rattle.std.proofs.lemmas.List.Sorted.{list_any-IsPermutation}
use Rattle.std.proofs.Math.Seq.{take-add}
use Rattle.wot_types.specs.Keyring.{Keyring}
use Rattle.wot_types.proofs.MapLemmas.{some_key}
use Rattle.wot_index.specs.Indexed.{has_pair}
use Rattle.wot_table.specs.declared.heading.Heading.TheVariants.{Issuer}
use Rattle.wot_table.specs.Headings.{AgreesWith, is_one_of, is_under}
use Rattle.wot_table.specs.FoundPairs.{ArePairsOf, Found, IsFoundByPiece, has_found}

spread : (a b u : Bool) → ((a || b) && u) ≡ ((a && u) || (b && u))
spread true true true = refl
spread true true false = refl
spread true false true = refl
spread true false false = refl
spread false b u = refl

-- ---- the pairs of some keys

module _ (keys : Keyring) where
  -- the key k stands under the number n
  abbrev stands : ℕ → ℕ → Bool
  stands n k = is_under Issuer n (finmap.get keys k)

  -- a key that is missing stands under no number
  pub all_keys : (n k : ℕ) → (is_one_of k (finmap.keys keys) && stands n k) ≡ stands n k
  all_keys n k =
      elim (finmap.get keys k) as (λ found. finmap.get keys k ≡ found → (is_one_of k (finmap.keys keys) && is_under Issuer n found) ≡ is_under Issuer n found) [
        | None ↦ λ _. and_false (is_one_of k (finmap.keys keys))
        | Some key ↦ λ is. ap (λ b. b && is_under Issuer n (Some key)) (some_key (λ m. m == k) keys k key is (itself k))
      ] refl
    where
      and_false : (b : Bool) → (b && false) ≡ false
      and_false true = refl
      and_false false = refl

      itself : (a : ℕ) → (a == a) ≡ true
      itself a = grind (arith, nat_tests)

  -- the pairs of one key more
  pub one_more : (n k id : ℕ) (ids : List ℕ) (had new : Bool) → had ≡ (is_one_of k ids && stands n k) → new ≡ (had || ((k == id) && stands n id))
      → new ≡ (is_one_of k (ids ++ id ∷ []) && stands n k)
  one_more n k id ids had new e f =
      f ∙ ap₂ (λ a b. a || b) e (own (k == id) refl)
      ∙ sym (ap (λ b. b && stands n k) (list_any-append (λ m. m == k) ids (id ∷ [])) ∙ spread (is_one_of k ids) (is_one_of k (id ∷ [])) (stands n k))
    where
      same : (k id : ℕ) → (k == id) ≡ true → id ≡ k
      same k id t = grind (arith, nat_tests)

      turned : (k id : ℕ) → (k == id) ≡ ((id == k) || false)
      turned k id = grind (arith, nat_tests)

      own : (b : Bool) → (k == id) ≡ b → ((k == id) && stands n id) ≡ (is_one_of k (id ∷ []) && stands n k)
      own true t = ap₂ (λ a i. a && stands n i) (turned k id) (same k id t)
      own false f = ap (λ a. a && stands n id) f ∙ sym (ap (λ a. a && stands n k) (sym (turned k id) ∙ f))

-- ---- a list in pieces of one size

module _ {X : Type 0} (size : ℕ) where
  -- so many pieces are the first of them and the others of what is left
  pub first_piece : (xs : List X) (m : ℕ) → take (suc m * size) xs ≡ slice_chunk xs size 0 ++ take (m * size) (drop size xs)
  first_piece xs m =
      let more : suc m * size ≡ size + m * size = omega arith in
      let none : 0 * size ≡ 0 = omega arith in
      ap (λ j. take j xs) more ∙ take-add size (m * size) xs ∙ ap (λ j. take size (drop j xs) ++ take (m * size) (drop size xs)) (sym none)

  -- a later piece is one of what is left behind the first
  pub later_piece : (xs : List X) (m : ℕ) → slice_chunk xs size (suc m) ≡ slice_chunk (drop size xs) size m
  later_piece xs m =
      let more : suc m * size ≡ size + m * size = omega arith in
      ap (take size) (ap (λ j. drop j xs) more ∙ sym (drop-drop (m * size) size xs))

-- ---- the pieces put together

pub same_pairs : (n k : ℕ) (old new : List (ℕ × ℕ)) → IsPermutation old new → has_pair n k new ≡ has_pair n k old
same_pairs n k old new moved = sym (list_any-IsPermutation (λ pair. (pair.0 == n) && (pair.1 == k)) old new moved)

-- the pairs of one piece more
pub one_piece : (n k : ℕ) (pairs : List (ℕ × ℕ)) (founds : List Found) (one : Found) (come : Vec (ℕ × ℕ)) → one ≡ Ok come → has_pair n k pairs ≡ list_any (has_found n k) founds
    → has_pair n k (pairs ++ come.items) ≡ list_any (has_found n k) (founds ++ one ∷ [])
one_piece n k pairs founds one come is e =
    list_any-append (λ pair. (pair.0 == n) && (pair.1 == k)) pairs come.items
    ∙ ap₂ (λ a b. a || b) e (sym (ap (λ r. has_found n k r || false) is ∙ or_false (has_pair n k come.items)))
    ∙ sym (list_any-append (has_found n k) founds (one ∷ []))
  where
    or_false : (b : Bool) → (b || false) ≡ b
    or_false true = refl
    or_false false = refl

module _ (keys : Keyring) (size : ℕ) (n k : ℕ) where
  -- the pair is to be found for some keys
  abbrev is_wanted : List ℕ → Bool
  is_wanted ids = is_one_of k ids && stands keys n k

  wanted_both : (a b : List ℕ) → is_wanted (a ++ b) ≡ (is_wanted a || is_wanted b)
  wanted_both a b = ap (λ c. c && stands keys n k) (list_any-append (λ m. m == k) a b) ∙ spread (is_one_of k a) (is_one_of k b) (stands keys n k)

  one_found : (one : Found) (ids : List ℕ) → IsOk one → IfOk one (λ pairs. ArePairsOf keys ids pairs.items) → has_found n k one ≡ is_wanted ids
  one_found (Ok pairs) ids ok are = are n k
  one_found (Err e) ids ok are = cc

  -- by the first piece, and the others of what is left of the list
  found_in : (founds : List Found) (ids : List ℕ) → All IsOk founds
      → ((m : ℕ) (one : Found) → slice_get founds m ≡ Some one → IfOk one (λ pairs. ArePairsOf keys (slice_chunk ids size m) pairs.items))
      → list_any (has_found n k) founds ≡ is_wanted (take (length founds * size) ids)
  found_in [] ids whole each =
      let none : 0 * size ≡ 0 = omega arith in
      ap (λ j. is_wanted (take j ids)) (sym none)
  found_in (one ∷ founds) ids whole each =
      ap₂ (λ a b. a || b)
      (one_found one (slice_chunk ids size 0) (All-head IsOk one founds whole) (each 0 one refl))
      (found_in founds (drop size ids) (All-tail IsOk one founds whole) (λ m r at. subst (λ piece. IfOk r (λ pairs. ArePairsOf keys piece pairs.items)) (later_piece size ids m) (each (suc m) r at)))
      ∙ sym (wanted_both (slice_chunk ids size 0) (take (length founds * size) (drop size ids)))
      ∙ ap is_wanted (sym (first_piece size ids (length founds)))

  -- a pair was found for a piece where it is to be found for the keys
  found_all : (founds : List Found) (ids : List ℕ) → 0 < size → All IsOk founds → IsFoundByPiece keys size ids founds → list_any (has_found n k) founds ≡ is_wanted ids
  found_all founds ids some whole by =
      let cover = (div_ceil_times (length ids) size some).0 in
      let same : length founds * size ≡ div_ceil (length ids) size * size = ap (λ j. j * size) by.count in
      found_in founds ids whole by.each ∙ ap is_wanted (take_all (length founds * size) ids (omega (arith, cover, same)))

-- the pairs found for the pieces of all key IDs are those of the keyring
pub put_together : (keys : Keyring) (size : ℕ) (ids : List ℕ) (founds : List Found) (all : Found) → 0 < size → ids ≡ finmap.keys keys → IsFoundByPiece keys size ids founds
    → IfOk all (λ _. All IsOk founds) → IfOk all (λ pairs. (n k : ℕ) → has_pair n k pairs.items ≡ list_any (has_found n k) founds)
    → IfOk all (λ pairs. AgreesWith (λ n k. has_pair n k pairs.items) Issuer keys)
put_together keys size ids founds (Ok pairs) some are by whole exact = λ n k.
    exact n k ∙ found_all keys size n k founds ids some whole by ∙ ap (λ xs. is_one_of k xs && stands keys n k) are ∙ all_keys keys n k
put_together keys size ids founds (Err e) some are by whole exact = tt
