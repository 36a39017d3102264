-- Rows put into a map from the last to the first: of two of one key the first stands.
use Rattle.std.proofs.Common.{◌≡◌, ◌+◌, ◌*◌, ◌<◌, ◌==◌, zero, suc, ℕ, Bool, true, false, cond, List, [], ◌∷◌, ◌++◌, length, take, Result, Option, Some, None, IfOk, refl, sym, ap, ◌∙◌, arith}
use Rattle.std.specs.Fork.{slice_chunk}
use Rattle.std.specs.Int.{div_ceil}
use Rattle.std.specs.List.{slice_get}
use Rattle.std.specs.Option.{option_or}
use Rattle.std.specs.FinMap as finmap
use Rattle.std.specs.FinMap.{get-insert}
use Rattle.std.specs.Cmp.{nat_cmp_total}
use Rattle.std.proofs.lemmas.Grind.{div_ceil_times}
use Rattle.std.proofs.lemmas.List.{take_all}
use Rattle.std.proofs.Math.Seq.{take-add}
use Rattle.wot_types.specs.declared.mem.Mem.{Mem}
use Rattle.wot_types.specs.declared.row.Row.{Row}
use Rattle.wot_types.specs.Candidates.{RowMap}
use Rattle.wot_types.specs.Rows.{with_row}
use Rattle.wot_types.proofs.Optionals.{or_assoc}
use Rattle.wot_types.proofs.Tests.{same_key}
use Rattle.wot_check.specs.Recount.{IsFoundByPiece, IsSpread, row_among}
use Rattle.wot_check.proofs.LevelRows.{among_spread}

chosen : (b : Bool) (row : Row) (r : Option Row) → cond b (Some row) r ≡ option_or (cond b (Some row) None) r
chosen true row r = refl
chosen false row r = refl

-- the last row goes from the list into the map
pub put_last : (rows : RowMap) (left all : List Row) (row : Row) (id : ℕ) → all ≡ left ++ row ∷ []
    → option_or (row_among left id) (finmap.get (with_row rows row) id) ≡ option_or (row_among all id) (finmap.get rows id)
put_last rows left all row id is =
    ap (option_or (row_among left id)) (get-insert nat_cmp_total rows row.key row id ∙ ap (λ b. cond b (Some row) (finmap.get rows id)) (same_key id row.key) ∙ chosen (row.key == id) row (finmap.get rows id))
    ∙ or_assoc (row_among left id) (cond (row.key == id) (Some row) None) (finmap.get rows id)
    ∙ ap (λ r. option_or r (finmap.get rows id)) (sym (among_spread left (row ∷ []) id) ∙ ap (λ xs. row_among xs id) (sym is))

-- ---- pieces

get_front : {X : Type 0} (xs ys : List X) (n : ℕ) (x : X) → slice_get xs n ≡ Some x → slice_get (xs ++ ys) n ≡ Some x
get_front [] ys n x is = cc
get_front (y ∷ xs) ys zero x is = is
get_front (y ∷ xs) ys (suc n) x is = get_front xs ys n x is

get_end : {X : Type 0} (xs : List X) (x : X) → slice_get (xs ++ x ∷ []) (length xs) ≡ Some x
get_end [] x = refl
get_end (y ∷ xs) x = get_end xs x

length_more : {X : Type 0} (xs : List X) (x : X) → length (xs ++ x ∷ []) ≡ suc (length xs)
length_more [] x = refl
length_more (y ∷ xs) x = ap suc (length_more xs x)

-- the pieces that are left, and the rows with those of all others
pub record AreLeft (make : List ℕ → List Row) (size : ℕ) (ids : List ℕ) (start : RowMap) (left : List (Result (List Row) Mem)) (rows : RowMap) : Type 0 where
  pub each : (n : ℕ) (r : Result (List Row) Mem) → slice_get left n ≡ Some r → IfOk r (λ found. found ≡ make (slice_chunk ids size n))
  pub so_far : (id : ℕ) → option_or (row_among (make (take (length left * size) ids)) id) (finmap.get rows id) ≡ option_or (row_among (make ids) id) (finmap.get start id)

module _ (make : List ℕ → List Row) (size : ℕ) (ids : List ℕ) (spread : IsSpread make) (some : 0 < size) (start : RowMap) where
  pub all_left : (pieces : List (Result (List Row) Mem)) → IsFoundByPiece make size ids pieces → AreLeft make size ids start pieces start
  all_left pieces by =
      let cover = (div_ceil_times (length ids) size some).0 in
      let same : length pieces * size ≡ div_ceil (length ids) size * size = ap (λ k. k * size) by.count in
      record {
        each = by.each;
        so_far = λ id. ap (λ xs. option_or (row_among (make xs) id) (finmap.get start id)) (take_all (length pieces * size) ids (omega (arith, cover, same)));
      }

  one_piece : (n : ℕ) → take (suc n * size) ids ≡ take (n * size) ids ++ slice_chunk ids size n
  one_piece n =
      let more : suc n * size ≡ n * size + size = omega arith in
      ap (λ k. take k ids) more ∙ take-add (n * size) size ids

  pub piece_put : (left all : List (Result (List Row) Mem)) (piece : Result (List Row) Mem) (found : List Row) (rows next : RowMap) → all ≡ left ++ piece ∷ []
      → (IfOk piece (λ f. f ≡ make (slice_chunk ids size (length left))) → found ≡ make (slice_chunk ids size (length left)))
      → ((id : ℕ) → finmap.get next id ≡ option_or (row_among found id) (finmap.get rows id))
      → AreLeft make size ids start all rows → AreLeft make size ids start left next
  piece_put left all piece found rows next is gives put are =
      let n = length left in
      let many : length all ≡ suc n = ap length is ∙ length_more left piece in
      let here : found ≡ make (slice_chunk ids size n) = gives (are.each n piece (ap (λ xs. slice_get xs n) is ∙ get_end left piece)) in
      record {
        each = λ k r at. are.each k r (ap (λ xs. slice_get xs k) is ∙ get_front left (piece ∷ []) k r at);
        so_far = λ id.
            let front = make (take (n * size) ids) in
            ap (option_or (row_among front id)) (put id)
            ∙ or_assoc (row_among front id) (row_among found id) (finmap.get rows id)
            ∙ ap (λ r. option_or r (finmap.get rows id))
            (ap (λ xs. option_or (row_among front id) (row_among xs id)) here ∙ sym (among_spread front (make (slice_chunk ids size n)) id)
            ∙ ap (λ xs. row_among xs id) (sym (spread.both (take (n * size) ids) (slice_chunk ids size n)) ∙ ap make (sym (one_piece n) ∙ ap (λ k. take (k * size) ids) (sym many))))
            ∙ are.so_far id;
      }

  pub none_left : (left : List (Result (List Row) Mem)) (rows : RowMap) → length left ≡ 0 → AreLeft make size ids start left rows → (id : ℕ) → finmap.get rows id ≡ option_or (row_among (make ids) id) (finmap.get start id)
  none_left left rows none are id =
      let zero_times : length left * size ≡ 0 = ap (λ k. k * size) none ∙ times_zero in
      sym (ap (λ xs. option_or (row_among xs id) (finmap.get rows id)) (ap (λ k. make (take k ids)) zero_times ∙ spread.none)) ∙ are.so_far id
    where
      times_zero : 0 * size ≡ 0
      times_zero = omega arith
