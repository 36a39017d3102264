-- The counts of the user IDs of keys, found for the key IDs piece by piece.
use Rattle.std.specs.Prelude.{◌≡◌, ℕ, List, [], ◌∷◌, Option, Some, None, IfOk, length, slice_get}
use Rattle.std.specs.Fork.{slice_chunk}
use Rattle.std.specs.Global.{Vec}
use Rattle.std.specs.Int.{div_ceil}
use Rattle.std.specs.List.{flat_map}
use Rattle.std.specs.declared.result.Result.{Result}
use Rattle.std.specs.declared.result.Result.TheVariants.{Ok, Err}
use Rattle.wot_types.specs.declared.count.Count.{Count}
use Rattle.wot_types.specs.declared.mem.Mem.{Mem}
use Rattle.wot_types.specs.Candidates.{RowMap}
use Rattle.wot_types.specs.State.{State}
use Rattle.wot_live.specs.Counts.{counts_rule}

-- a key ID with what is kept of its key, if something is
abbrev pub kept_pair : ℕ → Option (List Count) → List (ℕ × List Count)
kept_pair id None = []
kept_pair id (Some counts) = (id, counts) ∷ []

-- of these keys, those of which something is kept
abbrev pub kept_pairs : State → RowMap → List ℕ → List (ℕ × List Count)
kept_pairs s rows ids = flat_map (λ id. kept_pair id (counts_rule s rows id)) ids

-- what a worker answers: counts, or that there was no memory
abbrev pub Found : Type 0
Found = Result (Vec (ℕ × List Count)) Mem

abbrev pub found_pairs : Found → List (ℕ × List Count)
found_pairs (Ok pairs) = pairs.items
found_pairs (Err _) = []

-- an answer for each piece of the key IDs, in order: what is kept of its keys, where there was memory
pub record IsCountedByPiece (s : State) (rows : RowMap) (size : ℕ) (ids : List ℕ) (found : List Found) : Type 0 where
  pub count : length found ≡ div_ceil (length ids) size
  pub each : (n : ℕ) (one : Found) → slice_get found n ≡ Some one → IfOk one (λ pairs. pairs.items ≡ kept_pairs s rows (slice_chunk ids size n))
