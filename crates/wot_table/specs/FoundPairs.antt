-- The pairs of an index by issuers, found for the key IDs piece by piece.
use Rattle.std.specs.Prelude.{◌≡◌, ℕ, ◌&&◌, Bool, false, List, Some, IfOk, length, slice_get}
use Rattle.std.specs.FinMap as finmap
use Rattle.std.specs.Fork.{slice_chunk}
use Rattle.std.specs.Global.{Vec}
use Rattle.std.specs.Int.{div_ceil}
use Rattle.std.specs.declared.result.Result.{Result}
use Rattle.std.specs.declared.result.Result.TheVariants.{Ok, Err}
use Rattle.wot_types.specs.declared.mem.Mem.{Mem}
use Rattle.wot_types.specs.Keyring.{Keyring}
use Rattle.wot_index.specs.Indexed.{has_pair}
use Rattle.wot_table.specs.declared.heading.Heading.TheVariants.{Issuer}
use Rattle.wot_table.specs.Headings.{is_one_of, is_under}

-- each of these keys that the keyring has, under each of its issuers, and no other pair
abbrev pub ArePairsOf : Keyring → List ℕ → List (ℕ × ℕ) → Type 0
ArePairsOf keys ids pairs = (n k : ℕ) → has_pair n k pairs ≡ (is_one_of k ids && is_under Issuer n (finmap.get keys k))

-- what a worker answers: pairs, or that there was no memory
abbrev pub Found : Type 0
Found = Result (Vec (ℕ × ℕ)) Mem

abbrev pub has_found : ℕ → ℕ → Found → Bool
has_found n k (Ok pairs) = has_pair n k pairs.items
has_found n k (Err _) = false

-- an answer for each piece of the key IDs, in order: the pairs of its keys, where there was memory
pub record IsFoundByPiece (keys : Keyring) (size : ℕ) (ids : List ℕ) (found : List Found) : Type 0 where
  pub count : length found ≡ div_ceil (length ids) size
  pub each : (n : ℕ) (one : Found) → slice_get found n ≡ Some one → IfOk one (λ pairs. ArePairsOf keys (slice_chunk ids size n) pairs.items)
