-- Reading one part after the other, as a loop does.
use Rattle.std.proofs.Common.{◌≡◌, ℕ, suc, ◌-◌, ◌+◌, ◌≤◌, ◌<◌, ◌^◌, take, get_or, length, List, [], ◌∷◌, ◌++◌, Option, Some, None, Err, refl, sym, ap, ◌∙◌, append_assoc, arith}
use Rattle.std.specs.Prelude.{All}
use Rattle.std.specs.List.{flat_map}
use Rattle.std.proofs.lemmas.List.{append-nil, flat_map_more, length-append, take_more}
use Rattle.std.proofs.lemmas.List.Concat.{flat_map-cons}
use Rattle.std.proofs.lemmas.List.Elements.{All-push}
use Rattle.std.proofs.lemmas.List.Folds.{length-flat_map-take}
use Rattle.wot_spelling.specs.declared.no_value.NoValue.{NoValue}
use Rattle.wot_spelling.specs.declared.no_value.NoValue.TheVariants.{NoSpelling, Memory}
use Rattle.wot_types.specs.Spelling.{number_4, list_bytes}
use Rattle.wot_spelling.specs.Reading.{◌>>=◌, Read, Gives, many_at}

-- what was read before, and what is still read
abbrev pub with_front : {A : Type 0} → List A → Option (List A × List ℕ) → Option (List A × List ℕ)
with_front front read = read >>= λ x. Some (front ++ x.0, x.1)

regroup : {A : Type 0} (front : List A) (x : A) (read : Option (List A × List ℕ)) → with_front front (read >>= λ xs. Some (x ∷ xs.0, xs.1)) ≡ with_front (front ++ x ∷ []) read
regroup front x (Some xs) = ap (λ ys. Some (ys, xs.1)) (simp append_assoc)
regroup front x None = refl

pub goes_on : {A : Type 0} (at : Read A) (front : List A) (count i : ℕ) (bytes : List ℕ) (x : A) (after : List ℕ) (total : Option (List A × List ℕ)) → i < count → at bytes ≡ Some (x, after)
    → with_front front (many_at at (count - i) bytes) ≡ total → with_front (front ++ x ∷ []) (many_at at (count - (i + 1)) after) ≡ total
unfolding many_at
goes_on at front count i bytes x after total lt h so_far =
    let k : count - i ≡ suc (count - (i + 1)) = omega arith in
    let one : with_front front (many_at at (count - i) bytes) ≡ with_front (front ++ x ∷ []) (many_at at (count - (i + 1)) after) = rw (k, h) (regroup front x (many_at at (count - (i + 1)) after)) in
    sym one ∙ so_far

pub ends : {A : Type 0} (at : Read A) (e : NoValue) (front : List A) (count i : ℕ) (bytes rest : List ℕ) (total : Option (List A × List ℕ)) → i < count
    → Gives {A = A} (at bytes) (Err e) rest → with_front front (many_at at (count - i) bytes) ≡ total → Gives {A = List A} total (Err e) rest
unfolding many_at
ends at Memory front count i bytes rest total lt h so_far = tt
ends at NoSpelling front count i bytes rest total lt h so_far =
    let k : count - i ≡ suc (count - (i + 1)) = omega arith in
    let one : with_front front (many_at at (count - i) bytes) ≡ None = rw (k, h) refl in
    sym so_far ∙ one

pub is_done : {A : Type 0} (at : Read A) (front : List A) (count i : ℕ) (bytes : List ℕ) (total : Option (List A × List ℕ)) → count ≤ i → with_front front (many_at at (count - i) bytes) ≡ total → total ≡ Some (front, bytes)
unfolding many_at
is_done at front count i bytes total le so_far =
    let k : count - i ≡ 0 = omega arith in
    let one : with_front front (many_at at (count - i) bytes) ≡ Some (front, bytes) = rw k (ap (λ xs. Some (xs, bytes)) (append-nil front)) in
    sym so_far ∙ one

-- ---- writing one part after the other

pub part_room : {A : Type 0} (s : A → List ℕ) (xs : List A) (i : ℕ) (x : A) → i < length xs → x ≡ get_or xs i x → length (list_bytes s xs) < 2 ^ 32 → length (s x) < 2 ^ 32
unfolding list_bytes
part_room s xs i x lt is room =
    let within = length-flat_map-take s xs i x lt in
    let same : length (s x) ≡ length (s (get_or xs i x)) = ap (λ y. length (s y)) is in
    omega (arith, length-append (number_4 (length xs)) (flat_map s xs))

-- a list's spelling so far
pub record Written {A : Type 0} (bytes : A → List ℕ) (Fits : A → Type 0) (old new : List ℕ) (parts done : List A) : Type 0 where
  pub text : new ≡ old ++ (number_4 (length parts) ++ flat_map bytes done)
  pub fits : All Fits done

pub one_more : {A : Type 0} (bytes : A → List ℕ) (Fits : A → Type 0) (old now new : List ℕ) (parts : List A) (i : ℕ) (x : A) → i < length parts → x ≡ get_or parts i x
    → Written bytes Fits old now parts (take i parts) → new ≡ now ++ bytes x → Fits x → Written bytes Fits old new parts (take (i + 1) parts)
one_more bytes Fits old now new parts i x lt is so_far h fits =
    let more : take (i + 1) parts ≡ take i parts ++ x ∷ [] = rw (take_more parts i x lt, ← is) refl in
    rw more (record {
      text = h ∙ ap (λ (t : List ℕ). t ++ bytes x) (so_far.text ∙ sym (append_assoc old (number_4 (length parts)) (flat_map bytes (take i parts))))
          ∙ flat_map_more bytes (old ++ number_4 (length parts)) (take i parts) x ∙ append_assoc old (number_4 (length parts)) (flat_map bytes (take i parts ++ x ∷ []));
      fits = All-push Fits (take i parts) x so_far.fits fits;
    })

pub few_parts : {A : Type 0} (s : A → List ℕ) (xs : List A) → ((x : A) → 0 < length (s x)) → length (list_bytes s xs) < 2 ^ 32 → length xs < 2 ^ 32
unfolding list_bytes
few_parts s xs some room = omega (arith, length-append (number_4 (length xs)) (flat_map s xs), go s some xs)
  where
    go : {A : Type 0} (s : A → List ℕ) → ((x : A) → 0 < length (s x)) → (xs : List A) → length xs ≤ length (flat_map s xs)
    go s some [] = omega arith
    go s some (x ∷ xs) = omega (arith, ap (λ (b : List ℕ). length b) (flat_map-cons s x xs), length-append (s x) (flat_map s xs), some x, go s some xs)
