-- A merge of two walks, of which the keys that were met so far are a list.
use Rattle.std.proofs.Common.{◌≡◌, ◌+◌, ◌-◌, ◌^◌, ◌<◌, ◌||◌, ℕ, Bool, List, [], ◌∷◌, ◌++◌, append_assoc, append-nil, Option, Some, None, refl, sym, ap, subst, ◌∙◌, arith}
use Rattle.std.specs.Option.{option_map_or}
use Rattle.wot_types.specs.Next.{IsAfter, IsNext}
use Rattle.wot_check.specs.KeyWalk.{IsWalk, ids_left, lesser}
use Rattle.wot_check.proofs.Walked.{next_of_two}

-- ---- the keys so far

-- the last of these keys, or the one before them
abbrev pub last_of : Option ℕ → List ℕ → Option ℕ
last_of before [] = before
last_of before (id ∷ ids) = last_of (Some id) ids

last_more : (before : Option ℕ) (ids : List ℕ) (id : ℕ) → last_of before (ids ++ id ∷ []) ≡ Some id
last_more before [] id = refl
last_more before (x ∷ ids) id = last_more (Some x) ids id

-- how many numbers are left behind the last of them
abbrev pub room_behind : List ℕ → ℕ
room_behind ids = option_map_or (λ id. 2 ^ 64 - (id + 1)) (last_of None ids) (2 ^ 64)

less_room : (after : Option ℕ) (id : ℕ) → IsAfter after id → id < 2 ^ 64 → 2 ^ 64 - (id + 1) < option_map_or (λ a. 2 ^ 64 - (a + 1)) after (2 ^ 64)
less_room None id later small = omega (arith, small)
less_room (Some a) id later small = omega (arith, later, small)

-- the key at hand is the next
first_left : {X : Type 0} (has : ℕ → Bool) (after key : Option ℕ) (walk : List (ℕ × X)) → IsWalk has after (ids_left key walk) → IsNext has after key
first_left has after None walk is = is
first_left has after (Some k) walk is = is.0

module _ (a b : ℕ → Bool) where
  -- with the keys that are left of both those met so far are a walk over all, and what is left of each is what it has behind the last of them
  pub record IsMerging (ids keys rows : List ℕ) : Type 0 where
    pub so_far : (rest : List ℕ) → IsWalk (λ x. a x || b x) (last_of None ids) rest → IsWalk (λ x. a x || b x) None (ids ++ rest)
    pub of_keys : IsWalk a (last_of None ids) keys
    pub of_rows : IsWalk b (last_of None ids) rows

  pub merge_start : (ids keys rows : List ℕ) → ids ≡ [] → IsWalk a None keys → IsWalk b None rows → IsMerging ids keys rows
  merge_start ids keys rows none of_keys of_rows = subst (λ xs. IsMerging xs keys rows) (sym none) (record { so_far = λ rest walk. walk; of_keys = of_keys; of_rows = of_rows })

  module _ {X Y : Type 0} (ids : List ℕ) (key : Option ℕ) (walk : List (ℕ × X)) (row : Option ℕ) (behind : List (ℕ × Y)) (are : IsMerging ids (ids_left key walk) (ids_left row behind)) where
    merge_next : IsNext (λ x. a x || b x) (last_of None ids) (lesser key row)
    merge_next = next_of_two a b (last_of None ids) key row (first_left a (last_of None ids) key walk are.of_keys) (first_left b (last_of None ids) row behind are.of_rows)

    pub merge_end : None ≡ lesser key row → IsWalk (λ x. a x || b x) None ids
    merge_end is = subst (IsWalk (λ x. a x || b x) None) (append-nil ids) (are.so_far [] (subst (IsNext (λ x. a x || b x) (last_of None ids)) (sym is) merge_next))

    module _ (id : ℕ) (is : Some id ≡ lesser key row) where
      met : IsNext (λ x. a x || b x) (last_of None ids) (Some id)
      met = subst (IsNext (λ x. a x || b x) (last_of None ids)) (sym is) merge_next

      pub merge_later : IsAfter (last_of None ids) id
      merge_later = met.1

      pub merge_on : (more keys rows : List ℕ) → more ≡ ids ++ id ∷ [] → IsWalk a (Some id) keys → IsWalk b (Some id) rows → IsMerging more keys rows
      merge_on more keys rows one of_keys of_rows =
          let last : Some id ≡ last_of None (ids ++ id ∷ []) = sym (last_more None ids id) in
          subst (λ xs. IsMerging xs keys rows) (sym one) (record {
            so_far = λ rest others.
                subst (IsWalk (λ x. a x || b x) None) (sym (append_assoc ids (id ∷ []) rest))
                (are.so_far (id ∷ rest) (met, subst (λ after. IsWalk (λ x. a x || b x) after rest) (sym last) others));
            of_keys = subst (λ after. IsWalk a after keys) last of_keys;
            of_rows = subst (λ after. IsWalk b after rows) last of_rows;
          })

      pub merge_less : (more : List ℕ) → more ≡ ids ++ id ∷ [] → id < 2 ^ 64 → room_behind more < room_behind ids
      merge_less more one small =
          subst (λ room. room < room_behind ids) (sym (ap room_behind one ∙ ap (λ after. option_map_or (λ x. 2 ^ 64 - (x + 1)) after (2 ^ 64)) (last_more None ids id)))
          (less_room (last_of None ids) id merge_later small)
