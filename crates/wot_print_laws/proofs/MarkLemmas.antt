-- The letter `r` is printed exactly for what is revoked.
use Rattle.std.proofs.Common.{◌≡◌, ℕ, Bool, true, false, not, ◌||◌, ◌&&◌, nat_le, nat_lt, List, [], ◌∷◌, ◌++◌, map, filter, if◌then◌else◌, codes, refl, sym, ap, ◌∙◌}
use Rattle.std.specs.List.{list_all}
use Rattle.std.specs.FinMap as finmap
use Rattle.std.proofs.lemmas.Bool.{and_parts, cond-false, cond-true, cond_both, not-true}
use Rattle.wot_types.specs.declared.key.Key.{Key}
use Rattle.wot_types.specs.declared.letter.Letter.{Letter}
use Rattle.wot_types.specs.declared.letter.Letter.TheVariants.{Dash, Q, M, F, U, R, E}
use Rattle.wot_types.specs.State.{State}
use Rattle.wot_types.specs.declared.trust.Trust.{Trust}
use Rattle.wot_types.specs.declared.trust.Trust.TheVariants.{Unknown, Undefined, Never, Marginal, Full, Ultimate}
use Rattle.wot_types.specs.Candidates.{RowMap, count_of, is_full}
use Rattle.wot_types.specs.Expiry.{is_expired, key_is_live, user_is_live}
use Rattle.wot_types.specs.Letters.{best_letter, better, has_level_0, key_letter, letter_of_count, letter_rank, live_letters, user_letter}
use Rattle.wot_types.specs.Printing.{capabilities_text, letter_text}
use Rattle.wot_types.specs.Trust.{trust_text}
use Rattle.wot_types.specs.Records.{begins_with, is_capability}
use Rattle.wot_types.specs.Selection.{Spot, spots_from}
use Rattle.wot_print_laws.proofs.Parts.{IsInner}
use Rattle.wot_print_laws.proofs.Texts.{filter_all}
use Rattle.wot_print_laws.proofs.Values.{inner_append, inner_capabilities}

abbrev pub is_r : Letter → Bool
is_r R = true
is_r _ = false

pub letter_begins : (letter : Letter) → begins_with 114 (letter_text letter) ≡ is_r letter
letter_begins Dash = refl
letter_begins Q = refl
letter_begins M = refl
letter_begins F = refl
letter_begins U = refl
letter_begins R = refl
letter_begins E = refl

pub inner_letter : (letter : Letter) → IsInner (letter_text letter)
inner_letter Dash = refl
inner_letter Q = refl
inner_letter M = refl
inner_letter F = refl
inner_letter U = refl
inner_letter R = refl
inner_letter E = refl

pub inner_trust : (trust : Trust) → IsInner (trust_text trust)
inner_trust Unknown = refl
inner_trust Undefined = refl
inner_trust Never = refl
inner_trust Marginal = refl
inner_trust Full = refl
inner_trust Ultimate = refl

counted : (a b c : Bool) → is_r (if a then F else if b then M else if c then Q else Dash) ≡ false
counted true b c = refl
counted false true c = refl
counted false false true = refl
counted false false false = refl

marked : (a b c d e : Bool) (letter : Letter) → is_r letter ≡ false
    → is_r (if a then R else if b then R else if c then E else if d then E else if e then U else letter) ≡ (a || b)
marked true b c d e letter h = refl
marked false true c d e letter h = refl
marked false false true d e letter h = refl
marked false false false true e letter h = refl
marked false false false false true letter h = refl
marked false false false false false letter h = h

-- a user ID has the letter `r` where it or its key is revoked
pub user_mark : (s : State) (rows : RowMap) (id : ℕ) (key : Key) (spot : Spot) → begins_with 114 (letter_text (user_letter s rows id key spot)) ≡ (key.revoked || spot.user.revoked)
user_mark s rows id key spot =
    let count = count_of s spot rows in
    letter_begins (user_letter s rows id key spot)
    ∙ marked key.revoked spot.user.revoked (is_expired key.expires s.date) (is_expired spot.user.expires s.date) (has_level_0 (finmap.get rows id)) (letter_of_count s.options count)
    (counted (is_full s.options count) (nat_le 1 _) (nat_le 1 count.other))

better_not : (a b : Letter) → is_r a ≡ false → is_r b ≡ false → is_r (better a b) ≡ false
better_not a b p q = cond_both (nat_lt (letter_rank a) (letter_rank b)) b a (λ l. is_r l ≡ false) (λ e. q) (λ e. p)

live_mark : (s : State) (rows : RowMap) (id : ℕ) (key : Key) (spot : Spot) → key.revoked ≡ false → user_is_live s.date key spot.user ≡ true → is_r (user_letter s rows id key spot) ≡ false
live_mark s rows id key spot k live =
    let user : spot.user.revoked ≡ false = not-true spot.user.revoked (and_parts (key_is_live s.date key) (not spot.user.revoked) (and_parts (key_is_live s.date key && not spot.user.revoked) _ live).0).1 in
    sym (letter_begins (user_letter s rows id key spot)) ∙ user_mark s rows id key spot ∙ (λ i. k i || user i)

best_not : (s : State) (rows : RowMap) (id : ℕ) (key : Key) → key.revoked ≡ false → (spots : List Spot)
    → is_r (best_letter (map (user_letter s rows id key) (filter (λ spot. user_is_live s.date key spot.user) spots))) ≡ false
best_not s rows id key k [] = refl
best_not s rows id key k (spot ∷ spots) =
    cond_both (user_is_live s.date key spot.user) (spot ∷ filter (λ spot. user_is_live s.date key spot.user) spots) (filter (λ spot. user_is_live s.date key spot.user) spots)
    (λ l. is_r (best_letter (map (user_letter s rows id key) l)) ≡ false)
    (λ live. better_not (user_letter s rows id key spot) _ (live_mark s rows id key spot k live) (best_not s rows id key k spots))
    (λ dead. best_not s rows id key k spots)

-- a key has the letter `r` where it is revoked
pub key_mark : (s : State) (rows : RowMap) (id : ℕ) (key : Key) → begins_with 114 (letter_text (key_letter s rows id key)) ≡ key.revoked
key_mark s rows id key = letter_begins (key_letter s rows id key) ∙ at key.revoked refl
  where
    second : (e : Bool) (letter : Letter) → is_r letter ≡ false → is_r (if e then E else letter) ≡ false
    second true letter h = refl
    second false letter h = h

    at : (b : Bool) → key.revoked ≡ b → is_r (if b then R else if is_expired key.expires s.date then E else best_letter (live_letters s rows id key)) ≡ b
    at true k = refl
    at false k = second (is_expired key.expires s.date) (best_letter (live_letters s rows id key)) (best_not s rows id key k (spots_from 0 key.users))

-- `D` is printed and not read
filter_more : (p : ℕ → Bool) (f : List ℕ) (x : ℕ) → list_all p f ≡ true → p x ≡ false → filter p (f ++ x ∷ []) ≡ f
filter_more p [] x h e = cond-false (p x) (x ∷ []) [] e
filter_more p (b ∷ f) x h e =
    let both = and_parts (p b) (list_all p f) h in
    cond-true (p b) (b ∷ filter p (f ++ x ∷ [])) (filter p (f ++ x ∷ [])) both.0 ∙ ap (λ l. b ∷ l) (filter_more p f x both.1 e)

pub capabilities_kept : (disabled : Bool) (caps : List ℕ) → list_all is_capability caps ≡ true → filter is_capability (capabilities_text disabled caps) ≡ caps
capabilities_kept true caps h = filter_more is_capability caps 68 h refl
capabilities_kept false caps h = filter_all is_capability caps h

pub inner_capabilities_text : (disabled : Bool) (caps : List ℕ) → list_all is_capability caps ≡ true → IsInner (capabilities_text disabled caps)
inner_capabilities_text true caps h = inner_append caps (codes "D") (inner_capabilities caps h) refl
inner_capabilities_text false caps h = inner_capabilities caps h
