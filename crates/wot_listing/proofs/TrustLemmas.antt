-- The depth and the amount of a trust signature: two numbers with one space between.
use Rattle.std.proofs.Common.{◌≡◌, ℕ, ◌+◌, ◌<◌, ◌≤◌, ◌==◌, Bool, true, false, cond, not, ◌&&◌, nat_lt, nat_le, List, [], ◌∷◌, length, take, drop, Option, Some, None, refl, sym, ap, ◌∙◌, arith}
use Rattle.std.specs.List.{list_all, slice_split, position_or_len}
use Rattle.std.proofs.lemmas.Bool.{cond-false, eqb-true}
use Rattle.std.proofs.lemmas.Bool.Decides.{nat_tests}
use Rattle.std.proofs.lemmas.List.Elements.{All-from_get_or}
use Rattle.std.proofs.lemmas.List.Splits.{slice_split_none, slice_split_first, length-slice_split}
use Rattle.std.proofs.lemmas.List.Sums.{fails_before_first, prefix_len-le-length}
use Rattle.std.proofs.lemmas.Option.{none-some, same_Some}
use Rattle.std.specs.Option.{option_zip}
use Rattle.wot_types.specs.Lines.{is_space}
use Rattle.wot_types.specs.Numbers.{is_digit, digits_value, number_up_to, both, two_bytes, depth_and_amount}

-- where the first space stands
abbrev pub space_at : List ℕ → Option ℕ
space_at f = cond (nat_lt (position_or_len is_space f) (length f)) (Some (position_or_len is_space f)) None

digit_or_space : (b : ℕ) → is_space b ≡ true → is_digit b ≡ false
digit_or_space b h = ap is_digit (eqb-true b 32 h)

and_false : (a b : Bool) → b ≡ false → (a && b) ≡ false
and_false true b e = e
and_false false b e = refl

digits_at : (b : ℕ) (f : List ℕ) (t : Bool) → is_space b ≡ t → (position_or_len is_space f < length f → list_all is_digit f ≡ false)
    → position_or_len is_space (b ∷ f) < length (b ∷ f) → list_all is_digit (b ∷ f) ≡ false
digits_at b f true e further h = ap (λ t. t && list_all is_digit f) (digit_or_space b e)
digits_at b f false e further h =
    let n : position_or_len is_space (b ∷ f) ≡ 1 + position_or_len is_space f = rw e refl in
    and_false (is_digit b) (list_all is_digit f) (further (omega (arith, n, h)))

no_digits : (f : List ℕ) → position_or_len is_space f < length f → list_all is_digit f ≡ false
no_digits [] h = absurd (omega arith)
no_digits (b ∷ f) h = digits_at b f _ refl (no_digits f) h

same_of_both : {A : Type 0} (t : Bool) (x : A) → cond t x x ≡ x
same_of_both true x = refl
same_of_both false x = refl

-- a field with a space is no number
no_number : (greatest : ℕ) (f : List ℕ) → position_or_len is_space f < length f → number_up_to greatest f ≡ None
no_number greatest f h =
    ap (λ t. cond (length f == 0) None (cond (t && nat_le (digits_value f) greatest) (Some (digits_value f)) None)) (no_digits f h)
    ∙ same_of_both (length f == 0) None

both_none : (o : Option ℕ) → both o None ≡ None
both_none None = refl
both_none (Some n) = refl

two_bytes_more : (a b : List ℕ) (cs : List (List ℕ)) → 1 ≤ length cs → two_bytes (a ∷ b ∷ cs) ≡ None
two_bytes_more a b [] h = absurd (omega arith)
two_bytes_more a b (c ∷ cs) h = refl

within : (t : Bool) (n : ℕ) (f : List ℕ) → nat_lt n (length f) ≡ t → t ≡ true → n < length f
within t n f e h = grind (arith, nat_tests)

unspaced : (f : List ℕ) → nat_lt (position_or_len is_space f) (length f) ≡ false → slice_split is_space f ≡ f ∷ []
unspaced f h =
    let n = prefix_len-le-length (λ b. not (is_space b)) f in
    let e : position_or_len is_space f ≡ length f = grind (arith, nat_tests) in
    slice_split_none is_space f (All-from_get_or (λ b. is_space b ≡ false) f 0 (λ i below. fails_before_first is_space f i 0 (omega (arith, e))))

rest_is : (a rest : List ℕ) (t : Bool) → nat_lt (position_or_len is_space rest) (length rest) ≡ t
    → two_bytes (a ∷ slice_split is_space rest) ≡ both (number_up_to 255 a) (number_up_to 255 rest)
rest_is a rest false e = ap (λ l. two_bytes (a ∷ l)) (unspaced rest e)
rest_is a rest true e =
    let there = within true (position_or_len is_space rest) rest e refl in
    let split = slice_split_first is_space rest 0 there in
    ap (λ l. two_bytes (a ∷ l)) split
    ∙ two_bytes_more a (take (position_or_len is_space rest) rest) _ (omega (arith, length-slice_split is_space (drop (position_or_len is_space rest + 1) rest)))
    ∙ sym (both_none (number_up_to 255 a)) ∙ ap (both (number_up_to 255 a)) (sym (no_number 255 rest there))

module _ (f : List ℕ) (filled : (length f == 0) ≡ false) where
  filled_is : depth_and_amount f ≡ two_bytes (slice_split is_space f)
  filled_is = cond-false (length f == 0) _ _ filled

  none_at : (t : Bool) → nat_lt (position_or_len is_space f) (length f) ≡ t → cond t (Some (position_or_len is_space f)) None ≡ None → depth_and_amount f ≡ None
  none_at true e h = absurd (none-some _ (sym h))
  none_at false e h = filled_is ∙ ap two_bytes (unspaced f e)

  -- a field without a space
  pub no_trust : space_at f ≡ None → depth_and_amount f ≡ None
  no_trust h = none_at _ refl h

  some_at : (t : Bool) (p : ℕ) → nat_lt (position_or_len is_space f) (length f) ≡ t → cond t (Some (position_or_len is_space f)) None ≡ Some p
      → depth_and_amount f ≡ both (number_up_to 255 (take p f)) (number_up_to 255 (drop (p + 1) f))
  some_at false p e h = absurd (none-some p h)
  some_at true p e h =
      let is = same_Some _ p h in
      filled_is ∙ ap two_bytes (slice_split_first is_space f 0 (within true (position_or_len is_space f) f e refl))
      ∙ rest_is (take (position_or_len is_space f) f) (drop (position_or_len is_space f + 1) f) _ refl
      ∙ ap (λ n. both (number_up_to 255 (take n f)) (number_up_to 255 (drop (n + 1) f))) is

  -- a field with its first space here
  pub trust_at : (p : ℕ) → space_at f ≡ Some p → depth_and_amount f ≡ both (number_up_to 255 (take p f)) (number_up_to 255 (drop (p + 1) f))
  trust_at p h = some_at _ p refl h

pub zip_is : (o p : Option ℕ) → option_zip o p ≡ both o p
zip_is None p = refl
zip_is (Some a) None = refl
zip_is (Some a) (Some b) = refl
