-- Parts of a format: what is read is what was spelled, and what was spelled is read again.
use Rattle.std.proofs.Common.{◌≡◌, ℕ, zero, suc, ◌+◌, ◌^◌, ◌<◌, ◌≤◌, Bool, true, false, cond, ltb, List, [], ◌∷◌, ◌++◌, length, get_or, take, drop, Option, Some, None, refl, sym, ap, subst, ◌∙◌, append_assoc, arith, inl, inr}
use Rattle.std.specs.Int.{w32, w64, from_be_bytes}
use Rattle.std.proofs.lemmas.Bool.{cases_lt, ltb-false, le-ltb}
use Rattle.std.proofs.lemmas.List.{take_at, drop_at, take-append-drop, length-append, length-take, get_or-drop, get_or-take, get_or_past}
use Rattle.std.proofs.lemmas.Nat.{be_bytes_4, be_bytes_8, from_be_bytes-to_be_bytes_4, from_be_bytes-to_be_bytes_8}
use Rattle.std.proofs.lemmas.Option.{same_Some}
use Rattle.wot_types.specs.Spelling.{number_1, number_4, number_8, flag_bytes, text_bytes}
use Rattle.wot_spelling.specs.Reading.{◌>>=◌, Read, ◌&◌, made, bytes_at, number_1_at, number_4_at, number_8_at, flag_at, text_at}

abbrev pub IsBytes : List ℕ → Type 0
IsBytes bytes = (i : ℕ) → get_or bytes i 0 < 256

IsBytes-drop : (n : ℕ) (bytes : List ℕ) → IsBytes bytes → IsBytes (drop n bytes)
IsBytes-drop n bytes h i = rw get_or-drop (h (n + i))

IsBytes-take : (n : ℕ) (bytes : List ℕ) → IsBytes bytes → IsBytes (take n bytes)
IsBytes-take n bytes h i =
    elim (cases_lt i n) [
      | inl lt ↦ rw (get_or-take n bytes i 0 lt) (h i)
      | inr le ↦ rw (get_or_past (take n bytes) i 0 (omega (arith, length-take n bytes))) (omega arith)
    ]

IsBytes-rest : (b : ℕ) (bytes : List ℕ) → IsBytes (b ∷ bytes) → IsBytes bytes
IsBytes-rest b bytes h i = h (suc i)

-- what a reader took from the front
pub record Taken {A : Type 0} (spell : A → List ℕ) (Fits : A → Type 0) (bytes : List ℕ) (x : A) (rest : List ℕ) : Type 0 where
  pub parts : bytes ≡ spell x ++ rest
  pub rest_fits : IsBytes rest
  pub fits : Fits x

-- a reader reads this spelling of the values that fit, and nothing else
pub record IsPart {A : Type 0} (spell : A → List ℕ) (Fits : A → Type 0) (at : Read A) : Type 0 where
  pub takes : (bytes : List ℕ) (x : A) (rest : List ℕ) → IsBytes bytes → at bytes ≡ Some (x, rest) → Taken spell Fits bytes x rest
  pub again : (x : A) (rest : List ℕ) → Fits x → at (spell x ++ rest) ≡ Some (x, rest)

-- one spelling begins another only where they are the same, and so are the values
pub one_spelling : {A : Type 0} {spell : A → List ℕ} {Fits : A → Type 0} {at : Read A} → IsPart spell Fits at → (x y : A) (r s : List ℕ) → Fits x → Fits y → spell x ++ r ≡ spell y ++ s → (x ≡ y) × (r ≡ s)
one_spelling {A = A} {at = at} part x y r s fits_x fits_y same =
    let e = same_Some (x, r) (y, s) (sym (part.again x r fits_x) ∙ ap at same ∙ part.again y s fits_y) in
    (ap (λ (q : A × List ℕ). q.0) e, ap (λ (q : A × List ℕ). q.1) e)

pub bind_some : {A B : Type 0} (o : Option A) (f : A → Option B) (y : B) → (o >>= f) ≡ Some y → (x : A) × (o ≡ Some x) × (f x ≡ Some y)
bind_some (Some x) f y e = (x, refl, e)
bind_some None f y e = absurd cc

-- ---- making parts of parts

pub both_part : {A B : Type 0} {s : A → List ℕ} {t : B → List ℕ} {F : A → Type 0} {G : B → Type 0} {a : Read A} {b : Read B}
    → IsPart s F a → IsPart t G b → IsPart {A = A × B} (λ p. s p.0 ++ t p.1) (λ p. F p.0 × G p.1) (a & b)
both_part {A = A} {B = B} {s = s} {t = t} {F = F} {G = G} {a = a} {b = b} first second = record {
  takes = λ bytes p rest fits e.
      let x = bind_some (a bytes) (λ (x : A × List ℕ). b x.1 >>= λ y. Some ((x.0, y.0), y.1)) (p, rest) e in
      let y = bind_some (b x.0.1) (λ (y : B × List ℕ). Some ((x.0.0, y.0), y.1)) (p, rest) x.2 in
      let one = first.takes bytes x.0.0 x.0.1 fits x.1 in
      let two = second.takes x.0.1 y.0.0 y.0.1 one.rest_fits y.1 in
      let whole : Taken {A = A × B} (λ p. s p.0 ++ t p.1) (λ p. F p.0 × G p.1) bytes (x.0.0, y.0.0) y.0.1 =
      record { parts = one.parts ∙ ap (λ (r : List ℕ). s x.0.0 ++ r) two.parts ∙ sym (append_assoc (s x.0.0) (t y.0.0) y.0.1); rest_fits = two.rest_fits; fits = (one.fits, two.fits) } in
      subst (λ (q : (A × B) × List ℕ). Taken {A = A × B} (λ p. s p.0 ++ t p.1) (λ p. F p.0 × G p.1) bytes q.0 q.1) (same_Some ((x.0.0, y.0.0), y.0.1) (p, rest) y.2) whole;
  again = λ p rest fits.
      ap (a & b) (append_assoc (s p.0) (t p.1) rest) ∙ rw (first.again p.0 (t p.1 ++ rest) fits.0, second.again p.1 rest fits.1) refl;
}

-- a value made of a part and taken apart again
pub made_part : {A B : Type 0} {s : A → List ℕ} {F : A → Type 0} {a : Read A} (f : A → B) (g : B → A) → ((x : A) → g (f x) ≡ x) → ((y : B) → f (g y) ≡ y)
    → IsPart s F a → IsPart {A = B} (λ y. s (g y)) (λ y. F (g y)) (made f a)
made_part {A = A} {B = B} {s = s} {F = F} {a = a} f g there back part = record {
  takes = λ bytes y rest fits e.
      let x = bind_some (a bytes) (λ (x : A × List ℕ). Some (f x.0, x.1)) (y, rest) e in
      let one = part.takes bytes x.0.0 x.0.1 fits x.1 in
      let whole : Taken {A = B} (λ y. s (g y)) (λ y. F (g y)) bytes (f x.0.0) x.0.1 =
      record { parts = rw there one.parts; rest_fits = one.rest_fits; fits = rw there one.fits } in
      subst (λ (q : B × List ℕ). Taken {A = B} (λ y. s (g y)) (λ y. F (g y)) bytes q.0 q.1) (same_Some (f x.0.0, x.0.1) (y, rest) x.2) whole;
  again = λ y rest fits. rw (part.again (g y) rest fits, back y) refl;
}

-- the same where only some values are made of a part
pub made_only_part : {A B : Type 0} {s : A → List ℕ} {F : A → Type 0} {a : Read A} (f : A → B) (g : B → A) (P : B → Type 0) → ((x : A) → g (f x) ≡ x) → ((x : A) → P (f x)) → ((y : B) → P y → f (g y) ≡ y)
    → IsPart s F a → IsPart {A = B} (λ y. s (g y)) (λ y. F (g y) × P y) (made f a)
made_only_part {A = A} {B = B} {s = s} {F = F} {a = a} f g P there holds back part = record {
  takes = λ bytes y rest fits e.
      let x = bind_some (a bytes) (λ (x : A × List ℕ). Some (f x.0, x.1)) (y, rest) e in
      let one = part.takes bytes x.0.0 x.0.1 fits x.1 in
      let whole : Taken {A = B} (λ y. s (g y)) (λ y. F (g y) × P y) bytes (f x.0.0) x.0.1 =
      record { parts = rw there one.parts; rest_fits = one.rest_fits; fits = (rw there one.fits, holds x.0.0) } in
      subst (λ (q : B × List ℕ). Taken {A = B} (λ y. s (g y)) (λ y. F (g y) × P y) bytes q.0 q.1) (same_Some (f x.0.0, x.0.1) (y, rest) x.2) whole;
  again = λ y rest fits. rw (part.again (g y) rest fits.0, back y fits.1) refl;
}

-- another way to say what fits
pub part_of : {A : Type 0} {s : A → List ℕ} {F G : A → Type 0} {a : Read A} → ((x : A) → F x → G x) → ((x : A) → G x → F x) → IsPart s F a → IsPart s G a
part_of to from part = record {
  takes = λ bytes x rest fits e. let one = part.takes bytes x rest fits e in record { parts = one.parts; rest_fits = one.rest_fits; fits = to x one.fits };
  again = λ x rest fits. part.again x rest (from x fits);
}

-- another way to say how it is spelled
pub spelled_as : {A : Type 0} {s t : A → List ℕ} {F : A → Type 0} {a : Read A} → ((x : A) → s x ≡ t x) → IsPart s F a → IsPart t F a
spelled_as {a = a} same part = record {
  takes = λ bytes x rest fits e. let one = part.takes bytes x rest fits e in record { parts = one.parts ∙ ap (λ (b : List ℕ). b ++ rest) (same x); rest_fits = one.rest_fits; fits = one.fits };
  again = λ x rest fits. ap (λ (b : List ℕ). a (b ++ rest)) (sym (same x)) ∙ part.again x rest fits;
}

-- ---- numbers, flags and texts

pub bytes_take : (n : ℕ) (bytes x rest : List ℕ) → IsBytes bytes → bytes_at n bytes ≡ Some (x, rest) → (bytes ≡ x ++ rest) × IsBytes rest × IsBytes x × (length x ≡ n)
unfolding bytes_at
bytes_take n bytes x rest fits e =
    go (ltb (length bytes) n) refl e
  where
    go : (b : Bool) → ltb (length bytes) n ≡ b → cond {A = Option (List ℕ × List ℕ)} b None (Some (take n bytes, drop n bytes)) ≡ Some (x, rest) → (bytes ≡ x ++ rest) × IsBytes rest × IsBytes x × (length x ≡ n)
    go true is e = absurd cc
    go false is e =
        let long : n ≤ length bytes = ltb-false _ _ is in
        let p = same_Some (take n bytes, drop n bytes) (x, rest) e in
        subst (λ (q : List ℕ × List ℕ). (bytes ≡ q.0 ++ q.1) × IsBytes q.1 × IsBytes q.0 × (length q.0 ≡ n)) p
        (sym (take-append-drop n bytes), IsBytes-drop n bytes fits, IsBytes-take n bytes fits, omega (arith, length-take n bytes))

pub bytes_again : (n : ℕ) (x rest : List ℕ) → length x ≡ n → bytes_at n (x ++ rest) ≡ Some (x, rest)
unfolding bytes_at
bytes_again n x rest len =
    let long : ltb (length (x ++ rest)) n ≡ false = le-ltb _ _ (omega (arith, length-append x rest)) in
    rw (long, take_at x rest n len, drop_at x rest n len) refl

pub number_1_part : IsPart number_1 (λ n. Unit {0}) number_1_at
unfolding number_1 number_1_at
number_1_part = record {
  takes = λ bytes n rest fits e. takes bytes n rest fits e;
  again = λ n rest fits. refl;
}
  where
    takes : (bytes : List ℕ) (n : ℕ) (rest : List ℕ) → IsBytes bytes → number_1_at bytes ≡ Some (n, rest) → Taken number_1 (λ n. Unit {0}) bytes n rest
    takes [] n rest fits e = absurd cc
    takes (b ∷ bytes) n rest fits e = subst (λ (q : ℕ × List ℕ). Taken number_1 (λ n. Unit {0}) (b ∷ bytes) q.0 q.1) (same_Some (b, bytes) (n, rest) e) (record { parts = refl; rest_fits = IsBytes-rest b bytes fits; fits = tt })

number_4_len : (n : ℕ) → length (number_4 n) ≡ 4
unfolding number_4
number_4_len n = refl

number_4_back : (bytes : List ℕ) → length bytes ≡ 4 → IsBytes bytes → number_4 (from_be_bytes w32 bytes) ≡ bytes
unfolding number_4
number_4_back bytes len fits = be_bytes_4 bytes _ len fits refl

number_4_value : (n : ℕ) → n < 2 ^ 32 → from_be_bytes w32 (number_4 n) ≡ n
unfolding number_4
number_4_value n lt = from_be_bytes-to_be_bytes_4 n lt

pub number_4_part : IsPart number_4 (λ n. n < 2 ^ 32) number_4_at
unfolding number_4_at
number_4_part = record {
  takes = λ bytes n rest fits e.
      let x = bind_some (bytes_at 4 bytes) (λ (x : List ℕ × List ℕ). Some (from_be_bytes w32 x.0, x.1)) (n, rest) e in
      let t = bytes_take 4 bytes x.0.0 x.0.1 fits x.1 in
      let back = number_4_back x.0.0 t.3 t.2 in
      let whole : Taken number_4 (λ n. n < 2 ^ 32) bytes (from_be_bytes w32 x.0.0) x.0.1 =
      record { parts = t.0 ∙ ap (λ (b : List ℕ). b ++ x.0.1) (sym back); rest_fits = t.1; fits = omega (arith, t.2 0, t.2 1, t.2 2, t.2 3) } in
      subst (λ (q : ℕ × List ℕ). Taken number_4 (λ n. n < 2 ^ 32) bytes q.0 q.1) (same_Some (from_be_bytes w32 x.0.0, x.0.1) (n, rest) x.2) whole;
  again = λ n rest fits. rw (bytes_again 4 (number_4 n) rest (number_4_len n), number_4_value n fits) refl;
}

number_8_len : (n : ℕ) → length (number_8 n) ≡ 8
unfolding number_8
number_8_len n = refl

number_8_back : (bytes : List ℕ) → length bytes ≡ 8 → IsBytes bytes → number_8 (from_be_bytes w64 bytes) ≡ bytes
unfolding number_8
number_8_back bytes len fits = be_bytes_8 bytes _ len fits refl

number_8_value : (n : ℕ) → n < 2 ^ 64 → from_be_bytes w64 (number_8 n) ≡ n
unfolding number_8
number_8_value n lt = from_be_bytes-to_be_bytes_8 n lt

pub number_8_part : IsPart number_8 (λ n. n < 2 ^ 64) number_8_at
unfolding number_8_at
number_8_part = record {
  takes = λ bytes n rest fits e.
      let x = bind_some (bytes_at 8 bytes) (λ (x : List ℕ × List ℕ). Some (from_be_bytes w64 x.0, x.1)) (n, rest) e in
      let t = bytes_take 8 bytes x.0.0 x.0.1 fits x.1 in
      let back = number_8_back x.0.0 t.3 t.2 in
      let whole : Taken number_8 (λ n. n < 2 ^ 64) bytes (from_be_bytes w64 x.0.0) x.0.1 =
      record { parts = t.0 ∙ ap (λ (b : List ℕ). b ++ x.0.1) (sym back); rest_fits = t.1; fits = omega (arith, t.2 0, t.2 1, t.2 2, t.2 3, t.2 4, t.2 5, t.2 6, t.2 7) } in
      subst (λ (q : ℕ × List ℕ). Taken number_8 (λ n. n < 2 ^ 64) bytes q.0 q.1) (same_Some (from_be_bytes w64 x.0.0, x.0.1) (n, rest) x.2) whole;
  again = λ n rest fits. rw (bytes_again 8 (number_8 n) rest (number_8_len n), number_8_value n fits) refl;
}

pub flag_part : IsPart flag_bytes (λ b. Unit {0}) flag_at
unfolding flag_bytes flag_at
flag_part = record { takes = takes; again = again }
  where
    takes : (bytes : List ℕ) (b : Bool) (rest : List ℕ) → IsBytes bytes → flag_at bytes ≡ Some (b, rest) → Taken flag_bytes (λ b. Unit {0}) bytes b rest
    takes [] b rest fits e = absurd cc
    takes (zero ∷ bytes) b rest fits e = subst (λ (q : Bool × List ℕ). Taken flag_bytes (λ b. Unit {0}) (0 ∷ bytes) q.0 q.1) (same_Some (false, bytes) (b, rest) e) (record { parts = refl; rest_fits = IsBytes-rest 0 bytes fits; fits = tt })
    takes (suc zero ∷ bytes) b rest fits e = subst (λ (q : Bool × List ℕ). Taken flag_bytes (λ b. Unit {0}) (1 ∷ bytes) q.0 q.1) (same_Some (true, bytes) (b, rest) e) (record { parts = refl; rest_fits = IsBytes-rest 1 bytes fits; fits = tt })
    takes (suc (suc n) ∷ bytes) b rest fits e = absurd cc

    again : (b : Bool) (rest : List ℕ) → Unit {0} → flag_at (flag_bytes b ++ rest) ≡ Some (b, rest)
    again true rest fits = refl
    again false rest fits = refl

pub text_part : IsPart text_bytes (λ t. length t < 2 ^ 32) text_at
unfolding text_bytes text_at
text_part = record {
  takes = λ bytes t rest fits e.
      let n = bind_some (number_4_at bytes) (λ (n : ℕ × List ℕ). bytes_at n.0 n.1) (t, rest) e in
      let one = number_4_part.takes bytes n.0.0 n.0.1 fits n.1 in
      let two = bytes_take n.0.0 n.0.1 t rest one.rest_fits n.2 in
      record {
        parts = one.parts ∙ ap (λ (r : List ℕ). number_4 n.0.0 ++ r) two.0 ∙ ap (λ (k : ℕ). number_4 k ++ (t ++ rest)) (sym two.3) ∙ sym (append_assoc (number_4 (length t)) t rest);
        rest_fits = two.1;
        fits = omega (arith, one.fits, two.3);
      };
  again = λ t rest fits.
      ap text_at (append_assoc (number_4 (length t)) t rest) ∙ rw (number_4_part.again (length t) (t ++ rest) fits, bytes_again (length t) t rest refl) refl;
}
