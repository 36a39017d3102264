-- A civil moment of `jiff` against the dates of a listing.
use Rattle.std.proofs.Common.{◌≡◌, ℕ, ◌+◌, ◌-◌, ◌*◌, ◌^◌, ◌<◌, ◌≤◌, nat_le, true, false, ◌&&◌, cond, Option, Some, None, Result, Ok, Err, inl, inr, refl, sym, ap, ◌∙◌, subst, arith, ℤ, pos, negsuc, ◌+ℤ◌, ◌-ℤ◌, ◌*ℤ◌, ◌<ℤ◌, nat_abs, int_div, to_z, w8, w16}
use Rattle.std.specs.Int.{FitsUnsignedBits}
use Rattle.std.specs.Option.{option_or, ok_or}
use Rattle.std.specs.Result.{OkIff, IfOk, IsOk, result_ok}
use Rattle.std.proofs.lemmas.Bool.{and_parts, and_from, and_left, cond-true, cond-false, le-leb, lt-leb, lt-ltb, leb-true, ltb-true, cases_lt, false_from_ne_true, false≢true}
use Rattle.std.proofs.lemmas.Option.{none-some, same_Some}
use Rattle.jiff.specs.Words.{IsDate, IsTime, IsYmd, IsHms, civil_nanos, civil_seconds}
use Rattle.jiff_core.specs.Calendar.{days_from_civil, IsCivilDate}
use Rattle.jiff_core.specs.declared.civil.datetime.DateTime.{DateTime}
use Rattle.jiff_core.proofs.DateTimeLemmas.{civil_nanos-civil_seconds}
use Rattle.jiff_core.proofs.SignedLemmas.{signed_arith, back_small}
use Rattle.wot_types.specs.Dates.{Civil, is_civil, seconds_of, days_of_month}
use Rattle.wot_fields.specs.Civil.{instant_of}
use Rattle.wot_fields.proofs.Calendar.{days_since, days_before, months_none, years_none}

-- where no number is read, the other form decides
pub option_or_other : {E : Type 0} (o p : Option ℕ) (d e : E) → Err e ≡ ok_or o d → option_or o p ≡ p
option_or_other None p d e h = refl
option_or_other (Some n) p d e h = absurd (no_error n d e h)
  where
    no_error : {E : Type 0} (n : ℕ) (d e : E) → Err e ≡ ok_or (Some n) d → ⊥
    no_error n d e h = cc

-- the calendar and a clock have the moment
abbrev pub Exists : Civil → Type 0
Exists c = IsDate (pos c.year) (pos c.month) (pos c.day) × IsTime (pos c.hour) (pos c.minute) (pos c.second) (pos 0)

abbrev pub IsMoment : Civil → DateTime → Type 0
IsMoment c dt = IsYmd (pos c.year) (pos c.month) (pos c.day) dt.date × IsHms (pos c.hour) (pos c.minute) (pos c.second) (pos 0) dt.time

same_pos : (m n : ℕ) → pos m ≡ pos n → m ≡ n
same_pos m n e = omega (arith, signed_arith)

parts_exist : (c : Civil) → c.year < 10000 → 1 ≤ c.month → c.month ≤ 12 → 1 ≤ c.day → c.day ≤ days_of_month c.year c.month → c.hour < 24 → c.minute < 60 → c.second < 60 → Exists c
parts_exist c small month_low month_high day_low day_high hour minute second = (
  ((omega (arith, signed_arith), omega (arith, signed_arith)), (omega (arith, signed_arith), omega (arith, signed_arith)), (omega (arith, signed_arith), omega (arith, signed_arith, day_high))),
  ((omega (arith, signed_arith), omega (arith, signed_arith)), (omega (arith, signed_arith), omega (arith, signed_arith)), (omega (arith, signed_arith), omega (arith, signed_arith)), (omega (arith, signed_arith), omega (arith, signed_arith))),
)

civil_exists : (c : Civil) → c.year < 10000 → is_civil c ≡ true → Exists c
civil_exists c small e =
    let p7 = and_parts _ _ e in
    let p6 = and_parts _ _ p7.0 in
    let p5 = and_parts _ _ p6.0 in
    let p4 = and_parts _ _ p5.0 in
    let p3 = and_parts _ _ p4.0 in
    let p2 = and_parts _ _ p3.0 in
    let p1 = and_parts _ _ p2.0 in
    parts_exist c small (leb-true _ _ p1.1) (leb-true _ _ p2.1) (leb-true _ _ p3.1) (leb-true _ _ p4.1) (ltb-true _ _ p5.1) (ltb-true _ _ p6.1) (ltb-true _ _ p7.1)

exists_civil : (c : Civil) → Exists c → 1970 ≤ c.year → is_civil c ≡ true
exists_civil c h late =
    and_from _ _ (and_from _ _ (and_from _ _ (and_from _ _ (and_from _ _ (and_from _ _ (and_from _ _
    (le-leb _ _ late)
    (le-leb _ _ (omega (arith, signed_arith, h.0.1.0))))
    (le-leb _ _ (omega (arith, signed_arith, h.0.1.1))))
    (le-leb _ _ (omega (arith, signed_arith, h.0.2.0))))
    (le-leb _ _ (omega (arith, signed_arith, h.0.2.1))))
    (lt-ltb _ _ (omega (arith, signed_arith, h.1.0.1))))
    (lt-ltb _ _ (omega (arith, signed_arith, h.1.1.1))))
    (lt-ltb _ _ (omega (arith, signed_arith, h.1.2.1)))

early_civil : (c : Civil) → c.year < 1970 → is_civil c ≡ false
early_civil c early =
    and_left _ _ (and_left _ _ (and_left _ _ (and_left _ _ (and_left _ _ (and_left _ _ (and_left _ _ (lt-leb _ _ early)))))))

exists_date : (c : Civil) → Exists c → IsCivilDate (pos c.year) c.month c.day
exists_date c h =
    (h.0.0, (omega (arith, signed_arith, h.0.1.0), omega (arith, signed_arith, h.0.1.1)), (omega (arith, signed_arith, h.0.2.0), omega (arith, signed_arith, h.0.2.1)))

seconds_parts : (dt : DateTime) → civil_seconds dt ≡ days_from_civil dt.date.year dt.date.month dt.date.day *ℤ pos 86_400 +ℤ pos (dt.time.hour * 3600 + dt.time.minute * 60 + dt.time.second)
unfolding civil_seconds
seconds_parts dt = refl

same_day : (c : Civil) (dt : DateTime) → IsMoment c dt → days_from_civil dt.date.year dt.date.month dt.date.day ≡ days_from_civil (pos c.year) c.month c.day
same_day c dt h =
    let month = same_pos _ _ h.0.1 in
    let day = same_pos _ _ h.0.2 in
    ap (λ y. days_from_civil y dt.date.month dt.date.day) h.0.0
    ∙ ap (λ m. days_from_civil (pos c.year) m dt.date.day) month
    ∙ ap (λ d. days_from_civil (pos c.year) c.month d) day

-- from 1970 on the seconds are the listing's
pub late_seconds : (c : Civil) (dt : DateTime) → Exists c → IsMoment c dt → 1970 ≤ c.year → civil_seconds dt ≡ pos (seconds_of c)
late_seconds c dt there h late =
    let first : 1 ≤ c.day = omega (arith, signed_arith, there.0.2.0) in
    omega (arith, signed_arith, seconds_parts dt, same_day c dt h, days_since c.year c.month c.day late first, h.1.0, h.1.1, h.1.2)

early_seconds : (c : Civil) (dt : DateTime) → Exists c → IsMoment c dt → c.year < 1970 → civil_seconds dt <ℤ pos 0
early_seconds c dt there h early =
    omega (arith, signed_arith, seconds_parts dt, same_day c dt h, days_before c.year c.month c.day (exists_date c there) early, h.1.0, h.1.1, h.1.2, there.1.0.1, there.1.1.1, there.1.2.1)

fits_some : {E : Type 0} (r : Result ℕ E) (z : ℤ) (n : ℕ) → z ≡ pos n → OkIff r (FitsUnsignedBits 32 z) (nat_abs z) → result_ok r ≡ cond (nat_le n (2 ^ 32 - 1)) (Some n) None
fits_some r z n e h = of_pos r n (subst (λ z. OkIff r (FitsUnsignedBits 32 z) (nat_abs z)) e h)
  where
    of_pos : {E : Type 0} (r : Result ℕ E) (n : ℕ) → OkIff r (n < 2 ^ 32) n → result_ok r ≡ cond (nat_le n (2 ^ 32 - 1)) (Some n) None
    of_pos (Ok x) n h = ap Some h.1 ∙ sym (cond-true _ _ _ (le-leb n (2 ^ 32 - 1) (omega (arith, h.0))))
    of_pos (Err e) n h = sym (cond-false _ _ _ (false_from_ne_true _ (λ (le : nat_le n (2 ^ 32 - 1) ≡ true). h (omega (arith, leb-true n (2 ^ 32 - 1) le)))))

fits_none : {E : Type 0} (r : Result ℕ E) (z : ℤ) → z <ℤ pos 0 → OkIff r (FitsUnsignedBits 32 z) (nat_abs z) → result_ok r ≡ None
fits_none r (pos n) less h = absurd (omega (arith, signed_arith))
fits_none (Ok x) (negsuc n) less h = absurd h.0
fits_none (Err e) (negsuc n) less h = refl

-- what 32 bits hold of the seconds of a moment
pub instant_some : {E : Type 0} (c : Civil) (dt : DateTime) (r : Result ℕ E) → Exists c → IsMoment c dt
    → OkIff r (FitsUnsignedBits 32 (civil_seconds dt)) (nat_abs (civil_seconds dt)) → result_ok r ≡ instant_of c
instant_some c dt r there h fits = elim (cases_lt c.year 1970) [
  | inl early ↦ fits_none r (civil_seconds dt) (early_seconds c dt there h early) fits ∙ sym (cond-false _ _ _ (and_left _ _ (early_civil c early)))
  | inr late ↦ fits_some r (civil_seconds dt) (seconds_of c) (late_seconds c dt there h late) fits
      ∙ sym (ap (λ b. cond (b && nat_le (seconds_of c) (2 ^ 32 - 1)) (Some (seconds_of c)) None) (exists_civil c there late))
]

-- and a moment that isn't there is no date
pub instant_none : (c : Civil) → c.year < 10000 → (Exists c → ⊥) → instant_of c ≡ None
instant_none c small none = cond-false _ _ _ (and_left _ _ (false_from_ne_true _ (λ e. none (civil_exists c small e))))

-- the epoch is moment 0
epoch_nanos : (epoch : DateTime) → IsMoment (record { year = 1970; month = 1; day = 1; hour = 0; minute = 0; second = 0 }) epoch → civil_nanos epoch ≡ pos 0
epoch_nanos epoch h =
    let c : Civil = record { year = 1970; month = 1; day = 1; hour = 0; minute = 0; second = 0 } in
    omega (arith, signed_arith, civil_nanos-civil_seconds epoch, seconds_parts epoch, same_day c epoch h, days_since 1970 1 1 (omega arith) (omega arith), years_none, months_none 1970, h.1.0, h.1.1, h.1.2, h.1.3)

-- the whole seconds since the epoch
pub whole_seconds : (dt epoch : DateTime) → IsMoment (record { year = 1970; month = 1; day = 1; hour = 0; minute = 0; second = 0 }) epoch → dt.time.subsec_nanosecond ≡ 0
    → int_div (civil_nanos dt -ℤ civil_nanos epoch) (pos 1_000_000_000) ≡ civil_seconds dt
whole_seconds dt epoch h whole =
    omega (arith, signed_arith, civil_nanos-civil_seconds dt, epoch_nanos epoch h)

-- small numbers are cast as they are
pub small16 : (n : ℕ) → n < 32768 → to_z w16 n ≡ pos n
small16 n h = back_small w16 (pos n) (omega arith)

pub small8 : (n : ℕ) → n < 128 → to_z w8 n ≡ pos n
small8 n h = back_small w8 (pos n) (omega arith)

pub ok_value : {T E : Type 0} (r : Result T E) (P : T → Type 0) (x : T) → Some x ≡ result_ok r → IfOk r P → P x
ok_value (Ok y) P x e h = subst P (sym (same_Some x y e)) h
ok_value (Err d) P x e h = absurd (none-some x (sym e))

pub ok_there : {T E : Type 0} (r : Result T E) (x : T) → Some x ≡ result_ok r → IsOk r
ok_there (Ok y) x e = refl
ok_there (Err d) x e = absurd (none-some x (sym e))

pub ok_not_there : {T E : Type 0} (r : Result T E) → None ≡ result_ok r → IsOk r → ⊥
ok_not_there (Ok y) e h = none-some y e
ok_not_there (Err d) e h = false≢true h
