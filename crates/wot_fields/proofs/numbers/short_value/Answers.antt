use Rattle.std.proofs.Common.{◌≡◌, ◌+◌, ◌-◌, ◌*◌, ◌<◌, ◌≤◌, ℕ, true, length, get_or, sym, ◌∙◌, arith}
use Rattle.std.proofs.lemmas.Bool.{and_from}
use Rattle.std.proofs.lemmas.List.Folds.{list_all_more}
use Rattle.std.proofs.lemmas.List.Sums.{fold_more}
use Rattle.wot_types.specs.Numbers.{is_digit}
use Rattle.wot_fields.proofs.NumberLemmas.{digit_below, most_below, most_more}
use Rattle.wot_fields.proofs.numbers.short_value.Goals as goal

pub overflow_mul-value : goal.overflow_mul-value
overflow_mul-value c =
    let inside : c.loop-b.b-index < length c.args.f.now = c.loop-b-test.true in
    let most = most_below c.loop-b.b-index (omega (arith, inside, c.requires.short)) in
    let small = c.loop-b.invariant.small in
    omega (arith, most, small)

pub overflow_add-value : goal.overflow_add-value
overflow_add-value c =
    let b = get_or c.args.f.now c.loop-b.b-index 0 in
    let inside : c.loop-b.b-index < length c.args.f.now = c.loop-b-test.true in
    let most = most_below c.loop-b.b-index (omega (arith, inside, c.requires.short)) in
    let small = c.loop-b.invariant.small in
    let digit : c.from.result ≤ 9 = let below = digit_below b (sym c.if-not-is_ascii_digit.ensures.value) in omega (arith, below, c.from.ensures) in
    omega (arith, most, small, digit)

pub loop-b-preserved : goal.loop-b-preserved
loop-b-preserved c =
    let f = c.args.f.now in
    let i = c.loop-b.b-index in
    let b = get_or f i 0 in
    let digit : is_digit b ≡ true = sym c.if-not-is_ascii_digit.ensures.value in
    let below : c.from.result ≤ 9 = let nine = digit_below b digit in omega (arith, nine, c.from.ensures) in
    let small = c.loop-b.invariant.small in
    let more = most_more i in
    record {
      digits = list_all_more is_digit f i 0 c.loop-b-test.true ∙ and_from _ _ c.loop-b.invariant.digits digit;
      value_is = (λ j. 10 * c.loop-b.invariant.value_is j + c.from.ensures j) ∙ sym (fold_more (λ (n d : ℕ). 10 * n + (d - 48)) 0 f i 0 c.loop-b-test.true);
      small = omega (arith, below, small, more);
    }
