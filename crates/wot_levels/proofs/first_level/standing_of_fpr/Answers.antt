use Rattle.std.proofs.Common.{cond, nat_eq, List, ℕ, None, sym, ap, ◌∙◌}
use Rattle.std.specs.Cmp.Lexicographic.{pointwise}
use Rattle.wot_types.specs.Levels.{first_row}
use Rattle.wot_types.proofs.Fingerprints.{fpr_eq}
use Rattle.wot_levels.proofs.first_level.standing_of_fpr.Goals as goal

pub returns-then-eq : goal.returns-then-eq
returns-then-eq c = λ id.
    let key = c.args.keyblock.now.1 in
    let same = ap (λ (xs : List ℕ). pointwise nat_eq xs c.args.fpr.now) (sym c.key-key.ensures.fpr) ∙ sym (fpr_eq c.key-key.result.fpr.now c.args.fpr.now) ∙ sym c.eq.ensures ∙ c.if-eq.true in
    c.first_standing.ensures.row id key c.key-key.ensures ∙ sym (ap (λ b. cond b (first_row c.args.state.now id key) None) same)

pub returns-else-eq : goal.returns-else-eq
returns-else-eq c = λ id.
    let key = c.args.keyblock.now.1 in
    let other = ap (λ (xs : List ℕ). pointwise nat_eq xs c.args.fpr.now) (sym c.key-key.ensures.fpr) ∙ sym (fpr_eq c.key-key.result.fpr.now c.args.fpr.now) ∙ sym c.eq.ensures ∙ c.if-eq.false in
    sym (ap (λ b. cond b (first_row c.args.state.now id key) None) other)
