use Rattle.std.proofs.Common.{◌≡◌, ℕ, false, cond, List, [], ◌∷◌, ◌++◌, Option, Some, None, ap, subst, sym, ◌∙◌}
use Rattle.std.specs.Option.{option_copied}
use Rattle.std.proofs.lemmas.List.{nil_from_length}
use Rattle.wot_types.specs.Arrangement.{IsRising}
use Rattle.wot_types.specs.Selection.{is_disregarded, in_force, usable}
use Rattle.wot_types.specs.declared.placed.Placed.{Placed}
use Rattle.wot_select.specs.Run.{IsBy}
use Rattle.wot_select.proofs.RunLemmas.{all_front, disregarded_last, rising_front, usable_last}
use Rattle.wot_select.proofs.deciding.usable.Goals as goal

-- the last of the rest decides where it isn't disregarded
decides : (now level : ℕ) (fpr : Option (List ℕ)) (id : ℕ) (rest before : List Placed) (p : Placed) → rest ≡ before ++ p ∷ [] → IsRising rest → IsBy id rest → is_disregarded level fpr p.cert ≡ false
    → usable now level fpr id rest ≡ in_force now p
decides now level fpr id rest before p is rising by kept =
    ap (usable now level fpr id) is ∙ usable_last now level fpr id before p (subst IsRising is rising) (subst (IsBy id) is by) kept

pub returns-then-is_in_force : goal.returns-then-is_in_force
returns-then-is_in_force c = λ id by.
    let l = c.loop-placed in
    let p = c.in-Some.placed.now in
    let kept = sym c.is_disregarded.ensures ∙ c.if-not-is_disregarded.true in
    let decided = decides c.args.now c.args.level (option_copied c.args.issuer) id l.rest.now c.in-Some.before.now p c.in-Some.ensures.cases.0 l.invariant.rising (l.invariant.by id by) kept in
    sym (sym (l.invariant.same id) ∙ decided ∙ ap (λ b. cond b (Some p) None) (sym c.is_in_force.ensures ∙ c.if-is_in_force.true))

pub returns-else-is_in_force : goal.returns-else-is_in_force
returns-else-is_in_force c = λ id by.
    let l = c.loop-placed in
    let p = c.in-Some.placed.now in
    let kept = sym c.is_disregarded.ensures ∙ c.if-not-is_disregarded.true in
    let decided = decides c.args.now c.args.level (option_copied c.args.issuer) id l.rest.now c.in-Some.before.now p c.in-Some.ensures.cases.0 l.invariant.rising (l.invariant.by id by) kept in
    sym (sym (l.invariant.same id) ∙ decided ∙ ap (λ b. cond b (Some p) None) (sym c.is_in_force.ensures ∙ c.if-is_in_force.false))

pub loop-placed-preserved : goal.loop-placed-preserved
loop-placed-preserved c =
    let l = c.loop-placed in
    let is = c.in-Some.ensures.cases.0 in
    let p = c.in-Some.placed.now in
    let before = c.in-Some.before.now in
    let disregarded = sym c.is_disregarded.ensures ∙ c.if-not-is_disregarded.false in
    record {
      rising = rising_front before (p ∷ []) (subst IsRising is l.invariant.rising);
      by = λ id by. all_front (λ q. q.cert.issuer ≡ id) before (p ∷ []) (subst (IsBy id) is (l.invariant.by id by));
      same = λ id. sym (ap (usable c.args.now c.args.level (option_copied c.args.issuer) id) is ∙ disregarded_last c.args.now c.args.level (option_copied c.args.issuer) id before p disregarded) ∙ l.invariant.same id;
    }

pub returns : goal.returns
returns c = λ id by.
    let none = nil_from_length c.loop-placed.rest.now (rw c.in_default.is at c.split_last.ensures.cases) in
    sym (sym (c.loop-placed.invariant.same id) ∙ ap (usable c.args.now c.args.level (option_copied c.args.issuer) id) none)
