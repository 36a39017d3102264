use Rattle.std.proofs.Common.{◌≡◌, ◌∷◌, [], ℕ, true, None, Some, Result, Ok, Err, option_map, refl, sym, ap, subst, ◌∙◌}
use Rattle.std.specs.List.{Contains}
use Rattle.std.specs.Result.{IfOk}
use Rattle.std.specs.FinMap as finmap
use Rattle.wot_types.specs.Indexes.{has_cert_by}
use Rattle.wot_types.specs.Keyring.{Keyring}
use Rattle.wot_levels.specs.Frontier.{IsLookedAt}
use Rattle.wot_levels.specs.Given.{given_row}
use Rattle.wot_levels.specs.Standings.{standing_row}
use Rattle.wot_levels.proofs.Frontiers.{look_new, no_copy}
use Rattle.wot_levels.proofs.by_level.with_key.Goals as goal

-- where three properties of a result give a fourth, each holds of it, if there is one
all_of_ok : {T E : Type 0} (r : Result T E) (P Q R S : T → Type 0) → ((x : T) → P x → Q x → R x → S x) → IfOk r P → IfOk r Q → IfOk r R → IfOk r S
all_of_ok (Ok x) P Q R S h = h x
all_of_ok (Err e) P Q R S h = λ _ _ _. tt

pub returns-in-Some-clause-looked_at : goal.returns-in-Some-clause-looked_at
returns-in-Some-clause-looked_at g c =
    let s = c.args.state.now in
    let id = c.args.id in
    let n = c.args.level in
    let rows = c.args.reached.rows in
    let before = c.args.reached.next.items in
    let row = standing_row id n c.in-Some.standing in
    let none : finmap.get rows id ≡ None = sym c.get.ensures.found ∙ no_copy c.get.result (sym c.is_some.ensures ∙ c.if-is_some.false) in
    let is : given_row s rows n id ≡ Some row = sym c.given.ensures.row ∙ ap (option_map (standing_row id n)) c.in-Some.is in
    all_of_ok c.with_introducer.result _ _ _ _
    (λ new put all kept.
    let all = subst (λ (t : Keyring). (x : ℕ) → has_cert_by t id x ≡ true → Contains new.next.items x) c.table.ensures all in
    subst (λ m. IsLookedAt s n (id ∷ []) rows before m new.next.items) (sym put) (look_new s n id rows before row new.next.items none is refl all kept))
    c.with_introducer.ensures.rows c.with_introducer.ensures.all c.with_introducer.ensures.kept
