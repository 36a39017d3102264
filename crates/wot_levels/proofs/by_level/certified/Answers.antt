use Rattle.std.proofs.Common.{◌≡◌, ◌⊎◌, ◌∷◌, ℕ, Bool, inl, inr, true, false, cond, List, Option, Some, is_some, arith, refl, sym, ap, subst, ◌∙◌}
use Rattle.std.specs.FinMap as finmap
use Rattle.std.specs.FinMap.{find, get-entries}
use Rattle.std.specs.List.{Contains}
use Rattle.std.specs.Ordering.{eq_by_cmp, nat_cmp}
use Rattle.std.proofs.lemmas.Bool.{false≢true}
use Rattle.wot_types.specs.declared.row.Row.{Row}
use Rattle.wot_types.specs.Indexes.{has_cert_by}
use Rattle.wot_types.specs.Touched.{is_certified_at}
use Rattle.wot_types.proofs.Tests.{is_key, key_itself, same_key}
use Rattle.wot_levels.proofs.Among.{Contains_among, certified_at_one}
use Rattle.wot_levels.proofs.by_level.certified.Goals as goal

-- what is left once the first is taken was left before
still_left : (b : Bool) (row : Row) (rest : Option Row) → is_some rest ≡ true → is_some (cond b (Some row) rest) ≡ true
still_left true row rest there = refl
still_left false row rest there = there

-- of what was left, the first is taken
first_or_left : (e : ℕ × Row) (rest : List (ℕ × Row)) (y : ℕ) → is_some (find nat_cmp y (e ∷ rest)) ≡ true → (e.0 ≡ y) ⊎ (is_some (find nat_cmp y rest) ≡ true)
first_or_left e rest y = elim (eq_by_cmp nat_cmp y e.0) as (λ b. eq_by_cmp nat_cmp y e.0 ≡ b → is_some (cond b (Some e.1) (find nat_cmp y rest)) ≡ true → (e.0 ≡ y) ⊎ (is_some (find nat_cmp y rest) ≡ true)) [
  | true ↦ λ same _. inl (is_key e.0 y (sym (same_key y e.0) ∙ same))
  | false ↦ λ _ there. inr there
] refl

pub loop-id-init : goal.loop-id-init
loop-id-init c =
    let rows = c.args.rows.now in
    let whole = sym (c.into_iter-id-iterator.ensures.into_iter_gives ∙ c.iter-id-items.ensures.rows) in
    record {
      left = λ y. subst (λ left. is_some (find nat_cmp y left) ≡ true → finmap.contains_key rows y ≡ true) whole (λ its. ap is_some (get-entries rows y) ∙ its);
      all = λ y its. inl (subst (λ left. is_some (find nat_cmp y left) ≡ true) whole (sym (ap is_some (get-entries rows y)) ∙ its));
      only = λ x there. let none = subst (λ xs. Contains xs x) c.new-ids.ensures.items there in absurd (omega (arith, none.1));
    }

pub loop-id-preserved : goal.loop-id-preserved
loop-id-preserved c =
    let keys = c.args.table.now in
    let has_row = finmap.contains_key c.args.rows.now in
    let new = c.in_ok-ids.ids.items in
    let id = c.in-Some.id.now in
    let row = c.in-Some.field-0-1.now in
    let rest = c.next.new.self in
    let was_left = λ (y : ℕ) (its : is_some (find nat_cmp y ((id, row) ∷ rest)) ≡ true). c.loop-id.invariant.left y (subst (λ left. is_some (find nat_cmp y left) ≡ true) (sym c.in-Some.ensures.steps) its) in
    let has_one : has_row id ≡ true = was_left id (ap (λ b. is_some (cond b (Some row) (find nat_cmp id rest))) (key_itself id)) in
    record {
      left = λ y its. was_left y (still_left (eq_by_cmp nat_cmp y id) row (find nat_cmp y rest) its);
      all = λ y its. elim (c.loop-id.invariant.all y its) as (λ _. (is_some (find nat_cmp y rest) ≡ true) ⊎ ((x : ℕ) → has_cert_by keys y x ≡ true → Contains new x)) [
        | inl left ↦ elim (first_or_left (id, row) rest y (subst (λ left. is_some (find nat_cmp y left) ≡ true) c.in-Some.ensures.steps left)) as (λ _. (is_some (find nat_cmp y rest) ≡ true) ⊎ ((x : ℕ) → has_cert_by keys y x ≡ true → Contains new x)) [
          | inl same ↦ inr (subst (λ y. (x : ℕ) → has_cert_by keys y x ≡ true → Contains new x) same c.in_ok-ids.ensures.all)
          | inr later ↦ inl later
        ]
        | inr before ↦ inr (λ x cert. c.in_ok-ids.ensures.kept x (before x cert))
      ];
      only = λ x there. elim (c.in_ok-ids.ensures.only x there) as (λ _. is_certified_at keys has_row x ≡ true) [
        | inl before ↦ c.loop-id.invariant.only x before
        | inr cert ↦ certified_at_one keys has_row id x has_one cert
      ];
    }

pub returns-clause-all : goal.returns-clause-all
returns-clause-all c = λ y x its cert.
    let ids = c.loop-id.ids.items in
    Contains_among ids c.each_once.result.items x (c.each_once.ensures.same x)
    (elim (c.loop-id.invariant.all y its) as (λ _. Contains ids x) [
      | inl left ↦ absurd (false≢true (subst (λ left. is_some (find nat_cmp y left) ≡ true) c.in-None.ensures.steps.0 left))
      | inr done ↦ done x cert
    ])

pub returns-clause-only : goal.returns-clause-only
returns-clause-only c = λ x there. c.loop-id.invariant.only x (Contains_among c.each_once.result.items c.loop-id.ids.items x (sym (c.each_once.ensures.same x)) there)
