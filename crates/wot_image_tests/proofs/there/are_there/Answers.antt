use Rattle.std.proofs.Common.{◌≡◌, ℕ, All, IfSome, Option, Some, None, is_some, true, refl, subst, sym, ◌∙◌}
use Rattle.std.specs.Cmp.{nat_cmp_total}
use Rattle.std.specs.FinMap as map
use Rattle.std.specs.FinMap.{nat_cmp-IsAntisymmetric}
use Rattle.std.proofs.lemmas.List.Elements.{All-cons, All-nil}
use Rattle.wot_types.specs.declared.key.Key.{Key}
use Rattle.wot_types.specs.declared.row.Row.{Row}
use Rattle.wot_types.proofs.FinMaps.{IfSome-get}
use Rattle.wot_table.specs.declared.head.KeyHead.{KeyHead}
use Rattle.wot_table.specs.Heads.{IsHeadOf, IsKeyHead}
use Rattle.wot_image_tests.proofs.there.are_there.Goals as goal

-- a key that is told of is there
told : (key : Option Key) (head : Option KeyHead) → IsHeadOf IsKeyHead key head → is_some head ≡ true → is_some key ≡ true
told (Some key) head h is = refl
told None None h is = is
told None (Some head) h is = absurd h

pub loop-id-init : goal.loop-id-init
loop-id-init c = λ h. subst (All (λ (e : ℕ × Row). map.contains_key c.args.table.now e.0 ≡ true)) (c.into_iter-id-iterator.ensures.into_iter_gives ∙ c.iter-id-items.ensures.rows) h

pub loop-id-preserved : goal.loop-id-preserved
loop-id-preserved c = λ h.
    let P = λ (e : ℕ × Row). map.contains_key c.args.table.now e.0 ≡ true in
    c.loop-id.invariant (subst (All P) (sym c.in-Some.ensures.steps) (All-cons P (c.in-Some.id.now, c.in-Some.field-0-1.now) c.next.new.self (told _ c.key.result c.key.ensures c.if-is_none.ensures) h))

of_found : {X : Type 0} (o : Option X) (b : Type 0) → IfSome o (λ _. b) → is_some o ≡ true → b
of_found (Some x) b h is = h
of_found None b h is = absurd cc

pub returns : goal.returns
returns c = λ _ id there.
    let P = λ (e : ℕ × Row). map.contains_key c.args.table.now e.0 ≡ true in
    let all = c.loop-id.invariant (subst (All P) (sym c.in-None.ensures.steps.0) (All-nil P)) in
    of_found (map.get c.args.rows.now id) _ (IfSome-get nat_cmp_total nat_cmp-IsAntisymmetric P c.args.rows.now id all) there
