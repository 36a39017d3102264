use Rattle.std.proofs.Common.{◌≡◌, ◌||◌, ℕ, false, min, max, ap, ◌∙◌, arith}
use Rattle.std.specs.FinMap as finmap
use Rattle.std.specs.List.{list_any}
use Rattle.std.specs.Option.{option_map_or}
use Rattle.std.proofs.lemmas.Result.{IfOk-weaker}
use Rattle.wot_types.specs.Indexes.{has_expiry_between}
use Rattle.wot_types.specs.NextCheck.{key_expiries}
use Rattle.wot_types.specs.Touched.{is_passed_between}
use Rattle.wot_live.specs.Recounting.{IsGrownBy, among}
use Rattle.wot_live.proofs.Lists.{grown_members}
use Rattle.wot_live.proofs.Naming.{among_is, dated}
use Rattle.wot_live.proofs.named.named_by_date.Goals as goal

pub returns : goal.returns
returns c =
    let a = c.args.from in
    let b = c.args.to in
    let keys = c.args.table.now in
    let low : c.min.result ≡ min a b = omega (arith, c.min.ensures) in
    let high : c.max.result ≡ max a b = omega (arith, c.max.ensures) in
    IfOk-weaker c.add_all.result (IsGrownBy (among c.deref.result.now) c.args.list)
    (λ new. (x : ℕ) → among new x ≡ (among c.args.list x || option_map_or (λ key. list_any (is_passed_between a b) (key_expiries key)) (finmap.get keys x) false))
    (λ new h x. grown_members (among c.deref.result.now) c.args.list new h x ∙ ap (λ b. among c.args.list x || b) (ap (λ xs. among xs x) c.deref.ensures.value ∙ among_is c.in_ok-ids.ids.items x (has_expiry_between keys c.min.result c.max.result x) (c.in_ok-ids.ensures.exact x)
    ∙ (λ i. has_expiry_between keys (low i) (high i) x) ∙ dated a b (finmap.get keys x)))
    c.add_all.ensures
