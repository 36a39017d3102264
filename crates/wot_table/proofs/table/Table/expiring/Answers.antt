use Rattle.std.proofs.Common.{Result, IfOk, Ok, Err, subst}
use Rattle.wot_table.specs.declared.heading.Heading.TheVariants.{Expiry}
use Rattle.wot_table.specs.Headings.{AgreesWith}
use Rattle.wot_index.specs.Indexed.{has}
use Rattle.wot_table.proofs.Soonests.{between_found, between_stands}
use Rattle.wot_table.proofs.table.Table.expiring.Goals as goal

both : {T E : Type 0} (r : Result T E) {P Q S : T → Type 0} → IfOk r P → IfOk r Q → ((x : T) → P x → Q x → S x) → IfOk r S
both (Ok x) p q f = f x p q
both (Err e) p q f = tt

pub returns-clause-exact : goal.returns-clause-exact
returns-clause-exact c =
    let from = c.args.from in
    let to = c.args.to in
    let keys = c.args.self.now in
    let index = has c.self.inside.dated in
    let agrees = subst (AgreesWith index Expiry) c.self.view_is c.self.invariant.dated in
    both c.between.result c.between.ensures.found c.between.ensures.all
    (λ ids found all id. (
      (λ there. let n = found id there in between_found keys index agrees from to n.0 id n.1 n.2 n.3),
      (λ has. let n = between_stands keys index agrees from to id has in all n.0 id n.1 n.2 n.3),
    ))
