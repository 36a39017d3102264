use Rattle.std.proofs.Common.{◌==◌, ◌&&◌, ◌||◌, ap, ◌∙◌}
use Rattle.std.proofs.lemmas.Result.{on_ok_weaker}
use Rattle.wot_types.specs.Arrangement.{in_order}
use Rattle.wot_types.specs.Selection.{Spot}
use Rattle.wot_table.specs.Headings.{certs_under, user_under}
use Rattle.wot_index.specs.Indexed.{has_pair}
use Rattle.wot_table.proofs.Filed.{certs_filed, two_parts}
use Rattle.wot_table.proofs.held.HeldUser.push_pairs.Goals as goal

pub returns-clause-added : goal.returns-clause-added
returns-clause-added c =
    let heading = c.args.heading in
    let certs = c.self.inside.certs.items in
    on_ok_weaker c.push_pairs_of.result (λ all n k.
    let rest = ap (certs_under heading n) c.deref.ensures.value ∙ certs_filed heading n (in_order certs) certs c.self.invariant.moved in
    two_parts heading n c.self.inside.expires _ _ (has_pair n k c.args.to.now.items) (k == c.args.id) _ _ _ (c.in_ok-push_expiry.ensures.added n k) rest (all n k)
    ∙ ap (λ (s : Spot). has_pair n k c.args.to.now.items || ((k == c.args.id) && user_under heading n s.user)) c.self.view_is) c.push_pairs_of.ensures.added

pub returns-clause-in_range : goal.returns-clause-in_range
returns-clause-in_range c = on_ok_weaker c.push_pairs_of.result (λ more before. more (c.in_ok-push_expiry.ensures.in_range before)) c.push_pairs_of.ensures.in_range
