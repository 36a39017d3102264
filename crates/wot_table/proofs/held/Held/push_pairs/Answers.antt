use Rattle.std.proofs.Common.{◌==◌, ◌&&◌, ◌||◌, [], ◌∷◌, ap, ◌∙◌}
use Rattle.std.proofs.lemmas.Result.{on_ok_weaker}
use Rattle.wot_types.specs.declared.key.Key.{Key}
use Rattle.wot_table.specs.declared.held.HeldKey.{HeldKey}
use Rattle.wot_table.specs.Headings.{is_filed_by, key_under, users_under}
use Rattle.wot_index.specs.Indexed.{has_pair}
use Rattle.wot_table.proofs.Filed.{two_parts, users_filed}
use Rattle.wot_table.proofs.held.Held.push_pairs.Goals as goal

pub returns-clause-added : goal.returns-clause-added
returns-clause-added c =
    let heading = c.args.heading in
    let parts = c.self.inside.parts.value in
    on_ok_weaker c.push_pairs_of_users.result (λ all n k.
    let old = has_pair n k c.args.to.now.items in
    let own = k == c.args.id in
    let first = c.in_ok-push_expiry.ensures.added n k ∙ ap (λ (held : HeldKey). old || (own && is_filed_by heading n [] (held.expires ∷ []))) c.deref.ensures in
    let rest = ap (users_under heading n) (c.deref-3.ensures.value ∙ ap (λ (held : HeldKey). held.users.items) c.deref-2.ensures) ∙ users_filed heading n parts.users.items in
    two_parts heading n parts.expires _ _ old own _ _ _ first rest (all n k)
    ∙ ap (λ (key : Key). old || (own && key_under heading n key)) c.self.view_is) c.push_pairs_of_users.ensures.added

pub returns-clause-in_range : goal.returns-clause-in_range
returns-clause-in_range c = on_ok_weaker c.push_pairs_of_users.result (λ more before. more (c.in_ok-push_expiry.ensures.in_range before)) c.push_pairs_of_users.ensures.in_range
