use Rattle.std.proofs.Common.{ap, rules, tests, ◌∙◌}
use Rattle.std.proofs.lemmas.Iterator.{YieldsList-from_slice}
use Rattle.std.proofs.lemmas.Iterator.Search.{any_from_yields_List}
use Rattle.wot_types.specs.declared.key.Key.{Key}
use Rattle.wot_types.specs.Selection.{Spot}
use Rattle.wot_table.specs.declared.held.HeldKey.{HeldKey}
use Rattle.wot_table.specs.declared.heading.Heading.TheVariants.{Issuer}
use Rattle.wot_table.specs.Headings.{key_under, user_under}
use Rattle.wot_table.proofs.Filed.{users_filed}
use Rattle.wot_table.proofs.held.Held.is_signed_by.Goals as goal

pub returns : goal.returns
returns c =
    let n = c.args.issuer in
    let users = c.self.inside.parts.value.users.items in
    any_from_yields_List (λ (s : Spot). user_under Issuer n s.user) _ _ c.any.result c.any.ensures.ran
    (YieldsList-from_slice users (c.iter.ensures.rest ∙ c.deref-2.ensures.value ∙ ap (λ (held : HeldKey). held.users.items) c.deref.ensures)) (λ x b q k. search (rules, tests))
    ∙ users_filed Issuer n users
    ∙ ap (λ (key : Key). key_under Issuer n key) c.self.view_is
