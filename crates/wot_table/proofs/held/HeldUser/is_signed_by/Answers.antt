use Rattle.std.proofs.Common.{◌==◌, ap, rules, tests, ◌∙◌}
use Rattle.std.proofs.lemmas.Iterator.{YieldsList-from_slice}
use Rattle.std.proofs.lemmas.Iterator.Search.{any_from_yields_List}
use Rattle.wot_types.specs.declared.placed.Placed.{Placed}
use Rattle.wot_types.specs.Arrangement.{in_order}
use Rattle.wot_types.specs.Selection.{Spot}
use Rattle.wot_table.specs.declared.heading.Heading.TheVariants.{Issuer}
use Rattle.wot_table.specs.Headings.{user_under}
use Rattle.wot_table.proofs.Filed.{certs_filed, is_one_mapped}
use Rattle.wot_table.proofs.held.HeldUser.is_signed_by.Goals as goal

pub returns : goal.returns
returns c =
    let n = c.args.issuer in
    let certs = c.self.inside.certs.items in
    any_from_yields_List (λ (p : Placed). p.cert.issuer == n) _ _ c.any.result c.any.ensures.ran (YieldsList-from_slice certs (c.iter.ensures.rest ∙ c.deref.ensures.value)) (λ x b q k. search (rules, tests))
    ∙ is_one_mapped (λ p. p.cert.issuer) n certs
    ∙ certs_filed Issuer n (in_order certs) certs c.self.invariant.moved
    ∙ ap (λ (s : Spot). user_under Issuer n s.user) c.self.view_is
