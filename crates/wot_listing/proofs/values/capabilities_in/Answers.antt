use Rattle.std.proofs.Common.{◌≡◌, IfOk, sym, ap, ◌∙◌, subst}
use Rattle.std.specs.List.{filter}
use Rattle.wot_types.specs.Records.{is_capability, capabilities_at}
use Rattle.wot_listing.proofs.HashLemmas.{filter_whole}
use Rattle.wot_listing.proofs.values.capabilities_in.Goals as goal

pub returns-then-are_capabilities : goal.returns-then-are_capabilities
returns-then-are_capabilities c =
    let field = c.get_or_empty-field.result.now in
    let whole : c.get_or_empty-field.result.now ≡ capabilities_at c.args.line.now =
    sym (filter_whole is_capability field (sym c.are_capabilities.ensures ∙ c.if-are_capabilities.true)) ∙ ap (filter is_capability) c.get_or_empty-field.ensures in
    subst (λ letters. IfOk c.from_bytes.result (λ caps. caps ≡ letters)) whole c.from_bytes.ensures
