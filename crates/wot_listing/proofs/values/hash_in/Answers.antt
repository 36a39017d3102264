use Rattle.std.proofs.Common.{◌≡◌, IfOk, sym, ap, ◌∙◌, subst}
use Rattle.std.specs.List.{filter}
use Rattle.wot_types.specs.Records.{is_hash_byte, hash_at}
use Rattle.wot_listing.proofs.HashLemmas.{filter_whole}
use Rattle.wot_listing.proofs.values.hash_in.Goals as goal

pub returns-then-is_hash : goal.returns-then-is_hash
returns-then-is_hash c =
    let field = c.get_or_empty-field.result.now in
    let whole : c.get_or_empty-field.result.now ≡ hash_at c.args.line.now =
    sym (filter_whole is_hash_byte field (sym c.is_hash.ensures ∙ c.if-is_hash.true)) ∙ ap (filter is_hash_byte) c.get_or_empty-field.ensures in
    subst (λ hash. IfOk c.from_bytes.result (λ text. text ≡ hash)) whole c.from_bytes.ensures
