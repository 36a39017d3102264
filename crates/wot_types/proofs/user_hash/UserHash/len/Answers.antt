use Rattle.std.proofs.Common.{◌*◌, length, sym, ap, subst, ◌∙◌}
use Rattle.hex.specs.Hex.{upper_digits}
use Rattle.hex.proofs.HexLemmas.{length-encode_with}
use Rattle.wot_types.specs.KeptHash.{HasItsSize, hash_of}
use Rattle.wot_types.proofs.user_hash.UserHash.len.Goals as goal

pub returns-in-Spelled : goal.returns-in-Spelled
returns-in-Spelled c =
    let is = c.in-Spelled.is in
    let bytes = c.in-Spelled.field-0 in
    sym (sym (ap length c.self.view_is) ∙ ap (λ k. length (hash_of k)) is ∙ length-encode_with upper_digits bytes ∙ ap (λ n. 2 * n) (subst HasItsSize is c.self.invariant))
