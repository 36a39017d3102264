use Rattle.std.proofs.Common.{◌++◌, ap₂, ◌∙◌, arith}
use Rattle.std.proofs.lemmas.Slice.{take-put_mid}
use Rattle.wot_tell.proofs.buffer.Buffer.push_bytes.Goals as goal

pub returns : goal.returns
returns c =
    let h = c.self.inside in
    let bytes = c.copy_from_slice.new.self in
    take-put_mid h.used _ h.bytes bytes _ (omega (arith, c.copy_from_slice.ensures.len)) (omega (arith, c.self.invariant))
    ∙ ap₂ (λ text l. text ++ l) c.self.view_is c.copy_from_slice.ensures.after
