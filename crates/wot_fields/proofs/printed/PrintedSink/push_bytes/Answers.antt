use Rattle.std.proofs.Common.{◌++◌, take, sym, ap, ap₂, ◌∙◌, arith}
use Rattle.std.proofs.lemmas.List.{append_assoc}
use Rattle.std.proofs.lemmas.Slice.{take-put_mid}
use Rattle.wot_fields.proofs.printed.PrintedSink.push_bytes.Goals as goal

pub returns-clause-adds : goal.returns-clause-adds
returns-clause-adds c =
    let p = c.self.inside in
    let bytes = c.copy_from_slice.new.self in
    let front = take-put_mid p.used _ p.buffer bytes _ (omega (arith, c.copy_from_slice.ensures.len)) (omega (arith, c.self.invariant)) in
    ap (λ l. p.whole.items ++ l) front ∙ sym (append_assoc p.whole.items (take p.used p.buffer) bytes) ∙ ap₂ (λ text l. text ++ l) c.self.view_is c.copy_from_slice.ensures.after
