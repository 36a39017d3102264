use Rattle.std.proofs.Common.{sym, ◌∙◌}
use Rattle.wot_spelling.proofs.Payloads.{one_payload}
use Rattle.wot_spelling.proofs.payload.one_payload.Goals as goal

pub returns : goal.returns
returns c = record { written = λ a b x p q. p.is ∙ sym q.is; alone = one_payload }
