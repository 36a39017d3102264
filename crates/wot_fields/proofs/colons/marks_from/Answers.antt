use Rattle.std.proofs.Common.{◌-◌, length, arith}
use Rattle.wot_fields.proofs.ColonLemmas.{shifted}
use Rattle.wot_fields.proofs.colons.marks_from.Goals as goal

pub returns-then-line-ge32 : goal.returns-then-line-ge32
returns-then-line-ge32 c =
    let line = c.args.line.now in
    let start = length c.args.line.now - 32 in
    let e = c.marks_of_32-then-line-ge32.ensures in
    shifted line start c.marks_of_32-then-line-ge32.result (32 - (length c.args.line.now - c.args.at)) c.args.at
    (record { each = λ k less low within. e.each k less; only = λ k set. let less = e.only k set in (less, omega arith, omega arith) })
    (omega arith) (omega arith)

pub returns-else-line-ge32 : goal.returns-else-line-ge32
returns-else-line-ge32 c = shifted c.args.line.now 0 c.marks_of_short.result c.args.at c.args.at c.marks_of_short.ensures (omega arith) (omega arith)
