use Rattle.std.proofs.Common.{◌+◌, sym, subst, arith, eq-eqb, ne_eqb}
use Rattle.wot_fields.proofs.ColonLemmas.{Seen, colon_seen, other_seen}
use Rattle.wot_fields.proofs.colons.marks_of_short.Goals as goal
use Rattle.wot_fields.proofs.colons.marks_of_short.Goals.{then-b-eq58, else-b-eq58}

pub loop-at-preserved : goal.loop-at-preserved
loop-at-preserved c =
    let line = c.args.line.now in
    let at = c.loop-at.at in
    elim c.if-b-eq58.branch [
      | then-b-eq58 w ↦ subst (λ bits. Seen line bits (at + 1)) (sym w.bits-is) (colon_seen line c.loop-at.bits at c.loop-at.invariant (omega arith) (eq-eqb _ 58 w.if-b-eq58.true))
      | else-b-eq58 w ↦ subst (λ bits. Seen line bits (at + 1)) (sym w.bits-is) (other_seen line c.loop-at.bits at c.loop-at.invariant (ne_eqb _ 58 w.if-b-eq58.false))
    ]
