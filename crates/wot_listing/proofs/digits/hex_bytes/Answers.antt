use Rattle.std.proofs.Common.{◌*◌, [], cond, Some, None, arith, ap, sym, ◌∙◌}
use Rattle.std.specs.Result.{result_ok}
use Rattle.std.proofs.lemmas.List.{length-replicate, length-set}
use Rattle.hex.proofs.Pairs.{decode_sized-pairs, decode_start}
use Rattle.wot_listing.proofs.DigitLemmas.{pairs_done, pairs_step}
use Rattle.wot_listing.proofs.digits.hex_bytes.Goals as goal

pub pairs-init : goal.pairs-init
pairs-init g c = (length-replicate _ _, decode_start _ [])

pub pairs-preserved : goal.pairs-preserved
pairs-preserved g c = (
  length-set _ _ _ ∙ c.pairs.invariant.0,
  pairs_step _ _ _ _ c.pairs.i _ (omega arith) (omega arith) (c.pair-byte.ensures (2 * c.pairs.i)) c.pairs.invariant.1,
)

pub returns-then-good : goal.returns-then-good
returns-then-good g c =
    let f = c.args.f.now in
    sym (ap result_ok (decode_sized-pairs f _ c.if-f-ne0.false c.if-f.false) ∙ pairs_done c.pairs.good f c.pairs.bytes c.pairs.i (omega arith) (omega arith) c.pairs.invariant.1 ∙ ap (λ b. cond b (Some c.pairs.bytes) None) c.if-good.true)
