use Rattle.std.proofs.Common.{◌+◌, ◌*◌, slice_set, ◌∙◌, arith}
use Rattle.std.proofs.lemmas.List.{length-set}
use Rattle.hex.specs.Hex.{upper_digits}
use Rattle.hex.proofs.Pairs.{encode_done, encode_step}
use Rattle.wot_types.proofs.hex_digits.write_digits.Goals as goal

pub loop-at-preserved : goal.loop-at-preserved
loop-at-preserved c =
    let at = c.loop-at.at in
    let so_far = c.loop-at.invariant in
    record {
      size = length-set (slice_set c.loop-at.digits (2 * at) _) (2 * at + 1) _ ∙ length-set c.loop-at.digits (2 * at) _ ∙ so_far.size;
      written = encode_step upper_digits c.args.bytes.now c.loop-at.digits at _ _ c.loop-at-test.true (omega (arith, c.loop-at-test.true, so_far.size))
          c.digits_of-first.ensures.upper c.digits_of-first.ensures.lower so_far.written;
    }

pub returns : goal.returns
returns c =
    let so_far = c.loop-at.invariant in
    encode_done upper_digits c.args.bytes.now c.loop-at.digits c.loop-at.at (omega (arith, c.loop-at-test.false)) so_far.size so_far.written
