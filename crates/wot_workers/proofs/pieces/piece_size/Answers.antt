use Rattle.std.proofs.Common.{arith}
use Rattle.wot_workers.proofs.PieceSizes.{few_pieces, least_size}
use Rattle.wot_workers.proofs.pieces.piece_size.Goals as goal

pub returns : goal.returns
returns c = record {
  positive = omega (arith, c.max.ensures);
  few = few_pieces c.args.len c.args.workers c.max.result c.requires.some (omega (arith, c.max.ensures)) (omega (arith, c.max.ensures, c.div_ceil.ensures));
  least = λ size positive few.
      let least = least_size c.args.len c.args.workers size c.requires.some positive few in
      omega (arith, c.max.ensures, c.div_ceil.ensures, least, positive);
}
