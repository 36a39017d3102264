use Rattle.std.proofs.Common.{arith}
use Rattle.wot_types.proofs.HexDigits.{digits_at}
use Rattle.wot_types.proofs.hex_digits.digits_of.Goals as goal

pub returns-clause-upper : goal.returns-clause-upper
returns-clause-upper c = (digits_at c.args.byte (omega (arith, c.ranges.byte.fits))).0

pub returns-clause-lower : goal.returns-clause-lower
returns-clause-lower c = (digits_at c.args.byte (omega (arith, c.ranges.byte.fits))).1
