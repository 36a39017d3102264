use Rattle.std.proofs.Common.{◌*◌, ◌%◌, ◌^◌, arith, w64}
use Rattle.std.specs.Int.{bit_not}
use Rattle.std.proofs.lemmas.Nat.Bits.{bit_at_clear_same, bit_at_clear_other, bit_at_and}
use Rattle.wot_fields.proofs.colons.without.Goals as goal

pub returns-clause-cleared : goal.returns-clause-cleared
returns-clause-cleared c = bit_at_clear_same w64 c.args.bits c.args.bit c.requires

pub returns-clause-kept : goal.returns-clause-kept
returns-clause-kept c k less apart = bit_at_clear_other w64 c.args.bits c.args.bit c.requires k less apart

pub returns-clause-no_more : goal.returns-clause-no_more
returns-clause-no_more c k set = omega (arith, set, bit_at_and c.args.bits (bit_not w64 (1 * 2 ^ c.args.bit % 2 ^ 64)) k)
