use Rattle.std.proofs.Common.{◌≡◌, ◌*◌, ◌++◌, length, take, drop}
use Rattle.hex.specs.Hex.{encode_upper}
use Rattle.wot_types.proofs.hex_digits.write_digits.Given as goal

abbrev pub invariant-loop-at : goal.invariant-loop-at
invariant-loop-at l = record {
  size : length l.digits ≡ 2 * length l.bytes;
  written : take (2 * l.at) l.digits ++ encode_upper (drop l.at l.bytes) ≡ encode_upper l.bytes;
}
