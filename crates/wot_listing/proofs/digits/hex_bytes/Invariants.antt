use Rattle.std.proofs.Common.{◌≡◌, length}
use Rattle.wot_listing.proofs.DigitLemmas.{PairsRead}
use Rattle.wot_listing.proofs.digits.hex_bytes.Given as goal

abbrev pub invariant-pairs : goal.invariant-pairs
invariant-pairs g l = (length l.bytes ≡ g.row.N) × PairsRead l.good l.f l.bytes l.i
