use Rattle.std.proofs.Common.{◌≡◌, ◌∙◌, ℕ, List, arith}
use Rattle.std.specs.Int.{from_be_bytes, w32}
use Rattle.std.proofs.lemmas.Nat.{be_bytes_4}
use Rattle.byteorder.specs.Endian.{big_number}
use Rattle.wot_journal.proofs.reading.length_of.Goals as goal

four_bytes : (xs : List ℕ) → big_number 4 xs ≡ from_be_bytes w32 xs
four_bytes xs = omega arith

pub returns : goal.returns
returns c =
    let value : c.read_u32.result ≡ from_be_bytes w32 c.args.head.now = c.read_u32.ensures ∙ four_bytes c.args.head.now in
    record {
      value = value;
      spelled = be_bytes_4 c.args.head.now c.read_u32.result c.requires (λ i. omega (arith, c.type_inv.head i)) value;
    }
