use Rattle.wot_spelling.proofs.Lengths.{fpr_gives}
use Rattle.wot_spelling.proofs.reader.Reader.fpr.Goals as goal

pub returns : goal.returns
returns c =
    rw c.ok_or.ensures.value (fpr_gives c.args.self.now c.in_ok-bytes.bytes.now c.number_1.new.self c.bytes.new.self c.in_ok-length.length c.from_bytes.result
    c.in_ok-length.ensures (rw c.from.ensures at c.in_ok-bytes.ensures) c.from_bytes.ensures.found.0 c.from_bytes.ensures.found.1 c.from_bytes.ensures.same)
