use Rattle.std.proofs.Common.{◌≡◌, ◌+◌, ◌≤◌, ◌∙◌, length, get_or, sym, arith}
use Rattle.std.proofs.lemmas.List.{get_or_read}
use Rattle.wot_site.specs.Disk.{disk_of}
use Rattle.wot_site.specs.Seen.{Seen}
use Rattle.wot_site.proofs.Honest.{honest_then, honest_with_then}
use Rattle.wot_journal.specs.Record.{open_gate, most_side}
use Rattle.wot_journal.specs.Range.{IsRange}
use Rattle.wot_journal.specs.Found.{Finds}
use Rattle.wot_journal.specs.declared.reading.Step.TheVariants.{Payload}
use Rattle.wot_journal.proofs.Nexts.{Both, both_read, third_read, record_there}
use Rattle.wot_journal.proofs.reading.next.Goals as goal

pub returns-in-Ok-read_part-2-clause-found : goal.returns-in-Ok-read_part-2-clause-found
returns-in-Ok-read_part-2-clause-found g c =
    let side = c.args.side in
    let at = c.args.at in
    let gate = c.in-Ok.gate.items in
    let head = c.in-Ok-read_part.head.items in
    let payload = c.in-Ok-read_part-2.payload.items in
    let len = c.length_of-len.result in
    let is_open : get_or gate 0 0 ≡ open_gate = sym (get_or_read gate 0 c.index.result.now (omega (arith, c.in-Ok.ensures.length)) c.index.ensures 0) ∙ c.if-index.false in
    let room : at + len + 6 ≤ c.args.size = omega arith in
    let bound : at + len + 6 ≤ most_side = omega arith in
    rw c.from_vec.ensures
    (honest_with_then (λ (s : Seen). c.args.size ≡ length (disk_of side s.disks).reads) (Both side at (at + 1) gate head) (IsRange side (at + 5) len payload) (Finds side at (Payload payload (at + 5 + len))) _ _ _
    c.requires.size
    (honest_then (IsRange side at 1 gate) (IsRange side (at + 1) 4 head) (Both side at (at + 1) gate head) _ _ _ c.in-Ok.ensures.range c.in-Ok-read_part.ensures.range (λ x y z first second. both_read side at (at + 1) gate head x y z first second))
    c.in-Ok-read_part-2.ensures.range
    (λ x y z size two third. record {
      stays = third.stays ∙ two.stays;
      stands = record_there (disk_of side x.disks).reads at len gate head payload two.gate_there is_open two.head_there (c.length_of-len.ensures.spelled ∙ c.deref.ensures.value)
          (third_read side at (at + 1) gate head (at + 5) len payload x y z two third) c.in-Ok-read_part-2.ensures.length (omega (arith, size, room)) bound;
    }))
