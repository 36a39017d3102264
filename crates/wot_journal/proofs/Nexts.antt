-- A record that is read in three parts.
use Rattle.std.proofs.Common.{◌≡◌, ℕ, ◌+◌, ◌≤◌, List, ◌∷◌, ◌++◌, length, get_or, take, drop, sym, ◌∙◌, ap, arith, append_assoc}
use Rattle.std.specs.Int.{to_be_bytes, w32}
use Rattle.std.proofs.lemmas.List.{drop_more, drop-drop, take-append-drop, get_or-take, get_or-drop}
use Rattle.wot_site.specs.Disk.{disk_of}
use Rattle.wot_site.specs.Seen.{Seen}
use Rattle.wot_site.specs.declared.side.Side.{Side}
use Rattle.wot_journal.specs.Record.{open_gate, most_side}
use Rattle.wot_journal.specs.Range.{IsRange}
use Rattle.wot_journal.specs.Next.{HasRecord}

module _ (R : List ℕ) (at len : ℕ) (gate head payload : List ℕ) where
  pub record_there : gate ≡ take 1 (drop at R) → get_or gate 0 0 ≡ open_gate
      → head ≡ take 4 (drop (at + 1) R) → to_be_bytes w32 len ≡ head
      → payload ≡ take len (drop (at + 5) R) → length payload ≡ len → at + len + 6 ≤ length R → at + len + 6 ≤ most_side
      → HasRecord R at payload (at + 5 + len)
  record_there is_gate is_open is_head is_len is_payload long within bound =
      let none : at + 0 ≡ at = omega arith in
      let five : at + 1 + 4 ≡ at + 5 = omega arith in
      let first : get_or R at 0 ≡ open_gate =
      ap (λ (k : ℕ). get_or R k 0) (sym none) ∙ sym (ap (λ (l : List ℕ). get_or l 0 0) is_gate ∙ (get_or-take 1 (drop at R) 0 0 (omega arith) ∙ get_or-drop at R 0 0)) ∙ is_open in
      let spelled : head ≡ to_be_bytes w32 (length payload) = sym is_len ∙ ap (λ (k : ℕ). to_be_bytes w32 k) (sym long) in
      let behind : drop (at + 1) R ≡ head ++ drop (at + 5) R =
      sym (take-append-drop 4 (drop (at + 1) R)) ∙ (λ i. sym is_head i ++ drop-drop 4 (at + 1) R i) ∙ ap (λ (k : ℕ). head ++ drop k R) five in
      let last : drop (at + 5) R ≡ payload ++ drop (at + 5 + len) R =
      sym (take-append-drop len (drop (at + 5) R)) ∙ (λ i. sym is_payload i ++ drop-drop len (at + 5) R i) in
      record {
        spelled = drop_more R at 0 (omega arith) ∙ (λ i. first i ∷ behind i) ∙ (λ i. open_gate ∷ (spelled i ++ last i))
            ∙ ap (λ (l : List ℕ). open_gate ∷ l) (sym (append_assoc (to_be_bytes w32 (length payload)) payload (drop (at + 5 + len) R)));
        place = omega arith;
        within = omega arith;
        bound = omega arith;
      }

-- two parts read one after the other
pub record Both (side : Side) (at more : ℕ) (gate head : List ℕ) (old new : Seen) : Type 0 where
  pub stays : new ≡ old
  pub gate_there : gate ≡ take 1 (drop at (disk_of side old.disks).reads)
  pub head_there : head ≡ take 4 (drop more (disk_of side old.disks).reads)

pub both_read : (side : Side) (at more : ℕ) (gate head : List ℕ) (x y z : Seen) → IsRange side at 1 gate x y → IsRange side more 4 head y z → Both side at more gate head x z
both_read side at more gate head x y z first second = record {
  stays = second.stays ∙ first.stays;
  gate_there = first.these;
  head_there = second.these ∙ ap (λ (s : Seen). take 4 (drop more (disk_of side s.disks).reads)) first.stays;
}

pub third_read : (side : Side) (at more : ℕ) (gate head : List ℕ) (place len : ℕ) (payload : List ℕ) (x y z : Seen) → Both side at more gate head x y → IsRange side place len payload y z
    → payload ≡ take len (drop place (disk_of side x.disks).reads)
third_read side at more gate head place len payload x y z first second = second.these ∙ ap (λ (s : Seen). take len (drop place (disk_of side s.disks).reads)) first.stays
