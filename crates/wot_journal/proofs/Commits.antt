-- What the calls of a commit may leave.
use Rattle.std.proofs.Common.{◌≡◌, ◌⊎◌, inl, inr, ℕ, ◌+◌, ◌<◌, ◌≤◌, List, [], ◌∷◌, ◌++◌, length, get_or, take, drop, sym, ◌∙◌, ap, subst, arith, append_assoc}
use Rattle.std.specs.Int.{to_be_bytes, w32}
use Rattle.std.proofs.lemmas.Bool.{cases_eq, cases_lt}
use Rattle.std.proofs.lemmas.List.{length-append, take-take, get_or-take, take-append-drop, drop-drop, drop_more}
use Rattle.wot_site.specs.Disk.{Disk, Disks, IsCrashImage, disk_of, with_disk, after_write, after_sync, settled_disk, bytes_after_write}
use Rattle.wot_site.specs.Seen.{Seen}
use Rattle.wot_site.specs.Site.{on_disk}
use Rattle.wot_site.specs.Work.{Works}
use Rattle.wot_site.specs.declared.side.Side.{Side}
use Rattle.wot_site.proofs.Images.{settled_image, torn_image, take_written, drop_written, back_written, length_written, length_written_end}
use Rattle.wot_site.proofs.Sides.{disk_with, with_with, with_same}
use Rattle.wot_site.proofs.Works.{works_start, works_push, works_to, works_then}
use Rattle.wot_journal.specs.Record.{Framed, IsClosed, behind_gate, with_record, open_gate}
use Rattle.wot_journal.specs.Commit.{Puts, PutsNot, IsEnd, Commits, IsUnchanged, IsCommitting, behind_record}

pub length_behind : (payload : List ℕ) → length (behind_gate payload) ≡ length payload + 5
length_behind payload = simp length-append (omega arith)

-- one put and the sides at each of its moments
pub puts_work : (P : Disks → Type 0) (side : Side) (at : ℕ) (bytes : List ℕ) (x y : Seen) → P x.disks
    → P (with_disk side (after_write at bytes (disk_of side x.disks)) x.disks)
    → P (with_disk side (settled_disk (bytes_after_write (disk_of side x.disks).reads at bytes)) x.disks)
    → Puts side at bytes x y → Works P x y
puts_work P side at bytes x y first second third puts =
    let wrote = with_disk side (after_write at bytes (disk_of side x.disks)) x.disks in
    let same : after_sync (disk_of side wrote) ≡ settled_disk (bytes_after_write (disk_of side x.disks).reads at bytes) = ap after_sync (disk_with side (after_write at bytes (disk_of side x.disks)) x.disks) in
    let last : with_disk side (after_sync (disk_of side wrote)) wrote ≡ with_disk side (settled_disk (bytes_after_write (disk_of side x.disks).reads at bytes)) x.disks =
    ap (λ (d : Disk). with_disk side d wrote) same ∙ with_with side (after_write at bytes (disk_of side x.disks)) (settled_disk (bytes_after_write (disk_of side x.disks).reads at bytes)) x.disks in
    works_to P x (on_disk side after_sync (on_disk side (after_write at bytes) x)) y puts
    (works_push P x (on_disk side (after_write at bytes) x) (with_disk side (after_sync (disk_of side wrote)) wrote)
    (works_push P x x wrote (works_start P x first) second) (subst P (sym last) third))

-- where the sync failed, or the write
pub puts_not_work : (P : Disks → Type 0) (side : Side) (at : ℕ) (bytes : List ℕ) (x y : Seen) → P x.disks
    → P (with_disk side (after_write at bytes (disk_of side x.disks)) x.disks)
    → PutsNot side at bytes x y → Works P x y
puts_not_work P side at bytes x y first second (inl wrote) =
    works_to P x (on_disk side (after_write at bytes) x) y wrote (works_push P x x (with_disk side (after_write at bytes (disk_of side x.disks)) x.disks) (works_start P x first) second)
puts_not_work P side at bytes x y first second (inr not) = works_to P x x y not (works_start P x first)

-- the side after a put
pub put_side : (side : Side) (at : ℕ) (bytes : List ℕ) (x y : Seen) → Puts side at bytes x y
    → y.disks ≡ with_disk side (settled_disk (bytes_after_write (disk_of side x.disks).reads at bytes)) x.disks
put_side side at bytes x y puts =
    let wrote = with_disk side (after_write at bytes (disk_of side x.disks)) x.disks in
    let same : after_sync (disk_of side wrote) ≡ settled_disk (bytes_after_write (disk_of side x.disks).reads at bytes) = ap after_sync (disk_with side (after_write at bytes (disk_of side x.disks)) x.disks) in
    ap (λ (s : Seen). s.disks) puts ∙ ap (λ (d : Disk). with_disk side d wrote) same
    ∙ with_with side (after_write at bytes (disk_of side x.disks)) (settled_disk (bytes_after_write (disk_of side x.disks).reads at bytes)) x.disks

module _ (bytes : List ℕ) (end : ℕ) (payload : List ℕ) (gate : IsClosed bytes end) where
  abbrev pub staged : List ℕ
  staged = bytes_after_write bytes (end + 1) (behind_gate payload)

  low : end + 1 ≤ length bytes
  low = omega (arith, gate.within)

  long : length bytes ≤ length staged
  long = elim (cases_lt (length bytes) (end + 1 + length (behind_gate payload))) [
    | inl lt ↦ omega (arith, length_written_end bytes (end + 1) (behind_gate payload) low (omega arith))
    | inr le ↦ omega (arith, length_written bytes (end + 1) (behind_gate payload) low le)
  ]

  unchanged : (c : List ℕ) → take (end + 1) c ≡ take (end + 1) bytes → end < length c → IsUnchanged bytes end c
  unchanged c front within = record {
    front = sym (take-take end (end + 1) c (omega arith)) ∙ ap (λ (l : List ℕ). take end l) front ∙ take-take end (end + 1) bytes (omega arith);
    gate = record {
      within = within;
      closed = λ e. gate.closed (sym (get_or-take (end + 1) bytes end 0 (omega arith)) ∙ sym (ap (λ (l : List ℕ). get_or l end 0) front) ∙ get_or-take (end + 1) c end 0 (omega arith) ∙ e);
    };
  }

  pub at_first : (c : List ℕ) → IsCrashImage (settled_disk bytes) c → IsUnchanged bytes end c
  at_first c image = let same = settled_image bytes c image in unchanged c (ap (λ (l : List ℕ). take (end + 1) l) same) (omega (arith, gate.within, ap length same))

  pub while_written : (c : List ℕ) → IsCrashImage (after_write (end + 1) (behind_gate payload) (settled_disk bytes)) c → IsUnchanged bytes end c
  while_written c image =
      let torn = torn_image bytes (end + 1) (behind_gate payload) c low image in
      unchanged c torn.front (omega (arith, gate.within, torn.no_shorter))

  pub once_written : (c : List ℕ) → IsCrashImage (settled_disk staged) c → IsUnchanged bytes end c
  once_written c image =
      let same = settled_image staged c image in
      unchanged c (ap (λ (l : List ℕ). take (end + 1) l) same ∙ take_written bytes (end + 1) (behind_gate payload) low) (omega (arith, gate.within, long, ap length same))

  front_staged : take end staged ≡ take end bytes
  front_staged =
      sym (take-take end (end + 1) staged (omega arith)) ∙ ap (λ (l : List ℕ). take end l) (take_written bytes (end + 1) (behind_gate payload) low)
      ∙ take-take end (end + 1) bytes (omega arith)

  back_staged : drop (end + 1) staged ≡ behind_gate payload ++ drop (end + length payload + 6) bytes
  back_staged =
      let place : end + 1 + length (behind_gate payload) ≡ end + length payload + 6 = omega (arith, length_behind payload) in
      drop_written bytes (end + 1) (behind_gate payload) low ∙ ap (λ (n : ℕ). behind_gate payload ++ drop n bytes) place

  -- an open gate before what was staged
  opened : take end bytes ++ (open_gate ∷ (behind_gate payload ++ drop (end + length payload + 6) bytes)) ≡ with_record bytes end payload
  opened = ap (λ (l : List ℕ). take end bytes ++ (open_gate ∷ l)) (regroup (to_be_bytes w32 (length payload)) payload (drop (end + length payload + 6) bytes))
    where
      regroup : (a b d : List ℕ) → (a ++ (b ++ 0 ∷ [])) ++ d ≡ (a ++ b) ++ 0 ∷ d
      regroup a b d = append_assoc a (b ++ 0 ∷ []) d ∙ ap (λ (l : List ℕ). a ++ l) (append_assoc b (0 ∷ []) d) ∙ sym (append_assoc a b (0 ∷ d))

  pub while_opened : (c : List ℕ) → IsCrashImage (after_write end (open_gate ∷ []) (settled_disk staged)) c → IsUnchanged bytes end c ⊎ (c ≡ with_record bytes end payload)
  while_opened c image =
      let torn = torn_image staged end (open_gate ∷ []) c (omega (arith, gate.within, long)) image in
      let tall : end < length c = omega (arith, gate.within, long, torn.no_shorter) in
      elim (cases_eq (get_or c end 0) open_gate) [
        | inl e ↦ inr (sym (take-append-drop end c) ∙ ap (λ (l : List ℕ). l ++ drop end c) (torn.front ∙ front_staged)
            ∙ ap (λ (l : List ℕ). take end bytes ++ l) (drop_more c end 0 tall)
            ∙ (λ i. take end bytes ++ (e i ∷ (torn.back ∙ back_staged) i)) ∙ opened)
        | inr shut ↦ inl (record { front = torn.front ∙ front_staged; gate = record { within = tall; closed = shut } })
      ]

  till : end + 1 + length (behind_gate payload) ≡ end + length payload + 6
  till = omega (arith, length_behind payload)

  -- what lies behind the record's place
  behind_staged : drop (end + length payload + 6) staged ≡ drop (end + length payload + 6) bytes
  behind_staged = subst (λ (n : ℕ). drop n staged ≡ drop n bytes) till (back_written bytes (end + 1) (behind_gate payload) low)

  behind_gate_too : (c : List ℕ) → drop (end + 1) c ≡ drop (end + 1) staged → drop (end + length payload + 6) c ≡ drop (end + length payload + 6) bytes
  behind_gate_too c same =
      let further : end + 1 + (length payload + 5) ≡ end + length payload + 6 = omega arith in
      subst (λ (n : ℕ). drop n c ≡ drop n staged) further
      (sym (drop-drop (length payload + 5) (end + 1) c) ∙ ap (λ (l : List ℕ). drop (length payload + 5) l) same ∙ drop-drop (length payload + 5) (end + 1) staged)
      ∙ behind_staged

  pub behind_first : (c : List ℕ) → IsCrashImage (settled_disk bytes) c → drop (end + length payload + 6) c ≡ drop (end + length payload + 6) bytes
  behind_first c image = ap (λ (l : List ℕ). drop (end + length payload + 6) l) (settled_image bytes c image)

  pub behind_while_written : (c : List ℕ) → IsCrashImage (after_write (end + 1) (behind_gate payload) (settled_disk bytes)) c
      → drop (end + length payload + 6) c ≡ drop (end + length payload + 6) bytes
  behind_while_written c image = subst (λ (n : ℕ). drop n c ≡ drop n bytes) till (torn_image bytes (end + 1) (behind_gate payload) c low image).back

  pub behind_once_written : (c : List ℕ) → IsCrashImage (settled_disk staged) c → drop (end + length payload + 6) c ≡ drop (end + length payload + 6) bytes
  behind_once_written c image = ap (λ (l : List ℕ). drop (end + length payload + 6) l) (settled_image staged c image) ∙ behind_staged

  pub behind_while_opened : (c : List ℕ) → IsCrashImage (after_write end (open_gate ∷ []) (settled_disk staged)) c
      → drop (end + length payload + 6) c ≡ drop (end + length payload + 6) bytes
  behind_while_opened c image = behind_gate_too c (torn_image staged end (open_gate ∷ []) c (omega (arith, gate.within, long)) image).back

  pub once_opened : bytes_after_write staged end (open_gate ∷ []) ≡ with_record bytes end payload
  once_opened = (λ i. front_staged i ++ (open_gate ∷ back_staged i)) ∙ opened

  pub behind_once_opened : (c : List ℕ) → IsCrashImage (settled_disk (with_record bytes end payload)) c
      → drop (end + length payload + 6) c ≡ drop (end + length payload + 6) bytes
  behind_once_opened c image =
      behind_gate_too c (ap (λ (l : List ℕ). drop (end + 1) l) (settled_image (with_record bytes end payload) c image ∙ sym once_opened)
      ∙ back_written staged end (open_gate ∷ []) (omega (arith, gate.within, long)))

-- what commits, at each of its moments
module _ (side : Side) (built : Framed) (x : Seen) (known : IsEnd built.end (disk_of side x.disks)) where
  bytes : List ℕ
  bytes = (disk_of side x.disks).reads

  P : Disks → Type 0
  P = IsCommitting side built x.disks

  -- where this side alone is another
  on_side : (d : Disk) → ((c : List ℕ) → IsCrashImage d c → IsUnchanged (disk_of side x.disks).reads built.end c ⊎ (c ≡ with_record (disk_of side x.disks).reads built.end built.payload))
      → ((c : List ℕ) → IsCrashImage d c → drop (behind_record built) c ≡ drop (behind_record built) (disk_of side x.disks).reads)
      → IsCommitting side built x.disks (with_disk side d x.disks)
  on_side d images back = record {
    other = sym (ap (λ (e : Disk). with_disk side e x.disks) (disk_with side d x.disks));
    images = λ c image. images c (subst (λ (e : Disk). IsCrashImage e c) (disk_with side d x.disks) image);
    back = λ c image. back c (subst (λ (e : Disk). IsCrashImage e c) (disk_with side d x.disks) image);
  }

  at_start : IsCommitting side built x.disks x.disks
  at_start = record {
    other = sym (with_same side x.disks);
    images = λ c image. inl (at_first (disk_of side x.disks).reads built.end built.payload known.gate c (subst (λ (d : Disk). IsCrashImage d c) known.settled image));
    back = λ c image. behind_first (disk_of side x.disks).reads built.end built.payload known.gate c (subst (λ (d : Disk). IsCrashImage d c) known.settled image);
  }

  from_settled : (at : ℕ) (text : List ℕ) → after_write at text (disk_of side x.disks) ≡ after_write at text (settled_disk (disk_of side x.disks).reads)
  from_settled at text = ap (λ (d : Disk). after_write at text d) known.settled

  writing : IsCommitting side built x.disks (with_disk side (after_write (built.end + 1) (behind_gate built.payload) (disk_of side x.disks)) x.disks)
  writing = on_side (after_write (built.end + 1) (behind_gate built.payload) (disk_of side x.disks)) (λ c image.
      inl (while_written (disk_of side x.disks).reads built.end built.payload known.gate c (subst (λ (d : Disk). IsCrashImage d c) (from_settled (built.end + 1) (behind_gate built.payload)) image)))
      (λ c image. behind_while_written (disk_of side x.disks).reads built.end built.payload known.gate c (subst (λ (d : Disk). IsCrashImage d c) (from_settled (built.end + 1) (behind_gate built.payload)) image))

  pub first_put : (y : Seen) → Puts side (built.end + 1) (behind_gate built.payload) x y → Works (IsCommitting side built x.disks) x y
  first_put y puts = puts_work (IsCommitting side built x.disks) side (built.end + 1) (behind_gate built.payload) x y at_start writing
      (on_side (settled_disk (staged (disk_of side x.disks).reads built.end built.payload known.gate)) (λ c image. inl (once_written (disk_of side x.disks).reads built.end built.payload known.gate c image))
      (behind_once_written (disk_of side x.disks).reads built.end built.payload known.gate)) puts

  pub first_not : (y : Seen) → PutsNot side (built.end + 1) (behind_gate built.payload) x y → Works (IsCommitting side built x.disks) x y
  first_not y puts = puts_not_work (IsCommitting side built x.disks) side (built.end + 1) (behind_gate built.payload) x y at_start writing puts

  -- the sides after the first put
  module _ (y : Seen) (puts : Puts side (built.end + 1) (behind_gate built.payload) x y) where
    put_disks : y.disks ≡ with_disk side (settled_disk (staged (disk_of side x.disks).reads built.end built.payload known.gate)) x.disks
    put_disks = put_side side (built.end + 1) (behind_gate built.payload) x y puts

    put_disk : disk_of side y.disks ≡ settled_disk (staged (disk_of side x.disks).reads built.end built.payload known.gate)
    put_disk = ap (λ (d : Disks). disk_of side d) put_disks ∙ disk_with side (settled_disk (staged (disk_of side x.disks).reads built.end built.payload known.gate)) x.disks

    over : (d : Disk) → with_disk side d y.disks ≡ with_disk side d x.disks
    over d = ap (λ (e : Disks). with_disk side d e) put_disks ∙ with_with side (settled_disk (staged (disk_of side x.disks).reads built.end built.payload known.gate)) d x.disks

    between : IsCommitting side built x.disks y.disks
    between = (first_put y puts).last

    opening : IsCommitting side built x.disks (with_disk side (after_write built.end (open_gate ∷ []) (disk_of side y.disks)) y.disks)
    opening = subst (IsCommitting side built x.disks) (sym (over (after_write built.end (open_gate ∷ []) (disk_of side y.disks)) ∙ ap (λ (d : Disk). with_disk side (after_write built.end (open_gate ∷ []) d) x.disks) put_disk))
        (on_side (after_write built.end (open_gate ∷ []) (settled_disk (staged (disk_of side x.disks).reads built.end built.payload known.gate)))
        (while_opened (disk_of side x.disks).reads built.end built.payload known.gate)
        (behind_while_opened (disk_of side x.disks).reads built.end built.payload known.gate))

    has_record : bytes_after_write (disk_of side y.disks).reads built.end (open_gate ∷ []) ≡ with_record (disk_of side x.disks).reads built.end built.payload
    has_record = ap (λ (d : Disk). bytes_after_write d.reads built.end (open_gate ∷ [])) put_disk ∙ once_opened (disk_of side x.disks).reads built.end built.payload known.gate

    opened_disks : with_disk side (settled_disk (bytes_after_write (disk_of side y.disks).reads built.end (open_gate ∷ []))) y.disks ≡ with_disk side (settled_disk (with_record (disk_of side x.disks).reads built.end built.payload)) x.disks
    opened_disks = over (settled_disk (bytes_after_write (disk_of side y.disks).reads built.end (open_gate ∷ []))) ∙ ap (λ (l : List ℕ). with_disk side (settled_disk l) x.disks) has_record

    pub second_put : (z : Seen) → Puts side built.end (open_gate ∷ []) y z → Works (IsCommitting side built x.disks) x z
    second_put z puts2 = works_then (IsCommitting side built x.disks) x y z (first_put y puts)
        (puts_work (IsCommitting side built x.disks) side built.end (open_gate ∷ []) y z between opening
        (subst (IsCommitting side built x.disks) (sym opened_disks) (on_side (settled_disk (with_record (disk_of side x.disks).reads built.end built.payload)) (λ c image. inr (settled_image _ c image))
        (behind_once_opened (disk_of side x.disks).reads built.end built.payload known.gate))) puts2)

    pub second_not : (z : Seen) → PutsNot side built.end (open_gate ∷ []) y z → Works (IsCommitting side built x.disks) x z
    second_not z puts2 = works_then (IsCommitting side built x.disks) x y z (first_put y puts)
        (puts_not_work (IsCommitting side built x.disks) side built.end (open_gate ∷ []) y z between opening puts2)

    pub committed : (z : Seen) → Puts side built.end (open_gate ∷ []) y z → Commits side built x z
    committed z puts2 = put_side side built.end (open_gate ∷ []) y z puts2 ∙ opened_disks
