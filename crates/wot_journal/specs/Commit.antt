-- What putting a record onto the disk does.
use Rattle.std.specs.Prelude.{ℕ, ◌≡◌, ◌⊎◌, ◌+◌, List, [], ◌∷◌, length, take, drop}
use Rattle.wot_site.specs.Disk.{Disk, Disks, IsCrashImage, disk_of, with_disk, after_write, after_sync, settled_disk}
use Rattle.wot_site.specs.Seen.{Seen}
use Rattle.wot_site.specs.Site.{on_disk}
use Rattle.wot_site.specs.declared.side.Side.{Side}
use Rattle.wot_journal.specs.Record.{Framed, IsClosed, behind_gate, open_gate, with_record}

-- so many calls wrote or synced, where nothing was told: each has its moment
abbrev pub MakesCalls : ℕ → Seen → Seen → Type 0
MakesCalls n old new = length new.moments ≡ length old.moments + n

-- written, and then synced
abbrev pub Puts : Side → ℕ → List ℕ → Seen → Seen → Type 0
Puts side at bytes old new = new ≡ on_disk side after_sync (on_disk side (after_write at bytes) old)

-- written and not synced, or not written
abbrev pub PutsNot : Side → ℕ → List ℕ → Seen → Seen → Type 0
PutsNot side at bytes old new = (new ≡ on_disk side (after_write at bytes) old) ⊎ (new ≡ old)

-- the journal of a side ends here: nothing is pending, and the gate is closed
pub record IsEnd (at : ℕ) (d : Disk) : Type 0 where
  pub settled : d ≡ settled_disk d.reads
  pub gate : IsClosed d.reads at

-- the record stands on the side with a closed gate behind it, nothing is pending there, and the other side is as it was
abbrev pub Commits : Side → Framed → Seen → Seen → Type 0
Commits side built old new = new.disks ≡ with_disk side (settled_disk (with_record (disk_of side old.disks).reads built.end built.payload)) old.disks

-- it stopped at the record, or behind it at its gate, and nothing was done after the call that failed
abbrev pub CommitsNot : Side → Framed → Seen → Seen → Type 0
CommitsNot side built old new = PutsNot side (built.end + 1) (behind_gate built.payload) old new
    ⊎ ((between : Seen) × Puts side (built.end + 1) (behind_gate built.payload) old between × PutsNot side built.end (open_gate ∷ []) between new)

-- the bytes before the journal's end are these, and its gate is closed
pub record IsUnchanged (bytes : List ℕ) (end : ℕ) (c : List ℕ) : Type 0 where
  pub front : take end c ≡ take end bytes
  pub gate : IsClosed c end

-- the place behind a record and the closed gate behind it
abbrev pub behind_record : Framed → ℕ
behind_record built = built.end + length built.payload + 6

-- in each image the journal is as it was, or the record has come to its end, and what lies behind that record's place is as it was;
-- the other side is as it was
pub record IsCommitting (side : Side) (built : Framed) (old new : Disks) : Type 0 where
  pub other : new ≡ with_disk side (disk_of side new) old
  pub images : (c : List ℕ) → IsCrashImage (disk_of side new) c
      → IsUnchanged (disk_of side old).reads built.end c ⊎ (c ≡ with_record (disk_of side old).reads built.end built.payload)
  pub back : (c : List ℕ) → IsCrashImage (disk_of side new) c → drop (behind_record built) c ≡ drop (behind_record built) (disk_of side old).reads
