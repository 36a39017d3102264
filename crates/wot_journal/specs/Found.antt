-- What reading a journal finds.
use Rattle.std.specs.Prelude.{ℕ, ◌≡◌, ◌+◌, ◌<◌, List, length}
use Rattle.wot_site.specs.Disk.{disk_of}
use Rattle.wot_site.specs.Seen.{Seen}
use Rattle.wot_site.specs.declared.side.Side.{Side}
use Rattle.wot_journal.specs.Record.{IsClosed, most_side}
use Rattle.wot_journal.specs.Next.{HasRecord, IsTruncated}
use Rattle.wot_journal.specs.declared.reading.Step.{Step}
use Rattle.wot_journal.specs.declared.reading.Step.TheVariants.{Payload, End}

abbrev pub StandsThere : List ℕ → ℕ → Step → Type 0
StandsThere bytes at End = IsClosed bytes at
StandsThere bytes at (Payload payload next) = HasRecord bytes at payload next

-- a record ends behind its place, and the gate behind it lies within so many bytes
abbrev pub GoesOn : ℕ → ℕ → Step → Type 0
GoesOn at size End = Unit {0}
GoesOn at size (Payload payload next) = (next ≡ at + length payload + 5) × (next < size) × (next < most_side)

pub record Finds (side : Side) (at : ℕ) (step : Step) (old new : Seen) : Type 0 where
  pub stays : new ≡ old
  pub stands : StandsThere (disk_of side old.disks).reads at step

pub record IsTruncatedAt (side : Side) (at : ℕ) (old new : Seen) : Type 0 where
  pub stays : new ≡ old
  pub truncated : IsTruncated (disk_of side old.disks).reads at
