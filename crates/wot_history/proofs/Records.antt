-- The first records of a journal.
use Rattle.std.proofs.Common.{◌≡◌, ℕ, ◌+◌, ◌<◌, List, Option, Err, refl, sym, ◌∙◌, ap, subst}
use Rattle.wot_types.specs.State.{State}
use Rattle.wot_site.specs.Disk.{disk_of}
use Rattle.wot_site.specs.Seen.{Faults, Honestly, Seen}
use Rattle.wot_site.specs.Site.{DiskRose, FailsOnlyBy, Stays}
use Rattle.wot_site.proofs.Honest.{honest_then}
use Rattle.wot_site.specs.declared.side.Side.{Side}
use Rattle.wot_journal.specs.Record.{IsClosed}
use Rattle.wot_journal.specs.Next.{HasRecord, IsTruncated}
use Rattle.wot_journal.specs.Found.{Finds, IsTruncatedAt}
use Rattle.wot_journal.specs.declared.reading.Step.TheVariants.{End, Payload}
use Rattle.wot_journal.specs.declared.reading.ReplayError.{ReplayError}
use Rattle.wot_store.specs.declared.records.RecordError.{RecordError}
use Rattle.wot_store.specs.Journal.{MakesNone}
use Rattle.wot_store.proofs.Replaying.{Came}
use Rattle.wot_history.specs.declared.error.HistoryError.{HistoryError}
use Rattle.wot_history.specs.declared.error.HistoryError.TheVariants.{DiskFault, Lost, Short, BadPayload, BadEdit, Memory}
use Rattle.wot_history.specs.History.{HasRecordFault, IsBad, Leads, Stops}
use Rattle.wot_history.specs.Reading.{IsStop, Replays, StopsAt, unmade_record, unread_record}

module _ (side : Side) (start : ℕ) (base : State) (done at : ℕ) (s : State) (x y : Seen) (came : Came side start base done at s x y) where
  leads : Leads (disk_of side x.disks).reads start base done at s
  leads = record { recorded = came.edits; many = came.count; reaches = came.reaches }

  -- all were read
  pub came_all : (count : ℕ) → done ≡ count → Replays side start base count s x y
  came_all count is = record { stays = came.stays; at = at; leads = subst (λ (n : ℕ). Leads (disk_of side x.disks).reads start base n at s) is leads }

  module _ (count : ℕ) (few : done < count) (z : Seen) where
    same_bytes : (disk_of side y.disks).reads ≡ (disk_of side x.disks).reads
    same_bytes = ap (λ (u : Seen). (disk_of side u.disks).reads) came.stays

    stops : (fault : HistoryError) → HasRecordFault (disk_of side x.disks).reads at (done + 1) s fault → Stops (disk_of side x.disks).reads start base count fault
    stops fault wrong = record { done = done; few = few; at = at; state = s; leads = leads; wrong = wrong }

    -- the journal ends before
    pub came_lost : Finds side at End y z → StopsAt side start base count (Lost (done + 1)) x z
    came_lost found = record { stays = found.stays ∙ came.stays; answer = stops (Lost (done + 1)) (refl, subst (λ (l : List ℕ). IsClosed l at) same_bytes found.stands) }

    -- a record isn't whole
    pub came_short : IsTruncatedAt side at y z → StopsAt side start base count (Short at) x z
    came_short found = record { stays = found.stays ∙ came.stays; answer = stops (Short at) (refl, subst (λ (l : List ℕ). IsTruncated l at) same_bytes found.truncated) }

    -- a record makes no edit
    pub came_bad : (spelling : List ℕ) (next : ℕ) (why : RecordError) → Finds side at (Payload spelling next) y z → MakesNone s spelling why → StopsAt side start base count (unmade_record (done + 1) why) x z
    came_bad spelling next why found none = record { stays = found.stays ∙ came.stays; answer = answer why none }
      where
        bad : (why : RecordError) → MakesNone s spelling why → IsBad (disk_of side x.disks).reads at s why
        bad why none = record { spelling = spelling; end = next; here = subst (λ (l : List ℕ). HasRecord l at spelling next) same_bytes found.stands; none = none }

        answer : (why : RecordError) → MakesNone s spelling why → IsStop (disk_of side x.disks).reads start base count (unmade_record (done + 1) why)
        answer RecordError.BadPayload none = stops (BadPayload (done + 1)) (refl, bad RecordError.BadPayload none)
        answer RecordError.BadEdit none = stops (BadEdit (done + 1)) (refl, bad RecordError.BadEdit none)
        answer RecordError.Memory none = tt

-- a record that wasn't read
pub record_unread : (side : Side) (start : ℕ) (base : State) (done at : ℕ) (s : State) (count : ℕ) (few : done < count) (e : ReplayError) (a b c : Option Seen) → Honestly a b (Came side start base done at s) → Honestly b c Stays
    → ((q : ℕ) → e ≡ ReplayError.Short q → q ≡ at) → ((q : ℕ) → e ≡ ReplayError.Short q → Honestly b c (IsTruncatedAt side at)) → Honestly a c (StopsAt side start base count (unread_record e))
record_unread side start base done at s count few ReplayError.DiskFault a b c came stays short truncated =
    honest_then (Came side start base done at s) Stays (StopsAt side start base count DiskFault) a b c came stays (λ x y z came same. record { stays = same ∙ came.stays; answer = tt })
record_unread side start base done at s count few (ReplayError.Short q) a b c came stays short truncated =
    subst (λ (n : ℕ). Honestly a c (StopsAt side start base count (Short n))) (sym (short q refl))
    (honest_then (Came side start base done at s) (IsTruncatedAt side at) (StopsAt side start base count (Short at)) a b c came (truncated q refl) (λ x y z came found. came_short side start base done at s x y came count few z found))
record_unread side start base done at s count few ReplayError.Memory a b c came stays short truncated =
    honest_then (Came side start base done at s) Stays (StopsAt side start base count Memory) a b c came stays (λ x y z came same. record { stays = same ∙ came.stays; answer = tt })

-- what is answered there has the cause of the record's fault
pub unread_cause : {T U : Type 0} (e : ReplayError) (old mid new : Faults) → mid ≡ old → FailsOnlyBy {T = T} ReplayError.DiskFault mid new (Err e) → FailsOnlyBy {T = U} DiskFault old new (Err (unread_record e))
unread_cause ReplayError.DiskFault old mid new same cause = record { rose = λ _. subst (λ (f : Faults). DiskRose f new) same (cause.rose refl); quiet = λ no. absurd (no refl) }
unread_cause (ReplayError.Short q) old mid new same cause = record { rose = λ is. absurd (cc is); quiet = λ _. cause.quiet (λ is. absurd (cc is)) ∙ same }
unread_cause ReplayError.Memory old mid new same cause = record { rose = λ is. absurd (cc is); quiet = λ _. cause.quiet (λ is. absurd (cc is)) ∙ same }
