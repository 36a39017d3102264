-- What a whole run does: the theorem of the program.
use Rattle.std.specs.Prelude.{ℕ, Bool, true, false, Option, Some, None, ◌≡◌, ◌⊎◌, ◌-◌, ◌^◌, ◌<◌, ◌≤◌, List, ◌++◌, length, take, All}
use Rattle.wot_types.specs.Store.{Store}
use Rattle.wot_types.specs.Commands.{Command, takes_input}
use Rattle.wot_types.specs.Commands.Division.{over}
use Rattle.wot_types.specs.LineByLine.{at_first}
use Rattle.wot_types.specs.Session.{acknowledged_count, at_start, commands_of, end_of, output_of}
use Rattle.wot_site.specs.Disk.{Disks, Leaves, reads_of}
use Rattle.wot_site.specs.Seen.{Faults, Honestly, Moment, Seen}
use Rattle.wot_site.specs.Site.{Stays}
use Rattle.wot_site.specs.Work.{Quiet, Since, Works, moment_of}
use Rattle.wot_store.specs.Opening.{AreBlank, AreUnwritten, FindsBad, IsSettled, Opening, WritesOnlyBlank}
use Rattle.wot_store.specs.Shows.{Shows, all_settled}
use Rattle.wot_session.specs.Input.{IsPunctual, division_at, so_far_at}
use Rattle.wot_tell.specs.Telling.{IsPrefixOf}
use Rattle.wot_words.specs.ProgramWords.{command_words}
use Rattle.wot_session.specs.CrashImages.{IsSafe, ShowsState}
use Rattle.wot_session.specs.OpenStore.{IsOpen}
use Rattle.wot_session.specs.Stop.{Causes}
use Rattle.wot_session.specs.Turn.{IsBetween}
use Rattle.wot_session.specs.Words.{IsUnread, Read}
use Rattle.wot_session.specs.Written.{Trail, change_count}
use Rattle.wot_session.specs.declared.stop.Stop.{Stop}
use Rattle.wot_session.specs.declared.stop.Stop.TheVariants.{DiskFault, ReadFault, TellFault, Memory, TooLong}
use Rattle.wot_session.specs.declared.status.Status.{Status}
use Rattle.wot_session.specs.declared.status.Status.TheVariants as status

-- the longest input of the program, in bytes
abbrev pub longest_input : ℕ
longest_input = 2 ^ 36

-- nothing was told or written by then, and whatever a crash leaves it could have left at the start
abbrev pub IsOfStart : Seen → Moment → Type 0
IsOfStart start = Quiet (AreUnwritten start.disks) start.told

-- at each moment since the start a crash leaves the state after the first j edits, where j counts every edit acknowledged by then
-- and at most one more. Until both opening syncs have succeeded, of which the first makes one moment, it leaves what it could have left at the start;
-- where nothing was pending then, that is such a state too
pub record IsCrashSafe (store : Store) (commands : List Command) (old new : Seen) : Type 0 where
  pub first : List Moment
  pub later : List Moment
  pub is : new.moments ≡ old.moments ++ (first ++ later)
  pub few : length first ≤ 1
  pub before : All (IsOfStart old) first
  pub settled : old.disks ≡ all_settled old.disks → All (IsSafe (at_start store) commands old.told) first
  pub each : All (IsSafe (at_start store) commands old.told) later

-- nothing was written: at each moment and at the end the sides read as at the start, and each image is one of those that there were
pub record IsUntouched (old new : Seen) : Type 0 where
  pub since : Since (λ m. AreUnwritten old.disks m.disks) old new
  pub last : AreUnwritten old.disks new.disks

-- what was written by each moment: in the opening nothing, or side Zero where both sides were blank; and then for each command what its change
-- may write, from the sides that the opening left
pub record IsWritten (store : Store) (commands : List Command) (old new : Seen) : Type 0 where
  pub opening : List Moment
  pub later : List Moment
  pub is : new.moments ≡ old.moments ++ (opening ++ later)
  pub opened : Disks
  pub before : All (λ m. WritesOnlyBlank old.disks m.disks) opening
  pub left : WritesOnlyBlank old.disks opened
  pub is_open : IsOpen store opened
  pub trail : Trail (at_start store) commands old.told opened later new.disks

-- a first side is written where both sides are blank, a record for each accepted edit, and the other side for `compact`; without any of them
-- nothing is
abbrev pub WritesForChanges : Store → List Command → Seen → Seen → Type 0
WritesForChanges store commands old new = (AreBlank old.disks → ⊥) → change_count (at_start store) commands ≡ 0 → IsUntouched old new

-- the run came to its end: the whole output was told, and every image shows the last store, with its journal's end and epoch
pub record RunEnded (words : List (List ℕ)) (most : ℕ) (refused : Bool) (old new : Seen) : Type 0 where
  pub store : Store
  pub shows : Shows (reads_of old.disks) store
  pub told : new.told ≡ old.told ++ output_of store words old.left
  pub refusals : refused ≡ (end_of store words old.left).refused
  pub read : Read (at_first store words) (takes_input words) most old new
  pub stored : IsOpen (end_of store words old.left).store new.disks
  pub punctual : IsPunctual (at_first store words) old new
  pub safe : IsCrashSafe store (commands_of words old.left) old new
  pub written : IsWritten store (commands_of words old.left) old new
  pub untouched : WritesForChanges store (commands_of words old.left) old new

-- the run stopped: a prefix of the output was told, and every image shows a state of the crash clause. Where reading failed,
-- the input is too long or memory was wanted, it is the state after exactly the edits acknowledged. An input is too long only
-- where more bytes than the bound were taken, and a run of one command without a block took nothing
pub record RunStopped (words : List (List ℕ)) (most : ℕ) (stop : Stop) (old new : Seen) : Type 0 where
  pub store : Store
  pub shows : Shows (reads_of old.disks) store
  pub text : List ℕ
  pub told : new.told ≡ old.told ++ text
  pub is_prefix : IsPrefixOf text (output_of store words old.left)
  pub unread : takes_input words ≡ false → IsUnread old new
  pub read_fault : stop ≡ ReadFault → (new.taken - old.taken ≤ most) × (new.told ≡ old.told ++ so_far_at (at_first store words) (take (new.taken - old.taken) old.left))
  pub too_long : stop ≡ TooLong → (most < length old.left) × (most < new.taken - old.taken)
      × (new.told ≡ old.told ++ so_far_at (at_first store words) (take most old.left))
      × (division_at (at_first store words) (take most old.left) ≡ over → ⊥)
  pub punctual : IsPunctual (at_first store words) old new
  pub safe : IsCrashSafe store (commands_of words old.left) old new
  pub written : IsWritten store (commands_of words old.left) old new
  pub untouched : WritesForChanges store (commands_of words old.left) old new
  pub here : IsSafe (at_start store) (commands_of words old.left) old.told (moment_of new)
  pub exact : IsBetween stop → Leaves (ShowsState (at_start store) (commands_of words old.left) (acknowledged_count (at_start store) (commands_of words old.left) (length text))) new.disks

-- the store was not opened: nothing was taken or told. Where the sides as read show a store, the crash clause holds for it
pub record Unopened (words : List (List ℕ)) (old new : Seen) : Type 0 where
  pub opening : Opening old new
  pub told : new.told ≡ old.told
  pub left : new.left ≡ old.left
  pub asks : new.asks ≡ old.asks
  pub safe : (store : Store) → Shows (reads_of old.disks) store → IsCrashSafe store (commands_of words old.left) old new
  pub written : Works (WritesOnlyBlank old.disks) old new
  pub untouched : (AreBlank old.disks → ⊥) → IsUntouched old new

-- what a run with these words and this bound did, by the status that it answers; words of the grammar are no wrong usage
abbrev pub Ran : List (List ℕ) → ℕ → Status → Seen → Seen → Type 0
Ran words most status.Done = RunEnded words most false
Ran words most status.Refused = RunEnded words most true
Ran words most status.Usage = λ old new. ⊥
Ran words most status.ReadFault = RunStopped words most ReadFault
Ran words most status.TellFault = RunStopped words most TellFault
Ran words most status.DiskFault = λ old new. Unopened words old new ⊎ RunStopped words most DiskFault old new
Ran words most (status.BadStore bad) = λ old new. Unopened words old new × FindsBad bad old new
Ran words most status.Memory = λ old new. Stays old new ⊎ (Unopened words old new × IsSettled old new) ⊎ RunStopped words most Memory old new
Ran words most status.TooLong = RunStopped words most TooLong

-- a run with these words and this bound ended with this status: the cause of it, and what the run did
pub record EndsAs (words : List (List ℕ)) (most : ℕ) (seen after : Option Seen) (faults risen : Faults) (ended : Status) : Type 0 where
  pub causes : Causes ended faults risen
  pub usage : ended ≡ status.Usage → command_words words ≡ None
  pub unread : command_words words ≡ None → (ended ≡ status.Usage) ⊎ (ended ≡ status.Memory)
  pub ran : (command : List (List ℕ)) → command_words words ≡ Some command → Honestly seen after (Ran command most ended)
