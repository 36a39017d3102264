-- What the commands of a run write to the sides.
use Rattle.std.specs.Prelude.{ℕ, ◌≡◌, ◌≢◌, ◌⊎◌, ◌+◌, Bool, true, false, List, [], ◌∷◌, ◌++◌, All, if◌then◌else◌}
use Rattle.wot_types.specs.Commands.{Command}
use Rattle.wot_types.specs.Compaction.{last_epoch}
use Rattle.wot_types.specs.Outcome.{edited_store, outcome}
use Rattle.wot_types.specs.Session.{Progress, after_command, reply_to}
use Rattle.wot_types.specs.Store.{Change, Store}
use Rattle.wot_types.specs.Store.Change.{keeps, makes, compacts}
use Rattle.wot_site.specs.Disk.{Disks}
use Rattle.wot_site.specs.Seen.{Moment, Seen}
use Rattle.wot_site.specs.Work.{Quiet}
use Rattle.wot_site.specs.declared.side.Side.{Side}
use Rattle.wot_store.specs.Written.{IsShownSide, Spares, WritesBetween}
use Rattle.wot_tell.specs.Telling.{IsPrefixOf}

-- of these sides the shown one alone was written, and from the end of the one store's journal to the end of the other's alone, with its closed gate
pub record WritesRecord (s t : Store) (d e : Disks) : Type 0 where
  pub side : Side
  pub shown : IsShownSide side d
  pub between : WritesBetween side s.end (t.end + 1) d e

-- of these sides the one that isn't shown was written, and the shown one was not
pub record WritesOther (d e : Disks) : Type 0 where
  pub side : Side
  pub shown : IsShownSide side d
  pub spared : Spares side d e

-- what a command with this change may have written by some moment: an accepted edit its record with the closed gate behind it, and `compact`
-- the other side, but in the last epoch nothing
abbrev pub WritesFor : Store → Change → Disks → Disks → Type 0
WritesFor s keeps d e = e ≡ d
WritesFor s (makes edit) d e = (e ≡ d) ⊎ WritesRecord s (edited_store s edit) d e
WritesFor s compacts d e = (e ≡ d) ⊎ ((s.epoch ≢ last_epoch) × WritesOther d e)

-- what may have been written on the way from the one store to the other: nothing where they are the same, the other side where the epoch
-- is another, and else a record
pub record WritesTo (s t : Store) (d e : Disks) : Type 0 where
  pub still : t ≡ s → e ≡ d
  pub some : (e ≡ d) ⊎ (((t.epoch ≡ s.epoch) × WritesRecord s t d e) ⊎ ((t.epoch ≢ s.epoch) × WritesOther d e))

-- a moment of a command's answer, where this text was told before it: up to the first byte of its reply the sides are such,
-- and from that byte on they are the ones that it leaves
pub record IsAnswered (P : Disks → Type 0) (reply before : List ℕ) (left : Disks) (m : Moment) : Type 0 where
  pub prefix : List ℕ
  pub is_prefix : IsPrefixOf prefix reply
  pub told : m.told ≡ before ++ prefix
  pub sides : (m.disks ≡ left) ⊎ ((prefix ≡ []) × P m.disks)

-- at these moments these commands were answered after this text, one after the other, and led the sides from the ones to the others:
-- each command wrote what its change may write, over the sides that the one before it left
abbrev pub Trail : Progress → List Command → List ℕ → Disks → List Moment → Disks → Type 0
Trail p [] told d moments e = (e ≡ d) × All (Quiet (λ disks. disks ≡ d) told) moments
Trail p (command ∷ commands) told d moments e =
    (here : List Moment) × (later : List Moment) × (left : Disks) × (moments ≡ here ++ later)
    × All (IsAnswered (WritesFor p.store (outcome p.store command).change d) (reply_to p command) told left) here
    × WritesFor p.store (outcome p.store command).change d left
    × Trail (after_command p command) commands (told ++ reply_to p command) left later e

-- these commands were answered so since, or the first of them, and for the others nothing was written
pub record Written (p : Progress) (commands : List Command) (old new : Seen) : Type 0 where
  pub moments : List Moment
  pub is : new.moments ≡ old.moments ++ moments
  pub trail : Trail p commands old.told old.disks moments new.disks

-- a command changes the store: it is an accepted edit or `compact`
abbrev pub is_change : Change → Bool
is_change keeps = false
is_change (makes edit) = true
is_change compacts = true

-- how many of these commands do
abbrev pub change_count : Progress → List Command → ℕ
change_count p [] = 0
change_count p (command ∷ commands) = (if is_change (outcome p.store command).change then 1 else 0) + change_count (after_command p command) commands
