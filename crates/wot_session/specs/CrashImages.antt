-- What a crash leaves at a moment of a session.
use Rattle.std.specs.Prelude.{ℕ, ◌≡◌, ◌⊎◌, ◌+◌, ◌≤◌, List, [], ◌∷◌, ◌++◌, length, Some, slice_get}
use Rattle.wot_types.specs.Store.{Store}
use Rattle.wot_types.specs.Commands.{Command}
use Rattle.wot_types.specs.Session.{Progress, acknowledged_count, after_command, after_all, replies, reply_to, states}
use Rattle.wot_site.specs.Disk.{Disks, Image, Leaves}
use Rattle.wot_site.specs.Seen.{Moment, Seen}
use Rattle.wot_store.specs.Shows.{Shows}
use Rattle.wot_tell.specs.Telling.{IsPrefixOf}
use Rattle.wot_session.specs.OpenStore.{IsOpen}

-- whatever a crash leaves of the sides shows this store
abbrev pub AllShow : Store → Disks → Type 0
AllShow store disks = Leaves (λ image. Shows image store) disks

-- or the one store or the other
abbrev pub AllShowEither : Store → Store → Disks → Type 0
AllShowEither s t disks = Leaves (λ image. Shows image s ⊎ Shows image t) disks

-- a command that leads from the one store to the other is being answered: a prefix of its reply was told after this text,
-- and a byte of it only where every image shows the other store
pub record IsAround (s t : Store) (reply before : List ℕ) (m : Moment) : Type 0 where
  pub prefix : List ℕ
  pub is_prefix : IsPrefixOf prefix reply
  pub told : m.told ≡ before ++ prefix
  pub either : AllShowEither s t m.disks
  pub answered : AllShow t m.disks ⊎ (prefix ≡ [])

-- some of these commands were answered after this text, and perhaps the next is being answered
abbrev pub Kept : Progress → List Command → List ℕ → Moment → Type 0
Kept p [] told m = (m.told ≡ told) × AllShow p.store m.disks
Kept p (command ∷ commands) told m =
    IsAround p.store (after_command p command).store (reply_to p command) told m ⊎ Kept (after_command p command) commands (told ++ reply_to p command) m

-- some of these commands were answered wholly, and nothing was done for the others
pub record IsWhole (p : Progress) (commands : List Command) (before : List ℕ) (new : Seen) : Type 0 where
  pub done : List Command
  pub rest : List Command
  pub split : done ++ rest ≡ commands
  pub told : new.told ≡ before ++ replies p done
  pub stored : IsOpen (after_all p done).store new.disks

-- the sides show the state after this many accepted edits
pub record ShowsState (p : Progress) (commands : List Command) (j : ℕ) (image : Image) : Type 0 where
  pub store : Store
  pub shows : Shows image store
  pub is : slice_get (states p commands) j ≡ Some store.state

-- the same, of all edits whose reply is whole in the first n bytes and of at most one more
pub record ShowsPrefix (p : Progress) (commands : List Command) (n : ℕ) (image : Image) : Type 0 where
  pub j : ℕ
  pub least : acknowledged_count p commands n ≤ j
  pub most : j ≤ acknowledged_count p commands n + 1
  pub shows : ShowsState p commands j image

-- a prefix of the replies was told after this text, and whatever a crash leaves shows the first edits:
-- every one that was acknowledged, and at most one more
pub record IsSafe (p : Progress) (commands : List Command) (before : List ℕ) (m : Moment) : Type 0 where
  pub text : List ℕ
  pub is_prefix : IsPrefixOf text (replies p commands)
  pub told : m.told ≡ before ++ text
  pub images : Leaves (ShowsPrefix p commands (length text)) m.disks
