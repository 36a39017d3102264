-- What was told, at each moment and at the end.
use Rattle.std.specs.Prelude.{ℕ, ◌≡◌, List, ◌++◌}
use Rattle.wot_site.specs.Disk.{Disks}
use Rattle.wot_site.specs.Seen.{Moment, Seen}
use Rattle.wot_site.specs.Work.{Since}

-- some text begins with this one
abbrev pub IsPrefixOf : List ℕ → List ℕ → Type 0
IsPrefixOf prefix text = (rest : List ℕ) × (prefix ++ rest ≡ text)

-- this text was told, and nothing was taken
pub record Told (text : List ℕ) (old new : Seen) : Type 0 where
  pub told : new.told ≡ old.told ++ text
  pub left : new.left ≡ old.left
  pub taken : new.taken ≡ old.taken
  pub asks : new.asks ≡ old.asks

-- a prefix of this text was told
pub record ToldPrefix (text : List ℕ) (old new : Seen) : Type 0 where
  pub prefix : List ℕ
  pub is_prefix : IsPrefixOf prefix text
  pub told : Told prefix old new

-- a moment at which a prefix of this text was told after another, with the sides as they were
pub record IsTelling (sides : Disks) (before text : List ℕ) (m : Moment) : Type 0 where
  pub disks : m.disks ≡ sides
  pub prefix : List ℕ
  pub is_prefix : IsPrefixOf prefix text
  pub told : m.told ≡ before ++ prefix

-- this text was told, and nothing else was done
pub record Telling (text : List ℕ) (old new : Seen) : Type 0 where
  pub told : Told text old new
  pub disks : new.disks ≡ old.disks
  pub since : Since (IsTelling old.disks old.told text) old new

-- a prefix of it was told
pub record TellingPrefix (text : List ℕ) (old new : Seen) : Type 0 where
  pub prefix : List ℕ
  pub is_prefix : IsPrefixOf prefix text
  pub telling : Telling prefix old new
