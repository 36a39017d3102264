-- What the notes of a site in memory tell: its record of calls, read from the start.
use Rattle.std.specs.Prelude.{ℕ, ◌≡◌, Bool, if◌then◌else◌, List, [], ◌∷◌, ◌++◌}
use Rattle.wot_site.specs.MemorySide.{Bytes, Both, at_rest, after_writing, synced_now, bytes_of, with_bytes, disks_of}
use Rattle.wot_site.specs.Seen.{Moment}
use Rattle.wot_site.specs.Site.{moments_telling}
use Rattle.wot_site.specs.declared.memory.notes.Note.{Note}
use Rattle.wot_site.specs.declared.memory.notes.Note.TheVariants.{Told, Wrote, Synced}
use Rattle.wot_site.specs.declared.memory.notes.Noted.{Noted}

-- the sides, the bytes told and the moments so far
pub record Past : Type 0 where
  pub sides : Both
  pub told : List ℕ
  pub moments : List Moment

abbrev pub past_at_start : List ℕ → List ℕ → Past
past_at_start zero one = record { sides = record { zero = at_rest zero; one = at_rest one }; told = []; moments = [] }

abbrev pub with_sides : Both → Past → Past
with_sides sides p = record p { sides = sides; moments = p.moments ++ record { disks = disks_of sides; told = p.told } ∷ [] }

-- where a run begins, what was told before it is forgotten
abbrev pub past_at_run : Bool → Past → Past
past_at_run begins p = record p { told = if begins then [] else p.told }

abbrev pub past_after : Past → Note → Past
past_after p (Told bytes) = record p { told = p.told ++ bytes.items; moments = p.moments ++ moments_telling (disks_of p.sides) p.told bytes.items }
past_after p (Wrote side at bytes) = with_sides (with_bytes side (after_writing at bytes.items (bytes_of side p.sides)) p.sides) p
past_after p (Synced side) = with_sides (with_bytes side (synced_now (bytes_of side p.sides)) p.sides) p

-- after these notes, the first of them first
abbrev pub replay : Past → List Noted → Past
replay p [] = p
replay p (noted ∷ notes) = replay (past_after (past_at_run noted.first p) noted.note) notes

-- after these notes, where a run begins behind them or not
abbrev pub past_now : Past → List Noted → Bool → Past
past_now p notes begins = past_at_run begins (replay p notes)

-- what the notes tell is what the sides and the told bytes are now
pub record IsNoted (first_zero first_one : List ℕ) (notes : List Noted) (begins : Bool) (zero one : Bytes) (text : List ℕ) : Type 0 where
  pub sides : (past_now (past_at_start first_zero first_one) notes begins).sides ≡ record { zero = zero; one = one }
  pub told : (past_now (past_at_start first_zero first_one) notes begins).told ≡ text
