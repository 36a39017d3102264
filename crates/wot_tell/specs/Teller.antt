-- What a teller has taken since it began, and how much of it is told.
use Rattle.std.specs.Prelude.{ℕ, ◌≡◌, Bool, true, false, List, ◌++◌, Option}
use Rattle.wot_site.specs.Seen.{Faults, Honestly, Seen}
use Rattle.wot_site.specs.Site.{TellRose}
use Rattle.wot_tell.specs.Telling.{Telling, TellingPrefix}

-- a site: what it tells of itself, and how often its calls have failed
pub record Reached : Type 0 where
  pub seen : Option Seen
  pub faults : Faults

-- a teller: the site that it tells to, the bytes that it holds, and whether a call has failed
pub record Stand : Type 0 where
  pub site : Reached
  pub held : List ℕ
  pub failed : Bool

abbrev pub stand : Option Seen → Faults → Bool → List ℕ → Stand
stand seen faults failed held = record { site = record { seen = seen; faults = faults }; held = held; failed = failed }

-- all of this text was told but for the bytes at its end that are held
pub record IsToldBut (held text : List ℕ) (old new : Seen) : Type 0 where
  pub told : List ℕ
  pub is : told ++ held ≡ text
  pub telling : Telling told old new

-- this text was taken since the beginning: all but what is held was told, or a call failed after a prefix of it
pub record HasTaken (began : Reached) (stand : Stand) (text : List ℕ) : Type 0 where
  pub going : stand.failed ≡ false → Honestly began.seen stand.site.seen (IsToldBut stand.held text)
  pub quiet : stand.failed ≡ false → stand.site.faults ≡ began.faults
  pub stopped : stand.failed ≡ true → Honestly began.seen stand.site.seen (TellingPrefix text)
  pub cause : stand.failed ≡ true → TellRose began.faults stand.site.faults

-- these bytes were taken, whatever was taken before
abbrev pub Takes : Stand → List ℕ → Stand → Type 0
Takes old bytes new = (began : Reached) (text : List ℕ) → HasTaken began old text → HasTaken began new (text ++ bytes)
