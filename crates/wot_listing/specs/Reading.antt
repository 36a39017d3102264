-- What the reader is after these lines, and what it answers at their end.
use Rattle.std.specs.Prelude.{◌≡◌, ◌⊎◌, ℕ, List, Option, Some, None, Result, Ok, Err}
use Rattle.wot_types.specs.declared.fault.ListingFault.{ListingFault}
use Rattle.wot_types.specs.Listing.{Line, Spells, fault, fault_at_end}
use Rattle.wot_listing.specs.declared.blocks.Blocks.{Blocks}
use Rattle.wot_listing.specs.declared.error.LineError.{LineError}
use Rattle.wot_listing.specs.declared.error.LineError.TheVariants as line_error
use Rattle.wot_listing.specs.declared.error.ListingError.{ListingError}
use Rattle.wot_listing.specs.declared.error.ListingError.TheVariants.{Fault, Memory}
use Rattle.wot_listing.specs.declared.so_far.SoFar.{SoFar}
use Rattle.wot_listing.specs.Machine.{progress_of}

abbrev pub unless_fault : Option ListingFault → SoFar → Result SoFar ListingError
unless_fault None s = Ok s
unless_fault (Some f) s = Err (Fault f)

-- after these lines a reader is this: what is kept of them, or their first fault
unfoldable pub reading_of : List Line → Result SoFar ListingError
reading_of lines = unless_fault (fault lines) (progress_of lines)

-- the reader has read these lines, or is out of memory
abbrev pub HasRead : Result SoFar ListingError → List Line → Type 0
HasRead reader lines = (reader ≡ reading_of lines) ⊎ (reader ≡ Err Memory)

-- what stops the reader, if anything does
abbrev pub answer_of : Result SoFar ListingError → Result (Unit {0}) ListingError
answer_of (Ok s) = Ok tt
answer_of (Err e) = Err e

-- at the end: what the lines spell, or their first fault
abbrev pub Finishes : List Line → Result Blocks ListingError → Type 0
Finishes lines (Ok blocks) = Spells lines blocks.keys blocks.kept blocks.passed
Finishes lines (Err (Fault f)) = fault_at_end lines ≡ Some f
Finishes lines (Err Memory) = Unit {0}

-- what an error in the line of this number is to the listing
abbrev pub stop_of : ℕ → LineError → ListingError
stop_of number (line_error.Failed what) = Fault (record { line = number; what = what })
stop_of number line_error.Memory = Memory
