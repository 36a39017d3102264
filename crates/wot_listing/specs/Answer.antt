-- Answers of the reader's parts: the first check that fails, or a value.
use Rattle.std.specs.Prelude.{◌≡◌, Option, Some, None, Result, Ok, Err}
use Rattle.wot_types.specs.declared.fault.ListingWhat.{ListingWhat}
use Rattle.wot_types.specs.declared.fault.ListingWhat.TheVariants as what
use Rattle.wot_fields.specs.declared.unquoting.QuoteError.{QuoteError}
use Rattle.wot_fields.specs.declared.unquoting.QuoteError.TheVariants as quote_error
use Rattle.wot_listing.specs.declared.error.LineError.{LineError}
use Rattle.wot_listing.specs.declared.error.LineError.TheVariants.{Failed, Memory}

-- the check that fails, or where none does a value of which this holds; or want of memory
abbrev pub Answers : {X : Type 0} → Result X LineError → Option ListingWhat → (X → Type 0) → Type 0
Answers (Ok x) failing P = (failing ≡ None) × P x
Answers (Err (Failed what)) failing P = failing ≡ Some what
Answers (Err Memory) failing P = Unit {0}

-- a field's value, or this check that fails
abbrev pub Gives : {X : Type 0} → Result X LineError → Option X → ListingWhat → Type 0
Gives (Ok x) value what = value ≡ Some x
Gives (Err e) value what = (value ≡ None) × (e ≡ Failed what)

-- the same of a value that takes memory
abbrev pub Makes : {X : Type 0} → Result X LineError → Option X → ListingWhat → Type 0
Makes (Ok x) value what = value ≡ Some x
Makes (Err (Failed failed)) value what = (value ≡ None) × (failed ≡ what)
Makes (Err Memory) value what = Unit {0}

-- what a bad quote is to the line
abbrev pub quote_failed : QuoteError → LineError
quote_failed quote_error.BadQuote = Failed what.BadQuote
quote_failed quote_error.Memory = Memory
