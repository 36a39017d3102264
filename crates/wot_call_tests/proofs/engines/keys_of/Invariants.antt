use Rattle.std.proofs.Common.{List}
use Rattle.wot_types.specs.Listing.{Line}
use Rattle.wot_listing.specs.Reading.{HasRead}
use Rattle.wot_call_tests.proofs.engines.keys_of.Given as goal

-- the reader has read some lines
abbrev pub invariant-loop-line : goal.invariant-loop-line
invariant-loop-line l = (lines : List Line) × HasRead l.reader lines
