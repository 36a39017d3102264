use Rattle.std.proofs.Common.{◌≡◌, ℕ, List, ◌++◌, All, IsTrue, drop}
use Rattle.std.specs.List.{flat_map}
use Rattle.wot_types.specs.Levels.{rows_of}
use Rattle.wot_types.specs.Printing.{user_lines}
use Rattle.wot_types.specs.Selection.{Spot, spots_from}
use Rattle.wot_print_laws.specs.Fits.{FitsUser}
use Rattle.wot_print.proofs.listing.push_users.Given as goal

-- the lines of the user IDs so far were added
abbrev pub invariant-loop-user : goal.invariant-loop-user
invariant-loop-user g l = record {
  same : g.W.Sink.name l.text ≡ g.W.Sink.name l.initial.text;
  lines : (done : List ℕ)
      × (done ++ flat_map (user_lines l.letters.state (rows_of l.letters.state) l.initial.sheet.sigs l.keyblock.0 l.keyblock.1) (drop l.user (spots_from 0 l.keyblock.1.users))
      ≡ flat_map (user_lines l.letters.state (rows_of l.letters.state) l.initial.sheet.sigs l.keyblock.0 l.keyblock.1) (spots_from 0 l.keyblock.1.users))
      × g.W.Sink.adds l.initial.text done l.text;
  fits : IsTrue l.initial.sheet.sigs → All (λ (spot : Spot). FitsUser spot.user) (drop l.user (spots_from 0 l.keyblock.1.users)) → All (λ (spot : Spot). FitsUser spot.user) (spots_from 0 l.keyblock.1.users);
  sigs : l.sheet.sigs ≡ l.initial.sheet.sigs;
  most : l.sheet.order.most ≡ l.initial.sheet.order.most;
}
