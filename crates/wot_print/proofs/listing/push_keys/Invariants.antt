use Rattle.std.proofs.Common.{◌≡◌, ◌≤◌, ℕ, List, ◌++◌, All, IsTrue, Some}
use Rattle.std.specs.FinMap as map
use Rattle.std.specs.List.{flat_map}
use Rattle.wot_types.specs.declared.key.Key.{Key}
use Rattle.wot_types.specs.Accepted.{IsFiled}
use Rattle.wot_types.specs.Keyring.{key_certs}
use Rattle.wot_types.specs.Levels.{rows_of}
use Rattle.wot_types.specs.Printing.{key_lines}
use Rattle.wot_live.proofs.KeyWalks.{IsRisingFrom}
use Rattle.wot_print_laws.specs.Fits.{FitsKey}
use Rattle.wot_print.proofs.listing.push_keys.Given as goal

-- the lines of the keys so far were added
abbrev pub invariant-loop-keyblock : goal.invariant-loop-keyblock
invariant-loop-keyblock g l = record {
  state : l.walk.state ≡ l.engine;
  trusts : l.trusts.trusts ≡ l.engine.trusts;
  beside : l.trusts.from ≡ l.walk.from;
  rising : IsRisingFrom l.walk.from l.keyblock-iterator;
  found : All (λ (e : ℕ × Key). map.get l.engine.keys e.0 ≡ Some e.1) l.keyblock-iterator;
  filed : All IsFiled l.keyblock-iterator;
  room : IsTrue l.initial.sheet.sigs → All (λ (e : ℕ × Key). key_certs e.1 ≤ l.sheet.order.most) l.keyblock-iterator;
  sigs : l.sheet.sigs ≡ l.initial.sheet.sigs;
  same : g.W.Sink.name l.text ≡ g.W.Sink.name l.initial.text;
  lines : (done : List ℕ)
      × (done ++ flat_map (key_lines l.engine (rows_of l.engine) l.initial.sheet.sigs) l.keyblock-iterator ≡ flat_map (key_lines l.engine (rows_of l.engine) l.initial.sheet.sigs) (map.entries l.engine.keys))
      × g.W.Sink.adds l.initial.text done l.text;
  fits : IsTrue l.initial.sheet.sigs → All (λ (e : ℕ × Key). FitsKey e.1) l.keyblock-iterator → All (λ (e : ℕ × Key). FitsKey e.1) (map.entries l.engine.keys);
}
