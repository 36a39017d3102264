use Rattle.std.proofs.Common.{◌≡◌, ℕ, length}
use Rattle.std.specs.Option.{option_copied}
use Rattle.wot_types.specs.Arrangement.{IsRising}
use Rattle.wot_types.specs.Selection.{usable}
use Rattle.wot_select.specs.Run.{IsBy}
use Rattle.wot_select.proofs.deciding.usable.Given as goal

-- those behind are disregarded
abbrev pub invariant-loop-placed : goal.invariant-loop-placed
invariant-loop-placed l = record {
  rising : IsRising l.rest;
  by : (id : ℕ) → IsBy id l.fn.run → IsBy id l.rest;
  same : (id : ℕ) → usable l.now l.level (option_copied l.issuer) id l.rest ≡ usable l.now l.level (option_copied l.issuer) id l.fn.run;
}

abbrev pub decreases-loop-placed : goal.decreases-loop-placed
decreases-loop-placed l = length l.rest
