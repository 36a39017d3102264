use Rattle.std.proofs.Common.{◌≤◌, ◌+◌}
use Rattle.wot_types.specs.Keyring.{cert_total}
use Rattle.wot_levels.proofs.Halfway.{WalksOn}
use Rattle.wot_live.proofs.AllCounts.{counts_by, left_certs}
use Rattle.wot_live.proofs.count_all.counts_by_walk.Given as goal

abbrev pub invariant-loop-keyblock : goal.invariant-loop-keyblock
invariant-loop-keyblock g l = record {
  counts : WalksOn (counts_by l.state l.rows) l.state.keys l.keyblock-iterator l.counts;
  ticks : l.steps + left_certs l.keyblock-iterator ≤ l.initial.steps + cert_total l.state.keys;
}
