use Rattle.std.proofs.Common.{◌≡◌, ◌≤◌, ◌+◌, ◌++◌, drop, length, map, sum_by}
use Rattle.wot_types.specs.Keyring.{key_certs}
use Rattle.wot_types.specs.Selection.{Spot, spots_from}
use Rattle.wot_live.specs.Counts.{key_counts, spot_count}
use Rattle.wot_live.proofs.count_key.counts_in.Given as goal

abbrev pub invariant-loop-user : goal.invariant-loop-user
invariant-loop-user g l = record {
  counts : l.counts ++ map (spot_count l.state l.rows) (drop l.user (spots_from 0 l.keyblock.1.users)) ≡ key_counts l.state l.rows l.keyblock.1;
  ticks : l.steps + sum_by (λ (s : Spot). length s.certs) (drop l.user (spots_from 0 l.keyblock.1.users)) ≤ l.initial.steps + key_certs l.keyblock.1;
}
