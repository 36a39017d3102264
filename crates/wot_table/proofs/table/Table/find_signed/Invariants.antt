use Rattle.std.proofs.Common.{◌-◌, ◌+◌, ◌^◌}
use Rattle.std.specs.Option.{option_map_or}
use Rattle.wot_types.specs.Indexes.{has_cert_by}
use Rattle.wot_table.proofs.Searches.{NoneUpTo}
use Rattle.wot_table.proofs.table.Table.find_signed.Given as goal

abbrev pub invariant-loop-id : goal.invariant-loop-id
invariant-loop-id l = NoneUpTo (has_cert_by l.self l.issuer) l.fn.after l.last

abbrev pub decreases-loop-id : goal.decreases-loop-id
decreases-loop-id l = option_map_or (λ id. 2 ^ 64 - (id + 1)) l.last (2 ^ 64)
