use Rattle.std.proofs.Common.{sym, ◌∙◌}
use Rattle.std.specs.FinMap as finmap
use Rattle.wot_types.specs.Indexes.{has_cert_by}
use Rattle.wot_table.proofs.Searches.{first_found, none_at_start, none_found, none_more, signed_is_there}
use Rattle.wot_table.proofs.table.Table.find_signed.Goals as goal

pub loop-id-init : goal.loop-id-init
loop-id-init c = none_at_start (has_cert_by c.args.self.now c.args.issuer) c.args.after

pub loop-id-preserved : goal.loop-id-preserved
loop-id-preserved c =
    let keys = c.args.self.now in
    let n = c.args.issuer in
    none_more (finmap.contains_key keys) (has_cert_by keys n) (signed_is_there keys n) c.args.after c.loop-id.last c.loop-id.invariant c.in-Some.id c.in-Some.ensures (sym c.is_signed.ensures ∙ c.if-is_signed.false)

pub returns-then-is_signed : goal.returns-then-is_signed
returns-then-is_signed c =
    let keys = c.args.self.now in
    let n = c.args.issuer in
    first_found (finmap.contains_key keys) (has_cert_by keys n) (signed_is_there keys n) c.args.after c.loop-id.last c.loop-id.invariant c.in-Some.id c.in-Some.ensures (sym c.is_signed.ensures ∙ c.if-is_signed.true)

pub returns : goal.returns
returns c =
    let keys = c.args.self.now in
    let n = c.args.issuer in
    none_found (finmap.contains_key keys) (has_cert_by keys n) (signed_is_there keys n) c.args.after c.loop-id.last c.loop-id.invariant c.in_default.ensures
