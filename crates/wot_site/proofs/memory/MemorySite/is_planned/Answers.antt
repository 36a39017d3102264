use Rattle.std.proofs.Common.{◌∙◌, ap, refl}
use Rattle.wot_site.specs.Calls.{one_more}
use Rattle.wot_site.specs.MemorySite.{plan_of}
use Rattle.wot_site.proofs.Plans.{planned}
use Rattle.wot_site.proofs.memory.MemorySite.is_planned.Goals as goal

pub returns : goal.returns
returns c = planned c.has_call.result (plan_of c.args.self.now) (plan_of c.args.self.now) c.args.kind _ _ refl (c.saturating_add.ensures ∙ ap one_more c.of.ensures) c.has_call.ensures
