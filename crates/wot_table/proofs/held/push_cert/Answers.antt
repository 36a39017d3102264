use Rattle.std.proofs.Common.{OnOk, sym, subst}
use Rattle.wot_table.specs.Headings.{AreInRange}
use Rattle.wot_table.proofs.held.push_cert.Goals as goal

pub returns-in-Expiry-clause-in_range : goal.returns-in-Expiry-clause-in_range
returns-in-Expiry-clause-in_range c = subst (λ heading. OnOk c.push_date.result (AreInRange heading c.args.to.now.items → AreInRange heading c.push_date.new.to.items)) (sym c.in-Expiry.is) c.push_date.ensures.in_range
