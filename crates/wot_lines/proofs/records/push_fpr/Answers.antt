use Rattle.std.proofs.Common.{rules, ℕ, List, subst}
use Rattle.wot_lines.proofs.records.push_fpr.Goals as goal

pub returns-clause-adds : goal.returns-clause-adds
returns-clause-adds g c =
    let both = g.met.W.Sink.both in
    subst (λ (line : List ℕ). g.W.Sink.adds c.args.text.now line c.push.new.self) (search rules)
    (both _ _ _ _ _ c.in_ok-push_bytes.ensures.adds (both _ _ _ _ _ c.in_ok-push_fpr_field.ensures.adds c.in_ok-push.ensures.adds))
