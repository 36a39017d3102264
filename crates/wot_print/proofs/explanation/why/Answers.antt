use Rattle.std.proofs.Common.{rules, ◌≡◌, ℕ, List, IfOk, subst, ◌∙◌}
use Rattle.wot_print.specs.ToldText.{told_text}
use Rattle.wot_print.proofs.Explaining.{why_is}
use Rattle.wot_print.proofs.explanation.why.Goals as goal

pub returns-clause-lines : goal.returns-clause-lines
returns-clause-lines c = λ user at.
    let first = c.in_ok-push_why.ensures user at in
    let told : c.push_cut.new.text ≡ told_text c.args.id user c.args.why.now c.args.cut = search rules in
    subst (λ (l : List ℕ). IfOk c.into_vec.result (λ text. text.items ≡ l)) told c.into_vec.ensures

pub returns-clause-explained : goal.returns-clause-explained
returns-clause-explained c = λ s user at explains is.
    let first = c.in_ok-push_why.ensures user at in
    let told : c.push_cut.new.text ≡ told_text c.args.id user c.args.why.now c.args.cut = search rules in
    subst (λ (l : List ℕ). IfOk c.into_vec.result (λ text. text.items ≡ l)) (told ∙ why_is s c.args.id user c.args.why.now c.args.cut explains is) c.into_vec.ensures
