use Rattle.std.proofs.Common.{sym, ap, ◌∙◌}
use Rattle.wot_marks.specs.Marks.{has_mark}
use Rattle.wot_marks.proofs.MarkLemmas.{none_without_mark}
use Rattle.wot_marks.proofs.marks.is_among_marked.Goals as goal

pub returns-then-not-contains : goal.returns-then-not-contains
returns-then-not-contains c =
    let none = ap (has_mark c.args.marks.now) (sym c.in_ok-mark.ensures) ∙ sym c.contains.ensures ∙ c.if-not-contains.true in
    sym (none_without_mark c.args.marks.now c.args.users.now c.args.user.now c.requires none)
