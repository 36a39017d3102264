use Rattle.std.proofs.Common.{rules, ◌≡◌, true, length, sym, ap, ◌∙◌}
use Rattle.std.proofs.lemmas.List.{take_at}
use Rattle.wot_regex.specs.Knowing.{found_at}
use Rattle.wot_regex.specs.Reaching.{exits}
use Rattle.wot_regex.proofs.Followings.{same_marks}
use Rattle.wot_regex.proofs.followers.ends.Goals as goal

pub returns : goal.returns
returns c = λ cells same holds.
    let whole : length c.mark.new.cells ≡ length c.args.nodes.now = search rules in
    c.exits.ensures
    ∙ ap (λ r. exits r true) c.reach_at.ensures
    ∙ ap (found_at c.args.nodes.now c.args.start true)
    (take_at c.mark.new.cells _ (length c.args.nodes.now) whole ∙ same_marks c.args.marks.now.words c.mark.new.cells cells (whole ∙ sym same) c.mark.ensures holds)
