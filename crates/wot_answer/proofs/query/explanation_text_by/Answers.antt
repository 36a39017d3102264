use Rattle.std.proofs.Common.{◌≡◌, ◌+◌, ◌-◌, sym, ap, arith}
use Rattle.std.specs.Prelude.{unwrap_or}
use Rattle.wot_types.specs.declared.letter.Letter.TheVariants.{Dash}
use Rattle.wot_types.specs.CutState.{cut}
use Rattle.wot_types.specs.Explanation.{explanation}
use Rattle.wot_types.specs.Letters.{letter_at}
use Rattle.wot_answer.proofs.query.explanation_text_by.Goals as goal

pub returns : goal.returns
returns g c =
    let s = c.args.engine.now in
    let id = c.args.id in
    let user = c.args.place - 1 in
    let recounted = sym (ap (λ o. unwrap_or o Dash) {x = letter_at (cut s (explanation s id user) id) id user} c.in_ok-letter.ensures) in
    let at : c.args.place ≡ user + 1 = omega (arith, c.requires.from_one) in
    c.why.ensures.explained s user at c.in_ok-found.ensures.explains recounted
