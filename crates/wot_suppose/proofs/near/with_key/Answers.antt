use Rattle.std.proofs.Common.{◌≡◌, ◌==◌, ◌||◌, inr, ℕ, true, ap, ◌∙◌, arith}
use Rattle.std.proofs.lemmas.Bool.Decides.{nat_tests}
use Rattle.std.proofs.Math.Bool.{or-true}
use Rattle.wot_levels.specs.Frontier.{among}
use Rattle.wot_live.proofs.Lists.{among_pushed}
use Rattle.wot_suppose.proofs.NearLemmas.{with_one}
use Rattle.wot_suppose.proofs.near.with_key.Goals as goal

itself : (n : ℕ) → (n == n) ≡ true
itself n = grind (arith, nat_tests)

pub returns-clause-wider : goal.returns-clause-wider
returns-clause-wider c =
    let id = c.args.id in
    let unread = c.args.near.unread.items in
    let pushed = λ (y : ℕ). ap (λ xs. among xs y) c.in_ok-push.ensures.items ∙ among_pushed unread id y in
    with_one c.args.near _ id c.in_ok-insert.ensures.updates.0
    (λ y its. pushed y ∙ ap (λ b. b || (id == y)) its)
    (inr (pushed id ∙ ap (λ b. among unread id || b) (itself id) ∙ or-true (among unread id)))
