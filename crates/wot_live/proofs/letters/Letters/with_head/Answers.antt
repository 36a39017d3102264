use Rattle.std.proofs.Common.{cond, sym, ap, ◌∙◌}
use Rattle.wot_types.specs.Expiry.{user_is_live}
use Rattle.wot_types.specs.Letters.{better, user_letter}
use Rattle.wot_types.specs.Levels.{rows_of}
use Rattle.wot_live.proofs.letters.Letters.with_head.Goals as goal

pub returns-then-is_live_user : goal.returns-then-is_live_user
returns-then-is_live_user c = λ k spot told key head at.
    let s = c.args.self.now.state in
    let best = c.args.best in
    let letter = user_letter s (rows_of s) k.0 k.1 spot in
    c.better.ensures ∙ ap (λ l. better l best) (c.letter_on.ensures k spot told key head at)
    ∙ ap (λ b. cond b (better letter best) best) (sym c.if-is_live_user.true ∙ c.is_live_user.ensures k.1 spot key head ∙ ap (λ d. user_is_live d k.1 spot.user) c.date.ensures)

pub returns-else-is_live_user : goal.returns-else-is_live_user
returns-else-is_live_user c = λ k spot told key head at.
    let s = c.args.self.now.state in
    let best = c.args.best in
    let letter = user_letter s (rows_of s) k.0 k.1 spot in
    ap (λ b. cond b (better letter best) best) (sym c.if-is_live_user.false ∙ c.is_live_user.ensures k.1 spot key head ∙ ap (λ d. user_is_live d k.1 spot.user) c.date.ensures)
