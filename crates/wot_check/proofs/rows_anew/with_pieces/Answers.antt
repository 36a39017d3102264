use Rattle.std.proofs.Common.{◌≡◌, IfOk, length, rules, subst, sym, vec_len, ◌∙◌}
use Rattle.std.specs.Fork.{slice_chunk}
use Rattle.wot_check.proofs.Backwards.{none_left, piece_put}
use Rattle.wot_check.proofs.rows_anew.with_pieces.Goals as goal

pub loop-piece-preserved : goal.loop-piece-preserved
loop-piece-preserved c = λ make size ids by spread some.
    let left = c.pop.new.self.items in
    let all = c.loop-piece.left.items in
    piece_put make size ids spread some c.args.rows left all c.in-Some.piece c.in_ok-found.found c.loop-piece.rows c.in_ok-rows.rows c.in-Some.ensures.items
    (λ is. subst (λ p. IfOk p (λ f. f ≡ make (slice_chunk ids size (length left)))) c.in_ok-found.was is) c.in_ok-rows.ensures (c.loop-piece.invariant make size ids by spread some)

pub returns : goal.returns
returns c = λ make size ids by spread some.
    let none = c.in_default.ensures.cases.0 in
    let long : vec_len c.loop-piece.left ≡ length c.loop-piece.left.items = search rules in
    none_left make size ids spread some c.args.rows c.loop-piece.left.items c.loop-piece.rows (sym long ∙ none) (c.loop-piece.invariant make size ids by spread some)
