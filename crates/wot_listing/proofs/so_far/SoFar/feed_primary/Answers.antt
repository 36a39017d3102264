use Rattle.std.proofs.Common.{sym, ◌∙◌}
use Rattle.std.proofs.lemmas.Result.{err_from_is_err_and}
use Rattle.wot_listing.proofs.LineLemmas.{primary_fails, repeated_key_fails}
use Rattle.wot_listing.proofs.so_far.SoFar.feed_primary.Goals as goal

pub returns-in_err-primary : goal.returns-in_err-primary
returns-in_err-primary c =
    let p = err_from_is_err_and c.from_residual-in_err-primary.result c.from_residual-in_err-primary.ensures.1 in
    rw (p.1, p.2) (primary_fails c.args.self.now c.args.line.now c.in_err-primary.field-0.0 _ _ c.in_ok-end_block.ensures.0 c.in_err-primary.ensures)

pub returns-then-contains : goal.returns-then-contains
returns-then-contains c =
    repeated_key_fails c.args.self.now c.end_block.new.self c.args.line.now c.in_ok-primary.primary c.in_ok-end_block.ensures.0 c.in_ok-end_block.ensures.1 c.in_ok-primary.ensures.0 c.in_ok-primary.ensures.1 (sym c.contains.ensures ∙ c.if-contains.true)
