use Rattle.std.proofs.lemmas.Result.{err_from_is_err_and}
use Rattle.wot_types.specs.Listing.{user_at, user_checks}
use Rattle.wot_listing.proofs.AnswerLemmas.{error_at, error_more}
use Rattle.wot_listing.proofs.UserLemmas.{block_checks, checks_left}
use Rattle.wot_listing.proofs.key_block.KeyBlock.feed_user.Goals as goal

pub returns-in_err-user : goal.returns-in_err-user
returns-in_err-user c =
    let p = err_from_is_err_and c.from_residual.result c.from_residual.ensures.1 in
    rw (p.1, p.2) (error_more c.in_err-user.field-0.0 (user_checks c.args.line.now) (block_checks c.args.self.now (user_at c.args.kind c.args.self.now.primary.revoked c.args.line.now)) _ _ c.in_err-user.ensures)

pub returns-in_err-check_user : goal.returns-in_err-check_user
returns-in_err-check_user c =
    let p = err_from_is_err_and c.from_residual-in_err-check_user.result c.from_residual-in_err-check_user.ensures.1 in
    rw (p.1, p.2) (error_at c.in_err-check_user.field-0.0 _ _ _ _ (checks_left c.args.self.now c.args.kind c.args.line.now _ c.in_ok-user.ensures.0 c.in_ok-user.ensures.1) c.in_err-check_user.ensures)
