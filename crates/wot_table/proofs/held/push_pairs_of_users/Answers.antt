use Rattle.std.proofs.Common.{◌==◌, refl}
use Rattle.wot_index.specs.Indexed.{has_pair}
use Rattle.wot_table.specs.Headings.{user_under, users_under}
use Rattle.wot_table.proofs.Filed.{none_left, one_filed}
use Rattle.wot_table.proofs.held.push_pairs_of_users.Goals as goal

pub loop-user-init : goal.loop-user-init
loop-user-init c = record {
  added = λ n k. refl;
  in_range = λ before. before;
}

pub loop-user-preserved : goal.loop-user-preserved
loop-user-preserved c = record {
  added = λ n k.
      one_filed (users_under c.args.heading n) c.args.users.now c.loop-user.user-index _ (k == c.args.id) _ c.user-item.result (user_under c.args.heading n c.user-item.result.user) _ c.loop-user-test.true c.user-item.is
      refl (c.in_ok-push_pairs.ensures.added n k) (c.loop-user.invariant.added n k);
  in_range = λ before. c.in_ok-push_pairs.ensures.in_range (c.loop-user.invariant.in_range before);
}

pub returns-clause-added : goal.returns-clause-added
returns-clause-added c = λ n k.
    none_left (users_under c.args.heading n) c.args.users.now c.loop-user.user-index (has_pair n k c.loop-user.to.items) (k == c.args.id) _ c.loop-user-test.false refl (c.loop-user.invariant.added n k)

pub returns-clause-in_range : goal.returns-clause-in_range
returns-clause-in_range c = c.loop-user.invariant.in_range
