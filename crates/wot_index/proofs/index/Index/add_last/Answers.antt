use Rattle.std.proofs.Common.{◌||◌, true, false, drop, ap, ◌∙◌}
use Rattle.wot_index.specs.Indexed.{every_other, has, has_pair}
use Rattle.wot_index.proofs.Pairs.{window_added}
use Rattle.wot_index.proofs.index.Index.add_last.Goals as goal

pub returns-then-rest-capacity-clause-added : goal.returns-then-rest-capacity-clause-added
returns-then-rest-capacity-clause-added c = λ n id.
    let pairs = c.args.left.now.items in
    let rest = c.saturating_sub-rest.result in
    let last = c.split_at.ensures.back ∙ ap (drop rest) c.as_slice.ensures.value in
    let one = c.in_ok-add_every_other.ensures n id ∙ ap (λ ps. has c.args.self.now n id || has_pair n id (every_other true ps)) last in
    let two = c.in_ok-add_every_other-2.ensures n id ∙ ap (λ ps. has c.add_every_other.new.self n id || has_pair n id (every_other false ps)) last in
    ap (λ ps. has c.add_every_other-2.new.self n id || has_pair n id ps) (c.shrink_to_fit.ensures.items ∙ c.truncate.ensures.items)
    ∙ window_added n id _ _ _ pairs rest one two

pub returns-else-rest-capacity-clause-added : goal.returns-else-rest-capacity-clause-added
returns-else-rest-capacity-clause-added c = λ n id.
    let pairs = c.args.left.now.items in
    let rest = c.saturating_sub-rest.result in
    let last = c.split_at.ensures.back ∙ ap (drop rest) c.as_slice.ensures.value in
    let one = c.in_ok-add_every_other.ensures n id ∙ ap (λ ps. has c.args.self.now n id || has_pair n id (every_other true ps)) last in
    let two = c.in_ok-add_every_other-2.ensures n id ∙ ap (λ ps. has c.add_every_other.new.self n id || has_pair n id (every_other false ps)) last in
    ap (λ ps. has c.add_every_other-2.new.self n id || has_pair n id ps) c.truncate.ensures.items
    ∙ window_added n id _ _ _ pairs rest one two
