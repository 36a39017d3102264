use Rattle.std.proofs.Common.{◌+◌, ◌||◌, ◌∷◌, true, false, not, drop, sym, ap, ◌∙◌}
use Rattle.std.specs.BTreeSet as set
use Rattle.std.proofs.lemmas.List.{drop_more}
use Rattle.wot_index.specs.Indexed.{every_other, has, has_pair, pair_cmp}
use Rattle.wot_index.proofs.Pairs.{added}
use Rattle.wot_index.proofs.index.Index.add_every_other.Goals as goal
use Rattle.wot_index.proofs.index.Index.add_every_other.Goals.{then-taken+in_ok-insert, else-taken}

pub loop-pair-preserved : goal.loop-pair-preserved
loop-pair-preserved c = λ n id.
    let pairs = c.args.pairs.now in
    let i = c.loop-pair.pair-index in
    let pair = c.pair-item.result in
    let rest = drop (i + 1) pairs in
    let old = c.loop-pair.self in
    let here = ap (λ p. p ∷ rest) c.pair-item.is ∙ sym (drop_more pairs i pair c.loop-pair-test.true) in
    elim c.if-taken.branch [
      | then-taken+in_ok-insert w ↦
          ap (λ s. has s n id || has_pair n id (every_other (not c.loop-pair.taken) rest)) w.self-is
          ∙ ap (λ t. set.contains pair_cmp w.insert.new.self (n, id) || has_pair n id (every_other (not t) rest)) w.if-taken.true
          ∙ ap (λ b. b || has_pair n id (every_other false rest)) (w.in_ok-insert.ensures.updates.0 (n, id))
          ∙ added pair.0 pair.1 n id (has old n id) (has_pair n id (every_other false rest))
          ∙ ap (λ ps. has old n id || has_pair n id (every_other true ps)) here
          ∙ ap (λ t. has old n id || has_pair n id (every_other t (drop i pairs))) (sym w.if-taken.true)
          ∙ c.loop-pair.invariant n id
      | else-taken w ↦
          ap (λ s. has s n id || has_pair n id (every_other (not c.loop-pair.taken) rest)) w.self-is
          ∙ ap (λ t. has old n id || has_pair n id (every_other (not t) rest)) w.if-taken.false
          ∙ ap (λ ps. has old n id || has_pair n id (every_other false ps)) here
          ∙ ap (λ t. has old n id || has_pair n id (every_other t (drop i pairs))) (sym w.if-taken.false)
          ∙ c.loop-pair.invariant n id
    ]
