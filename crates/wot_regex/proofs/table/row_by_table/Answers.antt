use Rattle.std.proofs.Common.{◌≡◌, ◌+◌, ◌*◌, ◌≤◌, ℕ, length, refl, subst, arith}
use Rattle.wot_regex.specs.Following.{IsSoFar, has}
use Rattle.wot_regex.proofs.Eights.{row_of_none, row_of_set}
use Rattle.wot_regex.proofs.table.row_by_table.Goals as goal

pub loop-i-init : goal.loop-i-init
loop-i-init c = λ f b. row_of_none c.args.nodes.now c.args.common.now.first f c.requires.rows.none (λ i lt. b.rest i lt (omega arith))

pub loop-i-preserved : goal.loop-i-preserved
loop-i-preserved c =
    let P : ℕ → Type 0 = λ k. IsSoFar c.args.nodes.now c.args.marks.now.words k c.join_word.new.row in
    let up : 8 * c.loop-i.i + 8 ≡ 8 * (c.loop-i.i + 1) = omega arith in
    subst P up (c.join_word.ensures c.loop-i.invariant)

pub returns : goal.returns
returns c = λ cells same holds.
    let nodes = c.args.nodes.now in
    let le : length nodes ≤ 64 * c.loop-i.i = omega (arith, c.requires.room) in
    row_of_set nodes c.args.marks.now.words cells c.loop-i.row same holds
    (c.loop-i.invariant (has c.args.marks.now.words) (record { first = λ i lt less. refl; rest = λ i lt more. absurd (omega (arith, le, lt, more)) }))
