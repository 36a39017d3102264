use Rattle.std.proofs.Common.{◌≡◌, ◌+◌, ◌*◌, ◌<◌, ℕ, length, subst, arith}
use Rattle.wot_regex.specs.Following.{IsSoFar}
use Rattle.wot_regex.proofs.Eights.{eight_more, in_table}
use Rattle.wot_regex.proofs.table.join_word.Goals as goal

pub loop-j-init : goal.loop-j-init
loop-j-init c = λ old.
    let P : ℕ → Type 0 = λ k. IsSoFar c.args.nodes.now c.args.marks.now.words k c.args.row.now in
    let none : 8 * c.args.i ≡ 8 * c.args.i + 0 = omega arith in
    subst P none old

pub loop-j-preserved : goal.loop-j-preserved
loop-j-preserved c = λ old.
    let nodes = c.args.nodes.now in
    let table = c.args.table.now in
    let at = 8 * c.args.i + c.loop-j.j in
    let value = c.eight.result in
    let here : at < 64 = omega (arith, c.requires.word) in
    let lt : 64 * value + at < length table = omega (arith, c.eight.ensures.below, here, c.requires.table.whole) in
    let P : ℕ → Type 0 = λ k. IsSoFar nodes c.args.marks.now.words k c.join.new.self in
    let up : at + 1 ≡ 8 * c.args.i + (c.loop-j.j + 1) = omega arith in
    subst P up
    (eight_more nodes c.args.marks.now.words at value c.loop-j.row _ c.join.new.self c.requires.room c.eight.ensures.bits (c.loop-j.invariant old) (in_table nodes table at value _ c.requires.table.each here lt) c.join.ensures.next c.join.ensures.found)

pub returns : goal.returns
returns c = λ old.
    let P : ℕ → Type 0 = λ k. IsSoFar c.args.nodes.now c.args.marks.now.words k c.loop-j.row in
    let all : 8 * c.args.i + c.loop-j.j ≡ 8 * c.args.i + 8 = omega arith in
    subst P all (c.loop-j.invariant old)
