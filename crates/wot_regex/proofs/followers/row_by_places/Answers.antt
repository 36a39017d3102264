use Rattle.std.proofs.Common.{◌≡◌, ◌+◌, ◌*◌, ◌≤◌, ℕ, false, length, refl, subst, arith}
use Rattle.wot_regex.specs.Following.{IsRow, front}
use Rattle.wot_regex.proofs.Followings.{row_all, row_none}
use Rattle.wot_regex.proofs.followers.row_by_places.Goals as goal

pub loop-i-init : goal.loop-i-init
loop-i-init c = λ nodes cells count known same holds. row_none nodes c.args.common.now c.args.rows.now cells known same

pub loop-i-preserved : goal.loop-i-preserved
loop-i-preserved c = λ nodes cells count known same holds.
    let i = c.loop-i.i in
    let P : ℕ → Type 0 = λ k. IsRow nodes false (front k cells) c.join_word.new.self in
    let up : 64 * i + 64 ≡ 64 * (i + 1) = omega arith in
    subst P up (c.join_word.ensures nodes c.args.common.now c.args.marks.now.words cells i count known same holds refl refl (c.loop-i.invariant nodes cells count known same holds))

pub returns : goal.returns
returns c = λ nodes cells count known same holds.
    let le : length cells ≤ 64 * c.loop-i.i = omega (arith, count, same) in
    row_all nodes cells (64 * c.loop-i.i) c.loop-i.row le (c.loop-i.invariant nodes cells count known same holds)
