use Rattle.std.proofs.Common.{◌+◌, ◌<◌, ◌≤◌, ◌^◌, get_or, length, arith}
use Rattle.std.specs.Int.{trailing_zeros, w64}
use Rattle.std.proofs.lemmas.List.{get_or_default}
use Rattle.wot_regex.proofs.WordWalks.{cleared_less, walk_begins, walk_ends, walk_on}
use Rattle.wot_regex.proofs.followers.Row.join_word.Goals as goal

pub loop-left-init : goal.loop-left-init
loop-left-init c = λ nodes common words cells i count known same holds starts is old.
    walk_begins nodes common c.args.rows.now words cells i c.args.from c.args.word known same holds starts is c.args.self.now old

pub loop-left-smaller : goal.loop-left-smaller
loop-left-smaller c =
    let fits : c.loop-left.left < 2 ^ 64 = omega arith in
    cleared_less c.loop-left.left (omega (arith, c.loop-left-test.true)) fits

pub loop-left-preserved : goal.loop-left-preserved
loop-left-preserved c = λ nodes common words cells i count known same holds starts is old.
    let rows = c.args.rows.now in
    let left = c.loop-left.left in
    let row = c.loop-left.self in
    let some : 0 < left = omega (arith, c.loop-left-test.true) in
    let fits : left < 2 ^ 64 = omega arith in
    let place = c.args.from + trailing_zeros w64 left in
    let other = get_or rows place row in
    let room : length nodes ≤ 512 = omega (arith, count, c.requires.rows) in
    walk_on nodes common rows words cells i c.args.from c.args.word known same holds starts is left some fits row (c.loop-left.invariant nodes common words cells i count known same holds starts is old) c.join_place.new.self other room
    (λ here. get_or_default rows place row other (omega (arith, here, count)))
    (λ here j less. c.join_place.ensures.next (omega (arith, here, count)) row j less)
    (λ here. c.join_place.ensures.found (omega (arith, here, count)) row)
    (λ behind. c.join_place.ensures.kept (omega (arith, behind, count)))

pub returns : goal.returns
returns c = λ nodes common words cells i count known same holds starts is old.
    walk_ends nodes common c.args.rows.now words cells i c.args.from c.args.word known same holds starts is c.loop-left.left c.loop-left.self c.loop-left-test.false (c.loop-left.invariant nodes common words cells i count known same holds starts is old)
