use Rattle.std.proofs.Common.{◌≤◌, length, arith}
use Rattle.wot_regex.proofs.Stepping.{row_of_both}
use Rattle.wot_regex.proofs.followers.row_from.Goals as goal

pub returns : goal.returns
returns c = λ nodes cells count known same holds.
    let rows = c.args.rows.now in
    let room : length nodes ≤ 512 = omega (arith, count, c.requires) in
    row_of_both nodes c.args.common.now rows c.args.marks.now.words c.meet.new.self.words c.leave.new.self.words cells room count known same holds c.meet.ensures c.leave.ensures c.row_by_places-row.result c.row_by_steps.result c.join.new.self
    (λ others whole marks. c.row_by_places-row.ensures nodes others count known whole marks)
    c.row_by_steps.ensures.next c.row_by_steps.ensures.found c.join.ensures.next c.join.ensures.found
