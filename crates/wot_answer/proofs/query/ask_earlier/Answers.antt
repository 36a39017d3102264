use Rattle.std.proofs.Common.{◌-◌, ◌^◌, ◌<◌, ◌≤◌, refl, arith}
use Rattle.std.proofs.lemmas.Bool.Decides.{nat_tests}
use Rattle.std.proofs.lemmas.Result.{IfOk-weaker}
use Rattle.wot_answer.proofs.EarlierQueries.{asked_in_time, asked_too_late}
use Rattle.wot_answer.proofs.query.ask_earlier.Goals as goal

pub returns-then-edits-records : goal.returns-then-edits-records
returns-then-edits-records c = record {
  ends =
      let small : c.args.records ≤ 2 ^ 64 - 1 = grind (arith, nat_tests) in
      let fits : c.args.edits ≤ 2 ^ 64 - 1 = grind (arith, nat_tests) in
      let late : c.args.records < c.args.edits = grind (arith, nat_tests) in
      IfOk-weaker c.refuse.result _ _
      (λ answered reply s same many. asked_too_late answered s c.args.query c.args.records c.args.edits small many c.args.engine same fits late reply)
      c.refuse.ensures.reply;
}

pub returns : goal.returns
returns c = record {
  ends = λ s same many.
      let small : c.args.records ≤ 2 ^ 64 - 1 = grind (arith, nat_tests) in
      let soon : c.args.edits ≤ c.args.records = grind (arith, nat_tests) in
      asked_in_time _ s c.args.query c.args.records c.args.edits small many c.args.engine same soon c.requires.earlier refl refl;
}
