use Rattle.std.proofs.lemmas.Result.{err_from_is_err_and}
use Rattle.wot_spelling.specs.Reading.{many_at, list_at}
use Rattle.wot_spelling.proofs.Lists.{goes_on, ends, is_done}
use Rattle.wot_spelling.proofs.reader.Reader.list.Goals as goal

pub returns-in_err-part : goal.returns-in_err-part
unfolding list_at
returns-in_err-part g c =
    let p = err_from_is_err_and c.from_residual-in_err-part.result c.from_residual-in_err-part.ensures.1 in
    rw (c.in_ok-count.ensures, p.1, p.2) (ends (g.T.Part.at c.args.spelling) c.in_err-part.field-0.0 c.loop.parts c.in_ok-count.count c.loop.counter c.loop.self c.read.new.reader
    (many_at (g.T.Part.at c.args.spelling) c.in_ok-count.count c.number_4.new.self) c.loop-test.true c.in_err-part.ensures c.loop.invariant)

pub loop-preserved : goal.loop-preserved
loop-preserved g c =
    rw c.in_ok-push.ensures.ok (goes_on (g.T.Part.at c.args.spelling) c.loop.parts c.in_ok-count.count c.loop.counter c.loop.self c.in_ok-part.part c.read.new.reader (many_at (g.T.Part.at c.args.spelling) c.in_ok-count.count c.number_4.new.self) c.loop-test.true c.in_ok-part.ensures c.loop.invariant)

pub returns : goal.returns
unfolding list_at
returns g c =
    rw c.in_ok-count.ensures (is_done (g.T.Part.at c.args.spelling) c.loop.parts c.in_ok-count.count c.loop.counter c.loop.self (many_at (g.T.Part.at c.args.spelling) c.in_ok-count.count c.number_4.new.self) c.loop-test.false c.loop.invariant)
