use Rattle.std.proofs.Common.{arith}
use Rattle.std.proofs.lemmas.List.FromFn.{map-range_with_len_more}
use Rattle.wot_types.specs.Sample.{sample_cert}
use Rattle.wot_gen.proofs.certs.certs.Goals as goal

pub loop-c-preserved : goal.loop-c-preserved
loop-c-preserved c =
    let more = map-range_with_len_more (sample_cert c.args.seed c.args.i) 0 c.loop-c.c c.loop-c.c (omega arith) in
    cc (more, c.in_ok-push.ensures.ok, c.in_ok-cert.ensures)
