use Rattle.std.proofs.Common.{arith, rules}
use Rattle.std.proofs.lemmas.List.FromFn.{map-range_with_len_more}
use Rattle.wot_types.specs.Sample.{sample_key}
use Rattle.wot_types.proofs.SoundKeys.{importable}
use Rattle.wot_gen.proofs.sample.keys.Goals as goal

pub loop-i-preserved : goal.loop-i-preserved
loop-i-preserved c =
    let more = map-range_with_len_more (sample_key c.args.seed) 0 c.loop-i.i c.loop-i.i (omega arith) in
    cc (more, c.in_ok-push.ensures.ok, c.in_ok-key.ensures.made)

pub returns-clause-importable : goal.returns-clause-importable
returns-clause-importable c = importable _ c.args.seed c.args.n (search rules) (omega arith)
