use Rattle.std.proofs.Common.{◌≡◌, ◌+◌, ◌*◌, ◌%◌, ◌^◌, ◌<◌, arith}
use Rattle.std.proofs.Math.Nat.{mod-eq_of_lt}
use Rattle.wot_types.specs.Sample.{draw}
use Rattle.wot_gen.proofs.draws.draw.Goals as goal

-- 16 times a number of 32 bits and a byte don't wrap
pub returns : goal.returns
unfolding draw
returns c =
    let short : 16 * c.args.i + c.args.k < 2 ^ 64 = omega arith in
    let e : (16 * c.args.i + c.args.k) % 2 ^ 64 ≡ 16 * c.args.i + c.args.k = mod-eq_of_lt short in
    cc
