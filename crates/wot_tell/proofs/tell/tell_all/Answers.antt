use Rattle.std.proofs.Common.{◌∙◌, length, ap, length-drop, arith}
use Rattle.std.proofs.lemmas.List.{take_rest}
use Rattle.wot_site.proofs.Honest.{honest_then}
use Rattle.wot_tell.proofs.Texts.{tells_more, tells_stops}
use Rattle.wot_tell.proofs.tell.tell_all.Goals as goal

pub loop-done-preserved : goal.loop-done-preserved
loop-done-preserved g c = record {
  within = (let left = ap length (take_rest c.args.bytes.now c.loop-done.done) in omega (arith, left, c.in-Ok.ensures.fits, length-drop c.loop-done.done c.args.bytes.now));
  told = honest_then _ _ _ _ _ _ c.loop-done.invariant.told (c.in-Ok.ensures.ok) (λ x y z before tells. tells_more c.args.bytes.now c.loop-done.done c.in-Ok.n x y z before tells);
  quiet = (rw c.in-Ok.is at c.tell.ensures.cause.quiet) ∙ c.loop-done.invariant.quiet;
}

pub returns-in-Err-clause-prefix : goal.returns-in-Err-clause-prefix
returns-in-Err-clause-prefix g c =
    honest_then _ _ _ _ _ _ c.loop-done.invariant.told c.in-Err.ensures.err (λ x y z before stays. tells_stops c.args.bytes.now c.loop-done.done x y z before stays)
