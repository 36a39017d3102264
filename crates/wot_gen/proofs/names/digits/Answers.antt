use Rattle.std.proofs.Common.{◌≡◌, ◌+◌, length, arith, decimal}
use Rattle.std.specs.Prelude.{unwrap_or}
use Rattle.std.proofs.lemmas.Fmt.{length-decimal-le}
use Rattle.wot_gen.proofs.Decimals.{digits_by_logarithm}
use Rattle.wot_gen.proofs.names.digits.Goals as goal

pub returns-clause-value : goal.returns-clause-value
returns-clause-value c =
    let log = c.checked_ilog10.ensures in
    let counted : unwrap_or c.checked_ilog10.result 0 + 1 ≡ length (decimal c.args.n) =
    digits_by_logarithm c.checked_ilog10.result c.args.n (omega arith) log.none log.power_le log.next_power_gt in
    omega (arith, counted)

pub returns-clause-few : goal.returns-clause-few
returns-clause-few c =
    let log = c.checked_ilog10.ensures in
    let counted : unwrap_or c.checked_ilog10.result 0 + 1 ≡ length (decimal c.args.n) =
    digits_by_logarithm c.checked_ilog10.result c.args.n (omega arith) log.none log.power_le log.next_power_gt in
    omega (arith, counted, length-decimal-le 10 c.args.n (omega arith) (omega arith) (omega arith))
