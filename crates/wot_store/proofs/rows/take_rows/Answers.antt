use Rattle.std.proofs.Common.{subst}
use Rattle.wot_types.specs.State.{State}
use Rattle.wot_check.specs.Stored.{IsLeastFault}
use Rattle.wot_store.specs.declared.error.StoreError.TheVariants as StoreError
use Rattle.wot_store.proofs.Errors.{err_of}
use Rattle.wot_store.proofs.rows.take_rows.Goals as goal

pub returns-in-Err-clause-bad : goal.returns-in-Err-clause-bad
returns-in-Err-clause-bad g c b is =
    let wrong = c.in-Err.ensures.bad b (err_of c.in-Err.e (StoreError.Bad b) is) in
    (wrong.0, wrong.1, wrong.2, wrong.3, subst (λ (s : State). IsLeastFault s wrong.1 wrong.0) c.of-state.ensures wrong.4)
