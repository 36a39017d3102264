-- What follows of the results of calls.
use Rattle.std.proofs.Common.{IfOk, Ok, Err}
use Rattle.std.specs.declared.result.Result.{Result}

-- what follows from two facts of what a call gives
pub both_then : {X Y : Type 0} {P Q R : X → Type 0} (r : Result X Y) → ((x : X) → P x → Q x → R x) → IfOk r P → IfOk r Q → IfOk r R
both_then (Ok x) f p q = f x p q
both_then (Err y) f p q = tt
