-- An edit that isn't refused puts no key whose key ID is taken.
use Rattle.std.proofs.Common.{◌≡◌, None, option_map}
use Rattle.std.specs.Option.{option_or}
use Rattle.wot_types.specs.declared.edit.Edit.{Edit}
use Rattle.wot_types.specs.declared.refusal.Refusal.TheVariants.{Full, KeyIdTaken}
use Rattle.wot_types.specs.Limits.{record_passed}
use Rattle.wot_types.specs.Outcome.{missing_key, refusal_of, state_limit, taken_key}
use Rattle.wot_types.specs.Payload.{payload}
use Rattle.wot_types.specs.State.{State}
use Rattle.wot_types.proofs.Optionals.{both_none, map_none}

pub none_taken : (s : State) (edit : Edit) → refusal_of s edit ≡ None → taken_key s edit ≡ None
none_taken s edit allowed =
    let rest = (both_none (missing_key s edit) _ allowed).1 in
    map_none KeyIdTaken (taken_key s edit) (both_none (option_map Full (option_or (state_limit s edit) (record_passed (payload edit)))) (option_map KeyIdTaken (taken_key s edit)) rest).1
