use Rattle.std.proofs.Common.{◌≡◌, None, sym, subst, ◌∙◌}
use Rattle.wot_types.specs.Keyring.{Keyring, taken_id}
use Rattle.wot_call_tests.proofs.NewKeys.{none_taken}
use Rattle.wot_call_tests.proofs.engines.put.Goals as goal

-- no key has the key ID of one of these
pub put-requires-clause-free : goal.put-requires-clause-free
put-requires-clause-free g c =
    subst (λ (k : Keyring). taken_id k c.args.keys ≡ None) c.table.ensures
    (none_taken c.table.result.now c.args.keys (sym c.is_any_there.ensures ∙ c.if-is_any_there.false))
