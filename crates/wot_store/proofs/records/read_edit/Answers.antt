use Rattle.std.proofs.Common.{ℕ, List, Option, subst}
use Rattle.std.specs.Option.{IfNone}
use Rattle.wot_types.specs.declared.edit.Edit.{Edit}
use Rattle.wot_types.specs.Payload.{IsPayload}
use Rattle.wot_store.proofs.records.read_edit.Goals as goal

pub returns-in-Ok-None-clause-none : goal.returns-in-Ok-None-clause-none
returns-in-Ok-None-clause-none c = λ s.
    let none = subst (λ (found : Option Edit). IfNone found ((edit : Edit) → IsPayload c.as_bytes.result.now edit → ⊥)) c.in-Ok-None.field-0-is c.in-Ok-None.ensures.none in
    subst (λ (bytes : List ℕ). (edit : Edit) → IsPayload bytes edit → ⊥) c.as_bytes.ensures none
