use Rattle.std.proofs.Common.{Some, refl}
use Rattle.wot_types.specs.Levels.{rows_of}
use Rattle.wot_store.proofs.Errors.{if_ok_then}
use Rattle.wot_store.proofs.Needed.{image_base}
use Rattle.wot_types.proofs.StoredRows.{rows_keyed, rows_scoped}
use Rattle.wot_store.proofs.image.spell_state.Goals as goal

pub spell-requires-clause-scopes : goal.spell-requires-clause-scopes
spell-requires-clause-scopes c = rw c.rows.ensures (rows_scoped c.args.engine.now c.requires.sound.keys)

pub spell-requires-clause-of_keys : goal.spell-requires-clause-of_keys
spell-requires-clause-of_keys c id there = rw c.lent.ensures.state (rows_keyed c.args.engine.now id (rw c.rows.ensures at there))

pub returns-clause-base : goal.returns-clause-base
returns-clause-base c =
    if_ok_then _ _ c.spell.result (rw (c.lent.ensures.state, c.rows.ensures) at c.spell.ensures.spelled)
    (λ image spelled. record {
      current = Some (rows_of c.args.engine.now);
      spelled = image_base image.items c.args.engine.now (rows_of c.args.engine.now) spelled;
      rows = refl;
    })

pub returns-clause-spelled : goal.returns-clause-spelled
returns-clause-spelled c =
    if_ok_then _ _ c.spell.result (rw (c.lent.ensures.state, c.rows.ensures) at c.spell.ensures.spelled) (λ image spelled. spelled.is)
