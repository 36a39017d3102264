use Rattle.std.proofs.Common.{sym, subst}
use Rattle.wot_types.specs.Payload.{IsWritten}
use Rattle.wot_answer.proofs.Making.{built_record, length_before, past, payload_behind}
use Rattle.wot_answer.proofs.edit.build_record.Goals as goal

pub build_in_place-requires : goal.build_in_place-requires
build_in_place-requires c = record { spelled = length_before _ _ c.in-Ok.ensures.spelled }

pub returns-in-Ok-clause-built : goal.returns-in-Ok-clause-built
returns-in-Ok-clause-built c =
    built_record c.build_in_place.result c.args.end _ c.args.edit.now
    (subst (λ bytes. IsWritten bytes c.args.edit.now) (sym (payload_behind _ _ c.in-Ok.ensures.spelled)) c.in-Ok.ensures.payload)
    c.build_in_place.ensures.built c.build_in_place.ensures.room

pub returns-in-Ok-clause-full : goal.returns-in-Ok-clause-full
returns-in-Ok-clause-full c full =
    past c.args.end _ c.args.edit.now (payload_behind _ _ c.in-Ok.ensures.spelled) (c.build_in_place.ensures.full full)
