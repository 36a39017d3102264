use Rattle.wot_site.proofs.Honest.{honest_then, honest_weaker}
use Rattle.wot_types.specs.PagePlaces.{page_place}
use Rattle.wot_store.specs.declared.error.StoreError.TheVariants as StoreError
use Rattle.wot_store.specs.Journal.{FailsAt, Replays}
use Rattle.wot_store.specs.Opening.{FailsBy, LacksBase, ReadsBase, Resumes}
use Rattle.wot_store.proofs.Errors.{err_of}
use Rattle.wot_store.proofs.Openings.{fails_then, lacks_base, resumes_then}
use Rattle.wot_store.proofs.base.resume.Goals as goal

pub returns-in-Err-clause-bad : goal.returns-in-Err-clause-bad
returns-in-Err-clause-bad g c b is =
    honest_weaker (LacksBase c.args.side c.args.header b) (FailsBy c.args.side c.args.header b) _ _ (c.in-Err.ensures.bad b (err_of c.in-Err.e (StoreError.Bad b) is))
    (λ x y lacks. lacks_base c.args.side c.args.header b x y lacks)

pub returns-in-Err-replay-clause-bad : goal.returns-in-Err-replay-clause-bad
returns-in-Err-replay-clause-bad g c b is =
    let side = c.args.side in
    let header = c.args.header in
    let base = c.in-Ok.loaded.0 in
    honest_then (ReadsBase side header base) (FailsAt side (page_place header.pages) base b) (FailsBy side header b) _ _ _ c.in-Ok.ensures.base
    (rw c.in-Ok.ensures.start.0 at c.in-Err-replay.ensures.bad b (err_of c.in-Err-replay.e (StoreError.Bad b) is)) (λ x y z read fails. fails_then side header base x y z read b fails)

pub returns-in-Ok-into_engine-clause-sound : goal.returns-in-Ok-into_engine-clause-sound
returns-in-Ok-into_engine-clause-sound g c = rw c.in-Ok-into_engine.ensures c.in-Ok-replay.ensures.sound

pub returns-in-Ok-into_engine-clause-resumed : goal.returns-in-Ok-into_engine-clause-resumed
returns-in-Ok-into_engine-clause-resumed g c =
    let side = c.args.side in
    let header = c.args.header in
    let base = c.in-Ok.loaded.0 in
    let replayed = c.in-Ok-replay.replayed in
    rw c.in-Ok-into_engine.ensures
    (honest_then (ReadsBase side header base) (Replays side (page_place header.pages) base replayed.draft replayed.records replayed.end) (Resumes side header replayed.draft replayed.records replayed.end) _ _ _ c.in-Ok.ensures.base
    (rw c.in-Ok.ensures.start.0 at c.in-Ok-replay.ensures.replayed) (λ x y z read replays. resumes_then side header base x y z read replayed.draft replayed.records replayed.end replays))
