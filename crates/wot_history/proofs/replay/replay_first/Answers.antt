use Rattle.std.proofs.Common.{◌+◌, arith, ◌∙◌, ap, Err}
use Rattle.wot_site.proofs.Honest.{honest_then}
use Rattle.wot_journal.specs.Found.{Finds, GoesOn}
use Rattle.wot_journal.specs.declared.reading.Step.TheVariants.{End, Payload}
use Rattle.wot_store.proofs.Replaying.{Came, came_more}
use Rattle.wot_store.proofs.SoundReplays.{sound_made}
use Rattle.wot_history.specs.declared.error.HistoryError.TheVariants.{Lost}
use Rattle.wot_history.specs.Reading.{StopsAt, unmade_record}
use Rattle.wot_history.proofs.Records.{came_bad, came_lost, record_unread, unread_cause}
use Rattle.wot_history.proofs.replay.replay_first.Goals as goal

pub loop-done-preserved : goal.loop-done-preserved
loop-done-preserved g c =
    let l = c.loop-done in
    let payload = c.in-Ok-Payload.payload in
    let goes : GoesOn l.at c.args.size (Payload payload c.in-Ok-Payload.after) = rw c.in-Ok-Payload.field-0-is at c.in-Ok-Payload.ensures.goes_on in
    record {
      within = goes.1;
      bound = goes.2;
      sound = sound_made l.draft c.in-Ok.made payload l.invariant.sound c.in-Ok.ensures.made;
      few = omega (arith, c.loop-done-test.true);
      came = honest_then (Came c.args.side c.args.start c.args.base l.done l.at l.draft) (Finds c.args.side l.at (Payload payload c.in-Ok-Payload.after)) (Came c.args.side c.args.start c.args.base (l.done + 1) c.in-Ok-Payload.after c.in-Ok.made) _ _ _
          l.invariant.came (rw c.in-Ok-Payload.field-0-is at c.in-Ok-Payload.ensures.found)
          (λ x y z came found. came_more c.args.side c.args.start c.args.base l.done l.at l.draft x y z came payload c.in-Ok-Payload.after c.in-Ok.made found c.in-Ok.ensures.made);
      quiet = c.in-Ok-Payload.ensures.cause.quiet (λ is. absurd (cc is)) ∙ l.invariant.quiet;
    }

pub returns-in-Ok-End-clause-stops : goal.returns-in-Ok-End-clause-stops
returns-in-Ok-End-clause-stops g c =
    let l = c.loop-done in
    honest_then (Came c.args.side c.args.start c.args.base l.done l.at l.draft) (Finds c.args.side l.at End) (StopsAt c.args.side c.args.start c.args.base c.args.count (Lost (l.done + 1))) _ _ _
    l.invariant.came (rw c.in-Ok-End.field-0-is at c.in-Ok-End.ensures.found)
    (λ x y z came found. came_lost c.args.side c.args.start c.args.base l.done l.at l.draft x y came c.args.count (omega (arith, c.loop-done-test.true)) z found)

pub returns-in-Err-take_record-clause-stops : goal.returns-in-Err-take_record-clause-stops
returns-in-Err-take_record-clause-stops g c =
    let l = c.loop-done in
    let payload = c.in-Ok-Payload.payload in
    let e = c.in-Err-take_record.e in
    rw c.unmade_record.ensures
    (honest_then (Came c.args.side c.args.start c.args.base l.done l.at l.draft) (Finds c.args.side l.at (Payload payload c.in-Ok-Payload.after)) (StopsAt c.args.side c.args.start c.args.base c.args.count (unmade_record (l.done + 1) e)) _ _ _
    l.invariant.came (rw c.in-Ok-Payload.field-0-is at c.in-Ok-Payload.ensures.found)
    (λ x y z came found. came_bad c.args.side c.args.start c.args.base l.done l.at l.draft x y came c.args.count (omega (arith, c.loop-done-test.true)) z payload c.in-Ok-Payload.after e found c.in-Err-take_record.ensures.none))

pub returns-in-Err-clause-stops : goal.returns-in-Err-clause-stops
returns-in-Err-clause-stops g c =
    let l = c.loop-done in
    let e = c.in-Err.e in
    rw c.unread_record.ensures
    (record_unread c.args.side c.args.start c.args.base l.done l.at l.draft c.args.count (omega (arith, c.loop-done-test.true)) e _ _ _ l.invariant.came c.in-Err.ensures.stays
    (λ q is. c.in-Err.ensures.short q (ap (λ e. Err e) is)) (λ q is. c.in-Err.ensures.truncated q (ap (λ e. Err e) is)))

pub returns-in-Err-clause-cause : goal.returns-in-Err-clause-cause
returns-in-Err-clause-cause g c = rw c.unread_record.ensures (unread_cause c.in-Err.e _ _ _ c.loop-done.invariant.quiet c.in-Err.ensures.cause)
