use Rattle.std.proofs.Common.{◌+◌}
use Rattle.wot_types.specs.Outcome.{edited_store}
use Rattle.wot_site.specs.Seen.{Seen}
use Rattle.wot_site.specs.Work.{Works}
use Rattle.wot_site.proofs.Honest.{honest_with}
use Rattle.wot_journal.specs.Commit.{Commits, IsCommitting}
use Rattle.wot_store.specs.Shows.{IsStored}
use Rattle.wot_store.specs.Appending.{IsRecordHere, place_after}
use Rattle.wot_store.specs.Changing.{IsStoredAfter, ShowsEither}
use Rattle.wot_store.specs.Written.{WritesBetween}
use Rattle.wot_store.proofs.Appends.{append_moments, append_done}
use Rattle.wot_store.proofs.Written.{append_writes}
use Rattle.wot_store.proofs.appending.append.Goals as goal

pub returns-in-Ok-clause-appended : goal.returns-in-Ok-clause-appended
returns-in-Ok-clause-appended g c shown edit is_record stored =
    let built = c.args.built.now in
    honest_with (λ (s : Seen). IsStored c.args.place shown s.disks) (Commits c.args.place.side built) (IsStoredAfter (place_after c.args.place built) (edited_store shown edit)) _ _ stored c.in-Ok.ensures.committed
    (λ x y k p. append_done c.args.place built shown edit is_record c.commit.ensures.room x y k p)

pub returns-in-Ok-clause-any_moment : goal.returns-in-Ok-clause-any_moment
returns-in-Ok-clause-any_moment g c shown edit is_record stored =
    let built = c.args.built.now in
    honest_with (λ (s : Seen). IsStored c.args.place shown s.disks) (λ old new. Works (IsCommitting c.args.place.side built old.disks) old new) (ShowsEither shown (edited_store shown edit)) _ _ stored c.commit.ensures.any_moment
    (λ x y k p. append_moments c.args.place built shown edit is_record c.commit.ensures.room x y k p)

pub returns-in-Err-clause-any_moment : goal.returns-in-Err-clause-any_moment
returns-in-Err-clause-any_moment g c shown edit is_record stored =
    let built = c.args.built.now in
    honest_with (λ (s : Seen). IsStored c.args.place shown s.disks) (λ old new. Works (IsCommitting c.args.place.side built old.disks) old new) (ShowsEither shown (edited_store shown edit)) _ _ stored c.commit.ensures.any_moment
    (λ x y k p. append_moments c.args.place built shown edit is_record c.commit.ensures.room x y k p)

pub returns-in-Ok-clause-written : goal.returns-in-Ok-clause-written
returns-in-Ok-clause-written g c =
    let place = c.args.place in
    let built = c.args.built.now in
    honest_with (λ (s : Seen). IsRecordHere place built s.disks) (λ old new. Works (IsCommitting place.side built old.disks) old new) (λ old new. Works (WritesBetween place.side place.end ((place_after place built).end + 1) old.disks) old new) _ _
    c.requires.next c.commit.ensures.any_moment (λ x y next p. append_writes place built x y next p)

pub returns-in-Err-clause-written : goal.returns-in-Err-clause-written
returns-in-Err-clause-written g c =
    let place = c.args.place in
    let built = c.args.built.now in
    honest_with (λ (s : Seen). IsRecordHere place built s.disks) (λ old new. Works (IsCommitting place.side built old.disks) old new) (λ old new. Works (WritesBetween place.side place.end ((place_after place built).end + 1) old.disks) old new) _ _
    c.requires.next c.commit.ensures.any_moment (λ x y next p. append_writes place built x y next p)

pub returns-in-Ok-clause-bytes : goal.returns-in-Ok-clause-bytes
returns-in-Ok-clause-bytes g c = c.in-Ok.ensures.committed

pub returns-in-Ok-clause-calls : goal.returns-in-Ok-clause-calls
returns-in-Ok-clause-calls g c = c.in-Ok.ensures.calls
