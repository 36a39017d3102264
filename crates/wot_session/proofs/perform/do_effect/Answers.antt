use Rattle.std.proofs.Common.{subst, sym}
use Rattle.wot_session.specs.SessionState.{Holds, IsPlace}
use Rattle.wot_session.proofs.Givings.{appended_is, appended_place, appending_is, compact_sound, compactable, compacted_at, compacted_is, compacting_is, done_by, leads_next, nothing_written, performs_as, record_written, side_written, undone}
use Rattle.wot_session.proofs.perform.do_effect.Goals as goal

pub append-requires : goal.append-requires
append-requires g c = record {
  next = leads_next _ _ c.requires.0 c.requires.1 _ (done_by _ _ _ _ _ _ c.in-Append.is c.requires.2) c.requires.3;
}

pub returns-in-Nothing-clause-any_moment : goal.returns-in-Nothing-clause-any_moment
returns-in-Nothing-clause-any_moment g c s t performs holds = undone _ s t _ holds

pub returns-in-Ok-clause-written : goal.returns-in-Ok-clause-written
returns-in-Ok-clause-written g c s t performs holds = record_written _ _ s t _ _ (done_by _ _ _ _ _ _ c.in-Append.is performs) holds c.append.ensures.written

pub returns-in-Err-clause-written : goal.returns-in-Err-clause-written
returns-in-Err-clause-written g c s t performs holds = record_written _ _ s t _ _ (done_by _ _ _ _ _ _ c.in-Append.is performs) holds c.append.ensures.written

pub compact-requires-clause-stored : goal.compact-requires-clause-stored
compact-requires-clause-stored g c = compactable _ _ c.requires.0 c.requires.1 _ (performs_as _ _ _ _ _ _ c.in-Compact.is c.requires.2) c.requires.3

pub returns-in-Ok-compact-clause-place : goal.returns-in-Ok-compact-clause-place
returns-in-Ok-compact-clause-place g c s t performs =
    subst (λ place. IsPlace place t) (sym c.in-Ok-compact.ensures.place) (compacted_at _ _ s t (performs_as _ _ _ _ _ _ c.in-Compact.is performs))

pub returns-in-Ok-compact-clause-holds : goal.returns-in-Ok-compact-clause-holds
returns-in-Ok-compact-clause-holds g c s t performs holds =
    subst (λ place. Holds place (g.S.Site.seen c.compact.new.site) t) (sym c.in-Ok-compact.ensures.place)
    (compacted_is _ _ s t _ _ (performs_as _ _ _ _ _ _ c.in-Compact.is performs) holds c.in-Ok-compact.ensures.compacted)

pub returns-in-Ok-compact-clause-written : goal.returns-in-Ok-compact-clause-written
returns-in-Ok-compact-clause-written g c s t performs holds =
    side_written _ _ s t _ _ (performs_as _ _ _ _ _ _ c.in-Compact.is performs) holds c.compact.ensures.written c.compact.ensures.unwritten

pub returns-in-Err-DiskFault-clause-written : goal.returns-in-Err-DiskFault-clause-written
returns-in-Err-DiskFault-clause-written g c s t performs holds =
    side_written _ _ s t _ _ (performs_as _ _ _ _ _ _ c.in-Compact.is performs) holds c.compact.ensures.written c.compact.ensures.unwritten

pub returns-in-Err-Memory-clause-written : goal.returns-in-Err-Memory-clause-written
returns-in-Err-Memory-clause-written g c s t performs holds =
    side_written _ _ s t _ _ (performs_as _ _ _ _ _ _ c.in-Compact.is performs) holds c.compact.ensures.written c.compact.ensures.unwritten

pub returns-in-Ok-clause-place : goal.returns-in-Ok-clause-place
returns-in-Ok-clause-place g c s t performs =
    subst (λ place. IsPlace place t) (sym c.in-Ok.ensures.place) (appended_place _ _ s t performs.at (done_by _ _ _ _ _ _ c.in-Append.is performs))

pub returns-in-Ok-clause-holds : goal.returns-in-Ok-clause-holds
returns-in-Ok-clause-holds g c s t performs holds =
    subst (λ place. Holds place (g.S.Site.seen c.append.new.site) t) (sym c.in-Ok.ensures.place)
    (appended_is _ _ s t _ _ (done_by _ _ _ _ _ _ c.in-Append.is performs) (λ edit is. c.in-Ok.ensures.appended s edit is holds))

pub returns-in-Ok-clause-any_moment : goal.returns-in-Ok-clause-any_moment
returns-in-Ok-clause-any_moment g c s t performs holds =
    appending_is _ s t _ _ (done_by _ _ _ _ _ _ c.in-Append.is performs) (λ edit is. c.append.ensures.any_moment s edit is holds)

pub returns-in-Err-clause-any_moment : goal.returns-in-Err-clause-any_moment
returns-in-Err-clause-any_moment g c s t performs holds =
    appending_is _ s t _ _ (done_by _ _ _ _ _ _ c.in-Append.is performs) (λ edit is. c.append.ensures.any_moment s edit is holds)

pub returns-in-Nothing-clause-written : goal.returns-in-Nothing-clause-written
returns-in-Nothing-clause-written g c s t performs holds =
    nothing_written s t _

pub returns-in-Ok-compact-clause-any_moment : goal.returns-in-Ok-compact-clause-any_moment
returns-in-Ok-compact-clause-any_moment g c s t performs holds =
    compacting_is _ _ s t _ _ (performs_as _ _ _ _ _ _ c.in-Compact.is performs) holds c.compact.ensures.any_moment

pub returns-in-Err-DiskFault-clause-any_moment : goal.returns-in-Err-DiskFault-clause-any_moment
returns-in-Err-DiskFault-clause-any_moment g c s t performs holds =
    compacting_is _ _ s t _ _ (performs_as _ _ _ _ _ _ c.in-Compact.is performs) holds c.compact.ensures.any_moment

pub returns-in-Err-Memory-clause-any_moment : goal.returns-in-Err-Memory-clause-any_moment
returns-in-Err-Memory-clause-any_moment g c s t performs holds =
    compacting_is _ _ s t _ _ (performs_as _ _ _ _ _ _ c.in-Compact.is performs) holds c.compact.ensures.any_moment

pub compact-requires-clause-sound : goal.compact-requires-clause-sound
compact-requires-clause-sound g c =
    compact_sound _ _ c.requires.0 c.requires.1 (performs_as _ _ _ _ _ _ c.in-Compact.is c.requires.2)
