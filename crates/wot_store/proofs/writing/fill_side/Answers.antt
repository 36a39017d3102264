use Rattle.std.proofs.Common.{◌≤◌, [], ◌∷◌, length}
use Rattle.wot_site.specs.Disk.{disk_of}
use Rattle.wot_site.specs.Seen.{Seen}
use Rattle.wot_site.specs.Site.{Writes, WritesOrNot, Syncs, Stays}
use Rattle.wot_site.specs.Work.{Works}
use Rattle.wot_site.proofs.Honest.{Then, honest_after, honest_with, honest_with_then, honest_joined}
use Rattle.wot_types.specs.PagePlaces.{page_place, pages_needed}
use Rattle.wot_pages.specs.Writing.{FillsPages, WritesPages}
use Rattle.wot_store.specs.Base.{header_tail}
use Rattle.wot_store.specs.Writing.{Becomes, Filling, filling_calls, with_base}
use Rattle.wot_store.proofs.Writings.{fill_not, fill_not_pages, fill_not_gate, fill_not_synced, fill_synced, fill_becomes, long_second}
use Rattle.wot_journal.specs.Commit.{IsEnd, MakesCalls}
use Rattle.wot_store.proofs.Counted.{fill_counted}
use Rattle.wot_store.proofs.writing.fill_side.Goals as goal

pub returns-in-Err-clause-any_moment : goal.returns-in-Err-clause-any_moment
returns-in-Err-clause-any_moment g c =
    let side = c.args.side in
    let epoch = c.args.epoch in
    let image = c.args.image.now in
    honest_with (λ (s : Seen). IsEnd 0 (disk_of side s.disks)) (WritesOrNot side 1 (header_tail epoch (pages_needed (length image)))) (Filling side) _ _ c.requires.closed
    (rw (c.tail.ensures, c.pages_needed.ensures.pages) at c.in-Err.ensures.err) (λ x y k p. fill_not side epoch image x k y p)

pub returns-in-Err-write_pages-clause-any_moment : goal.returns-in-Err-write_pages-clause-any_moment
returns-in-Err-write_pages-clause-any_moment g c =
    let side = c.args.side in
    let epoch = c.args.epoch in
    let image = c.args.image.now in
    honest_with_then (λ (s : Seen). IsEnd 0 (disk_of side s.disks)) (Writes side 1 (header_tail epoch (pages_needed (length image)))) (λ old new. Works (FillsPages side old.disks) old new) (Filling side) _ _ _ c.requires.closed
    (rw (c.tail.ensures, c.pages_needed.ensures.pages) at c.in-Ok.ensures.ok) c.write_pages.ensures.any_moment (λ x y z k p q. fill_not_pages side epoch image x k y p z q)

pub write-requires-2-clause-within : goal.write-requires-2-clause-within
write-requires-2-clause-within g c =
    let side = c.args.side in
    let epoch = c.args.epoch in
    let image = c.args.image.now in
    rw c.in-Ok-write_pages.ensures.pages
    (honest_after (λ (s : Seen). IsEnd 0 (disk_of side s.disks)) (λ s. page_place (pages_needed (length image)) ≤ length (disk_of side s.disks).reads)
    (Then (Writes side 1 (header_tail epoch (pages_needed (length image)))) (WritesPages side epoch image)) _ _ c.requires.closed
    (honest_joined (Writes side 1 (header_tail epoch (pages_needed (length image)))) (WritesPages side epoch image) _ _ _ (rw (c.tail.ensures, c.pages_needed.ensures.pages) at c.in-Ok.ensures.ok) c.in-Ok-write_pages.ensures.written)
    (λ x z k t. long_second side epoch image x k t.0 t.1 z t.2))

pub returns-in-Err-write-clause-any_moment : goal.returns-in-Err-write-clause-any_moment
returns-in-Err-write-clause-any_moment g c =
    let side = c.args.side in
    let epoch = c.args.epoch in
    let image = c.args.image.now in
    honest_with_then (λ (s : Seen). IsEnd 0 (disk_of side s.disks)) (Then (Writes side 1 (header_tail epoch (pages_needed (length image)))) (WritesPages side epoch image))
    (WritesOrNot side (page_place (pages_needed (length image))) (0 ∷ [])) (Filling side) _ _ _ c.requires.closed
    (honest_joined (Writes side 1 (header_tail epoch (pages_needed (length image)))) (WritesPages side epoch image) _ _ _ (rw (c.tail.ensures, c.pages_needed.ensures.pages) at c.in-Ok.ensures.ok) c.in-Ok-write_pages.ensures.written)
    (rw c.in-Ok-write_pages.ensures.pages at c.in-Err-write.ensures.err) (λ x z w k t q. fill_not_gate side epoch image x k t.0 t.1 z t.2 w q)

pub returns-in-Ok-sync-clause-filled : goal.returns-in-Ok-sync-clause-filled
returns-in-Ok-sync-clause-filled g c =
    let side = c.args.side in
    let epoch = c.args.epoch in
    let image = c.args.image.now in
    let tail = header_tail epoch (pages_needed (length image)) in
    let at = page_place (pages_needed (length image)) in
    honest_with_then (λ (s : Seen). IsEnd 0 (disk_of side s.disks)) (Then (Then (Writes side 1 tail) (WritesPages side epoch image)) (Writes side at (0 ∷ []))) (Syncs side) (Becomes side (with_base epoch image)) _ _ _ c.requires.closed
    (honest_joined (Then (Writes side 1 tail) (WritesPages side epoch image)) (Writes side at (0 ∷ [])) _ _ _
    (honest_joined (Writes side 1 tail) (WritesPages side epoch image) _ _ _ (rw (c.tail.ensures, c.pages_needed.ensures.pages) at c.in-Ok.ensures.ok) c.in-Ok-write_pages.ensures.written)
    (rw c.in-Ok-write_pages.ensures.pages at c.in-Ok-write.ensures.ok))
    c.in-Ok-sync.ensures.ok (λ x w v k t q. fill_becomes side epoch image x k t.1.0 t.1.1 t.0 t.1.2 w t.2 v q)

pub returns-in-Ok-sync-clause-any_moment : goal.returns-in-Ok-sync-clause-any_moment
returns-in-Ok-sync-clause-any_moment g c =
    let side = c.args.side in
    let epoch = c.args.epoch in
    let image = c.args.image.now in
    let tail = header_tail epoch (pages_needed (length image)) in
    let at = page_place (pages_needed (length image)) in
    honest_with_then (λ (s : Seen). IsEnd 0 (disk_of side s.disks)) (Then (Then (Writes side 1 tail) (WritesPages side epoch image)) (Writes side at (0 ∷ []))) (Syncs side) (Filling side) _ _ _ c.requires.closed
    (honest_joined (Then (Writes side 1 tail) (WritesPages side epoch image)) (Writes side at (0 ∷ [])) _ _ _
    (honest_joined (Writes side 1 tail) (WritesPages side epoch image) _ _ _ (rw (c.tail.ensures, c.pages_needed.ensures.pages) at c.in-Ok.ensures.ok) c.in-Ok-write_pages.ensures.written)
    (rw c.in-Ok-write_pages.ensures.pages at c.in-Ok-write.ensures.ok))
    c.in-Ok-sync.ensures.ok (λ x w v k t q. fill_synced side epoch image x k t.1.0 t.1.1 t.0 t.1.2 w t.2 v q)

pub returns-in-Err-sync-clause-any_moment : goal.returns-in-Err-sync-clause-any_moment
returns-in-Err-sync-clause-any_moment g c =
    let side = c.args.side in
    let epoch = c.args.epoch in
    let image = c.args.image.now in
    let tail = header_tail epoch (pages_needed (length image)) in
    let at = page_place (pages_needed (length image)) in
    honest_with_then (λ (s : Seen). IsEnd 0 (disk_of side s.disks)) (Then (Then (Writes side 1 tail) (WritesPages side epoch image)) (Writes side at (0 ∷ []))) Stays (Filling side) _ _ _ c.requires.closed
    (honest_joined (Then (Writes side 1 tail) (WritesPages side epoch image)) (Writes side at (0 ∷ [])) _ _ _
    (honest_joined (Writes side 1 tail) (WritesPages side epoch image) _ _ _ (rw (c.tail.ensures, c.pages_needed.ensures.pages) at c.in-Ok.ensures.ok) c.in-Ok-write_pages.ensures.written)
    (rw c.in-Ok-write_pages.ensures.pages at c.in-Ok-write.ensures.ok))
    c.in-Err-sync.ensures.err (λ x w v k t q. fill_not_synced side epoch image x k t.1.0 t.1.1 t.0 t.1.2 w t.2 v q)

pub returns-in-Ok-sync-clause-calls : goal.returns-in-Ok-sync-clause-calls
returns-in-Ok-sync-clause-calls g c =
    let side = c.args.side in
    let epoch = c.args.epoch in
    let image = c.args.image.now in
    let tail = header_tail epoch (pages_needed (length image)) in
    let at = page_place (pages_needed (length image)) in
    honest_with_then (λ (s : Seen). IsEnd 0 (disk_of side s.disks)) (Then (Then (Writes side 1 tail) (WritesPages side epoch image)) (Writes side at (0 ∷ []))) (Syncs side) (MakesCalls (filling_calls (pages_needed (length image)))) _ _ _ c.requires.closed
    (honest_joined (Then (Writes side 1 tail) (WritesPages side epoch image)) (Writes side at (0 ∷ [])) _ _ _
    (honest_joined (Writes side 1 tail) (WritesPages side epoch image) _ _ _ (rw (c.tail.ensures, c.pages_needed.ensures.pages) at c.in-Ok.ensures.ok) c.in-Ok-write_pages.ensures.written)
    (rw c.in-Ok-write_pages.ensures.pages at c.in-Ok-write.ensures.ok))
    c.in-Ok-sync.ensures.ok (λ x w v k t q. fill_counted side epoch image x t.1.0 t.1.1 t.0 t.1.2 w t.2 v q)
