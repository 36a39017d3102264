use Rattle.std.proofs.Common.{◌≡◌, ◌+◌, ◌<◌, List, ℕ, ap, arith, length, refl, sym, subst, ◌∙◌}
use Rattle.wot_types.specs.State.{State}
use Rattle.wot_types.specs.Compaction.{compacted_store, image_length}
use Rattle.wot_types.specs.Image.{image_bytes}
use Rattle.wot_types.specs.Levels.{rows_of}
use Rattle.wot_store.specs.Base.{IsBaseOf}
use Rattle.wot_site.specs.Seen.{Seen}
use Rattle.wot_site.specs.Work.{Works}
use Rattle.wot_site.proofs.Honest.{honest_weaker, honest_with}
use Rattle.wot_journal.specs.Record.{most_side}
use Rattle.wot_types.specs.PagePlaces.{page_place, pages_needed}
use Rattle.wot_pages.specs.Pages.{contents_for}
use Rattle.wot_store.specs.Changing.{IsStoredAfter, ShowsEither}
use Rattle.wot_store.specs.Base.{other_side}
use Rattle.wot_store.specs.Compacting.{compacted_place}
use Rattle.wot_store.specs.Shows.{IsStored}
use Rattle.wot_store.specs.Written.{Spares}
use Rattle.wot_store.specs.Writing.{Becomes, Writing, base_bytes}
use Rattle.wot_store.proofs.Compactings.{compact_done, compact_moments, place_next, still_compacted, still_compacting, still_stored}
use Rattle.wot_store.proofs.Written.{other_writes, still_spares}
use Rattle.wot_store.proofs.Counted.{calls_as}
use Rattle.wot_store.proofs.compacting.compact.Goals as goal

pub returns-then-place-eq18446744073709551615-clause-any_moment : goal.returns-then-place-eq18446744073709551615-clause-any_moment
returns-then-place-eq18446744073709551615-clause-any_moment g c shown is stored = still_compacting c.args.place shown c.if-place-eq18446744073709551615.true _ stored

pub returns-then-place-eq18446744073709551615-clause-compacted : goal.returns-then-place-eq18446744073709551615-clause-compacted
returns-then-place-eq18446744073709551615-clause-compacted g c shown is stored = still_compacted c.args.place shown c.if-place-eq18446744073709551615.true c.args.engine.now _ stored

pub returns-in-Err-Memory-clause-any_moment : goal.returns-in-Err-Memory-clause-any_moment
returns-in-Err-Memory-clause-any_moment g c shown is stored = still_stored c.args.place shown (compacted_store shown) _ stored

pub returns-in-Ok-write_side-clause-compacted : goal.returns-in-Ok-write_side-clause-compacted
returns-in-Ok-write_side-clause-compacted g c shown is stored =
    let place = c.args.place in
    let image = c.in-Ok.image.items in
    let base : IsBaseOf (contents_for image) shown.state = subst (λ (s : State). IsBaseOf (contents_for image) s) (sym is) c.in-Ok.ensures.base in
    let room : page_place (pages_needed (length image)) < most_side = omega (arith, c.in-Ok.ensures.few) in
    let long : length image ≡ image_length shown.state = c.in-Ok.ensures.long ∙ ap image_length (sym is) in
    honest_with (λ (s : Seen). IsStored place shown s.disks) (Becomes (other_side place.side) (base_bytes (place.epoch + 1) image)) (IsStoredAfter (compacted_place place c.args.engine.now) (compacted_store shown)) _ _ stored
    (rw (c.other_side-side.ensures, c.deref.ensures.value) at c.in-Ok-write_side.ensures.written)
    (λ x y k p. compact_done place shown image x y k base room c.write_side.ensures.small long (compacted_place place c.args.engine.now) (place_next place c.args.engine.now (length image) c.write_side.ensures.small c.in-Ok.ensures.long) p)

pub returns-in-Ok-write_side-clause-any_moment : goal.returns-in-Ok-write_side-clause-any_moment
returns-in-Ok-write_side-clause-any_moment g c shown is stored =
    let place = c.args.place in
    let image = c.in-Ok.image.items in
    let base : IsBaseOf (contents_for image) shown.state = subst (λ (s : State). IsBaseOf (contents_for image) s) (sym is) c.in-Ok.ensures.base in
    let room : page_place (pages_needed (length image)) < most_side = omega (arith, c.in-Ok.ensures.few) in
    let long : length image ≡ image_length shown.state = c.in-Ok.ensures.long ∙ ap image_length (sym is) in
    honest_with (λ (s : Seen). IsStored place shown s.disks) (Writing (other_side place.side) (place.epoch + 1) image) (ShowsEither shown (compacted_store shown)) _ _ stored
    (rw (c.other_side-side.ensures, c.deref.ensures.value) at c.write_side.ensures.any_moment) (λ x y k p. compact_moments place shown image x y k base room c.write_side.ensures.small long p)

pub returns-clause-any_moment : goal.returns-clause-any_moment
returns-clause-any_moment g c shown is stored =
    let place = c.args.place in
    let image = c.in-Ok.image.items in
    let base : IsBaseOf (contents_for image) shown.state = subst (λ (s : State). IsBaseOf (contents_for image) s) (sym is) c.in-Ok.ensures.base in
    let room : page_place (pages_needed (length image)) < most_side = omega (arith, c.in-Ok.ensures.few) in
    let long : length image ≡ image_length shown.state = c.in-Ok.ensures.long ∙ ap image_length (sym is) in
    honest_with (λ (s : Seen). IsStored place shown s.disks) (Writing (other_side place.side) (place.epoch + 1) image) (ShowsEither shown (compacted_store shown)) _ _ stored
    (rw (c.other_side-side.ensures, c.deref.ensures.value) at c.write_side.ensures.any_moment) (λ x y k p. compact_moments place shown image x y k base room c.write_side.ensures.small long p)

pub returns-then-place-eq18446744073709551615-clause-written : goal.returns-then-place-eq18446744073709551615-clause-written
returns-then-place-eq18446744073709551615-clause-written g c = still_spares c.args.place.side _

pub returns-in-Err-Memory-clause-written : goal.returns-in-Err-Memory-clause-written
returns-in-Err-Memory-clause-written g c = still_spares c.args.place.side _

pub returns-in-Ok-write_side-clause-written : goal.returns-in-Ok-write_side-clause-written
returns-in-Ok-write_side-clause-written g c =
    let place = c.args.place in
    let image = c.in-Ok.image.items in
    honest_weaker (Writing (other_side place.side) (place.epoch + 1) image) (λ old new. Works (Spares place.side old.disks) old new) _ _
    (rw (c.other_side-side.ensures, c.deref.ensures.value) at c.write_side.ensures.any_moment) (λ x y p. other_writes place.side (place.epoch + 1) image x y p)

pub returns-clause-written : goal.returns-clause-written
returns-clause-written g c =
    let place = c.args.place in
    let image = c.in-Ok.image.items in
    honest_weaker (Writing (other_side place.side) (place.epoch + 1) image) (λ old new. Works (Spares place.side old.disks) old new) _ _
    (rw (c.other_side-side.ensures, c.deref.ensures.value) at c.write_side.ensures.any_moment) (λ x y p. other_writes place.side (place.epoch + 1) image x y p)

pub returns-then-place-eq18446744073709551615-clause-bytes : goal.returns-then-place-eq18446744073709551615-clause-bytes
returns-then-place-eq18446744073709551615-clause-bytes g c below = absurd (omega (arith, below, c.if-place-eq18446744073709551615.true))

pub returns-then-place-eq18446744073709551615-clause-calls : goal.returns-then-place-eq18446744073709551615-clause-calls
returns-then-place-eq18446744073709551615-clause-calls g c below = absurd (omega (arith, below, c.if-place-eq18446744073709551615.true))

pub returns-in-Ok-write_side-clause-bytes : goal.returns-in-Ok-write_side-clause-bytes
returns-in-Ok-write_side-clause-bytes g c below =
    let place = c.args.place in
    let s = c.args.engine.now in
    let image = c.in-Ok.image.items in
    honest_weaker (Becomes (other_side place.side) (base_bytes (place.epoch + 1) image)) (Becomes (other_side place.side) (base_bytes (place.epoch + 1) (image_bytes s (rows_of s)))) _ _
    (rw (c.other_side-side.ensures, c.deref.ensures.value) at c.in-Ok-write_side.ensures.written)
    (λ x y p. subst (λ (l : List ℕ). Becomes (other_side place.side) (base_bytes (place.epoch + 1) l) x y) c.in-Ok.ensures.spelled p)

pub returns-in-Ok-write_side-clause-calls : goal.returns-in-Ok-write_side-clause-calls
returns-in-Ok-write_side-clause-calls g c below =
    let image = c.in-Ok.image.items in
    calls_as c.args.place.other_closed c.args.place.other_closed (pages_needed (length image)) (pages_needed (image_length c.args.engine.now)) _ _ refl (ap pages_needed c.in-Ok.ensures.long)
    (rw c.deref.ensures.value at c.in-Ok-write_side.ensures.calls)
