-- What the images of a commit show.
use Rattle.std.proofs.Common.{◌≡◌, ◌⊎◌, inl, inr, ℕ, ◌+◌, ◌<◌, ◌≤◌, List, [], ◌∷◌, ◌++◌, length, get_or, take, drop, refl, sym, ◌∙◌, ap, subst, arith, None, Some}
use Rattle.std.proofs.lemmas.List.{take-append-drop, drop-drop, length-drop, length-map, drop-take, length_push, map-append, take_at, drop_at, take-take, length-take-le, get_or-drop}
use Rattle.wot_types.specs.declared.edit.Edit.{Edit}
use Rattle.wot_types.specs.State.{State}
use Rattle.wot_types.specs.Outcome.{refusal_of, edited_store}
use Rattle.wot_types.specs.StateAfter.{state_after}
use Rattle.wot_types.specs.declared.cert.Form.TheVariants.{WithFpr}
use Rattle.wot_types.specs.Numbers.{capped}
use Rattle.wot_types.specs.Payload.{IsWritten, payload}
use Rattle.wot_types.proofs.Capped.{capped_is}
use Rattle.wot_site.specs.Disk.{Image, disk_of, reads_of}
use Rattle.wot_site.specs.Seen.{Seen}
use Rattle.wot_site.specs.Work.{Works}
use Rattle.wot_site.specs.declared.side.Side.{Side}
use Rattle.wot_store.specs.Base.{IsBaseOf}
use Rattle.wot_types.specs.PagePlaces.{page_place}
use Rattle.wot_pages.specs.Pages.{contents_of}
use Rattle.wot_store.specs.declared.header.Header.{Header}
use Rattle.wot_store.specs.declared.place.Place.{Place}
use Rattle.wot_site.proofs.Works.{works_weaker}
use Rattle.wot_journal.specs.Record.{Framed, IsClosed, record_of, with_record, open_gate, most_side}
use Rattle.wot_journal.specs.Commit.{IsUnchanged, IsCommitting, Commits}
use Rattle.wot_journal.specs.Next.{HasRecord}
use Rattle.wot_store.specs.Base.{base_fault, bytes_of, has_closed_gate, header_of, other_side}
use Rattle.wot_store.specs.Journal.{Ends, Reaches, Recorded, records, after_edit}
use Rattle.wot_types.specs.Store.{Store}
use Rattle.wot_store.specs.Shows.{Shows, ShowsBase, IsStored}
use Rattle.wot_store.specs.Appending.{IsRecordOf, place_after}
use Rattle.wot_store.specs.Changing.{IsStoredAfter, ShowsEither}
use Rattle.wot_store.proofs.Headers.{IsWhole, base_whole, header_front, shown_header, whole_base}
use Rattle.wot_pages.proofs.Held.{same_contents, same_fault}
use Rattle.wot_store.proofs.Pairs.{IsShown, base_here, image_on, reads_bytes, replaced, shown_kept, shows_here}
use Rattle.wot_store.proofs.Replaying.{few_edits, reaches_more, length_record}

-- an edit with the payload that is written of it
abbrev written : Edit → Recorded
written edit = record { payload = payload edit; edit = edit }

-- where an edit has such a payload, it is this one
has_written : (bytes : List ℕ) (edit : Edit) → IsWritten bytes edit → IsWritten (payload edit) edit
has_written bytes edit spells = record { fits = spells.fits; proper = spells.proper; is = refl }

-- records that stand before a place stay where the bytes before it stay
pub reaches_front : (bytes c : List ℕ) (start : ℕ) (base : State) (edits : List Recorded) (at : ℕ) (s : State) → take at c ≡ take at bytes → at < length c
    → Reaches bytes start base edits at s → Reaches c start base edits at s
reaches_front bytes c start base edits at s front within reaches =
    let n = length (records edits) in
    let kept : (xs : List ℕ) → at < length xs → drop start xs ≡ take n (drop start xs) ++ drop at xs = λ xs lt.
    sym (take-append-drop n (drop start xs)) ∙ ap (λ (l : List ℕ). take n (drop start xs) ++ l) (drop-drop n start xs ∙ ap (λ (k : ℕ). drop k xs) (sym reaches.place)) in
    let taken : (xs : List ℕ) → drop start (take at xs) ≡ take n (drop start xs) = λ xs. ap (λ (k : ℕ). drop start (take k xs)) reaches.place ∙ drop-take start n xs in
    let old : take n (drop start bytes) ≡ records edits = ap (λ (l : List ℕ). take n l) reaches.between ∙ take_at (records edits) (drop at bytes) n refl in
    record {
      between = kept c within ∙ ap (λ (l : List ℕ). l ++ drop at c) (sym (taken c) ∙ ap (λ (l : List ℕ). drop start l) front ∙ taken bytes ∙ old);
      spelled = reaches.spelled;
      place = reaches.place;
      within = within;
      bound = reaches.bound;
      accepted = reaches.accepted;
    }

module _ (side : Side) (bytes : List ℕ) (header : Header) (is : header_of bytes ≡ Some header) (shown : Store) (shows : ShowsBase side bytes header shown) where
  whole : IsWhole bytes header
  whole = whole_base side bytes header shows.sound

  low : page_place header.pages ≤ shown.end
  low = omega (arith, shows.journal.reaches.place)

  -- the base, where the bytes before the end stay
  module _ (c : List ℕ) (front : take shown.end c ≡ take shown.end bytes) (within : shown.end < length c) where
    front_to : (n : ℕ) → n ≤ shown.end → take n c ≡ take n bytes
    front_to n few = sym (take-take n shown.end c few) ∙ ap (λ (l : List ℕ). take n l) front ∙ take-take n shown.end bytes few

    pub still_header : header_of c ≡ Some header
    still_header = header_front bytes c header is (front_to 24 (omega (arith, low))) (omega (arith, low, within))

    base_front : take (page_place header.pages) c ≡ take (page_place header.pages) bytes
    base_front = front_to (page_place header.pages) low

    pub still_sound : base_fault side c header ≡ None
    still_sound = base_whole side c header (record {
      within = omega (arith, low, within);
      bound = whole.bound;
      sealed = same_fault header.pages bytes c base_front header.epoch ∙ whole.sealed;
    })

    pub still_base : IsBaseOf (contents_of header.pages c) shown.base
    still_base = subst (λ (l : List ℕ). IsBaseOf l shown.base) (sym (same_contents header.pages bytes c base_front)) shows.is_base

    pub still_reaches : Reaches c (page_place header.pages) shown.base shows.journal.recorded shown.end shown.state
    still_reaches = reaches_front bytes c (page_place header.pages) shown.base shows.journal.recorded shown.end shown.state front within shows.journal.reaches

  -- the journal as it was
  pub still_shows : (c : List ℕ) → IsUnchanged bytes shown.end c → ShowsBase side c header shown
  still_shows c same = record {
    sound = still_sound c same.front same.gate.within;
    epoch = shows.epoch;
    is_base = still_base c same.front same.gate.within;
    journal = record { recorded = shows.journal.recorded; are = shows.journal.are; reaches = still_reaches c same.front same.gate.within; gate = same.gate };
  }

  -- with one more record
  module _ (spelling : List ℕ) (room : shown.end + length spelling + 6 ≤ most_side) where
    c : List ℕ
    c = with_record bytes shown.end spelling

    rest : List ℕ
    rest = drop (shown.end + length spelling + 6) bytes

    long_front : length (take shown.end bytes) ≡ shown.end
    long_front = length-take-le shown.end bytes (omega (arith, shows.journal.gate.within))

    front_record : take shown.end (with_record bytes shown.end spelling) ≡ take shown.end bytes
    front_record = take_at (take shown.end bytes) (record_of spelling ++ 0 ∷ drop (shown.end + length spelling + 6) bytes) shown.end long_front

    back_record : drop shown.end (with_record bytes shown.end spelling) ≡ record_of spelling ++ 0 ∷ drop (shown.end + length spelling + 6) bytes
    back_record = drop_at (take shown.end bytes) (record_of spelling ++ 0 ∷ drop (shown.end + length spelling + 6) bytes) shown.end long_front

    end_record : drop (shown.end + length spelling + 5) (with_record bytes shown.end spelling) ≡ 0 ∷ drop (shown.end + length spelling + 6) bytes
    end_record =
        let place : shown.end + (length spelling + 5) ≡ shown.end + length spelling + 5 = omega arith in
        ap (λ (k : ℕ). drop k (with_record bytes shown.end spelling)) (sym place) ∙ sym (drop-drop (length spelling + 5) shown.end (with_record bytes shown.end spelling))
        ∙ ap (λ (l : List ℕ). drop (length spelling + 5) l) back_record ∙ drop_at (record_of spelling) (0 ∷ drop (shown.end + length spelling + 6) bytes) (length spelling + 5) (length_record spelling)

    some_end : (n : ℕ) (xs : List ℕ) (b : ℕ) (ys : List ℕ) → drop n xs ≡ b ∷ ys → n < length xs
    some_end n xs b ys is = let long = ap length is in omega (arith, long, length-drop n xs)

    within_record : shown.end + length spelling + 5 < length (with_record bytes shown.end spelling)
    within_record = some_end (shown.end + length spelling + 5) (with_record bytes shown.end spelling) 0 (drop (shown.end + length spelling + 6) bytes) end_record

    has_record : HasRecord (with_record bytes shown.end spelling) shown.end spelling (shown.end + length spelling + 5)
    has_record = record {
      spelled = back_record ∙ ap (λ (l : List ℕ). record_of spelling ++ l) (sym end_record);
      place = omega arith;
      within = within_record;
      bound = omega (arith, room);
    }

    closed_record : IsClosed (with_record bytes shown.end spelling) (shown.end + length spelling + 5)
    closed_record = record {
      within = within_record;
      closed = λ e. absurd (omega (arith, sym (first e)));
    }
      where
        none : shown.end + length spelling + 5 + 0 ≡ shown.end + length spelling + 5
        none = omega arith

        first : get_or (with_record bytes shown.end spelling) (shown.end + length spelling + 5) 0 ≡ open_gate → 0 ≡ open_gate
        first e = sym (ap (λ (l : List ℕ). get_or l 0 0) end_record) ∙ get_or-drop (shown.end + length spelling + 5) (with_record bytes shown.end spelling) 0 0
            ∙ ap (λ (k : ℕ). get_or (with_record bytes shown.end spelling) k 0) none ∙ e

  module _ (edit : Edit) (spelled : IsWritten (payload edit) edit) (allowed : refusal_of shown.state edit ≡ None) (room : shown.end + length (payload edit) + 6 ≤ most_side) where
    accepted : after_edit shown.state edit ≡ Some (state_after shown.state edit)
    accepted = rw allowed refl

    end_is : shown.end + length (payload edit) + 5 ≡ shown.end + 5 + length (payload edit)
    end_is = omega arith

    longer_journal : Ends (with_record bytes shown.end (payload edit)) (page_place header.pages) shown.base (shown.edits ++ edit ∷ []) (state_after shown.state edit) (shown.end + length (payload edit) + 5)
    longer_journal = record {
      recorded = shows.journal.recorded ++ written edit ∷ [];
      are = ap (λ (l : List Edit). l ++ edit ∷ []) shows.journal.are ∙ sym (map-append (λ (r : Recorded). r.edit) shows.journal.recorded (written edit ∷ []));
      reaches = reaches_more (with_record bytes shown.end (payload edit)) (page_place header.pages) shown.base shows.journal.recorded shown.end shown.state (written edit) (shown.end + length (payload edit) + 5) (state_after shown.state edit)
          (still_reaches (with_record bytes shown.end (payload edit)) (front_record (payload edit) room) (omega (arith, within_record (payload edit) room))) (has_record (payload edit) room) (WithFpr, spelled) accepted;
      gate = closed_record (payload edit) room;
    }

    more_front : take shown.end (with_record bytes shown.end (payload edit)) ≡ take shown.end bytes
    more_front = front_record (payload edit) room

    more_within : shown.end < length (with_record bytes shown.end (payload edit))
    more_within = omega (arith, within_record (payload edit) room)

    pub more_header : header_of (with_record bytes shown.end (payload edit)) ≡ Some header
    more_header = still_header (with_record bytes shown.end (payload edit)) more_front more_within

    pub more_shows : ShowsBase side (with_record bytes shown.end (payload edit)) header (edited_store shown edit)
    more_shows = record {
      sound = still_sound (with_record bytes shown.end (payload edit)) more_front more_within;
      epoch = shows.epoch;
      is_base = still_base (with_record bytes shown.end (payload edit)) more_front more_within;
      journal = subst (λ (n : ℕ). Ends (with_record bytes shown.end (payload edit)) (page_place header.pages) shown.base (shown.edits ++ edit ∷ []) (state_after shown.state edit) n) end_is longer_journal;
    }

-- appending, from what commits
module _ (place : Place) (built : Framed) (shown : Store) (edit : Edit) (is_record : IsRecordOf built shown edit)
    (room : built.end + length built.payload + 6 ≤ most_side) (x y : Seen) (stored : IsStored place shown x.disks) where
  here : IsShown (reads_of x.disks) place.side stored.header
  here = record { sound = stored.shows.sound; is_side = stored.side }

  is_header : header_of (bytes_of place.side (reads_of x.disks)) ≡ Some stored.header
  is_header = shown_header (reads_of x.disks) place.side stored.header stored.side

  base : ShowsBase place.side (bytes_of place.side (reads_of x.disks)) stored.header shown
  base = base_here (reads_of x.disks) place.side stored.header shown stored.side stored.shows

  many : length shown.edits ≡ length base.journal.recorded
  many = ap length base.journal.are ∙ length-map base.journal.recorded (λ (r : Recorded). r.edit)

  abbrev pub recorded : List ℕ
  recorded = with_record (bytes_of place.side (reads_of x.disks)) built.end built.payload

  recorded_is : recorded ≡ with_record (bytes_of place.side (reads_of x.disks)) shown.end (payload edit)
  recorded_is = ap (λ (n : ℕ). with_record (bytes_of place.side (reads_of x.disks)) n built.payload) (sym is_record.place)
      ∙ ap (λ (l : List ℕ). with_record (bytes_of place.side (reads_of x.disks)) shown.end l) is_record.spells.is

  fits : shown.end + length (payload edit) + 6 ≤ most_side
  fits = omega (arith, is_record.place, ap (λ (l : List ℕ). length l) is_record.spells.is, room)

  recorded_header : header_of recorded ≡ Some stored.header
  recorded_header = ap (λ (l : List ℕ). header_of l) recorded_is
      ∙ more_header place.side (bytes_of place.side (reads_of x.disks)) stored.header is_header shown base edit (has_written built.payload edit is_record.spells) is_record.allowed fits

  recorded_shows : ShowsBase place.side recorded stored.header (edited_store shown edit)
  recorded_shows = subst (λ (l : List ℕ). ShowsBase place.side l stored.header (edited_store shown edit)) (sym recorded_is)
      (more_shows place.side (bytes_of place.side (reads_of x.disks)) stored.header is_header shown base edit (has_written built.payload edit is_record.spells) is_record.allowed fits)

  recorded_image : (c : Image) → bytes_of (other_side place.side) c ≡ bytes_of (other_side place.side) (reads_of x.disks) → bytes_of place.side c ≡ recorded → Shows c (edited_store shown edit)
  recorded_image c other whole =
      shows_here c place.side stored.header (edited_store shown edit) (shown_kept (reads_of x.disks) c place.side stored.header here (ap (λ (l : List ℕ). header_of l) whole ∙ recorded_header) other)
      (subst (λ (l : List ℕ). ShowsBase place.side l stored.header (edited_store shown edit)) (sym whole) recorded_shows)

  -- a pair whose shown side is as it was, or has the record
  image_shows : (c : Image) → bytes_of (other_side place.side) c ≡ bytes_of (other_side place.side) (reads_of x.disks)
      → IsUnchanged (bytes_of place.side (reads_of x.disks)) built.end (bytes_of place.side c) ⊎ (bytes_of place.side c ≡ recorded) → Shows c shown ⊎ Shows c (edited_store shown edit)
  image_shows c other (inl same) =
      let at_end : IsUnchanged (bytes_of place.side (reads_of x.disks)) shown.end (bytes_of place.side c) = subst (λ (n : ℕ). IsUnchanged (bytes_of place.side (reads_of x.disks)) n (bytes_of place.side c)) (sym is_record.place) same in
      let kept = still_header place.side (bytes_of place.side (reads_of x.disks)) stored.header is_header shown base (bytes_of place.side c) at_end.front at_end.gate.within in
      inl (shows_here c place.side stored.header shown (shown_kept (reads_of x.disks) c place.side stored.header here kept other)
      (still_shows place.side (bytes_of place.side (reads_of x.disks)) stored.header is_header shown base (bytes_of place.side c) at_end))
  image_shows c other (inr whole) = inr (recorded_image c other whole)

  pub append_moments : Works (IsCommitting place.side built x.disks) x y → ShowsEither shown (edited_store shown edit) x y
  append_moments works = works_weaker _ _ x y (λ d on c image.
      let left = image_on place.side P x.disks d stored.settled (record { other = on.other; images = λ b is. reads b (on.images b is) }) c image in
      image_shows c left.other left.here) works
    where
      P : List ℕ → Type 0
      P b = IsUnchanged (bytes_of place.side (reads_of x.disks)) built.end b ⊎ (b ≡ recorded)

      reads : (b : List ℕ) → IsUnchanged (disk_of place.side x.disks).reads built.end b ⊎ (b ≡ with_record (disk_of place.side x.disks).reads built.end built.payload) → P b
      reads b h = subst (λ (l : List ℕ). IsUnchanged l built.end b ⊎ (b ≡ with_record l built.end built.payload)) (reads_bytes place.side x.disks) h

  pub append_done : Commits place.side built x y → IsStoredAfter (place_after place built) (edited_store shown edit) x y
  append_done commits =
      let now = replaced place.side (with_record (disk_of place.side x.disks).reads built.end built.payload) x.disks y.disks stored.settled commits in
      let whole : bytes_of place.side (reads_of y.disks) ≡ recorded = now.here ∙ ap (λ (l : List ℕ). with_record l built.end built.payload) (reads_bytes place.side x.disks) in
      record {
        header = stored.header;
        side = (shown_kept (reads_of x.disks) (reads_of y.disks) place.side stored.header here (ap (λ (l : List ℕ). header_of l) whole ∙ recorded_header) now.other).is_side;
        epoch = stored.epoch;
        end = omega (arith, is_record.place, ap (λ (l : List ℕ). length l) is_record.spells.is);
        pages = stored.pages;
        records = ap (λ (n : ℕ). capped (n + 1)) stored.records
            ∙ capped_is (length shown.edits + 1) (omega (arith, many, few_edits base.journal.recorded, base.journal.reaches.place, base.journal.reaches.bound)) ∙ sym (length_push shown.edits edit);
        shows = recorded_image (reads_of y.disks) now.other whole;
        closed = stored.closed ∙ ap (λ (l : List ℕ). has_closed_gate l) (sym now.other);
        settled = now.settled;
      }
