-- What is read where the store is open: the edits since its base have one order.
use Rattle.std.proofs.Common.{◌≡◌, inl, inr, ⊎_elim, ℕ, ◌+◌, ◌<◌, ◌≤◌, Bool, true, false, List, [], ◌∷◌, ◌++◌, length, get_or, take, drop, refl, sym, ◌∙◌, ap, subst, arith, Option, Some, None}
use Rattle.std.specs.Prelude.{is_none, if◌then◌else◌, Ok, Err}
use Rattle.std.proofs.lemmas.List.{length-map, take-map}
use Rattle.std.proofs.lemmas.Option.{option_and_then_some, same_Some}
use Rattle.wot_types.specs.declared.edit.Edit.{Edit}
use Rattle.wot_types.specs.EarlierStates.{earlier_state, with_edits}
use Rattle.wot_types.specs.Outcome.{refusal_of}
use Rattle.wot_types.specs.PagePlaces.{page_place}
use Rattle.wot_types.specs.State.{State}
use Rattle.wot_types.specs.StateAfter.{state_after}
use Rattle.wot_types.specs.Store.{Store}
use Rattle.wot_site.specs.Disk.{disk_of, reads_of}
use Rattle.wot_site.specs.Seen.{Honestly, IfHonest, Seen}
use Rattle.wot_site.specs.declared.side.Side.{Side}
use Rattle.wot_pages.specs.Pages.{contents_of}
use Rattle.wot_store.specs.declared.error.BadStore.TheVariants as bad
use Rattle.wot_store.specs.declared.header.Header.{Header}
use Rattle.wot_store.specs.declared.place.Place.{Place}
use Rattle.wot_store.specs.Base.{bytes_of}
use Rattle.wot_store.specs.Journal.{Reaches, Recorded, after_edit, after_edits, edits_of, records}
use Rattle.wot_store.specs.Shows.{IsStored, ShowsBase}
use Rattle.wot_store.proofs.Headers.{whole_base}
use Rattle.wot_store.proofs.Spelled.{one_spelled}
use Rattle.wot_store.proofs.Pairs.{base_here, reads_bytes}
use Rattle.wot_store.proofs.Unique.{Ahead, Walk, behind, closed_gate, compare_all, no_fault, step, walk_of}
use Rattle.wot_history.specs.declared.error.HistoryError.{HistoryError}
use Rattle.wot_history.specs.declared.error.HistoryError.TheVariants.{DiskFault, Short, Seal, Spelling, Lost, BadPayload, BadEdit, Memory}
use Rattle.wot_history.specs.History.{HasBase, HasBaseFault, HasRecordFault, HoldsState, IsAnswerOf, IsAsked, IsEarlier, LacksState}
use Rattle.wot_history.specs.Reading.{FindsState, LacksIt}

-- the state after an edit that is accepted, and after several
made_is : (base : State) (edit : Edit) (t : State) → after_edit base edit ≡ Some t → t ≡ state_after base edit
made_is base edit t is = on (is_none (refusal_of base edit)) is
  where
    on : (b : Bool) → (if b then Some (state_after base edit) else None) ≡ Some t → t ≡ state_after base edit
    on true e = sym (same_Some (state_after base edit) t e)
    on false e = absurd (cc e)

pub reached : (base : State) (recorded : List Recorded) (s : State) → after_edits base recorded ≡ Some s → s ≡ with_edits base (edits_of recorded)
reached base [] s is = sym (same_Some base s is)
reached base (r ∷ recorded) s is =
    option_and_then_some (λ (t : State). after_edits t recorded) (after_edit base r.edit) s is
    (λ t made rest. reached t recorded s rest ∙ ap (λ (u : State). with_edits u (edits_of recorded)) (made_is base r.edit t made))

-- of two walks from one place the records of the shorter are the first of the longer
pub first_records : (R : List ℕ) (base : State) (ps qs : List Recorded) (end rest : List ℕ) (s t : State) → Walk R base ps end s → Walk R base qs rest t → length ps ≤ length qs → ps ≡ take (length ps) qs
first_records R base [] qs end rest s t w v few = refl
first_records R base (p ∷ ps) [] end rest s t w v few = absurd (omega (arith, few))
first_records R base (p ∷ ps) (q ∷ qs) end rest s t w v few =
    let b = behind R base p ps end s w in
    let d = behind R base q qs rest t v in
    let one = step R base p q ps qs end rest s t b d in
    let more = first_records (records ps ++ end) b.next ps qs end rest s t b.walk
    (subst (λ (u : State). Walk (records ps ++ end) u qs rest t) (sym one.state) (subst (λ (l : List ℕ). Walk l d.next qs rest t) (sym one.rest) d.walk)) (omega (arith, few)) in
    λ i. one.edit i ∷ more i

-- a side that shows this store
module _ (side : Side) (bytes : List ℕ) (header : Header) (shown : Store) (shows : ShowsBase side bytes header shown) (count : ℕ) (made : count ≤ length shown.edits) where
  -- its records are as many as its edits
  many : length shown.edits ≡ length shows.journal.recorded
  many = ap length shows.journal.are ∙ length-map shows.journal.recorded (λ (r : Recorded). r.edit)

  whole : Walk (drop (page_place header.pages) bytes) shown.base shows.journal.recorded (drop shown.end bytes) shown.state
  whole = walk_of bytes (page_place header.pages) shown.base shows.journal.recorded shown.end shown.state shows.journal.reaches

  -- it has one base
  base_is : (base : State) → HasBase bytes header.epoch header.pages base → base ≡ shown.base
  base_is base has = (one_spelled (contents_of header.pages bytes) base shown.base has.current shows.is_base.current has.is_base shows.is_base.spelled).0

  reaches_from : (base : State) (recorded : List Recorded) (at : ℕ) (s : State) → HasBase bytes header.epoch header.pages base → Reaches bytes (page_place header.pages) base recorded at s
      → Walk (drop (page_place header.pages) bytes) shown.base recorded (drop at bytes) s
  reaches_from base recorded at s has reaches =
      walk_of bytes (page_place header.pages) shown.base recorded at s (subst (λ (b : State). Reaches bytes (page_place header.pages) b recorded at s) (base_is base has) reaches)

  -- what it holds after so many edits
  pub holds_earlier : (state : State) → HoldsState bytes header.epoch header.pages count state → state ≡ earlier_state shown count
  holds_earlier state holds =
      let leads = holds.leads in
      let n = length leads.recorded in
      let walk = reaches_from holds.base leads.recorded holds.at state holds.has_base leads.reaches in
      let first : leads.recorded ≡ take n shows.journal.recorded =
      first_records (drop (page_place header.pages) bytes) shown.base leads.recorded shows.journal.recorded (drop holds.at bytes) (drop shown.end bytes) state shown.state walk whole (omega (arith, made, many, leads.many)) in
      let edits : edits_of leads.recorded ≡ take count shown.edits =
      ap edits_of first ∙ sym (take-map (λ (r : Recorded). r.edit) n shows.journal.recorded) ∙ ap (λ (edits : List Edit). take n edits) (sym shows.journal.are) ∙ ap (λ (k : ℕ). take k shown.edits) (sym leads.many) in
      reached shown.base leads.recorded state walk.accepted ∙ ap (λ (edits : List Edit). with_edits shown.base edits) edits

  -- the record that is to stand behind fewer stands there
  record_ahead : (recorded : List Recorded) (at : ℕ) (s : State) → Walk (drop (page_place header.pages) bytes) shown.base recorded (drop at bytes) s → length recorded + 1 ≤ length shown.edits → Ahead s (drop shown.end bytes) (drop at bytes)
  record_ahead recorded at s walk few =
      ⊎_elim (λ h. absurd (omega (arith, few, many, ap length h.2)))
      (λ either. ⊎_elim (λ ahead. ahead) (λ ahead. absurd (closed_gate bytes shown.end shows.journal.gate (ap (λ (l : List ℕ). get_or l 0 0) ahead.stands))) either)
      (compare_all (drop (page_place header.pages) bytes) shown.base shows.journal.recorded recorded (drop shown.end bytes) (drop at bytes) shown.state s whole walk)

  right_record : (done at : ℕ) (s : State) (ahead : Ahead s (drop shown.end bytes) (drop at bytes)) → at < length bytes → (fault : HistoryError) → HasRecordFault bytes at (done + 1) s fault → ⊥
  right_record done at s ahead within (Lost n) wrong = closed_gate bytes at wrong.1 (ap (λ (l : List ℕ). get_or l 0 0) ahead.stands)
  right_record done at s ahead within (Short q) wrong =
      no_fault side bytes at shown.end (done + 1) s ahead shows.journal.gate.within shows.journal.reaches.bound within (bad.Short side q) (refl, wrong.0, wrong.1)
  right_record done at s ahead within (BadPayload n) wrong =
      no_fault side bytes at shown.end (done + 1) s ahead shows.journal.gate.within shows.journal.reaches.bound within (bad.BadPayload n) (wrong.1.spelling, wrong.1.end, wrong.1.here, (wrong.0, wrong.1.none))
  right_record done at s ahead within (BadEdit n) wrong =
      no_fault side bytes at shown.end (done + 1) s ahead shows.journal.gate.within shows.journal.reaches.bound within (bad.BadEdit n) (wrong.1.spelling, wrong.1.end, wrong.1.here, (wrong.0, wrong.1.none))
  right_record done at s ahead within DiskFault wrong = wrong
  right_record done at s ahead within (Seal k) wrong = wrong
  right_record done at s ahead within Spelling wrong = wrong
  right_record done at s ahead within Memory wrong = wrong

  right_base : (fault : HistoryError) → HasBaseFault bytes header.epoch header.pages fault → ⊥
  right_base (Short q) wrong = let w = whole_base side bytes header shows.sound in omega (arith, wrong.1, w.within, w.bound)
  right_base (Seal k) wrong = let w = whole_base side bytes header shows.sound in cc (sym w.sealed ∙ wrong.1)
  right_base Spelling wrong = wrong.2 shown.base shows.is_base.current shows.is_base.spelled
  right_base DiskFault wrong = wrong
  right_base (Lost n) wrong = wrong
  right_base (BadPayload n) wrong = wrong
  right_base (BadEdit n) wrong = wrong
  right_base Memory wrong = wrong

  -- and nothing is wrong before that
  pub lacks_nothing : (fault : HistoryError) → LacksState bytes header.epoch header.pages count fault → ⊥
  lacks_nothing fault (inl wrong) = right_base fault wrong
  lacks_nothing fault (inr (base, has, stops)) =
      let leads = stops.leads in
      let ahead = record_ahead leads.recorded stops.at stops.state (reaches_from base leads.recorded stops.at stops.state has leads.reaches) (omega (arith, made, leads.many, stops.few)) in
      right_record stops.done stops.at stops.state ahead leads.reaches.within fault stops.wrong

  pub no_answer : (fault : HistoryError) → IsAnswerOf bytes header.epoch header.pages count fault → IsEarlier shown count (Err fault)
  no_answer DiskFault answer = tt
  no_answer Memory answer = tt
  no_answer (Short q) answer = lacks_nothing (Short q) answer
  no_answer (Seal k) answer = lacks_nothing (Seal k) answer
  no_answer Spelling answer = lacks_nothing Spelling answer
  no_answer (Lost n) answer = lacks_nothing (Lost n) answer
  no_answer (BadPayload n) answer = lacks_nothing (BadPayload n) answer
  no_answer (BadEdit n) answer = lacks_nothing (BadEdit n) answer

-- the store is open
module _ (place : Place) (shown : Store) (side : Side) (epoch pages count : ℕ) (asked : IsAsked place shown side epoch pages count) (x : Seen) (stored : IsStored place shown x.disks) where
  its_base : ShowsBase place.side (bytes_of place.side (reads_of x.disks)) stored.header shown
  its_base = base_here (reads_of x.disks) place.side stored.header shown stored.side stored.shows

  epoch_is : epoch ≡ stored.header.epoch
  epoch_is = sym asked.is_epoch ∙ stored.epoch ∙ its_base.epoch

  pages_is : pages ≡ stored.header.pages
  pages_is = sym asked.is_pages ∙ stored.pages

  bytes_is : (disk_of side x.disks).reads ≡ bytes_of place.side (reads_of x.disks)
  bytes_is = ap (λ (s : Side). (disk_of s x.disks).reads) (sym asked.is_side) ∙ reads_bytes place.side x.disks

  pub stored_earlier : (state : State) → HoldsState (disk_of side x.disks).reads epoch pages count state → IsEarlier shown count (Ok state)
  stored_earlier state holds = holds_earlier place.side (bytes_of place.side (reads_of x.disks)) stored.header shown its_base count asked.made state
      (subst (λ (n : ℕ). HoldsState (bytes_of place.side (reads_of x.disks)) stored.header.epoch n count state) pages_is
      (subst (λ (n : ℕ). HoldsState (bytes_of place.side (reads_of x.disks)) n pages count state) epoch_is
      (subst (λ (l : List ℕ). HoldsState l epoch pages count state) bytes_is holds)))

  pub stored_answer : (fault : HistoryError) → IsAnswerOf (disk_of side x.disks).reads epoch pages count fault → IsEarlier shown count (Err fault)
  stored_answer fault answer = no_answer place.side (bytes_of place.side (reads_of x.disks)) stored.header shown its_base count asked.made fault
      (subst (λ (n : ℕ). IsAnswerOf (bytes_of place.side (reads_of x.disks)) stored.header.epoch n count fault) pages_is
      (subst (λ (n : ℕ). IsAnswerOf (bytes_of place.side (reads_of x.disks)) n pages count fault) epoch_is
      (subst (λ (l : List ℕ). IsAnswerOf l epoch pages count fault) bytes_is answer)))

pub found_earlier : (place : Place) (shown : Store) (side : Side) (epoch pages count : ℕ) (asked : IsAsked place shown side epoch pages count) (state : State) (a b : Option Seen)
    → Honestly a b (FindsState side epoch pages count state) → IfHonest a (λ s. IsStored place shown s.disks → IsEarlier shown count (Ok state))
found_earlier place shown side epoch pages count asked state None b found = tt
found_earlier place shown side epoch pages count asked state (Some x) None found = absurd found
found_earlier place shown side epoch pages count asked state (Some x) (Some y) found = λ stored. stored_earlier place shown side epoch pages count asked x stored state found.holds

pub lacked_earlier : (place : Place) (shown : Store) (side : Side) (epoch pages count : ℕ) (asked : IsAsked place shown side epoch pages count) (fault : HistoryError) (a b : Option Seen)
    → Honestly a b (LacksIt side epoch pages count fault) → IfHonest a (λ s. IsStored place shown s.disks → IsEarlier shown count (Err fault))
lacked_earlier place shown side epoch pages count asked fault None b found = tt
lacked_earlier place shown side epoch pages count asked fault (Some x) None found = absurd found
lacked_earlier place shown side epoch pages count asked fault (Some x) (Some y) found = λ stored. stored_answer place shown side epoch pages count asked x stored fault found.answer
