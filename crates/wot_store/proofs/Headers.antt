-- What the headers of the sides say.
use Rattle.std.proofs.Common.{◌≡◌, ◌≢◌, ◌⊎◌, inl, inr, ℕ, ◌<◌, ◌≤◌, Bool, true, false, List, length, get_or, take, refl, sym, ◌∙◌, ap, arith, Option, None, Some}
use Rattle.std.specs.Prelude.{nat_lt, if◌then◌else◌, option_map, min}
use Rattle.std.proofs.lemmas.Bool.{cases_eq, cases_lt}
use Rattle.std.proofs.lemmas.Bool.Decides.{nat_tests}
use Rattle.std.proofs.lemmas.List.{get_or-take}
use Rattle.std.proofs.lemmas.Option.{same_Some}
use Rattle.wot_site.specs.Disk.{Image}
use Rattle.wot_site.specs.declared.side.Side.{Side}
use Rattle.wot_site.specs.declared.side.Side.TheVariants.{Zero, One}
use Rattle.wot_journal.specs.Record.{IsClosed, open_gate, most_side}
use Rattle.wot_types.specs.PagePlaces.{page_place}
use Rattle.wot_pages.specs.Pages.{seal_fault}
use Rattle.wot_store.specs.declared.header.Header.{Header}
use Rattle.wot_store.specs.declared.error.BadStore.TheVariants.{Short, Seal}
use Rattle.wot_store.specs.Base.{IsBlank, base_fault, bytes_of, has_closed_gate, header_in, header_of, shown_side}

pub blank_short : (bytes : List ℕ) → length bytes < 24 → IsBlank bytes
blank_short bytes short = grind (arith, nat_tests)

pub blank_shut : (bytes : List ℕ) → get_or bytes 0 0 ≢ open_gate → IsBlank bytes
blank_shut bytes shut = grind (arith, nat_tests)

pub closed_blank : (c : List ℕ) → IsClosed c 0 → IsBlank c
closed_blank c closed = blank_shut c closed.closed

pub opened_header : (bytes : List ℕ) → 24 ≤ length bytes → get_or bytes 0 0 ≡ open_gate → header_of bytes ≡ Some (header_in (take 24 bytes))
opened_header bytes long gate = grind (arith, nat_tests)

-- a side with a header
pub record IsOpened (bytes : List ℕ) (header : Header) : Type 0 where
  pub long : 24 ≤ length bytes
  pub gate : get_or bytes 0 0 ≡ open_gate
  pub says : header_in (take 24 bytes) ≡ header

pub header_opened : (bytes : List ℕ) (header : Header) → header_of bytes ≡ Some header → IsOpened bytes header
header_opened bytes header is = elim (cases_lt (length bytes) 24) [
  | inl short ↦ absurd (none (sym (blank_short bytes short) ∙ is))
  | inr long ↦ elim (cases_eq (get_or bytes 0 0) open_gate) [
    | inr shut ↦ absurd (none (sym (blank_shut bytes shut) ∙ is))
    | inl gate ↦ record { long = long; gate = gate; says = some (sym (opened_header bytes long gate) ∙ is) }
  ]
]
  where
    none : None ≡ Some header → ⊥
    none e = cc e

    some : Some (header_in (take 24 bytes)) ≡ Some header → header_in (take 24 bytes) ≡ header
    some e = cc e

-- the header is the same where the bytes of it are
pub header_front : (bytes c : List ℕ) (header : Header) → header_of bytes ≡ Some header → take 24 c ≡ take 24 bytes → 24 ≤ length c → header_of c ≡ Some header
header_front bytes c header is front long =
    let opened = header_opened bytes header is in
    opened_header c long (sym (get_or-take 24 c 0 0 (omega arith)) ∙ ap (λ (l : List ℕ). get_or l 0 0) front ∙ get_or-take 24 bytes 0 0 (omega arith) ∙ opened.gate)
    ∙ ap (λ (l : List ℕ). Some (header_in l)) front ∙ ap (λ (h : Header). Some h) opened.says

-- the shown side isn't blank
pub shown_header : (c : Image) (side : Side) (header : Header) → shown_side (header_of c.zero) (header_of c.one) ≡ Some (side, header) → header_of (bytes_of side c) ≡ Some header
shown_header c side header is = cases (header_of c.zero) (header_of c.one) refl refl is
  where
    found : (s : Side) (h : Header) → header_of (bytes_of s c) ≡ Some h → ◌≡◌ {A = Option (Side × Header)} (Some (s, h)) (Some (side, header)) → header_of (bytes_of side c) ≡ Some header
    found s h there e =
        let a : Side × Header = (s, h) in
        let b : Side × Header = (side, header) in
        let both : a ≡ b = same_Some a b e in
        let p : s ≡ side = ap (λ (q : Side × Header). q.0) both in
        let k : h ≡ header = ap (λ (q : Side × Header). q.1) both in
        ap (λ (t : Side). header_of (bytes_of t c)) (sym p) ∙ there ∙ ap (λ (x : Header). Some x) k

    cases : (zero one : Option Header) → header_of c.zero ≡ zero → header_of c.one ≡ one → shown_side zero one ≡ Some (side, header) → header_of (bytes_of side c) ≡ Some header
    cases None None z o e = absurd (cc e)
    cases (Some h) None z o e = found Zero h z e
    cases None (Some k) z o e = found One k o e
    cases (Some h) (Some k) z o e = either (nat_lt h.epoch k.epoch) e
      where
        either : (b : Bool) → ◌≡◌ {A = Option (Side × Header)} (if b then Some (One, k) else Some (Zero, h)) (Some (side, header)) → header_of (bytes_of side c) ≡ Some header
        either true e = found One k o e
        either false e = found Zero h z e

-- a base without a fault: its pages and the gate behind them lie within the side and its limit, and each seal is right
pub record IsWhole (bytes : List ℕ) (header : Header) : Type 0 where
  pub within : page_place header.pages < length bytes
  pub bound : page_place header.pages < most_side
  pub sealed : seal_fault header.epoch header.pages bytes ≡ None

pub fitting : (side : Side) (bytes : List ℕ) (header : Header) → page_place header.pages < min (length bytes) most_side → base_fault side bytes header ≡ option_map Seal (seal_fault header.epoch header.pages bytes)
fitting side bytes header fits = grind (arith, nat_tests)

passing : (side : Side) (bytes : List ℕ) (header : Header) → min (length bytes) most_side ≤ page_place header.pages → base_fault side bytes header ≡ Some (Short side 24)
passing side bytes header past = grind (arith, nat_tests)

pub whole_base : (side : Side) (bytes : List ℕ) (header : Header) → base_fault side bytes header ≡ None → IsWhole bytes header
whole_base side bytes header none = elim (cases_lt (page_place header.pages) (min (length bytes) most_side)) [
  | inl fits ↦ record { within = omega arith; bound = omega arith; sealed = sealed (seal_fault header.epoch header.pages bytes) (sym (fitting side bytes header fits) ∙ none) }
  | inr past ↦ absurd (short (sym (passing side bytes header past) ∙ none))
]
  where
    sealed : (o : Option ℕ) → option_map Seal o ≡ None → o ≡ None
    sealed None e = refl
    sealed (Some k) e = absurd (cc e)

    short : Some (Short side 24) ≡ None → ⊥
    short e = cc e

pub base_whole : (side : Side) (bytes : List ℕ) (header : Header) → IsWhole bytes header → base_fault side bytes header ≡ None
base_whole side bytes header whole = fits ∙ ap (λ (o : Option ℕ). option_map Seal o) whole.sealed
  where
    fits : base_fault side bytes header ≡ option_map Seal (seal_fault header.epoch header.pages bytes)
    fits = let w = whole.within in let b = whole.bound in grind (arith, nat_tests)

-- whether the gate is closed in front of room for a header
pub shut_gate : (bytes : List ℕ) → true ≡ has_closed_gate bytes → IsClosed bytes 0
shut_gate bytes is = record { within = within is; closed = λ e. shut e is }
  where
    within : true ≡ has_closed_gate bytes → 0 < length bytes
    within is = elim (cases_lt (length bytes) 24) [ inl short ↦ absurd (no short is) | inr long ↦ omega arith ]
      where
        no : length bytes < 24 → true ≡ has_closed_gate bytes → ⊥
        no short is = grind (arith, nat_tests)

    shut : get_or bytes 0 0 ≡ open_gate → true ≡ has_closed_gate bytes → ⊥
    shut e is = grind (arith, nat_tests)

pub not_closed : (bytes : List ℕ) → false ≡ has_closed_gate bytes → (length bytes < 24) ⊎ (get_or bytes 0 0 ≡ open_gate)
not_closed bytes is = elim (cases_lt (length bytes) 24) [
  | inl short ↦ inl short
  | inr long ↦ elim (cases_eq (get_or bytes 0 0) open_gate) [ inl gate ↦ inr gate | inr shut ↦ absurd (no long shut is) ]
]
  where
    no : 24 ≤ length bytes → get_or bytes 0 0 ≢ open_gate → false ≡ has_closed_gate bytes → ⊥
    no long shut is = grind (arith, nat_tests)
