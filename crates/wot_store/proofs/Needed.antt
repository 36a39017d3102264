-- What a store needs of bases.
use Rattle.std.proofs.Common.{◌≡◌, ◌⊎◌, inl, inr, ℕ, zero, suc, ◌-◌, ◌*◌, ◌<◌, ◌≤◌, List, [], ◌++◌, length, map, replicate, Option, option_map, Some, None, refl, sym, ap, subst, ◌∙◌, arith}
use Rattle.std.specs.Prelude.{All}
use Rattle.std.specs.FinMap as finmap
use Rattle.std.specs.List.{filter_map}
use Rattle.std.specs.Ordering.{nat_cmp}
use Rattle.std.proofs.lemmas.List.Elements.{All-cons, All-nil}
use Rattle.std.proofs.lemmas.Option.{same_Some}
use Rattle.wot_types.specs.declared.key.Key.{Key}
use Rattle.wot_types.specs.declared.row.Row.{Row}
use Rattle.wot_types.specs.Candidates.{RowMap}
use Rattle.wot_types.specs.Fingerprint.{fpr_cmp}
use Rattle.wot_types.specs.declared.cert.Form.TheVariants.{WithFpr}
use Rattle.wot_types.specs.Image.{IsBase, IsWrittenImage, format_bytes, image_body, image_in, row_bytes_in, written_format}
use Rattle.wot_types.specs.Levels.{first_row, kept_or, map_by, new_row, rows_of, rows_upto}
use Rattle.wot_types.specs.declared.ownertrust.Ownertrust.{Ownertrust}
use Rattle.wot_types.specs.Ownertrust.{entry_of}
use Rattle.wot_types.specs.Spelling.{entry_bytes, flag_bytes, key_bytes, list_bytes, number_1, number_4, number_8, options_bytes}
use Rattle.wot_types.specs.State.{State, opening_options, opening_state}
use Rattle.wot_types.proofs.FinMaps.{no_entries}
use Rattle.wot_types.specs.PagePlaces.{content_size, page_place, pages_needed}
use Rattle.wot_pages.specs.Pages.{contents_for}
use Rattle.wot_types.specs.Compaction.{image_length}
use Rattle.wot_check.specs.declared.fault.RowFault.{RowFault}
use Rattle.wot_check.specs.FirstFault.{first_fault}
use Rattle.wot_check.specs.Stored.{IsFirstFault, IsLeastFault, Stands}
use Rattle.wot_check.proofs.FaultLaws.{first_fault_is, one_first_fault}
use Rattle.wot_check.proofs.Local.{rows_stand, standing_rows}
use Rattle.wot_store.specs.declared.error.BadStore.{BadStore}
use Rattle.wot_store.specs.declared.error.BadStore.TheVariants.{Magic, SameEpoch, Short, Seal, Spelling, Row as BadRow, BadPayload, BadEdit, Lost}
use Rattle.wot_store.specs.Base.{AreRowsOf, IsBaseOf, IsNoBase}
use Rattle.wot_store.proofs.Spelled.{one_spelled, spelled_or_not}

-- contents are a base of one state
pub one_base : (contents : List ℕ) (s t : State) → IsBaseOf contents s → IsBaseOf contents t → s ≡ t
one_base contents s t x y = (one_spelled contents s t x.current y.current x.spelled y.spelled).0

-- max-cert-depth of a state that is spelled
spelled_depth : (contents : List ℕ) (s : State) (current : Option RowMap) → IsBase content_size contents s current → 1 ≤ s.options.depth
spelled_depth contents s current x = x.spelled.spelled.sound.options.depth

-- a base isn't none
pub base_not_none : (contents : List ℕ) (s : State) (bad : BadStore) → IsBaseOf contents s → IsNoBase contents bad → ⊥
base_not_none contents s Spelling x none = none s x.current x.spelled
base_not_none contents s (BadRow fault) x none =
    let same = one_spelled contents s none.0 x.current (Some none.1) x.spelled none.2 in
    let rows : none.1 ≡ rows_of s = subst (λ (current : Option RowMap). AreRowsOf s current) same.1 x.rows in
    let stands : Stands s (rows_of s) fault.key = rows_stand s (spelled_depth contents s x.current x.spelled) fault.key in
    none.3.falls (subst (λ (p : State × RowMap). Stands p.0 p.1 fault.key) (λ i. (same.0 i, sym rows i)) stands)
base_not_none contents s (Magic side) x none = none
base_not_none contents s (SameEpoch epoch) x none = none
base_not_none contents s (Short side at) x none = none
base_not_none contents s (Seal page) x none = none
base_not_none contents s (BadPayload number) x none = none
base_not_none contents s (BadEdit number) x none = none
base_not_none contents s (Lost number) x none = none

-- contents that are no base spell nothing, or rows by the rules of now that don't all stand
record OfRows (contents : List ℕ) (bad : BadStore) : Type 0 where
  pub fault : RowFault
  pub state : State
  pub rows : RowMap
  pub spelled : IsBase content_size contents state (Some rows)
  pub least : IsLeastFault state rows fault
  pub is : bad ≡ BadRow fault

none_cases : (contents : List ℕ) (bad : BadStore) → IsNoBase contents bad → ((bad ≡ Spelling) × IsNoBase contents Spelling) ⊎ OfRows contents bad
none_cases contents Spelling none = inl (refl, none)
none_cases contents (BadRow fault) none = inr (record { fault = fault; state = none.0; rows = none.1; spelled = none.2; least = none.3; is = refl })
none_cases contents (Magic side) none = absurd none
none_cases contents (SameEpoch epoch) none = absurd none
none_cases contents (Short side at) none = absurd none
none_cases contents (Seal page) none = absurd none
none_cases contents (BadPayload number) none = absurd none
none_cases contents (BadEdit number) none = absurd none
none_cases contents (Lost number) none = absurd none

-- they have one fault
pub none_once : (contents : List ℕ) (a b : BadStore) → IsNoBase contents a → IsNoBase contents b → a ≡ b
none_once contents a b p q = both (none_cases contents a p) (none_cases contents b q)
  where
    both : ((a ≡ Spelling) × IsNoBase contents Spelling) ⊎ OfRows contents a → ((b ≡ Spelling) × IsNoBase contents Spelling) ⊎ OfRows contents b → a ≡ b
    both (inl x) (inl y) = x.0 ∙ sym y.0
    both (inl x) (inr y) = absurd (x.1 y.state (Some y.rows) y.spelled)
    both (inr x) (inl y) = absurd (y.1 x.state (Some x.rows) x.spelled)
    both (inr x) (inr y) =
        let same = one_spelled contents x.state y.state (Some x.rows) (Some y.rows) x.spelled y.spelled in
        let rows : x.rows ≡ y.rows = same_Some x.rows y.rows same.1 in
        let least : IsFirstFault y.state y.rows (Some x.fault) = subst (λ (p : State × RowMap). IsLeastFault p.0 p.1 x.fault) (λ i. (same.0 i, rows i)) x.least in
        x.is ∙ ap (λ (fault : RowFault). BadRow fault) (same_Some x.fault y.fault (one_first_fault y.state y.rows (Some x.fault) (Some y.fault) least y.least)) ∙ sym y.is

-- an image and its zeros are the contents of a base
zeros_all : (n : ℕ) → All (λ (byte : ℕ). byte ≡ 0) (replicate n 0)
zeros_all zero = All-nil (λ (byte : ℕ). byte ≡ 0)
zeros_all (suc n) = All-cons (λ (byte : ℕ). byte ≡ 0) 0 (replicate n 0) refl (zeros_all n)

zeros_long : (n : ℕ) → length {A = ℕ} (replicate n 0) ≡ n
zeros_long zero = refl
zeros_long (suc n) = omega (arith, zeros_long n)

pub image_base : (image : List ℕ) (s : State) (rows : RowMap) → IsWrittenImage image s rows → IsBase content_size (contents_for image) s (Some rows)
image_base image s rows h = record {
  image = image;
  rest = replicate (4064 * pages_needed (length image) - length image) 0;
  spelled = record { format = written_format; rows = rows; spelled = h; kept = refl };
  zeros = zeros_all (4064 * pages_needed (length image) - length image);
  few = omega (arith, zeros_long (4064 * pages_needed (length image) - length image));
  is = refl;
}

-- the contents are those of a base, or of none
abbrev pub Decided : List ℕ → Type 0
Decided contents = ((s : State) × IsBaseOf contents s) ⊎ ((bad : BadStore) × IsNoBase contents bad)

by_first : (contents : List ℕ) (s : State) (rows : RowMap) → IsBase content_size contents s (Some rows) → (first : Option RowFault) → IsFirstFault s rows first → Decided contents
by_first contents s rows x None stand = inl (s, record { current = Some rows; spelled = x; rows = standing_rows s rows stand (spelled_depth contents s (Some rows) x) })
by_first contents s rows x (Some fault) least = inr (BadRow fault, (s, rows, x, least))

-- without rows by the rules of now contents that are spelled are those of a base
by_rows : (contents : List ℕ) (s : State) (current : Option RowMap) → IsBase content_size contents s current → Decided contents
by_rows contents s None x = inl (s, record { current = None; spelled = x; rows = tt })
by_rows contents s (Some rows) x = by_first contents s rows x (first_fault s rows) (first_fault_is s rows)

pub some_base : (contents : List ℕ) → All (λ byte. byte < 256) contents → Decided contents
some_base contents each = elim (spelled_or_not contents each) [
  | inl spelled ↦ by_rows contents spelled.0 spelled.1 spelled.2
  | inr none ↦ inr (Spelling, none)
]

-- the image of the opening state has 37 bytes, which are one page
no_keys : finmap.entries opening_state.keys ≡ []
no_keys = no_entries finmap.empty (finmap.len-empty nat_cmp Key)

no_trusts : finmap.entries opening_state.trusts ≡ []
no_trusts = no_entries finmap.empty (finmap.len-empty fpr_cmp Ownertrust)

map_none : (rule : ℕ → Key → Option Row) → map_by opening_state.keys rule ≡ finmap.empty
map_none rule = ap (λ (es : List (ℕ × Key)). finmap.from_entries {R = nat_cmp} (filter_map (λ (e : ℕ × Key). option_map (λ (y : Row). (e.0, y)) (rule e.0 e.1)) es)) no_keys

no_rows : (n : ℕ) → finmap.entries (rows_upto opening_state n) ≡ []
unfolding rows_upto
no_rows zero = ap (λ (m : RowMap). finmap.entries m) (map_none (first_row opening_state)) ∙ no_entries finmap.empty (finmap.len-empty nat_cmp Row)
no_rows (suc n) = ap (λ (m : RowMap). finmap.entries m) (map_none (λ id key. kept_or (finmap.get (rows_upto opening_state n) id) (new_row opening_state (rows_upto opening_state n) (suc n) id key))) ∙ no_entries finmap.empty (finmap.len-empty nat_cmp Row)

abbrev pub body_over : List (List ℕ × Ownertrust) → List (ℕ × Key) → List (ℕ × Row) → List ℕ
body_over es ks rs = (number_1 3 ++ number_1 2) ++ (number_4 0 ++ (options_bytes opening_options ++ (list_bytes entry_bytes (map entry_of es) ++ (list_bytes (key_bytes WithFpr) (map (λ (e : ℕ × Key). e.1) ks) ++ list_bytes (row_bytes_in written_format) (map (λ (e : ℕ × Row). e.1) rs)))))

opening_length : image_length opening_state ≡ 37
unfolding image_in image_body format_bytes number_1 number_4 number_8 options_bytes list_bytes flag_bytes
opening_length = over (finmap.entries opening_state.trusts) (finmap.entries opening_state.keys) (finmap.entries (rows_of opening_state)) no_trusts no_keys (no_rows 4)
  where
    over : (es : List (List ℕ × Ownertrust)) (ks : List (ℕ × Key)) (rs : List (ℕ × Row)) → es ≡ [] → ks ≡ [] → rs ≡ [] → length (number_8 (length (body_over es ks rs)) ++ body_over es ks rs) ≡ 37
    over es ks rs a b c = (λ i. length (number_8 (length (body_over (a i) (b i) (c i))) ++ body_over (a i) (b i) (c i))) ∙ refl

pub opening_end : (n : ℕ) → n ≡ image_length opening_state → page_place (pages_needed n) ≡ 4120
opening_end n is = omega (arith, is, opening_length)
