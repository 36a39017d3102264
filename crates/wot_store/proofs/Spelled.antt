-- What a store needs of images: contents spell one state, or none.
use Rattle.std.proofs.Common.{◌≡◌, ◌⊎◌, inl, inr, ℕ, ◌+◌, ◌<◌, Bool, true, false, cond, List, ◌++◌, length, take, Option, Some, None, refl, sym, ap, subst, ◌∙◌, arith}
use Rattle.std.specs.Prelude.{All, ◌==◌, ◌&&◌, nat_lt}
use Rattle.std.specs.FinMap as finmap
use Rattle.std.specs.List.{list_all}
use Rattle.std.proofs.lemmas.Bool.{cases_lt}
use Rattle.std.proofs.lemmas.List.{get_or_past, take_at}
use Rattle.std.proofs.lemmas.List.Elements.{All-get_or, All-take}
use Rattle.std.proofs.lemmas.Option.{same_Some}
use Rattle.wot_types.specs.Candidates.{RowMap}
use Rattle.wot_types.specs.Image.{IsBase, IsImage, current_rows}
use Rattle.wot_types.specs.Keyring.{with_keys}
use Rattle.wot_types.specs.Ownertrust.{with_entries}
use Rattle.wot_types.specs.PagePlaces.{content_size}
use Rattle.wot_types.specs.Rows.{with_rows}
use Rattle.wot_types.specs.State.{State}
use Rattle.wot_spelling.specs.Reading.{bytes_at, number_8_at}
use Rattle.wot_spelling.proofs.Parts.{IsBytes, bind_some, bytes_take}
use Rattle.wot_image.specs.Bases.{front_of, padded_front}
use Rattle.wot_image.specs.Reading.{image_of}
use Rattle.wot_image.specs.States.{IsMadeOf, is_within, image_state}
use Rattle.wot_image.specs.declared.image.Image.{Image}
use Rattle.wot_image.specs.declared.stored.Stored.{Stored}
use Rattle.wot_image.proofs.BaseLemmas.{base_from, base_front, no_front}
use Rattle.wot_image.proofs.Images.{found, nothing, one_image, too_much}

-- contents spell one state, with its rows where these were counted by the rules of now
pub one_spelled : (contents : List ℕ) (s t : State) (current more : Option RowMap) → IsBase content_size contents s current → IsBase content_size contents t more → (s ≡ t) × (current ≡ more)
one_spelled contents s t current more x y =
    let same = one_image x.image y.image x.rest y.rest s t current more x.spelled y.spelled (sym x.is ∙ y.is) in
    (same.1, same.2)

-- the image at the front of contents is of bytes
record Front (contents image : List ℕ) : Type 0 where
  pub rest : List ℕ
  pub is : contents ≡ image ++ rest

front_parts : (contents image : List ℕ) → IsBytes contents → padded_front content_size contents ≡ Some image → Front contents image
unfolding padded_front front_of
front_parts contents image fits h =
    let x = bind_some (front_of contents) (λ (x : List ℕ × List ℕ). cond {A = Option (List ℕ)} (nat_lt (length x.1) content_size && list_all (λ byte. byte == 0) x.1) (Some x.0) None) image h in
    let n = bind_some (number_8_at contents) (λ (n : ℕ × List ℕ). bytes_at (n.0 + 8) contents) x.0 x.1 in
    let cut = bytes_take (n.0.0 + 8) contents x.0.0 x.0.1 fits n.2 in
    go x.0.0 x.0.1 cut.0 (nat_lt (length x.0.1) content_size && list_all (λ byte. byte == 0) x.0.1) x.2
  where
    go : (front rest : List ℕ) → contents ≡ front ++ rest → (b : Bool) → cond {A = Option (List ℕ)} b (Some front) None ≡ Some image → Front contents image
    go front rest is true same = record { rest = rest; is = is ∙ ap (λ (f : List ℕ). f ++ rest) (same_Some front image same) }
    go front rest is false same = absurd cc

at_each : (bytes : List ℕ) → All (λ byte. byte < 256) bytes → IsBytes bytes
at_each bytes each i = elim (cases_lt i (length bytes)) [
  | inl lt ↦ All-get_or (λ byte. byte < 256) bytes i 0 lt each
  | inr le ↦ rw (get_or_past bytes i 0 le) (omega arith)
]

front_bytes : (contents image : List ℕ) → All (λ byte. byte < 256) contents → Front contents image → All (λ byte. byte < 256) image
front_bytes contents image each front =
    subst (λ (l : List ℕ). All (λ byte. byte < 256) l) (ap (λ (l : List ℕ). take (length image) l) front.is ∙ take_at image front.rest (length image) refl) (All-take (λ byte. byte < 256) (length image) contents each)

-- contents spell a state, or none
abbrev pub SpelledOrNot : List ℕ → Type 0
SpelledOrNot contents = ((s : State) × (current : Option RowMap) × IsBase content_size contents s current) ⊎ ((s : State) (current : Option RowMap) → IsBase content_size contents s current → ⊥)

module _ (contents : List ℕ) (each : All (λ byte. byte < 256) contents) (image : List ℕ) (front : padded_front content_size contents ≡ Some image) where
  -- a base has this image
  its_image : (s : State) (current : Option RowMap) (base : IsBase content_size contents s current) → IsImage image s current
  its_image s current base = subst (λ (l : List ℕ). IsImage l s current) (same_Some base.image image (sym (base_front content_size contents s current base) ∙ front)) base.spelled

  by_limits : (d : Stored) (i : Image) → image_of image ≡ Some d → IsMadeOf d i → (few : Bool) → is_within i ≡ few → SpelledOrNot contents
  by_limits d i read made true few =
      let is : IsImage image (image_state i) i.rows = found image d i (at_each image (front_bytes contents image each (front_parts contents image (at_each contents each) front))) read made few in
      inl (image_state i, i.rows, base_from content_size contents image (image_state i) i.rows (at_each contents each) front is)
  by_limits d i read made false many = inr (λ s current base. too_much image d i read made many s current (its_image s current base))

  by_parts : (o : Option Stored) → image_of image ≡ o → SpelledOrNot contents
  by_parts None read = inr (λ s current base. nothing image read s current (its_image s current base))
  by_parts (Some d) read =
      let i : Image = record { table = with_keys finmap.empty d.keys; trusts = with_entries finmap.empty d.entries; date = d.date; options = d.options; rows = current_rows d.format (with_rows finmap.empty d.rows) } in
      by_limits d i read (record { table = refl; trusts = refl; date = refl; options = refl; rows = refl }) (is_within i) refl

pub spelled_or_not : (contents : List ℕ) → All (λ byte. byte < 256) contents → SpelledOrNot contents
spelled_or_not contents each = by_front (padded_front content_size contents) refl
  where
    by_front : (o : Option (List ℕ)) → padded_front content_size contents ≡ o → SpelledOrNot contents
    by_front None none = inr (λ s current base. no_front content_size contents none s current base)
    by_front (Some image) front = by_parts contents each image front (image_of image) refl
