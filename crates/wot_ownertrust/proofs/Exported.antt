-- The lines that `export` prints, and what is read of them.
use Rattle.std.proofs.Common.{◌≡◌, ℕ, suc, ◌+◌, ◌*◌, ◌/◌, ◌%◌, ◌<◌, Bool, true, false, cond, List, [], ◌∷◌, ◌++◌, map, length, T, append_assoc, append-nil, All, Some, None, Ok, refl, sym, ap, subst, ◌∙◌, arith, inl, inr, decimal, slice_index, codes}
use Rattle.std.specs.Prelude.{◌==◌, ◌||◌, ◌&&◌, not, nat_le, if◌then◌else◌, fold, option_map}
use Rattle.std.specs.Fmt.{digits}
use Rattle.std.specs.FinMap as finmap
use Rattle.std.specs.FinMap.Entries.{is_sorted, below_all}
use Rattle.std.specs.Ordering.{is_eq, is_lt}
use Rattle.std.specs.declared.cmp.Ordering.{Ordering}
use Rattle.std.specs.declared.cmp.Ordering.TheVariants.{Less, Equal, Greater}
use Rattle.std.specs.List.{flat_map, list_all, list_any, slice_split}
use Rattle.std.specs.Option.{option_or}
use Rattle.std.specs.Result.{result_ok}
use Rattle.std.proofs.lemmas.Bool.{agree_below_at, and_from, and_parts, and_right, cond-true, cond_both, or_from}
use Rattle.std.proofs.lemmas.Bool.Decides.{nat_tests}
use Rattle.std.proofs.lemmas.List.Elements.{All-append, All-cons, All-head, All-nil, All-tail}
use Rattle.std.proofs.lemmas.List.Folds.{list_all-append}
use Rattle.std.proofs.lemmas.List.Splits.{slice_split_at}
use Rattle.hex.specs.Hex.{IsBytes, encode_upper, encode_with, upper_digits}
use Rattle.hex.proofs.HexLemmas.{decode_of-encode_upper, length-encode_with}
use Rattle.wot_types.specs.declared.ownertrust.Ownertrust.{Ownertrust}
use Rattle.wot_types.specs.declared.trust.Trust.{Trust}
use Rattle.wot_types.specs.declared.trust.Trust.TheVariants.{Unknown, Undefined, Never, Marginal, Full, Ultimate}
use Rattle.wot_types.specs.Bytes.{is_word}
use Rattle.wot_types.specs.Commands.{ends_block}
use Rattle.wot_types.specs.Fields.{fields, is_colon}
use Rattle.wot_types.specs.Fingerprint.{IsFprLength, fingerprint, fpr_cmp}
use Rattle.wot_types.specs.Lines.{is_blank, is_comment, is_newline, is_space, lines, open_line, whole_lines, without_return, front_of, last_of}
use Rattle.wot_types.specs.Numbers.{capped, number}
use Rattle.wot_types.specs.Ownertrust.{OwnertrustMap, entry_of, is_unset, ownertrust_line, ownertrust_number, ownertrust_text, with_entries, with_ownertrust}
use Rattle.wot_types.specs.OwnertrustText.{entry_by, entry_of_fields, entry_of_line, entry_with, fault_of, listed_entries, ownertrust_fault, ownertrust_fault_after, ownertrust_of_number, text_entries, with_line_entry}
use Rattle.wot_types.proofs.Optionals.{or_none}
use Rattle.wot_types.proofs.Tests.{first_part, second_part}
use Rattle.wot_types.proofs.FinMaps.{All-insert, no_entries}
use Rattle.wot_types.proofs.Fingerprints.{fpr_cmp_total, fpr_cmp-IsAntisymmetric}
use Rattle.wot_types.proofs.ListEnds.{front_of_more, last_of_more}
use Rattle.wot_types.proofs.Removals.{All-without}
use Rattle.wot_ownertrust.specs.Kept.{IsKept}

-- ---- the bytes of a field

-- digits and letters: what cuts neither lines nor fields, and begins neither a comment nor the end of a block
abbrev is_plain : ℕ → Bool
is_plain b = nat_le 48 b && not (b == 58)

abbrev IsPlain : List ℕ → Type 0
IsPlain text = list_all is_plain text ≡ true

other_byte : (b : ℕ) → is_plain b ≡ true → (is_colon b ≡ false) × (is_newline b ≡ false) × ((b == 35) ≡ false) × ((b == 46) ≡ false)
other_byte b e = grind (arith, nat_tests)

plain_digit : (d : ℕ) → d < 16 → is_plain (slice_index upper_digits d) ≡ true
plain_digit d l = agree_below_at (λ n. is_plain (slice_index upper_digits n)) (λ n. true) 16 d refl l

plain_hex : (bytes : List ℕ) → IsBytes bytes → IsPlain (encode_upper bytes)
unfolding encode_with
plain_hex [] h = refl
plain_hex (b ∷ bytes) h =
    let fits : b < 256 = h 0 in
    and_from _ _ (plain_digit (b / 16) (omega arith)) (and_from _ _ (plain_digit (b % 16) (omega arith)) (plain_hex bytes (λ i. h (suc i))))

free_of : (p : ℕ → Bool) → ((b : ℕ) → is_plain b ≡ true → p b ≡ false) → (text : List ℕ) → IsPlain text → All (λ b. p b ≡ false) text
free_of p other [] h = All-nil (λ b. p b ≡ false)
free_of p other (b ∷ text) h =
    let both = and_parts (is_plain b) (list_all is_plain text) h in
    All-cons (λ b. p b ≡ false) b text (other b both.0) (free_of p other text both.1)

-- ---- fingerprints and numbers

fingerprint_read : (fpr : List ℕ) → IsFprLength fpr → IsBytes fpr → fingerprint (encode_upper fpr) ≡ Some fpr
fingerprint_read fpr sized h =
    cond-true ((length (encode_upper fpr) == 40) || (length (encode_upper fpr) == 64)) _ None (long sized) ∙ ap result_ok (decode_of-encode_upper fpr h)
  where
    long : IsFprLength fpr → ((length (encode_upper fpr) == 40) || (length (encode_upper fpr) == 64)) ≡ true
    long (inl e) = ap (λ n. (n == 40) || (n == 64)) (length-encode_with upper_digits fpr ∙ ap (λ n. 2 * n) e)
    long (inr e) = ap (λ n. (n == 40) || (n == 64)) (length-encode_with upper_digits fpr ∙ ap (λ n. 2 * n) e)

-- a number that is printed is read as what is kept
record IsRead (kept : Ownertrust) : Type 0 where
  plain : IsPlain (decimal (ownertrust_number kept))
  value : number (decimal (ownertrust_number kept)) ≡ Some (ownertrust_number kept)
  some : (ownertrust_number kept == 0) ≡ false
  means : ownertrust_of_number (ownertrust_number kept) ≡ Some kept

number_read : (kept : Ownertrust) → is_unset kept ≡ false → IsRead kept
unfolding digits
number_read kept set = at kept.trust kept.disabled set
  where
    at : (trust : Trust) (disabled : Bool) → is_unset (record { trust = trust; disabled = disabled }) ≡ false → IsRead (record { trust = trust; disabled = disabled })
    at Unknown false set = absurd cc
    at Undefined false set = record { plain = refl; value = refl; some = refl; means = refl }
    at Never false set = record { plain = refl; value = refl; some = refl; means = refl }
    at Marginal false set = record { plain = refl; value = refl; some = refl; means = refl }
    at Full false set = record { plain = refl; value = refl; some = refl; means = refl }
    at Ultimate false set = record { plain = refl; value = refl; some = refl; means = refl }
    at Unknown true set = record { plain = refl; value = refl; some = refl; means = refl }
    at Undefined true set = record { plain = refl; value = refl; some = refl; means = refl }
    at Never true set = record { plain = refl; value = refl; some = refl; means = refl }
    at Marginal true set = record { plain = refl; value = refl; some = refl; means = refl }
    at Full true set = record { plain = refl; value = refl; some = refl; means = refl }
    at Ultimate true set = record { plain = refl; value = refl; some = refl; means = refl }

-- ---- a line

-- the line of an entry, without its newline
abbrev pub line_of : List ℕ × Ownertrust → List ℕ
line_of e = encode_upper e.0 ++ 58 ∷ (decimal (ownertrust_number e.1) ++ 58 ∷ [])

fields_are : (e : List ℕ × Ownertrust) → IsKept e → fields (line_of e) ≡ encode_upper e.0 ∷ decimal (ownertrust_number e.1) ∷ [] ∷ []
fields_are e h =
    let free = free_of is_colon (λ b plain. (other_byte b plain).0) in
    slice_split_at is_colon (encode_upper e.0) 58 (decimal (ownertrust_number e.1) ++ 58 ∷ []) (free (encode_upper e.0) (plain_hex e.0 h.bytes)) refl
    ∙ ap (λ parts. encode_upper e.0 ∷ parts)
    (slice_split_at is_colon (decimal (ownertrust_number e.1)) 58 [] (free (decimal (ownertrust_number e.1)) (number_read e.1 h.set).plain) refl)

no_newline : (e : List ℕ × Ownertrust) → IsKept e → All (λ b. is_newline b ≡ false) (line_of e)
no_newline e h =
    let P : ℕ → Type 0 = λ b. is_newline b ≡ false in
    let free = free_of is_newline (λ b plain. (other_byte b plain).1) in
    let value = decimal (ownertrust_number e.1) in
    All-append P (encode_upper e.0) (58 ∷ (value ++ 58 ∷ [])) (free (encode_upper e.0) (plain_hex e.0 h.bytes))
    (All-cons P 58 (value ++ 58 ∷ []) refl (All-append P value (58 ∷ []) (free value (number_read e.1 h.set).plain) (All-cons P 58 [] refl (All-nil P))))

-- a line with a colon isn't blank
not_blank : (front rest : List ℕ) → is_blank (front ++ 58 ∷ rest) ≡ false
not_blank front rest = list_all-append is_space front (58 ∷ rest) ∙ and_right (list_all is_space front) (list_all is_space (58 ∷ rest)) refl

not_comment : (front rest : List ℕ) → IsPlain front → is_comment (front ++ 58 ∷ rest) ≡ false
not_comment [] rest h = refl
not_comment (b ∷ front) rest h = (other_byte b (and_parts (is_plain b) (list_all is_plain front) h).0).2

line_read : (e : List ℕ × Ownertrust) → IsKept e → entry_of_line (line_of e) ≡ Ok (Some (entry_of e))
line_read e h =
    let told = number_read e.1 h.set in
    let rest = decimal (ownertrust_number e.1) ++ 58 ∷ [] in
    let neither : (is_blank (line_of e) || is_comment (line_of e)) ≡ false =
    or_from (is_blank (line_of e)) (is_comment (line_of e)) (not_blank (encode_upper e.0) rest) (not_comment (encode_upper e.0) rest (plain_hex e.0 h.bytes)) in
    ap (λ b. if b then Ok None else entry_of_fields (fields (line_of e))) neither
    ∙ ap entry_of_fields (fields_are e h)
    ∙ (λ i. entry_by (fingerprint_read e.0 h.sized h.bytes i) (told.value i))
    ∙ (λ i. if told.some i then Ok None else entry_with e.0 (told.means i))

-- no line ends a block
first_differs : (b : ℕ) (rest : List ℕ) → (b == 46) ≡ false → ends_block (Some (b ∷ rest)) ≡ false
first_differs b [] other = cond_both (b == 13) [] (b ∷ []) (λ line. is_word (codes ".") line ≡ false) (λ is. refl) (λ is. ap (λ t. t && true) other)
first_differs b (c ∷ rest) other = ap (λ t. t && is_word [] (without_return (c ∷ rest))) other

front_differs : (front rest : List ℕ) → IsPlain front → ends_block (Some (front ++ 58 ∷ rest)) ≡ false
front_differs [] rest h = first_differs 58 rest refl
front_differs (b ∷ front) rest h = first_differs b (front ++ 58 ∷ rest) (other_byte b (and_parts (is_plain b) (list_all is_plain front) h).0).3

-- ---- the lines of the text

abbrev Entries : Type 0
Entries = List (List ℕ × Ownertrust)

split_text : (es : Entries) → All IsKept es → slice_split is_newline (flat_map ownertrust_line es) ≡ map line_of es ++ [] ∷ []
split_text [] h = refl
split_text (e ∷ es) h =
    let rest = flat_map ownertrust_line es in
    let value = decimal (ownertrust_number e.1) in
    let parts : flat_map ownertrust_line (e ∷ es) ≡ line_of e ++ 10 ∷ rest =
    append_assoc (encode_upper e.0 ++ 58 ∷ value) (58 ∷ 10 ∷ []) rest ∙ append_assoc (encode_upper e.0) (58 ∷ value) (58 ∷ 10 ∷ rest)
    ∙ sym (append_assoc (encode_upper e.0) (58 ∷ (value ++ 58 ∷ [])) (10 ∷ rest) ∙ ap (λ l. encode_upper e.0 ++ 58 ∷ l) (append_assoc value (58 ∷ []) (10 ∷ rest))) in
    ap (slice_split is_newline) parts
    ∙ slice_split_at is_newline (line_of e) 10 rest (no_newline e (All-head IsKept e es h)) refl
    ∙ ap (λ l. line_of e ∷ l) (split_text es (All-tail IsKept e es h))

pub lines_are : (trusts : OwnertrustMap) → All IsKept (finmap.entries trusts) → lines (ownertrust_text trusts) ≡ map line_of (finmap.entries trusts)
lines_are trusts h =
    let parts = split_text (finmap.entries trusts) h in
    let front : whole_lines (ownertrust_text trusts) ≡ map line_of (finmap.entries trusts) = ap front_of parts ∙ front_of_more (map line_of (finmap.entries trusts)) [] in
    let rest : open_line (ownertrust_text trusts) ≡ [] = ap (λ l. last_of l []) parts ∙ last_of_more (map line_of (finmap.entries trusts)) [] [] in
    (λ i. front i ++ (if length (rest i) == 0 then [] else rest i ∷ [])) ∙ append-nil (map line_of (finmap.entries trusts))

none_faulty : (n : ℕ) (es : Entries) → All IsKept es → ownertrust_fault_after n (map line_of es) ≡ None
none_faulty n [] h = refl
none_faulty n (e ∷ es) h =
    ap (λ r. option_or (option_map (λ what. (capped (n + 1), what)) (fault_of r)) (ownertrust_fault_after (n + 1) (map line_of es))) (line_read e (All-head IsKept e es h))
    ∙ none_faulty (n + 1) es (All-tail IsKept e es h)

none_ends : (es : Entries) → All IsKept es → list_any (λ line. ends_block (Some line)) (map line_of es) ≡ false
none_ends [] h = refl
none_ends (e ∷ es) h =
    or_from (ends_block (Some (line_of e))) (list_any (λ line. ends_block (Some line)) (map line_of es))
    (front_differs (encode_upper e.0) (decimal (ownertrust_number e.1) ++ 58 ∷ []) (plain_hex e.0 (All-head IsKept e es h).bytes))
    (none_ends es (All-tail IsKept e es h))

-- ---- the entries

abbrev inserted : OwnertrustMap → Entries → OwnertrustMap
inserted m es = fold (λ m e. finmap.insert m e.0 e.1) m es

lines_inserted : (m : OwnertrustMap) (es : Entries) → All IsKept es
    → fold (λ kept line. with_line_entry kept (entry_of_line line)) m (map line_of es) ≡ inserted m es
lines_inserted m [] h = refl
lines_inserted m (e ∷ es) h =
    ap (λ r. fold (λ kept line. with_line_entry kept (entry_of_line line)) (with_line_entry m r) (map line_of es)) (line_read e (All-head IsKept e es h))
    ∙ lines_inserted (finmap.insert m e.0 e.1) es (All-tail IsKept e es h)

entries_inserted : (m : OwnertrustMap) (es : Entries) → All IsKept es → with_entries m (map entry_of es) ≡ inserted m es
entries_inserted m [] h = refl
entries_inserted m (e ∷ es) h =
    ap (λ b. with_entries (if b then finmap.remove m e.0 else finmap.insert m e.0 e.1) (map entry_of es)) (All-head IsKept e es h).set
    ∙ entries_inserted (finmap.insert m e.0 e.1) es (All-tail IsKept e es h)

-- what goes before all entries isn't among them
absent : (q : List ℕ) (es : Entries) → T (below_all fpr_cmp q es) → finmap.find fpr_cmp q es ≡ None
absent q [] h = refl
absent q (e ∷ es) h = elim (fpr_cmp q e.0) as (λ r. T (is_lt r && below_all fpr_cmp q es) → cond (is_eq r) (Some e.1) (finmap.find fpr_cmp q es) ≡ None) [
  | Less ↦ λ below. absent q es below
  | Equal ↦ λ below. absurd below
  | Greater ↦ λ below. absurd below
] h

get_inserted : (q : List ℕ) (es : Entries) (m : OwnertrustMap) → T (is_sorted fpr_cmp es)
    → finmap.get (inserted m es) q ≡ option_or (finmap.find fpr_cmp q es) (finmap.get m q)
get_inserted q [] m h = refl
get_inserted q (e ∷ es) m h =
    get_inserted q es (finmap.insert m e.0 e.1) (second_part (below_all fpr_cmp e.0 es) (is_sorted fpr_cmp es) h)
    ∙ ap (option_or (finmap.find fpr_cmp q es)) (finmap.get-insert fpr_cmp_total m e.0 e.1 q)
    ∙ at (fpr_cmp q e.0) refl
  where
    at : (r : Ordering) → fpr_cmp q e.0 ≡ r → option_or (finmap.find fpr_cmp q es) (cond (is_eq r) (Some e.1) (finmap.get m q)) ≡ option_or (cond (is_eq r) (Some e.1) (finmap.find fpr_cmp q es)) (finmap.get m q)
    at Less is = refl
    at Equal is =
        let below = subst (λ k. T (below_all fpr_cmp k es)) (sym (fpr_cmp-IsAntisymmetric q e.0 is)) (first_part (below_all fpr_cmp e.0 es) (is_sorted fpr_cmp es) h) in
        ap (λ found. option_or found (Some e.1)) (absent q es below)
    at Greater is = refl

-- the entries of a map, inserted into an empty one, are the map
inserted_again : (trusts : OwnertrustMap) → inserted finmap.empty (finmap.entries trusts) ≡ trusts
inserted_again trusts = finmap.same_map fpr_cmp_total fpr_cmp-IsAntisymmetric _ _ (λ q.
    get_inserted q (finmap.entries trusts) finmap.empty (finmap.entries_sorted trusts)
    ∙ ap (option_or (finmap.find fpr_cmp q (finmap.entries trusts))) (finmap.get-empty fpr_cmp q)
    ∙ or_none (finmap.find fpr_cmp q (finmap.entries trusts))
    ∙ sym (finmap.get-entries trusts q))

-- ---- the law

pub spells : (trusts : OwnertrustMap) → All IsKept (finmap.entries trusts) → ownertrust_fault (lines (ownertrust_text trusts)) ≡ None
spells trusts h = ap ownertrust_fault (lines_are trusts h) ∙ none_faulty 0 (finmap.entries trusts) h

pub same_entries : (trusts : OwnertrustMap) → All IsKept (finmap.entries trusts) → text_entries (lines (ownertrust_text trusts)) ≡ trusts
same_entries trusts h = ap text_entries (lines_are trusts h) ∙ lines_inserted finmap.empty (finmap.entries trusts) h ∙ inserted_again trusts

pub restored : (trusts : OwnertrustMap) → All IsKept (finmap.entries trusts) → with_entries finmap.empty (listed_entries (lines (ownertrust_text trusts))) ≡ trusts
restored trusts h =
    ap (λ m. with_entries finmap.empty (map entry_of (finmap.entries m))) (same_entries trusts h)
    ∙ entries_inserted finmap.empty (finmap.entries trusts) h ∙ inserted_again trusts

pub goes_on : (trusts : OwnertrustMap) → All IsKept (finmap.entries trusts) → list_any (λ line. ends_block (Some line)) (lines (ownertrust_text trusts)) ≡ false
goes_on trusts h = ap (list_any (λ line. ends_block (Some line))) (lines_are trusts h) ∙ none_ends (finmap.entries trusts) h

-- ---- the entries that are kept

pub kept_at_first : All IsKept (finmap.entries (finmap.empty {R = fpr_cmp}))
kept_at_first = subst (All IsKept) (sym (no_entries finmap.empty (finmap.len-empty fpr_cmp Ownertrust))) (All-nil IsKept)

pub stays_kept : (trusts : OwnertrustMap) (fpr : List ℕ) (kept : Ownertrust) → All IsKept (finmap.entries trusts) → IsBytes fpr → IsFprLength fpr
    → All IsKept (finmap.entries (with_ownertrust trusts fpr kept))
stays_kept trusts fpr kept h bytes sized =
    cond_both (is_unset kept) (finmap.remove trusts fpr) (finmap.insert trusts fpr kept) (λ m. All IsKept (finmap.entries m))
    (λ unset. All-without fpr_cmp_total fpr_cmp-IsAntisymmetric IsKept trusts fpr h)
    (λ set. All-insert fpr_cmp_total fpr_cmp-IsAntisymmetric IsKept trusts fpr kept h (record { bytes = bytes; sized = sized; set = set }))
