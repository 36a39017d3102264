-- What is printed with certifications is read back as the keyring.
use Rattle.std.proofs.Common.{◌≤◌, unwrap_or, ◌≡◌, ℕ, zero, suc, ◌+◌, ◌^◌, ◌<◌, ◌==◌, Bool, true, false, ◌||◌, nat_le, nat_lt, min, List, [], ◌∷◌, ◌++◌, append-nil, map, length, filter, take, drop, All, if◌then◌else◌, codes, decimal, Some, None, refl, sym, ap, subst, ◌∙◌, arith, w64}
use Rattle.std.specs.List.{flat_map, list_any}
use Rattle.std.specs.Int.{from_be_bytes}
use Rattle.std.specs.FinMap as finmap
use Rattle.std.specs.FinMap.{entries_sorted}
use Rattle.std.proofs.lemmas.Bool.{and_parts, cond-true, cond_both, le-leb, or_from, or_parts}
use Rattle.std.proofs.lemmas.List.Elements.{All-head, All-tail}
use Rattle.std.proofs.lemmas.List.Folds.{list_any-append}
use Rattle.hex.specs.Hex.{IsBytes}
use Rattle.wot_types.specs.declared.cert.Cert.{Cert}
use Rattle.wot_types.specs.declared.key.Key.{Key}
use Rattle.wot_types.specs.State.{State}
use Rattle.wot_types.specs.declared.user.User.{User}
use Rattle.wot_types.specs.declared.record.RecordKind.TheVariants.{Other}
use Rattle.wot_types.specs.declared.user.UserKind.{UserKind}
use Rattle.wot_types.specs.declared.user.UserKind.TheVariants.{Uid, Uat}
use Rattle.wot_types.specs.declared.options.Options.{Options}
use Rattle.wot_types.specs.Accepted.{IsFiled}
use Rattle.wot_types.specs.Bytes.{is_word}
use Rattle.wot_types.specs.declared.edit.Edit.TheVariants.{Import}
use Rattle.wot_types.specs.declared.head.Head.TheVariants.{Import as ImportHead}
use Rattle.wot_types.specs.Commands.{block_texts, ends_block}
use Rattle.wot_types.specs.Lines.{lines, longest_line, read_line, without_return}
use Rattle.wot_types.specs.Outcome.{block_outcome, edit_outcome, import_line, listing_outcome}
use Rattle.wot_types.specs.Store.{Store}
use Rattle.wot_types.specs.Candidates.{RowMap}
use Rattle.wot_types.specs.Fingerprint.{key_id_of}
use Rattle.wot_types.specs.Keyring.{cert_total, with_keys}
use Rattle.wot_types.specs.Letters.{key_letter, user_letter}
use Rattle.wot_types.specs.Levels.{rows_of}
use Rattle.wot_types.specs.Listing.{Line, Spells, fault_at_end, kept_certs, listed_keys, passed_certs}
use Rattle.wot_types.specs.Numbers.{capped}
use Rattle.wot_types.specs.NextCheck.{key_expiries, next_check, sooner_of, soonest_of, user_expiries}
use Rattle.wot_types.specs.Ownertrust.{ownertrust_of}
use Rattle.wot_types.specs.Printing.{capabilities_text, kind_text, letter_text, list_text, model_text}
use Rattle.wot_types.specs.Trust.{trust_text}
use Rattle.wot_types.specs.Records.{kind_of}
use Rattle.wot_types.specs.Selection.{Spot, spots_from}
use Rattle.wot_types.specs.WellFormed.{IsCert, IsUser}
use Rattle.wot_print_laws.specs.Fits.{FitsCert, FitsKey, FitsState, FitsUser}
use Rattle.wot_print_laws.specs.ListingLines.{listing_lines}
use Rattle.wot_print_laws.proofs.BlockLemmas.{AreSigs, AreUsers}
use Rattle.wot_print_laws.proofs.CountLemmas.{kept_is, none_passed}
use Rattle.wot_print_laws.proofs.MarkLemmas.{capabilities_kept, inner_capabilities_text, inner_letter, inner_trust, key_mark, user_mark}
use Rattle.wot_print_laws.proofs.Parts.{AllInner, AllLines, IsInner, IsLine, ended, is_inner, joined_is, joined_is_line, lines_are}
use Rattle.wot_print_laws.proofs.PrintedLines.{cert_inner, cert_parts, cert_says, fpr_inner, fpr_parts, fpr_says, pub_inner, pub_parts, pub_says, user_inner, user_parts, user_says}
use Rattle.wot_print_laws.proofs.PrintedText.{cert_row, printed_lines, text_is, tru_parts, tru_row, user_row, user_run, written}
use Rattle.wot_print_laws.proofs.RunLemmas.{pieces}
use Rattle.wot_print_laws.proofs.Texts.{AreBytes, are_bytes, bytes_at}
use Rattle.wot_print_laws.proofs.Values.{all_imply, inner_decimal}
use Rattle.wot_print_laws.proofs.WholeLemmas.{AreFiled, AreWritten, Entries, all_before_start, block, faultless, listed_keys_are, rising_from, same_again}

-- ---- key IDs have 64 bits

bytes_drop : (n : ℕ) (bytes : List ℕ) → AreBytes bytes → AreBytes (drop n bytes)
bytes_drop zero bytes h = h
bytes_drop (suc n) [] h = h
bytes_drop (suc n) (b ∷ bytes) h = bytes_drop n bytes h.1

bytes_take : (n : ℕ) (bytes : List ℕ) → AreBytes bytes → AreBytes (take n bytes)
bytes_take zero bytes h = tt
bytes_take (suc n) [] h = tt
bytes_take (suc n) (b ∷ bytes) h = (h.0, bytes_take n bytes h.1)

of_bytes : (bytes : List ℕ) → IsBytes bytes → from_be_bytes w64 bytes < 2 ^ 64
of_bytes bytes h = omega (arith, h 0, h 1, h 2, h 3, h 4, h 5, h 6, h 7)

key_id_fits : (fpr : List ℕ) → AreBytes fpr → key_id_of fpr < 2 ^ 64
key_id_fits fpr h =
    cond_both (length fpr == 20) (from_be_bytes w64 (drop 12 fpr)) (from_be_bytes w64 (take 8 fpr)) (λ n. n < 2 ^ 64)
    (λ e. of_bytes (drop 12 fpr) (bytes_at (drop 12 fpr) (bytes_drop 12 fpr h)))
    (λ e. of_bytes (take 8 fpr) (bytes_at (take 8 fpr) (bytes_take 8 fpr h)))

-- ---- the next check is a date

abbrev AreDates : List ℕ → Type 0
AreDates [] = Unit {0}
AreDates (e ∷ es) = (e < 2 ^ 32) × AreDates es

dates_append : (xs ys : List ℕ) → AreDates xs → AreDates ys → AreDates (xs ++ ys)
dates_append [] ys h k = k
dates_append (x ∷ xs) ys h k = (h.0, dates_append xs ys h.1 k)

sooner_fits : (a b : ℕ) → a < 2 ^ 32 → b < 2 ^ 32 → sooner_of a b < 2 ^ 32
sooner_fits a b p q =
    cond_both (a == 0) b (if b == 0 then a else min a b) (λ n. n < 2 ^ 32) (λ e. q)
    (λ e. cond_both (b == 0) a (min a b) (λ n. n < 2 ^ 32) (λ f. p) (λ f. omega arith))

soonest_fits : (es : List ℕ) → AreDates es → soonest_of es < 2 ^ 32
soonest_fits [] h = omega arith
soonest_fits (e ∷ es) h = sooner_fits e (soonest_of es) h.0 (soonest_fits es h.1)

dates_filter : (t : ℕ → Bool) (es : List ℕ) → AreDates es → AreDates (filter t es)
dates_filter t [] h = tt
dates_filter t (e ∷ es) h = cond_both (t e) (e ∷ filter t es) (filter t es) AreDates (λ p. (h.0, dates_filter t es h.1)) (λ p. dates_filter t es h.1)

cert_dates : (certs : List Cert) → All FitsCert certs → AreDates (map (λ cert. cert.expires) certs)
cert_dates [] h = tt
cert_dates (cert ∷ certs) h = ((All-head FitsCert cert certs h).expires, cert_dates certs (All-tail FitsCert cert certs h))

user_dates : (users : List User) → All FitsUser users → AreDates (flat_map user_expiries users)
user_dates [] h = tt
user_dates (user ∷ users) h =
    let first = All-head FitsUser user users h in
    dates_append (user_expiries user) (flat_map user_expiries users) (first.expires, cert_dates user.certs first.certs) (user_dates users (All-tail FitsUser user users h))

key_dates : (es : Entries) → All (λ e. FitsKey e.1) es → AreDates (flat_map key_expiries (map (λ e. e.1) es))
key_dates [] h = tt
key_dates (e ∷ es) h =
    let first = All-head (λ (e : ℕ × Key). FitsKey e.1) e es h in
    dates_append (key_expiries e.1) (flat_map key_expiries (map (λ e. e.1) es)) (first.expires, user_dates e.1.users first.users) (key_dates es (All-tail (λ (e : ℕ × Key). FitsKey e.1) e es h))

next_check_fits : (s : State) → FitsState s → next_check s < 2 ^ 32
next_check_fits s h = soonest_fits _ (dates_filter (λ e. nat_lt s.date e) (flat_map key_expiries (finmap.values s.keys)) (key_dates (finmap.entries s.keys) h.keys))

-- ---- the lines say what was printed

sigs_written : (id : ℕ) (certs : List Cert) → All (IsCert id) certs → All FitsCert certs → AreSigs certs (map cert_row certs)
sigs_written id [] w h = tt
sigs_written id (cert ∷ certs) w h =
    (cert_says cert (All-head FitsCert cert certs h) (All-head (IsCert id) cert certs w).scope (All-head (IsCert id) cert certs w).issuer_fpr, sigs_written id certs (All-tail (IsCert id) cert certs w) (All-tail FitsCert cert certs h))

pub users_written : (s : State) (rows : RowMap) (id : ℕ) (key : Key) (own : ℕ) (n : ℕ) (users : List User) → All (IsUser own) users → All FitsUser users
    → AreUsers key.revoked users (map (user_run s rows id key) (spots_from n users))
users_written s rows id key own n [] w h = tt
users_written s rows id key own n (user ∷ users) w h =
    let good = All-head (IsUser own) user users w in
    let fits = All-head FitsUser user users h in
    let spot : Spot = record { user = user; certs = _ } in (
      user_says (letter_text (user_letter s rows id key spot)) (key.revoked || user.revoked) user (inner_letter (user_letter s rows id key spot)) fits good.hash (user_mark s rows id key spot),
      sigs_written own user.certs good.certs fits.certs,
      users_written s rows id key own (n + length user.certs) users (All-tail (IsUser own) user users w) (All-tail FitsUser user users h),
    )

pub keys_written : (s : State) (rows : RowMap) (es : Entries) → All IsFiled es → All (λ e. FitsKey e.1) es → AreWritten es (map (written s rows) es)
keys_written s rows [] w h = tt
keys_written s rows (e ∷ es) w h =
    let kept = All-head IsFiled e es w in
    let good = kept.well_formed in
    let fits = All-head (λ (e : ℕ × Key). FitsKey e.1) e es h in
    let letter = letter_text (key_letter s rows e.0 e.1) in (
      pub_says letter (trust_text (ownertrust_of s.trusts e.1.fpr).trust) (capabilities_text (ownertrust_of s.trusts e.1.fpr).disabled e.1.caps) e.0 e.1 (inner_letter (key_letter s rows e.0 e.1)) (inner_trust (ownertrust_of s.trusts e.1.fpr).trust)
          (inner_capabilities_text (ownertrust_of s.trusts e.1.fpr).disabled e.1.caps good.caps) fits (subst (λ n. n < 2 ^ 64) kept.own_id (key_id_fits e.1.fpr (are_bytes e.1.fpr fits.fpr))) (key_mark s rows e.0 e.1) (capabilities_kept (ownertrust_of s.trusts e.1.fpr).disabled e.1.caps good.caps),
      fpr_says e.1 fits good.fpr,
      users_written s rows e.0 e.1 (key_id_of e.1.fpr) 0 e.1.users good.each fits.users,
      keys_written s rows es (All-tail IsFiled e es w) (All-tail (λ (e : ℕ × Key). FitsKey e.1) e es h),
    )

filed_from : (es : Entries) → All IsFiled es → AreFiled es
filed_from [] w = tt
filed_from (e ∷ es) w = let kept = All-head IsFiled e es w in (kept.own_id, kept.well_formed, filed_from es (All-tail IsFiled e es w))

-- ---- no line is cut

inner_line : (f : List ℕ) → IsInner f → IsLine f
inner_line f h = all_imply is_inner (λ b. nat_le 32 b) (λ b e. (and_parts (nat_le 32 b) _ e).0) f h

parts_line : (parts : List (List ℕ)) → AllInner parts → IsLine (ended 58 parts)
parts_line parts h = subst IsLine (joined_is parts [] ∙ append-nil (ended 58 parts)) (joined_is_line parts h [] refl)

lines_append : (xs ys : List Line) → AllLines xs → AllLines ys → AllLines (xs ++ ys)
lines_append [] ys h k = k
lines_append (x ∷ xs) ys h k = (h.0, lines_append xs ys h.1 k)

model_inner : (options : Options) → IsInner (model_text options)
model_inner options = cond_both options.pgp (codes "1") (codes "0") IsInner (λ e. refl) (λ e. refl)

tru_is_line : (s : State) → FitsState s → IsLine (tru_row s)
tru_is_line s h =
    joined_is_line (tru_parts s)
    (refl, (refl, (model_inner s.options, (inner_decimal s.date (omega (arith, h.date)), (inner_decimal (next_check s) (omega (arith, next_check_fits s h)), (inner_decimal s.options.marginals (omega (arith, h.marginals)), (inner_decimal s.options.completes (omega (arith, h.completes)), tt)))))))
    (decimal s.options.depth) (inner_line (decimal s.options.depth) (inner_decimal s.options.depth (omega (arith, h.depth))))

certs_are_lines : (certs : List Cert) → All FitsCert certs → AllLines (map cert_row certs)
certs_are_lines [] h = tt
certs_are_lines (cert ∷ certs) h = (parts_line (cert_parts cert) (cert_inner cert (All-head FitsCert cert certs h)), certs_are_lines certs (All-tail FitsCert cert certs h))

users_are_lines : (s : State) (rows : RowMap) (id : ℕ) (key : Key) (own n : ℕ) (users : List User) → All (IsUser own) users → All FitsUser users
    → AllLines (pieces (map (user_run s rows id key) (spots_from n users)))
users_are_lines s rows id key own n [] w h = tt
users_are_lines s rows id key own n (user ∷ users) w h =
    let good = All-head (IsUser own) user users w in
    let fits = All-head FitsUser user users h in
    let spot : Spot = record { user = user; certs = _ } in (
      parts_line (user_parts (letter_text (user_letter s rows id key spot)) user) (user_inner (letter_text (user_letter s rows id key spot)) user (inner_letter (user_letter s rows id key spot)) fits good.hash),
      lines_append (map cert_row user.certs) _ (certs_are_lines user.certs fits.certs) (users_are_lines s rows id key own (n + length user.certs) users (All-tail (IsUser own) user users w) (All-tail FitsUser user users h)),
    )

keys_are_lines : (s : State) (rows : RowMap) (es : Entries) → All IsFiled es → All (λ e. FitsKey e.1) es → AllLines (pieces (map block (map (written s rows) es)))
keys_are_lines s rows [] w h = tt
keys_are_lines s rows (e ∷ es) w h =
    let good = (All-head IsFiled e es w).well_formed in
    let fits = All-head (λ (e : ℕ × Key). FitsKey e.1) e es h in
    let letter = letter_text (key_letter s rows e.0 e.1) in (
      parts_line (pub_parts letter (trust_text (ownertrust_of s.trusts e.1.fpr).trust) (capabilities_text (ownertrust_of s.trusts e.1.fpr).disabled e.1.caps) e.0 e.1)
          (pub_inner letter (trust_text (ownertrust_of s.trusts e.1.fpr).trust) (capabilities_text (ownertrust_of s.trusts e.1.fpr).disabled e.1.caps) e.0 e.1 (inner_letter (key_letter s rows e.0 e.1)) (inner_trust (ownertrust_of s.trusts e.1.fpr).trust) (inner_capabilities_text (ownertrust_of s.trusts e.1.fpr).disabled e.1.caps good.caps) fits),
      (
        parts_line (fpr_parts e.1) (fpr_inner e.1 fits),
        lines_append (pieces (map (user_run s rows e.0 e.1) (spots_from 0 e.1.users))) _ (users_are_lines s rows e.0 e.1 (key_id_of e.1.fpr) 0 e.1.users good.each fits.users)
            (keys_are_lines s rows es (All-tail IsFiled e es w) (All-tail (λ (e : ℕ × Key). FitsKey e.1) e es h)),
      ),
    )

-- ---- the law

pub tru_kind : (s : State) → kind_of (tru_row s) ≡ Other
unfolding kind_of
tru_kind s = refl

pub lines_of_text : (s : State) → FitsState s → All IsFiled (finmap.entries s.keys) → listing_lines (list_text s None true) ≡ printed_lines s
lines_of_text s h w =
    ap listing_lines (text_is s)
    ∙ lines_are (printed_lines s) (tru_is_line s h, keys_are_lines s (rows_of s) (finmap.entries s.keys) w h.keys)

pub reads_back : (s : State) → FitsState s → All IsFiled (finmap.entries s.keys)
    → Spells (listing_lines (list_text s None true)) (finmap.values s.keys) (capped (cert_total s.keys)) 0
reads_back s h w =
    let es = finmap.entries s.keys in
    let ws = map (written s (rows_of s)) es in
    let said = keys_written s (rows_of s) es w h.keys in
    let filed = filed_from es w in
    let rising = rising_from [] es (all_before_start es) (entries_sorted s.keys) in
    record {
      faultless = ap fault_at_end (lines_of_text s h w) ∙ faultless (tru_row s) (tru_kind s) es ws said filed rising;
      keys_are = sym (ap listed_keys (lines_of_text s h w) ∙ listed_keys_are (tru_row s) (tru_kind s) es ws said filed rising);
      kept_is = sym (ap kept_certs (lines_of_text s h w) ∙ ap capped (kept_is (tru_row s) (tru_kind s) es ws said filed));
      passed_is = sym (ap passed_certs (lines_of_text s h w) ∙ ap capped (none_passed (tru_row s) (tru_kind s) es ws said filed));
    }

-- no printed line is the one that ends an import's block
abbrev is_end : Line → Bool
is_end line = is_word (codes ".") line

user_first : (kind : UserKind) (rest : List ℕ) → is_word (codes ".") ((kind_text kind ++ 58 ∷ []) ++ rest) ≡ false
user_first Uid rest = refl
user_first Uat rest = refl

cert_first : (b : Bool) (rest : List ℕ) → is_word (codes ".") (((if b then codes "rev" else codes "sig") ++ 58 ∷ []) ++ rest) ≡ false
cert_first true rest = refl
cert_first false rest = refl

certs_go_on : (certs : List Cert) → list_any is_end (map cert_row certs) ≡ false
certs_go_on [] = refl
certs_go_on (cert ∷ certs) = or_from (is_end (cert_row cert)) (list_any is_end (map cert_row certs)) (cert_first (cert.class == 48) _) (certs_go_on certs)

users_go_on : (s : State) (rows : RowMap) (id : ℕ) (key : Key) (spots : List Spot) → list_any is_end (pieces (map (user_run s rows id key) spots)) ≡ false
users_go_on s rows id key [] = refl
users_go_on s rows id key (spot ∷ spots) =
    or_from (is_end (user_row s rows id key spot)) (list_any is_end (map cert_row spot.user.certs ++ pieces (map (user_run s rows id key) spots))) (user_first spot.user.kind _)
    (list_any-append is_end (map cert_row spot.user.certs) (pieces (map (user_run s rows id key) spots)) ∙ or_from _ _ (certs_go_on spot.user.certs) (users_go_on s rows id key spots))

keys_go_on : (s : State) (rows : RowMap) (es : Entries) → list_any is_end (pieces (map block (map (written s rows) es))) ≡ false
keys_go_on s rows [] = refl
keys_go_on s rows (e ∷ es) =
    list_any-append is_end (pieces (map (user_run s rows e.0 e.1) (spots_from 0 e.1.users))) (pieces (map block (map (written s rows) es)))
    ∙ or_from _ _ (users_go_on s rows e.0 e.1 (spots_from 0 e.1.users)) (keys_go_on s rows es)

none_ends : (ls : List Line) → list_any is_end (map without_return ls) ≡ false → list_any (λ line. ends_block (Some line)) ls ≡ false
none_ends [] h = h
none_ends (line ∷ ls) h =
    let both = or_parts (is_end (without_return line)) (list_any is_end (map without_return ls)) h in
    or_from (is_end (without_return line)) (list_any (λ line. ends_block (Some line)) ls) both.0 (none_ends ls both.1)

pub goes_on : (s : State) → FitsState s → All IsFiled (finmap.entries s.keys) → list_any (λ line. ends_block (Some line)) (lines (list_text s None true)) ≡ false
goes_on s h filed =
    none_ends (lines (list_text s None true)) (ap (list_any is_end) (lines_of_text s h filed) ∙ keys_go_on s (rows_of s) (finmap.entries s.keys))

-- lines that aren't too long are the block's texts
texts_of_lines : (ls : List Line) → All (λ (line : Line). length line ≤ longest_line) ls → block_texts (map read_line ls) ≡ map without_return ls
texts_of_lines [] h = refl
texts_of_lines (line ∷ ls) h =
    let fits = All-head (λ (line : Line). length line ≤ longest_line) line ls h in
    λ i. without_return (unwrap_or (cond-true (nat_le (length line) longest_line) (Some line) None (le-leb (length line) longest_line fits) i) [])
    ∷ texts_of_lines ls (All-tail (λ (line : Line). length line ≤ longest_line) line ls h) i

pub taken_for_keys : (s : State) (store : Store) → FitsState s → All IsFiled (finmap.entries s.keys) → All (λ (line : Line). length line ≤ longest_line) (lines (list_text s None true))
    → block_outcome ImportHead store (block_texts (map read_line (lines (list_text s None true))))
    ≡ edit_outcome (import_line (length (finmap.values s.keys)) (capped (cert_total s.keys)) 0) store (Import (finmap.values s.keys))
taken_for_keys s store h filed short =
    let read = reads_back s h filed in
    let text = listing_lines (list_text s None true) in
    ap (block_outcome ImportHead store) (texts_of_lines (lines (list_text s None true)) short)
    ∙ ap (λ fault. listing_outcome fault store text) read.faultless
    ∙ (λ i. edit_outcome (import_line (length (sym read.keys_are i)) (sym read.kept_is i) (sym read.passed_is i)) store (Import (sym read.keys_are i)))

pub imported_again : (s : State) → All IsFiled (finmap.entries s.keys) → with_keys finmap.empty (finmap.values s.keys) ≡ s.keys
imported_again s filed =
    same_again s.keys (filed_from (finmap.entries s.keys) filed) (rising_from [] (finmap.entries s.keys) (all_before_start (finmap.entries s.keys)) (entries_sorted s.keys))
