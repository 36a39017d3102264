-- The printed text, line by line.
use Rattle.std.proofs.Common.{◌≡◌, ℕ, true, Option, Some, None, List, [], ◌∷◌, ◌++◌, append_assoc, append-nil, map, codes, decimal, refl, sym, ap, ◌∙◌}
use Rattle.std.specs.List.{flat_map}
use Rattle.std.specs.FinMap as finmap
use Rattle.std.proofs.lemmas.Grind.{flat_map-append}
use Rattle.wot_types.specs.declared.cert.Cert.{Cert}
use Rattle.wot_types.specs.declared.key.Key.{Key}
use Rattle.wot_types.specs.State.{State}
use Rattle.wot_types.specs.Candidates.{RowMap}
use Rattle.wot_types.specs.Letters.{key_letter, user_letter}
use Rattle.wot_types.specs.Levels.{rows_of}
use Rattle.wot_types.specs.Listing.{Line}
use Rattle.wot_types.specs.NextCheck.{next_check}
use Rattle.wot_types.specs.Ownertrust.{ownertrust_of}
use Rattle.wot_types.specs.Printing.{capabilities_text, cert_line, cert_name, class_text, depth_text, ended_field, expiry_field, fpr_line, issuer_fpr_text, key_id_text, key_lines, kind_text, letter_text, list_text, model_text, number_field, pub_line, scope_text, tru_line, user_line, user_lines}
use Rattle.wot_types.specs.Trust.{trust_text}
use Rattle.hex.specs.Hex.{encode_upper}
use Rattle.wot_types.specs.Quotes.{printed_text}
use Rattle.wot_types.specs.Runs.{Run}
use Rattle.wot_types.specs.Selection.{Spot, spots_from}
use Rattle.wot_print_laws.proofs.Parts.{ended, joined, joined_is}
use Rattle.wot_print_laws.proofs.PrintedLines.{cert_parts, fpr_parts, issuer_fpr_parts, pub_parts, user_parts}
use Rattle.wot_print_laws.proofs.RunLemmas.{pieces}
use Rattle.wot_print_laws.proofs.WholeLemmas.{Written, block}

-- texts one after the other, from the left and from the right
abbrev chained : List ℕ → List (List ℕ) → List ℕ
chained a [] = a
chained a (b ∷ bs) = chained (a ++ b) bs

abbrev flat : List (List ℕ) → List ℕ
flat [] = []
flat (b ∷ bs) = b ++ flat bs

chained_is : (a : List ℕ) (bs : List (List ℕ)) → chained a bs ≡ a ++ flat bs
chained_is a [] = sym (append-nil a)
chained_is a (b ∷ bs) = chained_is (a ++ b) bs ∙ append_assoc a b (flat bs)

-- ---- the lines

abbrev pub tru_parts : State → List (List ℕ)
tru_parts s = codes "tru" ∷ [] ∷ model_text s.options ∷ decimal s.date ∷ decimal (next_check s) ∷ decimal s.options.marginals ∷ decimal s.options.completes ∷ []

abbrev pub tru_row : State → Line
tru_row s = joined (tru_parts s) (decimal s.options.depth)

abbrev pub pub_row : State → RowMap → ℕ → Key → Line
pub_row s rows id key = ended 58 (pub_parts (letter_text (key_letter s rows id key)) (trust_text (ownertrust_of s.trusts key.fpr).trust) (capabilities_text (ownertrust_of s.trusts key.fpr).disabled key.caps) id key)

abbrev pub fpr_row : Key → Line
fpr_row key = ended 58 (fpr_parts key)

abbrev pub user_row : State → RowMap → ℕ → Key → Spot → Line
user_row s rows id key spot = ended 58 (user_parts (letter_text (user_letter s rows id key spot)) spot.user)

abbrev pub cert_row : Cert → Line
cert_row cert = ended 58 (cert_parts cert)

abbrev pub user_run : State → RowMap → ℕ → Key → Spot → Run Line
user_run s rows id key spot = record { first = user_row s rows id key spot; rest = map cert_row spot.user.certs }

abbrev pub written : State → RowMap → ℕ × Key → Written
written s rows e = record {
  p = pub_row s rows e.0 e.1;
  f = fpr_row e.1;
  rs = map (user_run s rows e.0 e.1) (spots_from 0 e.1.users);
}

abbrev pub printed_lines : State → List Line
printed_lines s = tru_row s ∷ pieces (map block (map (written s (rows_of s)) (finmap.entries s.keys)))

-- ---- their texts

tru_is : (s : State) → tru_line s.options s.date (next_check s) ≡ tru_row s ++ 10 ∷ []
tru_is s =
    chained_is (codes "tru::") (ended_field (model_text s.options) ∷ number_field s.date ∷ number_field (next_check s) ∷ number_field s.options.marginals ∷ number_field s.options.completes ∷ decimal s.options.depth ∷ (10 ∷ []) ∷ [])
    ∙ joined_is (tru_parts s) (decimal s.options.depth ++ 10 ∷ [])
    ∙ sym (append_assoc (ended 58 (tru_parts s)) (decimal s.options.depth) (10 ∷ []))
    ∙ ap (λ l. l ++ 10 ∷ []) (sym (joined_is (tru_parts s) (decimal s.options.depth)))

pub_is : (s : State) (rows : RowMap) (id : ℕ) (key : Key) → pub_line (key_letter s rows id key) (ownertrust_of s.trusts key.fpr) id key ≡ pub_row s rows id key ++ 10 ∷ []
pub_is s rows id key =
    chained_is (codes "pub:") (ended_field (letter_text (key_letter s rows id key)) ∷ number_field key.bits ∷ number_field key.algo ∷ ended_field (key_id_text id) ∷ number_field key.made ∷ expiry_field key.expires
    ∷ codes ":" ∷ ended_field (trust_text (ownertrust_of s.trusts key.fpr).trust) ∷ codes "::" ∷ ended_field (capabilities_text (ownertrust_of s.trusts key.fpr).disabled key.caps) ∷ (10 ∷ []) ∷ [])
    ∙ joined_is (pub_parts (letter_text (key_letter s rows id key)) (trust_text (ownertrust_of s.trusts key.fpr).trust) (capabilities_text (ownertrust_of s.trusts key.fpr).disabled key.caps) id key) (10 ∷ [])

fpr_is : (key : Key) → fpr_line key.fpr ≡ fpr_row key ++ 10 ∷ []
fpr_is key = chained_is (codes "fpr:::::::::") (ended_field (encode_upper key.fpr) ∷ (10 ∷ []) ∷ []) ∙ joined_is (fpr_parts key) (10 ∷ [])

user_is : (s : State) (rows : RowMap) (id : ℕ) (key : Key) (spot : Spot) → user_line (user_letter s rows id key spot) spot.user ≡ user_row s rows id key spot ++ 10 ∷ []
user_is s rows id key spot =
    chained_is (ended_field (kind_text spot.user.kind)) (ended_field (letter_text (user_letter s rows id key spot)) ∷ codes ":::" ∷ number_field spot.user.made ∷ expiry_field spot.user.expires
    ∷ ended_field spot.user.hash ∷ codes ":" ∷ ended_field (printed_text spot.user.text) ∷ (10 ∷ []) ∷ [])
    ∙ joined_is (user_parts (letter_text (user_letter s rows id key spot)) spot.user) (10 ∷ [])

issuer_fpr_is : (named : Option (List ℕ)) → issuer_fpr_text named ++ 10 ∷ [] ≡ joined (issuer_fpr_parts named) (10 ∷ [])
issuer_fpr_is None = refl
issuer_fpr_is (Some fpr) = refl

cert_is : (cert : Cert) → cert_line cert ≡ cert_row cert ++ 10 ∷ []
cert_is cert =
    chained_is (ended_field (cert_name cert)) (codes "!:::" ∷ ended_field (key_id_text cert.issuer) ∷ number_field cert.made ∷ expiry_field cert.expires ∷ ended_field (depth_text cert) ∷ ended_field (scope_text cert.scope)
    ∷ codes ":" ∷ ended_field (class_text cert) ∷ issuer_fpr_text cert.issuer_fpr ∷ (10 ∷ []) ∷ [])
    ∙ ap (λ t. ended_field (cert_name cert) ++ (codes "!:::" ++ (ended_field (key_id_text cert.issuer) ++ (number_field cert.made ++ (expiry_field cert.expires ++ (ended_field (depth_text cert)
    ++ (ended_field (scope_text cert.scope) ++ (codes ":" ++ (ended_field (class_text cert) ++ t))))))))) (issuer_fpr_is cert.issuer_fpr)
    ∙ joined_is (cert_parts cert) (10 ∷ [])

ended_append : (xs ys : List Line) → ended 10 (xs ++ ys) ≡ ended 10 xs ++ ended 10 ys
ended_append xs ys = flat_map-append (λ part. part ++ 10 ∷ []) xs ys

certs_text : (certs : List Cert) → flat_map cert_line certs ≡ ended 10 (map cert_row certs)
certs_text [] = refl
certs_text (cert ∷ certs) = λ i. cert_is cert i ++ certs_text certs i

users_text : (s : State) (rows : RowMap) (id : ℕ) (key : Key) (spots : List Spot) → flat_map (user_lines s rows true id key) spots ≡ ended 10 (pieces (map (user_run s rows id key) spots))
users_text s rows id key [] = refl
users_text s rows id key (spot ∷ spots) =
    (λ i. (user_is s rows id key spot i ++ certs_text spot.user.certs i) ++ users_text s rows id key spots i)
    ∙ sym (ended_append (user_row s rows id key spot ∷ map cert_row spot.user.certs) (pieces (map (user_run s rows id key) spots)))

keys_text : (s : State) (rows : RowMap) (es : List (ℕ × Key)) → flat_map (key_lines s rows true) es ≡ ended 10 (pieces (map block (map (written s rows) es)))
keys_text s rows [] = refl
keys_text s rows (e ∷ es) =
    (λ i. ((pub_is s rows e.0 e.1 i ++ fpr_is e.1 i) ++ users_text s rows e.0 e.1 (spots_from 0 e.1.users) i) ++ keys_text s rows es i)
    ∙ ap (λ l. l ++ ended 10 (pieces (map block (map (written s rows) es)))) (append_assoc (pub_row s rows e.0 e.1 ++ 10 ∷ []) (fpr_row e.1 ++ 10 ∷ []) (ended 10 (pieces (map (user_run s rows e.0 e.1) (spots_from 0 e.1.users)))))
    ∙ sym (ended_append (pub_row s rows e.0 e.1 ∷ fpr_row e.1 ∷ pieces (map (user_run s rows e.0 e.1) (spots_from 0 e.1.users))) (pieces (map block (map (written s rows) es))))

-- the whole text is its lines, each ended by a newline
pub text_is : (s : State) → list_text s None true ≡ ended 10 (printed_lines s)
text_is s = λ i. tru_is s i ++ keys_text s (rows_of s) (finmap.entries s.keys) i
