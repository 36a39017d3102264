-- The reply to each command ends at its last line.
use Rattle.std.proofs.Common.{◌≡◌, ℕ, ◌+◌, ◌-◌, ◌==◌, Bool, true, false, not, ◌&&◌, List, [], ◌∷◌, ◌++◌, length, append_assoc, append-nil, refl, sym, ap, ◌∙◌, arith, true≢false, All, IfSome, Option, Some, None, Result, Ok, Err, codes, decimal}
use Rattle.std.specs.Prelude.{if◌then◌else◌, nat_lt, unwrap_or, option_map, option_to_list}
use Rattle.std.specs.FinMap as map
use Rattle.std.specs.FinMap.{nat_cmp-IsAntisymmetric}
use Rattle.std.specs.List.{flat_map, list_any, slice_split}
use Rattle.std.specs.Cmp.{nat_cmp_total}
use Rattle.std.proofs.lemmas.Bool.{cond_both, eqb-true, or_parts}
use Rattle.std.proofs.lemmas.Grind.{flat_map-append}
use Rattle.std.proofs.lemmas.List.Elements.{All-cons, All-head, All-nil, All-tail}
use Rattle.std.proofs.lemmas.List.Splits.{slice_split_at}
use Rattle.wot_types.specs.declared.edit.Edit.{Edit}
use Rattle.wot_types.specs.declared.edit.Edit.TheVariants.{Import, Ownertrust, Set, Flag, Delete, Date, Options, Sample}
use Rattle.wot_types.specs.declared.head.Head.{Head}
use Rattle.wot_types.specs.declared.head.Head.TheVariants.{Edit as EditHead, Query as QueryHead, DeleteKey, Import as ImportHead, Ownertrust as OwnertrustHead}
use Rattle.wot_types.specs.declared.query.Query.{Query}
use Rattle.wot_types.specs.declared.query.Query.TheVariants.{List as ListAll, ListOne, Sigs, SigsOne, Export, Why, Check, Suppose, Critical, AtList, AtListOne, AtWhy, Compact, Quit}
use Rattle.wot_types.specs.declared.fault.ListingFault.{ListingFault}
use Rattle.wot_types.specs.declared.fault.ListingWhat.{ListingWhat}
use Rattle.wot_types.specs.declared.fault.ListingWhat.TheVariants.{ShortRecord, BadNumber, BadDate, BadHex, BadQuote, NoFingerprint, KeyIdDiffers, RepeatedKey, RepeatedUser, BadTrustField, LimitReached}
use Rattle.wot_types.specs.declared.fault.OwnertrustFault.{OwnertrustFault}
use Rattle.wot_types.specs.declared.fault.OwnertrustFault.TheVariants.{BadFingerprint, BadValue, BadShape}
use Rattle.wot_types.specs.declared.key.Key.{Key}
use Rattle.wot_types.specs.declared.limit.Limit.{Limit}
use Rattle.wot_types.specs.declared.limit.Limit.TheVariants.{Keys, Users, Certs, Text, Trusts, Record, Scope}
use Rattle.wot_types.specs.declared.refusal.Refusal.{Refusal}
use Rattle.wot_types.specs.declared.refusal.Refusal.TheVariants.{LineTooLong, UnknownCommand, BadArgument, UnendedBlock, Listing, Ownertrust as OwnertrustRefusal, NoSuchTime, NoSuchKey, NoSuchUser, Full, KeyIdTaken, JournalFull}
use Rattle.wot_types.specs.State.{State}
use Rattle.wot_types.specs.declared.user.User.{User}
use Rattle.wot_types.specs.Candidates.{RowMap}
use Rattle.wot_types.specs.Commands.{Command, block_texts}
use Rattle.wot_types.specs.CutState.{cut}
use Rattle.wot_types.specs.EarlierStates.{earlier_state}
use Rattle.wot_types.specs.Explanation.{count_by_trust, direct, explained_rows, explanation}
use Rattle.wot_types.specs.Fingerprint.{key_id_of}
use Rattle.wot_types.specs.Grammar.{command_of}
use Rattle.wot_types.specs.Keyring.{has_fpr}
use Rattle.wot_types.specs.Letters.{key_letter}
use Rattle.wot_types.specs.Levels.{rows_of}
use Rattle.wot_types.specs.Lines.{front_of, is_newline, last_of, open_line, whole_lines}
use Rattle.wot_types.proofs.ListEnds.{front_of_more, last_of_more}
use Rattle.wot_types.specs.Listing.{fault_at_end, kept_certs, listed_keys, passed_certs}
use Rattle.wot_types.specs.NextCheck.{next_check}
use Rattle.wot_types.specs.Outcome.{Outcome, block_outcome, edit_outcome, edit_reply, entries_outcome, has_long_line, head_outcome, is_past, listing_outcome, ok_line, outcome, outcome_in, query_outcome, query_refusal, refusal_of, refuse, reply_to, sample_reply, unless_refused, unless_unanswered, words_outcome, change_by}
use Rattle.wot_types.specs.StateAfter.{state_after}
use Rattle.wot_types.specs.Ownertrust.{ownertrust_of, ownertrust_line}
use Rattle.wot_types.specs.OwnertrustText.{listed_entries, ownertrust_fault}
use Rattle.wot_types.specs.Printing.{cert_line, key_id_text, key_lines, list_text, listed_keyblocks, user_lines}
use Rattle.wot_types.specs.Refusals.{fault_name, limit_name, ownertrust_fault_name, refusal_text, reply_line}
use Rattle.wot_types.specs.Selection.{spots_from}
use Rattle.wot_types.specs.Store.{Change, Store}
use Rattle.wot_types.specs.Store.Change.{makes}
use Rattle.wot_types.specs.Supposing.{changes, critical}
use Rattle.wot_types.specs.SupposingText.{change_line, loss_line}
use Rattle.wot_types.specs.Tally.{tally_line}
use Rattle.wot_types.specs.WellFormed.{IsUser, IsWellFormed}
use Rattle.wot_types.specs.WhyText.{by_line, letter_of, row_line, why_text}
use Rattle.wot_types.proofs.FinMaps.{IfSome-get}
use Rattle.wot_reply_laws.specs.Replies.{AreWellFormed, IsReply, WereWellFormed, ends_reply, is_silent, tells}
use Rattle.wot_reply_laws.proofs.PlainTexts.{ArePlain, IsPlain, joined, plain_decimal, plain_joined, plain_key_id}
use Rattle.wot_reply_laws.proofs.ReplyLines.{GoesOn, all_plain, both, by_goes_on, cert_goes_on, change_goes_on, cut_goes_on, each, each_of, entry_goes_on, fpr_goes_on, loss_goes_on, nothing, pub_goes_on, row_goes_on, tally_goes_on, tru_goes_on, user_goes_on, why_goes_on}

-- ---- whole lines, cut again

free_of_newline : (line : List ℕ) → IsPlain line → All (λ b. is_newline b ≡ false) line
free_of_newline [] h = All-nil (λ b. is_newline b ≡ false)
free_of_newline (b ∷ line) h =
    let parts = or_parts (is_newline b) (list_any is_newline line) h in
    All-cons (λ b. is_newline b ≡ false) b line parts.0 (free_of_newline line parts.1)

split_lines : (lines : List (List ℕ)) → ArePlain lines → slice_split is_newline (flat_map reply_line lines) ≡ lines ++ [] ∷ []
split_lines [] h = refl
split_lines (line ∷ lines) h =
    ap (slice_split is_newline) (append_assoc line (10 ∷ []) (flat_map reply_line lines))
    ∙ slice_split_at is_newline line 10 (flat_map reply_line lines) (free_of_newline line h.0) refl
    ∙ ap (λ l. line ∷ l) (split_lines lines h.1)

pub whole_lines_are : (lines : List (List ℕ)) → ArePlain lines → whole_lines (flat_map reply_line lines) ≡ lines
whole_lines_are lines h = ap front_of (split_lines lines h) ∙ front_of_more lines []

open_line_is : (lines : List (List ℕ)) → ArePlain lines → open_line (flat_map reply_line lines) ≡ []
open_line_is lines h = ap (λ l. last_of l []) (split_lines lines h) ∙ last_of_more lines [] []

-- ---- a reply by its front and its last line

-- a last line of a reply
record Ends (refused : Bool) (line : List ℕ) : Type 0 where
  plain : IsPlain line
  ends : ends_reply line ≡ true
  told : tells refused line ≡ true

-- lines that go on, and a last line
pub record Answered (refused : Bool) (text : List ℕ) : Type 0 where
  pub lines : List (List ℕ)
  pub last : List ℕ
  pub is : text ≡ flat_map reply_line (lines ++ last ∷ [])
  pub plain : ArePlain (lines ++ last ∷ [])
  pub none : list_any ends_reply lines ≡ false
  pub ends : ends_reply last ≡ true
  pub told : tells refused last ≡ true

reply : (refused : Bool) (front line : List ℕ) → GoesOn front → Ends refused line → Answered refused (front ++ reply_line line)
reply refused front line p q = record {
  lines = p.lines;
  last = line;
  is = ap (λ l. l ++ reply_line line) p.is ∙ sym (flat_map-append reply_line p.lines (line ∷ []) ∙ ap (λ l. flat_map reply_line p.lines ++ l) (append-nil (reply_line line)));
  plain = all_plain p.lines (line ∷ []) p.plain (q.plain, tt);
  none = p.none;
  ends = q.ends;
  told = q.told;
}

-- a reply of one line
one_line : (refused : Bool) (line : List ℕ) → Ends refused line → Answered refused (reply_line line)
one_line refused line q = reply refused [] line nothing q

-- ---- refusals

name_of_fault : (what : ListingWhat) → IsPlain (fault_name what)
name_of_fault ShortRecord = refl
name_of_fault BadNumber = refl
name_of_fault BadDate = refl
name_of_fault BadHex = refl
name_of_fault BadQuote = refl
name_of_fault NoFingerprint = refl
name_of_fault KeyIdDiffers = refl
name_of_fault RepeatedKey = refl
name_of_fault RepeatedUser = refl
name_of_fault BadTrustField = refl
name_of_fault (LimitReached limit) = refl

name_of_ownertrust_fault : (what : OwnertrustFault) → IsPlain (ownertrust_fault_name what)
name_of_ownertrust_fault BadFingerprint = refl
name_of_ownertrust_fault BadValue = refl
name_of_ownertrust_fault BadShape = refl

name_of_limit : (limit : Limit) → IsPlain (limit_name limit)
name_of_limit Keys = refl
name_of_limit Users = refl
name_of_limit Certs = refl
name_of_limit Text = refl
name_of_limit Trusts = refl
name_of_limit Record = refl
name_of_limit Scope = refl

err : (text : List ℕ) (parts : List (List ℕ)) → IsPlain text → ArePlain parts → ends_reply (joined text parts) ≡ true → tells true (joined text parts) ≡ true → Ends true (joined text parts)
err text parts p q e v = record { plain = plain_joined text parts p q; ends = e; told = v }

refusal_ends : (refusal : Refusal) → Ends true (refusal_text refusal)
refusal_ends LineTooLong = err (codes "err line-too-long") [] refl tt refl refl
refusal_ends UnknownCommand = err (codes "err unknown-command") [] refl tt refl refl
refusal_ends (BadArgument n) = err (codes "err bad-argument ") (decimal n ∷ []) refl (plain_decimal n, tt) refl refl
refusal_ends UnendedBlock = err (codes "err unended-block") [] refl tt refl refl
refusal_ends (Listing fault) =
    err (codes "err listing ") (decimal fault.line ∷ codes " " ∷ fault_name fault.what ∷ []) refl (plain_decimal fault.line, (refl, (name_of_fault fault.what, tt))) refl refl
refusal_ends (OwnertrustRefusal line what) =
    err (codes "err ownertrust ") (decimal line ∷ codes " " ∷ ownertrust_fault_name what ∷ []) refl (plain_decimal line, (refl, (name_of_ownertrust_fault what, tt))) refl refl
refusal_ends (NoSuchTime count) = err (codes "err no-such-time ") (decimal count ∷ []) refl (plain_decimal count, tt) refl refl
refusal_ends NoSuchKey = err (codes "err no-such-key") [] refl tt refl refl
refusal_ends NoSuchUser = err (codes "err no-such-user") [] refl tt refl refl
refusal_ends (Full limit) = err (codes "err full ") (limit_name limit ∷ []) refl (name_of_limit limit, tt) refl refl
refusal_ends (KeyIdTaken id) = err (codes "err key-id-taken ") (key_id_text id ∷ []) refl (plain_key_id id, tt) refl refl
refusal_ends JournalFull = err (codes "err journal-full") [] refl tt refl refl

abbrev Replies : Outcome → Type 0
Replies o = Answered o.refused o.text

refused : (refusal : Refusal) → Replies (refuse refusal)
refused refusal = one_line true (refusal_text refusal) (refusal_ends refusal)

-- ---- edits

ok_ends : Ends false (codes "ok")
ok_ends = record { plain = refl; ends = refl; told = refl }

ok : (text : List ℕ) (parts : List (List ℕ)) → IsPlain text → ArePlain parts → ends_reply (joined text parts) ≡ true → tells false (joined text parts) ≡ true → Ends false (joined text parts)
ok text parts p q e v = record { plain = plain_joined text parts p q; ends = e; told = v }

fitting_replies : (text : List ℕ) (edit : Edit) (past : Bool) → Answered false text
    → Replies (if past then refuse JournalFull else record { text = text; refused = false; change = makes edit })
fitting_replies text edit true q = refused JournalFull
fitting_replies text edit false q = q

unless_replies : (why : Option Refusal) (text : List ℕ) (s : Store) (edit : Edit) → Answered false text → Replies (unless_refused why text s edit)
unless_replies None text s edit q = fitting_replies text edit (is_past s.end edit) q
unless_replies (Some why) text s edit q = refused why

edit_replies : (text : List ℕ) (s : Store) (edit : Edit) → Answered false text → Replies (edit_outcome text s edit)
edit_replies text s edit q = unless_replies (refusal_of s.state edit) text s edit q

ok_alone : Answered false ok_line
ok_alone = one_line false (codes "ok") ok_ends

-- after a sample: a tally, and how many keys it has
sample_replies : (after : State) (count : ℕ) → Answered false (sample_reply after count)
sample_replies after count =
    reply false (tally_line after (rows_of after)) (joined (codes "ok keys ") (decimal count ∷ [])) (tally_goes_on after (rows_of after))
    (ok (codes "ok keys ") (decimal count ∷ []) refl (plain_decimal count, tt) refl refl)

edit_ends : (s : State) (edit : Edit) → Answered false (edit_reply s edit)
edit_ends s (Import keys) = ok_alone
edit_ends s (Ownertrust entries) = ok_alone
edit_ends s (Set fpr trust) = ok_alone
edit_ends s (Flag fpr disabled) = ok_alone
edit_ends s (Delete id) = ok_alone
edit_ends s (Date date) = ok_alone
edit_ends s (Options options) = ok_alone
edit_ends s (Sample seed count) = sample_replies (state_after s (Sample seed count)) count

delete_replies : (s : Store) (fpr : List ℕ) (has : Bool) → Replies (if has then edit_outcome ok_line s (Delete (key_id_of fpr)) else refuse NoSuchKey)
delete_replies s fpr true = edit_replies ok_line s (Delete (key_id_of fpr)) ok_alone
delete_replies s fpr false = refused NoSuchKey

-- ---- blocks

listing_replies : (fault : Option ListingFault) (s : Store) (lines : List (List ℕ)) → Replies (listing_outcome fault s lines)
listing_replies (Some fault) s lines = refused (Listing fault)
listing_replies None s lines =
    let parts : List (List ℕ) = decimal (length (listed_keys lines)) ∷ codes " kept " ∷ decimal (kept_certs lines) ∷ codes " passed " ∷ decimal (passed_certs lines) ∷ [] in
    edit_replies (reply_line (joined (codes "ok keys ") parts)) s (Import (listed_keys lines))
    (one_line false (joined (codes "ok keys ") parts) (ok (codes "ok keys ") parts refl (plain_decimal (length (listed_keys lines)), (refl, (plain_decimal (kept_certs lines), (refl, (plain_decimal (passed_certs lines), tt))))) refl refl))

entries_replies : (fault : Option (ℕ × OwnertrustFault)) (s : Store) (lines : List (List ℕ)) → Replies (entries_outcome fault s lines)
entries_replies (Some fault) s lines = refused (OwnertrustRefusal fault.0 fault.1)
entries_replies None s lines =
    let parts : List (List ℕ) = decimal (length (listed_entries lines)) ∷ [] in
    edit_replies (reply_line (joined (codes "ok entries ") parts)) s (Ownertrust (listed_entries lines))
    (one_line false (joined (codes "ok entries ") parts) (ok (codes "ok entries ") parts refl (plain_decimal (length (listed_entries lines)), tt) refl refl))

ended_replies : (o : Outcome) (ended : Bool) → Replies o → Replies (if ended then o else refuse UnendedBlock)
ended_replies o true r = r
ended_replies o false r = refused UnendedBlock

-- ---- queries

users_go_on : (s : State) (rows : RowMap) (sigs : Bool) (id own n : ℕ) (key : Key) (users : List User) → All (IsUser own) users → GoesOn (flat_map (user_lines s rows sigs id key) (spots_from n users))
users_go_on s rows sigs id own n key [] w = nothing
users_go_on s rows sigs id own n key (user ∷ users) w =
    both _ _
    (both _ _ (user_goes_on _ own user (All-head (IsUser own) user users w))
    (cond_both sigs (flat_map cert_line user.certs) [] GoesOn (λ e. each cert_line cert_goes_on user.certs) (λ e. nothing)))
    (users_go_on s rows sigs id own (n + length user.certs) key users (All-tail (IsUser own) user users w))

key_goes_on : (s : State) (rows : RowMap) (sigs : Bool) (entry : ℕ × Key) → IsWellFormed entry.1 → GoesOn (key_lines s rows sigs entry)
key_goes_on s rows sigs entry w =
    both _ _
    (both _ _ (pub_goes_on (key_letter s rows entry.0 entry.1) (ownertrust_of s.trusts entry.1.fpr) entry.0 entry.1 w) (fpr_goes_on entry.1.fpr))
    (users_go_on s rows sigs entry.0 (key_id_of entry.1.fpr) 0 entry.1 entry.1.users w.each)

listed_one : (id : ℕ) (found : Option Key) → IfSome found IsWellFormed → All (λ (e : ℕ × Key). IsWellFormed e.1) (option_to_list (option_map (λ key. (id, key)) found))
listed_one id None w = All-nil (λ (e : ℕ × Key). IsWellFormed e.1)
listed_one id (Some key) w = All-cons (λ (e : ℕ × Key). IsWellFormed e.1) (id, key) [] w (All-nil (λ (e : ℕ × Key). IsWellFormed e.1))

listed_are : (s : State) (only : Option ℕ) → AreWellFormed s.keys → All (λ (e : ℕ × Key). IsWellFormed e.1) (listed_keyblocks s only)
listed_are s None w = w
listed_are s (Some id) w = listed_one id (map.get s.keys id) (IfSome-get nat_cmp_total nat_cmp-IsAntisymmetric (λ (e : ℕ × Key). IsWellFormed e.1) s.keys id w)

list_goes_on : (s : State) (only : Option ℕ) (sigs : Bool) → AreWellFormed s.keys → GoesOn (list_text s only sigs)
list_goes_on s only sigs w =
    both _ _ (tru_goes_on s.options s.date (next_check s))
    (each_of (λ (e : ℕ × Key). IsWellFormed e.1) (key_lines s (rows_of s) sigs) (key_goes_on s (rows_of s) sigs) (listed_keyblocks s only) (listed_are s only w))

why_text_goes_on : (s : State) (id place : ℕ) → GoesOn (why_text s id place)
why_text_goes_on s id place =
    both _ _
    (both _ _
    (both _ _
    (why_goes_on id place (letter_of s id place) (count_by_trust (map.values (explained_rows s (direct s id place)))))
    (each row_line row_goes_on (map.values (explained_rows s (explanation s id place)))))
    (each by_line by_goes_on (map.values (explained_rows s (direct s id place)))))
    (cut_goes_on (letter_of (cut s (explanation s id place) id) id place))

-- lines that are counted in the last one
counted : {X : Type 0} (line : X → List ℕ) → ((x : X) → GoesOn (line x)) → (words : List ℕ) → IsPlain words → ((n : ℕ) → ends_reply (words ++ decimal n) ≡ true)
    → ((n : ℕ) → tells false (words ++ decimal n) ≡ true) → (xs : List X) → Answered false (flat_map line xs ++ reply_line (words ++ decimal (length xs)))
counted line goes_on words plain ends told xs =
    reply false (flat_map line xs) (words ++ decimal (length xs)) (each line goes_on xs)
    (ok words (decimal (length xs) ∷ []) plain (plain_decimal (length xs), tt) (ends (length xs)) (told (length xs)))

-- the replies whose last line is `ok`
ok_behind : (text : List ℕ) → GoesOn text → Answered false (text ++ ok_line)
ok_behind text p = reply false text (codes "ok") p ok_ends

query_ends : (s : State) (query : Query) → AreWellFormed s.keys → Answered false (reply_to s query)
query_ends s ListAll w = ok_behind _ (list_goes_on s None false w)
query_ends s (ListOne fpr) w = ok_behind _ (list_goes_on s (Some (key_id_of fpr)) false w)
query_ends s Sigs w = ok_behind _ (list_goes_on s None true w)
query_ends s (SigsOne fpr) w = ok_behind _ (list_goes_on s (Some (key_id_of fpr)) true w)
query_ends s Export w = ok_behind _ (each ownertrust_line entry_goes_on (map.entries s.trusts))
query_ends s (Why fpr place) w = ok_behind _ (why_text_goes_on s (key_id_of fpr) (place - 1))
query_ends s Check w = ok_behind _ (tally_goes_on s (rows_of s))
query_ends s (Suppose edit) w = counted change_line change_goes_on (codes "ok changes ") refl (λ n. refl) (λ n. refl) (changes s (state_after s edit))
query_ends s (Critical fpr place) w = counted loss_line loss_goes_on (codes "ok critical ") refl (λ n. refl) (λ n. refl) (critical s (key_id_of fpr) (place - 1))
query_ends s (AtList n) w = ok_behind _ nothing
query_ends s (AtListOne n fpr) w = ok_behind _ nothing
query_ends s (AtWhy n fpr place) w = ok_behind _ nothing
query_ends s Compact w = ok_behind _ nothing
query_ends s Quit w = ok_behind _ nothing

query_replies : (why : Option Refusal) (text : List ℕ) (change : Change) → Answered false text → Replies (unless_unanswered why text change)
query_replies (Some why) text change p = refused why
query_replies None text change p = p

-- in whatever state it is asked
replies_in : (s : State) (query : Query) → AreWellFormed s.keys → Replies (outcome_in s query)
replies_in s query w = query_replies (query_refusal s query) (reply_to s query) (change_by query) (query_ends s query w)

-- of an earlier state, or of a time that there isn't
earlier_replies : (s : Store) (n : ℕ) (query : Query) (late : Bool) → WereWellFormed s → Replies (if late then refuse (NoSuchTime (length s.edits)) else outcome_in (earlier_state s n) query)
earlier_replies s n query true before = refused (NoSuchTime (length s.edits))
earlier_replies s n query false before = replies_in (earlier_state s n) query (before n)

asked : (s : Store) (query : Query) → AreWellFormed s.state.keys → WereWellFormed s → Replies (query_outcome s query)
asked s (AtList n) w before = earlier_replies s n ListAll (nat_lt (length s.edits) n) before
asked s (AtListOne n fpr) w before = earlier_replies s n (ListOne fpr) (nat_lt (length s.edits) n) before
asked s (AtWhy n fpr place) w before = earlier_replies s n (Why fpr place) (nat_lt (length s.edits) n) before
asked s ListAll w before = replies_in s.state ListAll w
asked s (ListOne fpr) w before = replies_in s.state (ListOne fpr) w
asked s Sigs w before = replies_in s.state Sigs w
asked s (SigsOne fpr) w before = replies_in s.state (SigsOne fpr) w
asked s Export w before = replies_in s.state Export w
asked s (Why fpr place) w before = replies_in s.state (Why fpr place) w
asked s Check w before = replies_in s.state Check w
asked s (Suppose edit) w before = replies_in s.state (Suppose edit) w
asked s (Critical fpr place) w before = replies_in s.state (Critical fpr place) w
asked s Compact w before = replies_in s.state Compact w
asked s Quit w before = replies_in s.state Quit w

-- ---- commands

module _ (s : Store) (command : Command) (w : AreWellFormed s.state.keys) (before : WereWellFormed s) where
  head_replies : (head : Result Head Refusal) → Replies (head_outcome s command head)
  head_replies (Err why) = refused why
  head_replies (Ok (EditHead edit)) = edit_replies (edit_reply s.state edit) s edit (edit_ends s.state edit)
  head_replies (Ok (QueryHead query)) = asked s query w before
  head_replies (Ok (DeleteKey fpr)) = delete_replies s fpr (has_fpr s.state.keys fpr)
  head_replies (Ok ImportHead) =
      ended_replies (block_outcome ImportHead s (block_texts command.block)) command.ended (listing_replies (fault_at_end (block_texts command.block)) s (block_texts command.block))
  head_replies (Ok OwnertrustHead) =
      ended_replies (block_outcome OwnertrustHead s (block_texts command.block)) command.ended (entries_replies (ownertrust_fault (block_texts command.block)) s (block_texts command.block))

  words_reply : (words : List (List ℕ)) → (length words == 0) ≡ false → Replies (words_outcome s command words)
  words_reply [] some = absurd (true≢false some)
  words_reply (name ∷ words) some = head_replies (command_of (name ∷ words))

  cases_reply : (long : Bool) → (not long && (length (unwrap_or command.words []) == 0)) ≡ false → Replies (if long then refuse LineTooLong else words_outcome s command (unwrap_or command.words []))
  cases_reply true some = refused LineTooLong
  cases_reply false some = words_reply (unwrap_or command.words []) some

  pub answered : is_silent command ≡ false → Answered (outcome s command).refused (outcome s command).text
  unfolding outcome
  answered some = cases_reply (has_long_line command) some

  pub replies : is_silent command ≡ false → IsReply (outcome s command).refused (outcome s command).text
  replies some =
      let a = answered some in
      record {
        front = a.lines;
        last = a.last;
        lines = ap whole_lines a.is ∙ whole_lines_are (a.lines ++ a.last ∷ []) a.plain;
        rest = ap open_line a.is ∙ open_line_is (a.lines ++ a.last ∷ []) a.plain;
        goes_on = a.none;
        ends = a.ends;
        told = a.told;
      }

no_words : (s : Store) (command : Command) (words : List (List ℕ)) → (length words == 0) ≡ true → (words_outcome s command words).text ≡ []
no_words s command [] none = refl
no_words s command (name ∷ words) none = absurd (omega (arith, eqb-true (length (name ∷ words)) 0 none))

silent_cases : (s : Store) (command : Command) (long : Bool) → (not long && (length (unwrap_or command.words []) == 0)) ≡ true
    → (if long then refuse LineTooLong else words_outcome s command (unwrap_or command.words [])).text ≡ []
silent_cases s command true none = absurd (true≢false (sym none))
silent_cases s command false none = no_words s command (unwrap_or command.words []) none

pub silent : (s : Store) (command : Command) → is_silent command ≡ true → (outcome s command).text ≡ []
unfolding outcome
silent s command none = silent_cases s command (has_long_line command) none
