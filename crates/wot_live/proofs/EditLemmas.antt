-- What each edit leaves as it was.
use Rattle.std.proofs.Common.{◌≡◌, ◌+◌, ◌-◌, ◌*◌, ◌≤◌, ◌==◌, ◌&&◌, ◌||◌, not, ℕ, Bool, true, false, cond, nat_cmp, nat_eq, List, [], ◌∷◌, Some, None, Option, option_map, unwrap_or, is_some, IfSome, refl, sym, ap, subst, ◌∙◌, arith}
use Rattle.std.specs.Cmp.Lexicographic.{pointwise}
use Rattle.std.specs.FinMap as map
use Rattle.std.specs.FinMap.{contains_key, empty_of_len, get-empty, get-insert, get-remove}
use Rattle.std.specs.Cmp.{nat_cmp_total}
use Rattle.std.specs.List.{AllByRecursion, IsDistinct, find, list_any}
use Rattle.std.specs.Option.{option_map_or}
use Rattle.std.proofs.lemmas.Bool.{true≢false}
use Rattle.std.proofs.lemmas.Bool.Decides.{Decides-eqb}
use Rattle.std.proofs.lemmas.Slice.Eq.{slice_eq-Decides}
use Rattle.std.proofs.lemmas.Nat.{mul-le}
use Rattle.std.proofs.lemmas.Option.{none-some}
use Rattle.std.proofs.Math.Bool.{and-false, or-true}
use Rattle.wot_types.specs.declared.key.Key.{Key}
use Rattle.wot_types.specs.declared.ownertrust.Entry.{Entry}
use Rattle.wot_types.specs.declared.row.Row.{Row}
use Rattle.wot_types.specs.State.{State}
use Rattle.wot_types.specs.Candidates.{RowMap}
use Rattle.wot_types.specs.Expiry.{is_expired}
use Rattle.wot_types.specs.Keyring.{Keyring, cert_total, fpr_at, id_of, is_another, is_fpr_of, is_taken, taken_id, with_key, with_keys}
use Rattle.wot_types.specs.Levels.{rows_of}
use Rattle.wot_types.specs.NextCheck.{key_expiries}
use Rattle.wot_types.specs.Ownertrust.{OwnertrustMap, is_unset, kept_of, unset, with_entries, with_entry}
use Rattle.wot_types.specs.Explanation.{KeySet}
use Rattle.wot_types.specs.Touched.{IsWithinTouched, certs_on, chain_differs, is_certified_at, is_passed_between, is_touched, named_by_date, named_by_options, named_by_put, named_by_remove}
use Rattle.wot_types.proofs.Fingerprints.{fpr_cmp_total, fpr_eq}
use Rattle.wot_types.proofs.LevelLemmas.{level_le}
use Rattle.wot_types.proofs.Tests.{is_key, same_key}
use Rattle.wot_types.specs.Payload.{IsInRange}
use Rattle.wot_levels.specs.Frontier.{weight}
use Rattle.wot_live.specs.declared.plain_edit.PlainEdit.{PlainEdit}
use Rattle.wot_live.specs.declared.plain_edit.PlainEdit.TheVariants.{Put, Remove, SetDate, SetOptions}
use Rattle.wot_live.specs.declared.todo.Named.{Named}
use Rattle.wot_live.specs.declared.todo.Todo.{Todo}
use Rattle.wot_live.specs.declared.todo.Todo.TheVariants.{All, Named as Listed}
use Rattle.wot_live.specs.Follows.{Follows, HasLeft, IsDueSince, IsListedSince, no_keys, with_named}
use Rattle.wot_live.specs.PlainEdit.{IsAllowed, after_plain, is_back}
use Rattle.wot_live.specs.Recounting.{IsAlike, IsBegun, IsTouchedList, among}
use Rattle.wot_live.proofs.Rounds.{once_more}
use Rattle.wot_live.proofs.Stages.{IsLow}
use Rattle.wot_live.proofs.Weights.{all_within, weight_within}

left_out : (a b : Bool) → (a || b) ≡ false → (a ≡ false) × (b ≡ false)
left_out true b e = absurd (true≢false e)
left_out false b e = (refl, e)

same_dates : (a : ℕ) (es : List ℕ) → AllByRecursion (λ e. is_expired e a ≡ is_expired e a) es
same_dates a [] = tt
same_dates a (e ∷ es) = (refl, same_dates a es)

-- ---- dates

not_passed : (a b : Bool) → ((not a && b) || (not b && a)) ≡ false → a ≡ b
not_passed true true h = refl
not_passed true false h = absurd (true≢false h)
not_passed false true h = absurd (true≢false h)
not_passed false false h = refl

none_passed : (a b : ℕ) (es : List ℕ) → list_any (is_passed_between a b) es ≡ false → AllByRecursion (λ e. is_expired e a ≡ is_expired e b) es
none_passed a b [] h = tt
none_passed a b (e ∷ es) h =
    let both = left_out (is_passed_between a b e) (list_any (is_passed_between a b) es) h in
    (not_passed (is_expired e a) (is_expired e b) both.0, none_passed a b es both.1)

pub date_alike : (s : State) (date x : ℕ) → named_by_date s date x ≡ false → IsAlike s (record s { date = date }) x
date_alike s date x h = record {
  key = refl;
  own = λ key is. refl;
  dates = λ key is. none_passed s.date date (key_expiries key)
      (sym (ap (λ o. option_map_or (λ (k : Key). list_any (is_passed_between s.date date) (key_expiries k)) o false) is) ∙ h);
}

-- ---- keys and entries

other_keys : (keys : List Key) (m : Keyring) (x : ℕ) → list_any (λ key. id_of key == x) keys ≡ false → map.get m x ≡ map.get (with_keys m keys) x
other_keys [] m x h = refl
other_keys (key ∷ keys) m x h =
    let both = left_out (id_of key == x) (list_any (λ (k : Key). id_of k == x) keys) h in
    sym (get-insert nat_cmp_total m (id_of key) key x ∙ ap (λ b. cond b (Some key) (map.get m x)) (same_key x (id_of key) ∙ both.0)) ∙ other_keys keys (with_key m key) x both.1

other_entry : (trusts : OwnertrustMap) (entry : Entry) (fpr : List ℕ) → pointwise nat_eq fpr entry.fpr ≡ false → map.get trusts fpr ≡ map.get (with_entry trusts entry) fpr
other_entry trusts entry fpr h =
    let kept = kept_of entry in
    let apart = fpr_eq fpr entry.fpr ∙ h in
    sym (elim (is_unset kept) as (λ b. map.get (cond b (map.remove trusts entry.fpr) (map.insert trusts entry.fpr kept)) fpr ≡ map.get trusts fpr) [
      | true ↦ get-remove fpr_cmp_total trusts entry.fpr fpr ∙ ap (λ b. cond b None (map.get trusts fpr)) apart
      | false ↦ get-insert fpr_cmp_total trusts entry.fpr kept fpr ∙ ap (λ b. cond b (Some kept) (map.get trusts fpr)) apart
    ])

other_entries : (entries : List Entry) (trusts : OwnertrustMap) (fpr : List ℕ) → list_any (λ entry. pointwise nat_eq fpr entry.fpr) entries ≡ false → map.get trusts fpr ≡ map.get (with_entries trusts entries) fpr
other_entries [] trusts fpr h = refl
other_entries (entry ∷ entries) trusts fpr h =
    let both = left_out (pointwise nat_eq fpr entry.fpr) (list_any (λ (e : Entry). pointwise nat_eq fpr e.fpr) entries) h in
    other_entry trusts entry fpr both.0 ∙ other_entries entries (with_entry trusts entry) fpr both.1

pub put_alike : (s : State) (keys : List Key) (entries : List Entry) (x : ℕ) → named_by_put s keys entries x ≡ false
    → IsAlike s (record s { keys = with_keys s.keys keys; trusts = with_entries s.trusts entries }) x
put_alike s keys entries x h =
    let both = left_out (list_any (λ (k : Key). id_of k == x) keys) (list_any (λ (e : Entry). is_fpr_of e.fpr (map.get s.keys x)) entries) h in
    let same = other_keys keys s.keys x both.0 in
    record {
      key = same;
      own = λ key is.
          ap (λ o. (unwrap_or o unset).trust) (other_entries entries s.trusts key.fpr (sym (ap (λ o. list_any (λ (e : Entry). is_fpr_of e.fpr o) entries) (same ∙ is)) ∙ both.1));
      dates = λ key is. same_dates s.date (key_expiries key);
    }

-- a key that is there after another was taken out was there before
pub remove_stays : (s : State) (id y : ℕ) → contains_key (map.remove s.keys id) y ≡ true → (contains_key s.keys y ≡ true) × (fpr_at s.keys y ≡ fpr_at (map.remove s.keys id) y)
remove_stays s id y there =
    elim (id == y) as (λ b. map.get (map.remove s.keys id) y ≡ cond b None (map.get s.keys y) → (contains_key s.keys y ≡ true) × (fpr_at s.keys y ≡ fpr_at (map.remove s.keys id) y)) [
      | true ↦ λ none. absurd (true≢false (sym there ∙ ap is_some none))
      | false ↦ λ same. (sym (ap is_some same) ∙ there, sym (ap (option_map (λ (k : Key). k.fpr)) same))
    ] (get-remove nat_cmp_total s.keys id y ∙ ap (λ b. cond b None (map.get s.keys y)) (same_key y id))

not_false : (b : Bool) → not b ≡ false → b ≡ true
not_false true h = refl
not_false false h = absurd (true≢false h)

-- keys of which none has the key ID of another change no fingerprint of a key that is there
put_fprs : (keys : Keyring) (y : ℕ) → contains_key keys y ≡ true → (more : List Key) → find (is_taken keys) more ≡ None → (m : Keyring) → fpr_at keys y ≡ fpr_at m y → fpr_at keys y ≡ fpr_at (with_keys m more) y
put_fprs keys y there [] free m same = same
put_fprs keys y there (key ∷ more) free m same =
    let rest = none_found keys key more free in
    put_fprs keys y there more rest.1 (with_key m key)
    (elim (id_of key == y) as (λ b. (id_of key == y) ≡ b → map.get (with_key m key) y ≡ cond b (Some key) (map.get m y) → fpr_at keys y ≡ fpr_at (with_key m key) y) [
      | true ↦ λ e here. own key (map.get keys y) (sym (ap (λ x. is_another key (map.get keys x)) (is_key (id_of key) y e)) ∙ rest.0) there ∙ sym (ap (option_map (λ (k : Key). k.fpr)) here)
      | false ↦ λ _ here. same ∙ sym (ap (option_map (λ (k : Key). k.fpr)) here)
    ] refl (get-insert nat_cmp_total m (id_of key) key y ∙ ap (λ b. cond b (Some key) (map.get m y)) (same_key y (id_of key))))
  where
    none_found : (keys : Keyring) (key : Key) (more : List Key) → find (is_taken keys) (key ∷ more) ≡ None → (is_taken keys key ≡ false) × (find (is_taken keys) more ≡ None)
    none_found keys key more h = elim (is_taken keys key) as (λ b. is_taken keys key ≡ b → cond b (Some key) (find (is_taken keys) more) ≡ None → (is_taken keys key ≡ false) × (find (is_taken keys) more ≡ None)) [
      | true ↦ λ _ some. absurd (none-some key (sym some))
      | false ↦ λ free rest. (free, rest)
    ] refl h

    own : (key : Key) (o : Option Key) → is_another key o ≡ false → is_some o ≡ true → option_map (λ (k : Key). k.fpr) o ≡ Some key.fpr
    own key None h there = absurd (true≢false (sym there))
    own key (Some other) h there = ap Some (sym ((slice_eq-Decides Decides-eqb key.fpr other.fpr (pointwise nat_eq key.fpr other.fpr) refl).0 (not_false (pointwise nat_eq key.fpr other.fpr) h)))

-- a key with a row that is there after keys were put was there before, unless its key ID came back
pub put_stays : (s : State) (keys : List Key) (kept : RowMap) → taken_id s.keys keys ≡ None → list_any (is_back s.keys kept) keys ≡ false
    → (y : ℕ) → contains_key kept y ≡ true → contains_key (with_keys s.keys keys) y ≡ true → (contains_key s.keys y ≡ true) × (fpr_at s.keys y ≡ fpr_at (with_keys s.keys keys) y)
put_stays s keys kept free none y row there =
    let was : contains_key s.keys y ≡ true = elim (contains_key s.keys y) as (λ b. contains_key s.keys y ≡ b → b ≡ true) [
      | true ↦ λ _. refl
      | false ↦ λ gone. absurd (true≢false (sym there ∙ not_put s.keys keys none gone s.keys gone))
    ] refl in
    (was, put_fprs s.keys y was keys (no_id (find (is_taken s.keys) keys) free) s.keys refl)
  where
    no_id : (o : Option Key) → option_map id_of o ≡ None → o ≡ None
    no_id None h = refl
    no_id (Some key) h = absurd (none-some (id_of key) (sym h))

    not_back : (before : Keyring) (id : ℕ) → contains_key before y ≡ false → not (contains_key before id) && contains_key kept id ≡ false → (id == y) ≡ false
    not_back before id gone h = elim (id == y) as (λ b. (id == y) ≡ b → b ≡ false) [
      | true ↦ λ e.
          let same = is_key id y e in
          absurd (true≢false (sym (λ i. not ((ap (contains_key before) same ∙ gone) i) && (ap (contains_key kept) same ∙ row) i) ∙ h))
      | false ↦ λ _. refl
    ] refl

    not_put : (before : Keyring) (more : List Key) → list_any (is_back before kept) more ≡ false → contains_key before y ≡ false → (m : Keyring) → contains_key m y ≡ false → contains_key (with_keys m more) y ≡ false
    not_put before [] h gone m out = out
    not_put before (key ∷ more) h gone m out =
        let both = left_out (is_back before kept key) (list_any (is_back before kept) more) h in
        let apart = not_back before (id_of key) gone both.0 in
        not_put before more both.1 gone (with_key m key)
        (ap is_some (get-insert nat_cmp_total m (id_of key) key y ∙ ap (λ b. cond b (Some key) (map.get m y)) (same_key y (id_of key) ∙ apart)) ∙ out)

pub remove_alike : (s : State) (id x : ℕ) → named_by_remove id x ≡ false → IsAlike s (record s { keys = map.remove s.keys id }) x
remove_alike s id x h = record {
  key = sym (get-remove nat_cmp_total s.keys id x ∙ ap (λ b. cond b None (map.get s.keys x)) (same_key x id ∙ h));
  own = λ key is. refl;
  dates = λ key is. same_dates s.date (key_expiries key);
}

-- ---- several edits

both_dates : (a b c : ℕ) (es : List ℕ) → AllByRecursion (λ e. is_expired e a ≡ is_expired e b) es → AllByRecursion (λ e. is_expired e b ≡ is_expired e c) es → AllByRecursion (λ e. is_expired e a ≡ is_expired e c) es
both_dates a b c [] first second = tt
both_dates a b c (e ∷ es) first second = (first.0 ∙ second.0, both_dates a b c es first.1 second.1)

both_alike : (s t u : State) (x : ℕ) → IsAlike s t x → IsAlike t u x → IsAlike s u x
both_alike s t u x first second = record {
  key = first.key ∙ second.key;
  own = λ key is. first.own key (second.key ∙ is) ∙ second.own key is;
  dates = λ key is. both_dates s.date t.date u.date (key_expiries key) (first.dates key (second.key ∙ is)) (second.dates key is);
}

-- nothing is to be counted of a state whose rows and counts are there
pub none_listed : (s : State) (named : Named) → Follows s named.rows named.counts → named.list ≡ [] → IsListedSince s no_keys s named
none_listed s named follows none = record {
  begun = record {
    options = refl;
    rows = follows.rows;
    alike = λ x out. record { key = refl; own = λ key is. refl; dates = λ key is. same_dates s.date (key_expiries key) };
    fprs = λ y _ _. refl;
  };
  counts = follows.counts;
  only = λ x its. sym (ap (λ xs. among xs x) none) ∙ its;
}

either : (a b c : Bool) → (a ≡ true → b ≡ true) → (a || c) ≡ true → (b || c) ≡ true
either a true c h its = refl
either true false c h its = absurd (true≢false (sym (h refl)))
either false false c h its = its

-- one edit more: the keys that it names are listed too
pub listed_more : (s t u : State) (names more : KeySet) (named : Named) (list : List ℕ) → IsListedSince s names t named → t.options ≡ u.options
    → ((x : ℕ) → among list x ≡ (among named.list x || more x)) → ((x : ℕ) → more x ≡ false → IsAlike t u x)
    → ((y : ℕ) → contains_key named.rows y ≡ true → contains_key u.keys y ≡ true → (contains_key t.keys y ≡ true) × (fpr_at t.keys y ≡ fpr_at u.keys y)) → IsListedSince s (with_named names more) u (record named { list = list })
listed_more s t u names more named list before same grown alike stay = record {
  begun = record {
    options = before.begun.options ∙ same;
    rows = before.begun.rows;
    alike = λ x out.
        let apart = left_out (among named.list x) (more x) (sym (grown x) ∙ out) in
        both_alike s t u x (before.begun.alike x apart.0) (alike x apart.1);
    fprs = λ y row there. let was = stay y row there in before.begun.fprs y row was.0 ∙ was.1;
  };
  counts = before.counts;
  only = λ x its. either (among named.list x) (names x) (more x) (before.only x) (sym (grown x) ∙ its);
}

-- one edit more where all keys are named: those that it doesn't name were there before
pub all_more : (t u : State) (names more : KeySet) → ((x : ℕ) → contains_key t.keys x ≡ true → names x ≡ true) → ((x : ℕ) → more x ≡ false → IsAlike t u x)
    → (x : ℕ) → contains_key u.keys x ≡ true → with_named names more x ≡ true
all_more t u names more all alike x there = elim (more x) as (λ b. more x ≡ b → (names x || b) ≡ true) [
  | true ↦ λ _. or-true (names x)
  | false ↦ λ out. ap (λ b. b || false) (all x (ap is_some (alike x out).key ∙ there))
] refl

-- where there are no keys all of them are named
pub none_there : (keys : Keyring) (names : KeySet) → map.len keys ≡ 0 → (x : ℕ) → contains_key keys x ≡ true → names x ≡ true
none_there keys names none x there = absurd (true≢false (sym there ∙ ap (λ (m : Keyring). is_some (map.get m x)) (empty_of_len keys none) ∙ ap is_some (get-empty nat_cmp x)))

-- where each key with a row is there, no key comes back to one
pub none_back : (keys : Keyring) (kept : RowMap) → ((y : ℕ) → contains_key kept y ≡ true → contains_key keys y ≡ true) → (more : List Key) → list_any (is_back keys kept) more ≡ false
none_back keys kept there [] = refl
none_back keys kept there (key ∷ more) =
    let id = id_of key in
    let one : is_back keys kept key ≡ false = elim (contains_key kept id) as (λ b. contains_key kept id ≡ b → not (contains_key keys id) && b ≡ false) [
      | true ↦ λ row. ap (λ b. not b && true) (there id row)
      | false ↦ λ _. and-false (not (contains_key keys id))
    ] refl in
    λ i. one i || none_back keys kept there more i

-- all keys, whatever they are
pub all_due : (s u : State) → (more : KeySet) × IsDueSince s more u All
all_due s u = (named_by_options, λ x there. refl)

-- whatever is to be counted, all keys have it among them
pub all_named : (s t : State) (names : KeySet) (todo : Todo) → IsDueSince s names t todo → IsDueSince s named_by_options t todo
all_named s t names All due = λ x there. refl
all_named s t names (Listed named) due = record { begun = due.begun; counts = due.counts; only = λ x its. refl }

-- one edit more: what is to be counted is told from the same state as before
pub due_after : {t u v : State} {before after : Todo} → HasLeft t before → u ≡ v → IsInRange v.options
    → ((s : State) (names : KeySet) → IsDueSince s names t before → (more : KeySet) × IsDueSince s more u after) → HasLeft u after
due_after due is ranges since = record {
  ranges = subst (λ (w : State). IsInRange w.options) (sym is) ranges;
  since = let more = since due.since.0 due.since.1 due.since.2 in (due.since.0, more.0, more.1);
}

-- an edit that may be made leaves the options in their ranges
pub ranges_after : (s : State) (edit : PlainEdit) → IsInRange s.options → IsAllowed s edit → IsInRange (after_plain s edit).options
ranges_after s (Put keys entries) ranges allowed = ranges
ranges_after s (Remove id) ranges allowed = ranges
ranges_after s (SetDate date) ranges allowed = ranges
ranges_after s (SetOptions options) ranges allowed = allowed

-- ---- levels and bounds

-- those on all keys
pub all_certs : (keys : Keyring) → certs_on named_by_options keys ≡ cert_total keys
all_certs keys = all_within named_by_options keys (λ x there. refl)

pub low_of : (s : State) (rows : RowMap) (top : ℕ) → rows ≡ rows_of s → s.options.depth - 1 ≡ top → IsLow top rows
low_of s rows top is same x = elim (map.get (rows_of s) x) as (λ o. map.get (rows_of s) x ≡ o → IfSome (map.get rows x) (λ row. row.level ≤ top)) [
  | None ↦ λ none. subst (λ o. IfSome o (λ (row : Row). row.level ≤ top)) (sym (ap (λ r. map.get r x) is ∙ none)) tt
  | Some row ↦ λ there.
      let low = level_le s (s.options.depth - 1) x row there in
      subst (λ o. IfSome o (λ (r : Row). r.level ≤ top)) (sym (ap (λ r. map.get r x) is ∙ there)) (omega (arith, low, same))
] refl

within_bound : (depth before certs old new : ℕ) → new ≤ old + (depth + 1) * certs → new ≤ old + (depth + 2) * (before + certs)
within_bound depth before certs old new h =
    let more = mul-le (depth + 1) certs (depth + 2) (before + certs) (omega arith) (omega arith) in
    omega (arith, h, more)

pub named_touched : (named : KeySet) (s t : State) (x : ℕ) → named x ≡ true → is_touched named s t x ≡ true
named_touched named s t x h = ap (λ b. b || is_certified_at s.keys (chain_differs s t) x || is_certified_at t.keys (chain_differs s t) x) h

-- where all keys are in the set a count of all keys is within it
pub all_bound : (set : KeySet) (keys : Keyring) (depth old new : ℕ) → ((x : ℕ) → contains_key keys x ≡ true → set x ≡ true) → new ≤ old + (depth + 1) * cert_total keys
    → new ≤ old + (depth + 1) * certs_on set keys
all_bound set keys depth old new all cost = subst (λ n. new ≤ old + (depth + 1) * n) (sym (all_within set keys all)) cost

-- where a recount begins, of the state as it is lent
pub lent_list : {s t u : State} {names : KeySet} {named : Named} → u ≡ t → IsListedSince s names t named → IsBegun s u named.rows named.list × IsTouchedList names s u named.list
lent_list {s} {t} {u} {names} {named} is listed = (
  subst (λ v. IsBegun s v named.rows named.list) (sym is) listed.begun,
  subst (λ v. IsTouchedList names s v named.list) (sym is) (λ x its. named_touched names s t x (listed.only x its)),
)

-- first the rows of the listed keys, and then their counts
pub listed_bound : (s t u : State) (names : KeySet) (todo : List ℕ) (old between new : ℕ) → t ≡ u → IsDistinct nat_eq todo → IsTouchedList names s t todo
    → between ≤ old + t.options.depth * certs_on (is_touched names s t) t.keys → new ≤ between + weight t.keys todo
    → new ≤ old + (u.options.depth + 1) * certs_on (is_touched names s u) u.keys
listed_bound s t u names todo old between new is distinct touched first cost =
    let set = is_touched names s t in
    let less = weight_within set t.keys todo distinct touched in
    let more = once_more t.options.depth (certs_on set t.keys) in
    subst (λ (v : State). new ≤ old + (v.options.depth + 1) * certs_on (is_touched names s v) v.keys) is (omega (arith, less, first, cost, more))

-- what an edit reads is within its bound
pub edit_bound : (edit : State → State) (names : State → KeySet) {s t u : State} (old new : ℕ) → t ≡ s → u ≡ edit t
    → new ≤ old + (u.options.depth + 1) * certs_on (is_touched (names t) s u) u.keys → IsWithinTouched (names s) s (edit s) old new
edit_bound edit names {s} {t} {u} old new same is cost =
    subst (λ v. IsWithinTouched (names v) s (edit v) old new) same
    (subst (λ v. IsWithinTouched (names t) s v old new) is
    (within_bound u.options.depth (certs_on (is_touched (names t) s u) s.keys) (certs_on (is_touched (names t) s u) u.keys) old new cost))
