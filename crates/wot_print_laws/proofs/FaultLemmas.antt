-- No line of a block that is written as a key is printed has a fault.
use Rattle.std.proofs.Common.{◌≡◌, ℕ, ◌+◌, ◌<◌, ◌≤◌, ◌==◌, Bool, true, false, ◌||◌, ◌&&◌, nat_le, List, [], ◌∷◌, ◌++◌, append_assoc, append-nil, length, length-append, All, Some, None, if◌then◌else◌, filter, sum_by, is_some, is_none, refl, sym, ap, ◌∙◌, arith}
use Rattle.std.specs.Prelude.{unwrap_or, option_map, nat_eq}
use Rattle.std.specs.List.{list_any}
use Rattle.std.specs.Option.{option_or}
use Rattle.std.specs.Cmp.Lexicographic.{pointwise}
use Rattle.std.proofs.lemmas.Bool.{cond_both, or_from, lt-leb, ne_eqb}
use Rattle.std.proofs.lemmas.Grind.{flat_map-append}
use Rattle.std.proofs.lemmas.List.Elements.{All-head, All-tail}
use Rattle.std.proofs.lemmas.List.Sums.{sum_by-append, sum_by-cons}
use Rattle.wot_types.specs.declared.cert.Cert.{Cert}
use Rattle.wot_types.specs.declared.key.Key.{Key}
use Rattle.wot_types.specs.declared.user.User.{User}
use Rattle.wot_types.specs.declared.limit.Limit.TheVariants.{Users as UsersLimit, Certs as CertsLimit}
use Rattle.wot_types.specs.declared.fault.ListingWhat.TheVariants.{ShortRecord, BadHex, RepeatedUser, LimitReached}
use Rattle.wot_types.specs.Fingerprint.{key_id_of}
use Rattle.wot_types.specs.Listing.{Line, begins_keyblock, begins_user, block_id, cert_checks, cert_count, certifications, checks_of, ends_keyblock, ends_user, fault_at, first_failing, fpr_checks, in_block, is_certification, is_repeated_user, is_same_user, open_block, open_user, same_kind, sig_checks, user_checks, user_kind, user_of, user_runs, wants_fpr}
use Rattle.wot_types.specs.Keyring.{user_certs}
use Rattle.wot_types.specs.Limits.{most_certs, most_users}
use Rattle.wot_types.specs.Records as record_of
use Rattle.wot_types.specs.Records.{class_at, is_good, is_kept_class, is_primary, is_user_id, key_id_at, kind_of}
use Rattle.wot_types.specs.Runs.{Run, alone}
use Rattle.wot_types.specs.WellFormed.{AreDistinctUsers, IsCert, IsUser}
use Rattle.wot_types.specs.Listing.{failed_check, fault_after}
use Rattle.wot_types.proofs.RunEnds.{block_ends, user_ends}
use Rattle.wot_types.proofs.LineChecks.{passes_more}
use Rattle.wot_print_laws.proofs.BlockLemmas.{AreSigs, AreUsers, block_of, of_kind, sigs_free, user_runs_are, users_free}
use Rattle.wot_print_laws.proofs.PrintedLines.{IsFpr, IsPub, IsSig, IsUid}
use Rattle.wot_print_laws.proofs.RunLemmas.{open_last, pieces}

-- ---- checks one after the other

-- a line without a fault
pub fault_step : (before : List Line) (line : Line) (rest : List Line) → failed_check before line ≡ None → fault_after (before ++ line ∷ []) rest ≡ None → fault_after before (line ∷ rest) ≡ None
fault_step before line rest h r = λ i. option_or (option_map (fault_at (length before + 1)) (h i)) (r i)

-- ---- lists that grow at their ends

pub sigs_more : (certs : List Cert) (lines : List Line) (cert : Cert) (line : Line) → AreSigs certs lines → IsSig cert line → AreSigs (certs ++ cert ∷ []) (lines ++ line ∷ [])
sigs_more [] [] cert line h s = (s, tt)
sigs_more [] (x ∷ lines) cert line h s = absurd h
sigs_more (c ∷ certs) [] cert line h s = absurd h
sigs_more (c ∷ certs) (x ∷ lines) cert line h s = (h.0, sigs_more certs lines cert line h.1 s)

pub users_more : (marked : Bool) (users : List User) (rs : List (Run Line)) (user : User) (r : Run Line) → AreUsers marked users rs → IsUid (marked || user.revoked) user r.first → AreSigs user.certs r.rest
    → AreUsers marked (users ++ user ∷ []) (rs ++ r ∷ [])
users_more marked [] [] user r h u s = (u, s, tt)
users_more marked [] (x ∷ rs) user r h u s = absurd h
users_more marked (v ∷ users) [] user r h u s = absurd h
users_more marked (v ∷ users) (x ∷ rs) user r h u s = (h.0, h.1, users_more marked users rs user r h.2 u s)

abbrev pub with_certs : User → List Cert → User
with_certs user certs = record user { certs = certs }

uid_with : (marked : Bool) (user : User) (certs : List Cert) (line : Line) → IsUid marked user line → IsUid marked (with_certs user certs) line
uid_with marked user certs line h = record { kind = h.kind; passes = h.passes; text = h.text; hash = h.hash; made = h.made; expires = h.expires; revoked = h.revoked }

pieces_user : (rs : List (Run Line)) (u : Line) → pieces (rs ++ record { first = u; rest = [] } ∷ []) ≡ pieces rs ++ u ∷ []
pieces_user rs u = flat_map-append (λ r. r.first ∷ r.rest) rs (record { first = u; rest = [] } ∷ [])

pieces_sig : (rs : List (Run Line)) (u : Line) (lines : List Line) (line : Line)
    → pieces (rs ++ record { first = u; rest = lines ++ line ∷ [] } ∷ []) ≡ pieces (rs ++ record { first = u; rest = lines } ∷ []) ++ line ∷ []
pieces_sig rs u lines line =
    flat_map-append (λ r. r.first ∷ r.rest) rs (record { first = u; rest = lines ++ line ∷ [] } ∷ [])
    ∙ ap (λ l. pieces rs ++ u ∷ l) (append-nil (lines ++ line ∷ []))
    ∙ sym (append_assoc (pieces rs) (u ∷ lines) (line ∷ []))
    ∙ ap (λ l. (pieces rs ++ u ∷ l) ++ line ∷ []) (sym (append-nil lines))
    ∙ ap (λ l. l ++ line ∷ []) (sym (flat_map-append (λ r. r.first ∷ r.rest) rs (record { first = u; rest = lines } ∷ [])))

-- ---- how many are kept

length_filter : (t : Line → Bool) (lines : List Line) → length (filter t lines) ≤ length lines
length_filter t [] = omega arith
length_filter t (line ∷ lines) =
    cond_both (t line) (line ∷ filter t lines) (filter t lines) (λ l. length l ≤ length (line ∷ lines)) (λ e. omega (arith, length_filter t lines)) (λ e. omega (arith, length_filter t lines))

length_sigs : (certs : List Cert) (lines : List Line) → AreSigs certs lines → length lines ≡ length certs
length_sigs [] [] h = refl
length_sigs [] (line ∷ lines) h = absurd h
length_sigs (cert ∷ certs) [] h = absurd h
length_sigs (cert ∷ certs) (line ∷ lines) h = omega (arith, length_sigs certs lines h.1)

kept_le : (t : Line → Bool) (marked : Bool) (users : List User) (rs : List (Run Line)) → AreUsers marked users rs → sum_by (λ r. length (filter t r.rest)) rs ≤ user_certs users
kept_le t marked [] [] h = omega arith
kept_le t marked [] (r ∷ rs) h = absurd h
kept_le t marked (user ∷ users) [] h = absurd h
kept_le t marked (user ∷ users) (r ∷ rs) h =
    omega (
      arith,
      sum_by-cons (λ (x : Run Line). length (filter t x.rest)) r rs,
      sum_by-cons (λ (x : User). length x.certs) user users,
      length_filter t r.rest,
      length_sigs user.certs r.rest h.1,
      kept_le t marked users rs h.2,
    )

-- ---- user IDs differ

-- none of these is the same user ID
abbrev pub Apart : List User → User → Type 0
Apart [] user = Unit {0}
Apart (other ∷ others) user = (is_same_user other user ≡ false) × Apart others user

-- each differs from those before it
abbrev pub Fresh : List User → List User → Type 0
Fresh before [] = Unit {0}
Fresh before (user ∷ users) = Apart before user × Fresh (before ++ user ∷ []) users

apart_more : (others : List User) (other user : User) → Apart others user → is_same_user other user ≡ false → Apart (others ++ other ∷ []) user
apart_more [] other user h e = (e, tt)
apart_more (x ∷ others) other user h e = (h.0, apart_more others other user h.1 e)

abbrev pub AllApart : List User → List User → Type 0
AllApart before [] = Unit {0}
AllApart before (user ∷ users) = Apart before user × AllApart before users

pub all_apart_start : (users : List User) → AllApart [] users
all_apart_start [] = tt
all_apart_start (user ∷ users) = (tt, all_apart_start users)

all_apart_more : (before : List User) (user : User) (users : List User) → AllApart before users → All (λ other. is_same_user user other ≡ false) users → AllApart (before ++ user ∷ []) users
all_apart_more before user [] h d = tt
all_apart_more before user (v ∷ users) h d =
    (apart_more before user v h.0 (All-head (λ other. is_same_user user other ≡ false) v users d), all_apart_more before user users h.1 (All-tail (λ other. is_same_user user other ≡ false) v users d))

pub fresh_from : (before users : List User) → AllApart before users → AreDistinctUsers users → Fresh before users
fresh_from before [] h d = tt
fresh_from before (user ∷ users) h d = (h.0, fresh_from (before ++ user ∷ []) users (all_apart_more before user users h.1 d.0) d.1)

pub differs : (p : Line) (rest : List Line) (marked again : Bool) (others : List User) (rs : List (Run Line)) (user : User) (line : Line)
    → AreUsers marked others rs → IsUid again user line → Apart others user
    → list_any (λ r. is_same_user (user_of (record { first = p; rest = rest }) r) (user_of (record { first = p; rest = rest }) (alone line))) rs ≡ false
differs p rest marked again [] [] user line h u d = refl
differs p rest marked again [] (r ∷ rs) user line h u d = absurd h
differs p rest marked again (other ∷ others) [] user line h u d = absurd h
differs p rest marked again (other ∷ others) (r ∷ rs) user line h u d =
    or_from (is_same_user (user_of (record { first = p; rest = rest }) r) (user_of (record { first = p; rest = rest }) (alone line))) _
    ((λ i. (same_kind (user_kind (h.0.kind i)) (user_kind (u.kind i)) && pointwise nat_eq (h.0.text i) (u.text i)) && pointwise nat_eq (h.0.hash i) (u.hash i)) ∙ d.0)
    (differs p rest marked again others rs user line h.2 u d.1)

length_users : (marked : Bool) (users : List User) (rs : List (Run Line)) → AreUsers marked users rs → length rs ≡ length users
length_users marked [] [] h = refl
length_users marked [] (r ∷ rs) h = absurd h
length_users marked (user ∷ users) [] h = absurd h
length_users marked (user ∷ users) (r ∷ rs) h = omega (arith, length_users marked users rs h.2)

-- ---- the lines of a block

module _ (before : List Line) (p f : Line) (id : ℕ) (key : Key) (pub_is : IsPub id key p) (fpr_is : IsFpr key f) (own : id ≡ key_id_of key.fpr) where
  begun : begins_keyblock p ≡ true
  begun = ap is_primary pub_is.kind

  -- what was written so far of the block
  abbrev pub so_far : List (Run Line) → List Line
  so_far rs = before ++ p ∷ f ∷ pieces rs

  so_far_more : (rs : List (Run Line)) (ss : List (Run Line)) (line : Line) → pieces ss ≡ pieces rs ++ line ∷ [] → so_far rs ++ line ∷ [] ≡ so_far ss
  so_far_more rs ss line e = append_assoc before (p ∷ f ∷ pieces rs) (line ∷ []) ∙ ap (λ l. before ++ p ∷ f ∷ l) (sym e)

  fpr_passes : failed_check (before ++ p ∷ []) f ≡ None
  fpr_passes =
      ap (λ k. first_failing (checks_of k (before ++ p ∷ []) f)) fpr_is.kind
      ∙ ap (λ o. first_failing (in_block o (λ block. if wants_fpr block then fpr_checks (block_id block) f else []))) (open_last begins_keyblock ends_keyblock block_ends before p [] begun refl)
      ∙ ap (λ n. first_failing (fpr_checks n f)) (pub_is.own_id ∙ own)
      ∙ fpr_is.passes

  module _ (users : List User) (rs : List (Run Line)) (us : AreUsers key.revoked users rs) where
    pub block_open : open_block (so_far rs) ≡ Some (block_of p f rs)
    block_open =
        open_last begins_keyblock ends_keyblock block_ends before p (f ∷ pieces rs) begun
        (or_from (ends_keyblock f) (list_any ends_keyblock (pieces rs)) (of_kind record_of.ends_keyblock f fpr_is.kind refl) (users_free record_of.ends_keyblock refl (λ kind. refl) key.revoked users rs us))

    runs_are : user_runs (block_of p f rs) ≡ rs
    runs_are = user_runs_are p f key.revoked users rs fpr_is.kind us

    user_passes : (again : Bool) (user : User) (line : Line) → IsUid again user line → Apart users user → length users < most_users → failed_check (so_far rs) line ≡ None
    user_passes again user line u d few =
        let block = block_of p f rs in
        let repeated : is_repeated_user block line ≡ false =
        ap (list_any (λ r. is_same_user (user_of block r) (user_of block (alone line)))) runs_are ∙ differs p (f ∷ pieces rs) key.revoked again users rs user line us u d in
        let room : nat_le most_users (length (user_runs block)) ≡ false =
        ap (λ l. nat_le most_users (length l)) runs_are ∙ lt-leb most_users (length rs) (omega (arith, few, length_users key.revoked users rs us)) in
        ap (λ k. first_failing (checks_of k (so_far rs) line)) u.kind
        ∙ ap (λ o. first_failing (in_block o (λ block. user_checks line ++ (is_repeated_user block line, RepeatedUser) ∷ (nat_le most_users (length (user_runs block)), LimitReached UsersLimit) ∷ []))) block_open
        ∙ passes_more (user_checks line) ((is_repeated_user block line, RepeatedUser) ∷ (nat_le most_users (length (user_runs block)), LimitReached UsersLimit) ∷ []) u.passes
        ∙ (λ i. first_failing ((repeated i, RepeatedUser) ∷ (room i, LimitReached UsersLimit) ∷ []))

  module _ (users : List User) (rs : List (Run Line)) (us : AreUsers key.revoked users rs) (user : User) (u : Line) (is : IsUid (key.revoked || user.revoked) user u) where
    abbrev run_so_far : List Line → Run Line
    run_so_far lines = record { first = u; rest = lines }

    with_run : (certs : List Cert) (lines : List Line) → AreSigs certs lines → AreUsers key.revoked (users ++ with_certs user certs ∷ []) (rs ++ run_so_far lines ∷ [])
    with_run certs lines ss = users_more key.revoked users rs (with_certs user certs) (run_so_far lines) us (uid_with (key.revoked || user.revoked) user certs u is) ss

    user_open : (lines : List Line) (certs : List Cert) → AreSigs certs lines → is_some (open_user (block_of p f (rs ++ run_so_far lines ∷ []))) ≡ true
    user_open lines certs ss =
        ap (λ l. is_some (open_user (record { first = p; rest = f ∷ l }))) (flat_map-append (λ r. r.first ∷ r.rest) rs (run_so_far lines ∷ []) ∙ ap (λ l. pieces rs ++ u ∷ l) (append-nil lines))
        ∙ ap is_some (open_last begins_user ends_user user_ends (f ∷ pieces rs) u lines (ap is_user_id is.kind) (sigs_free record_of.ends_user refl certs lines ss))

    few_kept : (certs : List Cert) (lines : List Line) → AreSigs certs lines → user_certs users + length certs < most_certs → cert_count (block_of p f (rs ++ run_so_far lines ∷ [])) < most_certs
    few_kept certs lines ss few =
        let block = block_of p f (rs ++ run_so_far lines ∷ []) in
        let counted : cert_count block ≡ sum_by (λ r. length (filter (is_certification block) r.rest)) (rs ++ run_so_far lines ∷ []) =
        ap (sum_by (λ r. length (certifications block r))) (runs_are (users ++ with_certs user certs ∷ []) (rs ++ run_so_far lines ∷ []) (with_run certs lines ss)) in
        omega (
          arith,
          few,
          counted,
          kept_le (is_certification block) key.revoked (users ++ with_certs user certs ∷ []) (rs ++ run_so_far lines ∷ []) (with_run certs lines ss),
          sum_by-append (λ (x : User). length x.certs) users (with_certs user certs ∷ []),
        )

    sig_passes : (certs : List Cert) (lines : List Line) → AreSigs certs lines → (cert : Cert) (line : Line) → IsSig cert line → IsCert id cert → user_certs users + length certs < most_certs
        → failed_check (so_far (rs ++ run_so_far lines ∷ [])) line ≡ None
    sig_passes certs lines ss cert line s w few =
        let block = block_of p f (rs ++ run_so_far lines ∷ []) in
        let room : nat_le most_certs (cert_count block) ≡ false = lt-leb most_certs (cert_count block) (few_kept certs lines ss few) in
        let kept : is_kept_class cert.class ≡ true = w.class in
        let other : (cert.issuer == id) ≡ false = ne_eqb cert.issuer id w.by_another in
        ap (λ k. first_failing (checks_of k (so_far (rs ++ run_so_far lines ∷ [])) line)) s.kind
        ∙ ap (λ o. first_failing (in_block o (λ block. if is_some (open_user block) && is_good line then sig_checks (block_id block) (cert_count block) line else []))) (block_open (users ++ with_certs user certs ∷ []) (rs ++ run_so_far lines ∷ []) (with_run certs lines ss))
        ∙ (λ i. first_failing (if user_open lines certs ss i && s.good i then sig_checks (pub_is.own_id i) (cert_count block) line else []))
        ∙ (λ i. first_failing ((s.long i, ShortRecord) ∷ (is_none (s.class i), BadHex) ∷ (if is_kept_class (unwrap_or (s.class i) 0) then (is_none (s.issuer i), BadHex) ∷ (if unwrap_or (s.issuer i) 0 == id then [] else cert_checks line ++ (nat_le most_certs (cert_count block), LimitReached CertsLimit) ∷ []) else [])))
        ∙ (λ i. first_failing (if kept i then (false, BadHex) ∷ (if other i then [] else cert_checks line ++ (room i, LimitReached CertsLimit) ∷ []) else []))
        ∙ passes_more (cert_checks line) ((false, LimitReached CertsLimit) ∷ []) s.passes

    -- the certifications of a user ID
    sigs_faultless : (certs : List Cert) (lines : List Line) → AreSigs certs lines → (more : List Cert) (next : List Line) → AreSigs more next → All (IsCert id) more
        → user_certs users + length certs + length more ≤ most_certs → (rest : List Line)
        → fault_after (so_far (rs ++ run_so_far (lines ++ next) ∷ [])) rest ≡ None
        → fault_after (so_far (rs ++ run_so_far lines ∷ [])) (next ++ rest) ≡ None
    sigs_faultless certs lines ss [] [] ns w few rest h = ap (λ l. fault_after (so_far (rs ++ run_so_far l ∷ [])) rest) (sym (append-nil lines)) ∙ h
    sigs_faultless certs lines ss [] (line ∷ next) ns w few rest h = absurd ns
    sigs_faultless certs lines ss (cert ∷ more) [] ns w few rest h = absurd ns
    sigs_faultless certs lines ss (cert ∷ more) (line ∷ next) ns w few rest h =
        fault_step (so_far (rs ++ run_so_far lines ∷ [])) line (next ++ rest)
        (sig_passes certs lines ss cert line ns.0 (All-head (IsCert id) cert more w) (omega (arith, few)))
        (ap (λ b. fault_after b (next ++ rest)) (so_far_more (rs ++ run_so_far lines ∷ []) (rs ++ run_so_far (lines ++ line ∷ []) ∷ []) line (pieces_sig rs u lines line))
        ∙ sigs_faultless (certs ++ cert ∷ []) (lines ++ line ∷ []) (sigs_more certs lines cert line ss ns.0) more next ns.1 (All-tail (IsCert id) cert more w)
        (omega (arith, few, length-append certs (cert ∷ []))) rest
        (ap (λ l. fault_after (so_far (rs ++ run_so_far l ∷ [])) rest) (append_assoc lines (line ∷ []) next) ∙ h))

  -- the user IDs of a key
  users_faultless : (users : List User) (rs : List (Run Line)) → AreUsers key.revoked users rs → (more : List User) (next : List (Run Line)) → AreUsers key.revoked more next
      → All (IsUser id) more → Fresh users more → length users + length more ≤ most_users → user_certs users + user_certs more ≤ most_certs → (rest : List Line)
      → fault_after (so_far (rs ++ next)) rest ≡ None
      → fault_after (so_far rs) (pieces next ++ rest) ≡ None
  users_faultless users rs us [] [] ns w d few fits rest h = ap (λ l. fault_after (so_far l) rest) (sym (append-nil rs)) ∙ h
  users_faultless users rs us [] (r ∷ next) ns w d few fits rest h = absurd ns
  users_faultless users rs us (user ∷ more) [] ns w d few fits rest h = absurd ns
  users_faultless users rs us (user ∷ more) (r ∷ next) ns w d few fits rest h =
      let total = sum_by-cons (λ (x : User). length x.certs) user more in
      ap (λ l. fault_after (so_far rs) (r.first ∷ l)) (append_assoc r.rest (pieces next) rest)
      ∙ fault_step (so_far rs) r.first (r.rest ++ (pieces next ++ rest))
      (user_passes users rs us (key.revoked || user.revoked) user r.first ns.0 d.0 (omega (arith, few)))
      (ap (λ b. fault_after b (r.rest ++ (pieces next ++ rest))) (so_far_more rs (rs ++ record { first = r.first; rest = [] } ∷ []) r.first (pieces_user rs r.first))
      ∙ sigs_faultless users rs us user r.first ns.0 [] [] tt user.certs r.rest ns.1 (All-head (IsUser id) user more w).certs (omega (arith, fits, total)) (pieces next ++ rest)
      (users_faultless (users ++ user ∷ []) (rs ++ r ∷ []) (users_more key.revoked users rs user r us ns.0 ns.1) more next ns.2 (All-tail (IsUser id) user more w) d.1
      (omega (arith, few, length-append users (user ∷ []))) (omega (arith, fits, total, sum_by-append (λ (x : User). length x.certs) users (user ∷ []), sum_by-cons (λ (x : User). length x.certs) user [])) rest
      (ap (λ l. fault_after (so_far l) rest) (append_assoc rs (r ∷ []) next) ∙ h)))

  -- the lines of a key
  pub block_faultless : failed_check before p ≡ None → (rs : List (Run Line)) → AreUsers key.revoked key.users rs → All (IsUser id) key.users → AreDistinctUsers key.users
      → length key.users ≤ most_users → user_certs key.users ≤ most_certs → (rest : List Line)
      → fault_after (so_far rs) rest ≡ None → fault_after before (p ∷ f ∷ pieces rs ++ rest) ≡ None
  block_faultless first rs us w d few fits rest h =
      fault_step before p (f ∷ pieces rs ++ rest) first
      (fault_step (before ++ p ∷ []) f (pieces rs ++ rest) fpr_passes
      (ap (λ b. fault_after b (pieces rs ++ rest)) (append_assoc before (p ∷ []) (f ∷ []))
      ∙ users_faultless [] [] tt key.users rs us w (fresh_from [] key.users (all_apart_start key.users) d) (omega (arith, few)) (omega (arith, fits)) rest h))
