-- What a key's candidates, delegation and row hang on: the chains of those who certified it, and no others.
use Rattle.std.proofs.Common.{◌≡◌, ◌+◌, ◌-◌, ◌==◌, ◌&&◌, ◌||◌, inl, inr, not, ℕ, suc, Bool, true, false, cond, List, [], ◌∷◌, ◌++◌, map, filter, length, count_by, nat_le, Option, Some, None, option_map, option_and_then, unwrap_or, is_some, IfSome, refl, sym, ap, ◌∙◌, arith}
use Rattle.std.specs.List.{AllByRecursion, cons_option, filter_map, flat_map, list_all, list_any}
use Rattle.std.specs.FinMap as finmap
use Rattle.std.specs.FinMap.{FinMap, same_map, nat_cmp-IsAntisymmetric}
use Rattle.std.specs.FinMap.Entries.{where_key}
use Rattle.std.specs.Cmp.{nat_cmp_total}
use Rattle.std.specs.Option.{option_map_or}
use Rattle.std.specs.Ordering.{nat_cmp}
use Rattle.std.proofs.lemmas.Bool.{false≢true}
use Rattle.std.proofs.lemmas.Option.{none-some}
use Rattle.std.proofs.lemmas.List.Folds.{list_any-append}
use Rattle.std.proofs.Math.Bool.{or-true}
use Rattle.wot_types.specs.declared.cert.Cert.{Cert}
use Rattle.wot_types.specs.declared.key.Key.{Key}
use Rattle.wot_types.specs.declared.placed.Placed.{Placed}
use Rattle.wot_types.specs.declared.row.Row.{Row}
use Rattle.wot_types.specs.declared.trust.Trust.{Trust}
use Rattle.wot_types.specs.declared.user.User.{User}
use Rattle.wot_types.specs.declared.trust.Trust.TheVariants.{Ultimate}
use Rattle.wot_types.specs.State.{State}
use Rattle.wot_types.specs.Candidates.{RowMap, candidacy, candidates, chain, chain_admits, chain_of, count_of, is_candidate, is_full}
use Rattle.wot_types.specs.Expiry.{user_is_live}
use Rattle.wot_types.specs.Explanation.{KeySet}
use Rattle.wot_types.specs.Indexes.{has_cert_by, key_issuers, user_issuers}
use Rattle.wot_types.specs.Keyring.{Keyring, fpr_at}
use Rattle.wot_types.specs.Levels.{allowed_depth, delegating_cert, delegation, delegations_on, first_row, greater_trust, has_full_user, left_after, live_spots, new_row, row_by, rows_upto, trust_of_amount, trust_of_owner}
use Rattle.wot_types.specs.NextCheck.{key_expiries}
use Rattle.wot_types.specs.Scope.{admits}
use Rattle.wot_types.specs.Selection.{Spot, counts_for, deciding_cert, in_force, is_disregarded, is_in_force, latest_cert, placed_from, spots_from, usable}
use Rattle.wot_types.specs.Touched.{is_certified_by}
use Rattle.wot_types.specs.Trust.{is_below_marginal, is_fully_trusted, is_marginal, is_ultimate}
use Rattle.wot_types.proofs.Chains.{chain_row, row_chain}
use Rattle.wot_types.proofs.LevelLemmas.{IsMadeAt, made, some_none, via_by}
use Rattle.wot_types.proofs.MapLemmas.{IsAt, count_only, entries_at, entries_only, get_only}
use Rattle.wot_types.proofs.Passing.{All-filter, latest_has, same_count, same_filter_map}
use Rattle.wot_types.proofs.SameDates.{Same, SameKey, SameSpot, same_counts, same_delegation, same_full, same_live, same_spots}
use Rattle.wot_types.proofs.Tests.{is_key}

none_passes : (a b : Bool) → b ≡ false → (a && b) ≡ true → ⊥
none_passes true b f t = cc
none_passes false b f t = cc

-- a list made from the entries of a map hangs on those for which there is something
filter_map_only : {X Y : Type 0} (f : ℕ × X → Option Y) (p : KeySet) (m : FinMap nat_cmp X) → ((y : ℕ) (x : X) → p y ≡ false → f (y, x) ≡ None)
    → filter_map f (finmap.entries m) ≡ filter_map f (finmap.entries (finmap.retain_keys m p))
filter_map_only {X} {Y} f p m none = without (finmap.entries m) ∙ ap (filter_map f) (sym (entries_only m p))
  where
    without : (es : List (ℕ × X)) → filter_map f es ≡ filter_map f (where_key nat_cmp p es)
    without [] = refl
    without (e ∷ es) =
        let rest = without es in
        elim (p e.0) as (λ b. p e.0 ≡ b → cons_option (f e) (filter_map f es) ≡ filter_map f (cond b (e ∷ where_key nat_cmp p es) (where_key nat_cmp p es))) [
          | true ↦ λ _. ap (cons_option (f e)) rest
          | false ↦ λ gone. ap (λ r. cons_option r (filter_map f es)) (none e.0 e.1 gone) ∙ rest
        ] refl

module _ (p : KeySet) where
  -- all certifications are by issuers of the set
  abbrev pub AreBy : List Placed → Type 0
  AreBy certs = AllByRecursion (λ c. p c.cert.issuer ≡ true) certs

  pub record SpotBy (spot : Spot) : Type 0 where
    pub certs : AreBy spot.certs

  none_counts : (level : ℕ) (fpr : Option (List ℕ)) (y : ℕ) → p y ≡ false → (ps : List Placed) → AreBy ps → filter (counts_for level fpr y) ps ≡ []
  none_counts level fpr y gone [] h = refl
  none_counts level fpr y gone (c ∷ ps) h =
      let rest = filter (counts_for level fpr y) ps in
      elim (c.cert.issuer == y) as (λ b. (c.cert.issuer == y) ≡ b → cond (b && not (is_disregarded level fpr c.cert)) (c ∷ rest) rest ≡ []) [
        | true ↦ λ same. absurd (false≢true (sym gone ∙ ap p (sym (is_key c.cert.issuer y same)) ∙ h.0))
        | false ↦ λ _. none_counts level fpr y gone ps h.1
      ] refl

  -- a usable certification is one of them
  usable_by : (now level : ℕ) (fpr : Option (List ℕ)) (y : ℕ) (ps : List Placed) → AreBy ps → IfSome (usable now level fpr y ps) (λ c. p c.cert.issuer ≡ true)
  usable_by now level fpr y ps h =
      elim (deciding_cert level fpr y ps) as (λ d. IfSome d (λ c. p c.cert.issuer ≡ true) → IfSome (option_and_then (in_force now) d) (λ c. p c.cert.issuer ≡ true)) [
        | None ↦ λ _. tt
        | Some c ↦ λ its. elim (is_in_force now c) as (λ b. IfSome (cond b (Some c) None) (λ x. p x.cert.issuer ≡ true)) [ true ↦ its | false ↦ tt ]
      ] (latest_has (λ c. p c.cert.issuer ≡ true) (filter (counts_for level fpr y) ps) (All-filter (λ (c : Placed). p c.cert.issuer ≡ true) (counts_for level fpr y) ps h))

  live_by : (now : ℕ) (key : Key) → AllByRecursion SpotBy (spots_from 0 key.users) → AllByRecursion SpotBy (live_spots now key)
  live_by now key h = All-filter SpotBy (λ (spot : Spot). user_is_live now key spot.user) (spots_from 0 key.users) h

  -- ---- the issuers of candidates and of the delegation are of the set

  module _ (s : State) (rows : RowMap) where
    candidacy_none : (spot : Spot) (y : ℕ) (row : Row) → SpotBy spot → p y ≡ false → candidacy s rows spot y row ≡ None
    candidacy_none spot y row by gone =
        let level = s.options.level in
        let fpr = fpr_at s.keys y in
        elim (not s.options.pgp || chain_admits rows row spot.user.text) as (λ b. cond b (usable s.date level fpr y spot.certs) None ≡ None) [
          | true ↦ ap (λ xs. option_and_then (in_force s.date) (latest_cert xs)) (none_counts level fpr y gone spot.certs by.certs)
          | false ↦ refl
        ]

    of_the_set : (test : Trust → Bool) (spot : Spot) → SpotBy spot → (y : ℕ) (row : Row) → is_candidate test s rows spot (y, row) ≡ true → p y ≡ true
    of_the_set test spot by y row passed =
        elim (p y) as (λ b. p y ≡ b → b ≡ true) [
          | true ↦ λ _. refl
          | false ↦ λ gone. absurd (none_passes (test row.trust) _ (ap is_some (candidacy_none spot y row by gone)) passed)
        ] refl

    abbrev given : Spot → ℕ × Row → Option Placed
    given spot e = option_and_then (delegating_cert e.1) (candidacy s rows spot e.0 e.1)

    none : (spot : Spot) → SpotBy spot → (y : ℕ) (row : Row) → p y ≡ false → given spot (y, row) ≡ None
    none spot by y row gone = ap (option_and_then (delegating_cert row)) (candidacy_none spot y row by gone)

    its_delegation : (spot : Spot) → SpotBy spot → (e : ℕ × Row) → IfSome (given spot e) (λ c. p c.cert.issuer ≡ true)
    its_delegation spot by e =
        elim (not s.options.pgp || chain_admits rows e.1 spot.user.text) as (λ b. IfSome (option_and_then (delegating_cert e.1) (cond b (usable s.date s.options.level (fpr_at s.keys e.0) e.0 spot.certs) None)) (λ c. p c.cert.issuer ≡ true)) [
          | true ↦ elim (usable s.date s.options.level (fpr_at s.keys e.0) e.0 spot.certs) as (λ r. IfSome r (λ c. p c.cert.issuer ≡ true) → IfSome (option_and_then (delegating_cert e.1) r) (λ c. p c.cert.issuer ≡ true)) [
            | None ↦ λ _. tt
            | Some c ↦ λ its. elim (nat_le 1 (allowed_depth e.1 c)) as (λ b. IfSome (cond b (Some c) None) (λ x. p x.cert.issuer ≡ true)) [ true ↦ its | false ↦ tt ]
          ] (usable_by s.date s.options.level (fpr_at s.keys e.0) e.0 spot.certs by.certs)
          | false ↦ tt
        ]

    of_entries : (spot : Spot) → SpotBy spot → (es : List (ℕ × Row)) → AreBy (filter_map (given spot) es)
    of_entries spot by [] = tt
    of_entries spot by (e ∷ es) =
        let rest = filter_map (given spot) es in
        elim (given spot e) as (λ r. IfSome r (λ c. p c.cert.issuer ≡ true) → AreBy (cons_option r rest)) [
          | None ↦ λ _. of_entries spot by es
          | Some c ↦ λ its. (its, of_entries spot by es)
        ] (its_delegation spot by e)

    joined : (ps qs : List Placed) → AreBy ps → AreBy qs → AreBy (ps ++ qs)
    joined [] qs h k = k
    joined (c ∷ ps) qs h k = (h.0, joined ps qs h.1 k)

    of_spots : (spots : List Spot) → AllByRecursion SpotBy spots → AreBy (flat_map (delegations_on s rows) spots)
    of_spots [] h = tt
    of_spots (spot ∷ spots) h = joined (delegations_on s rows spot) (flat_map (delegations_on s rows) spots) (of_entries spot h.0 (finmap.entries rows)) (of_spots spots h.1)

    delegation_by : (key : Key) → AllByRecursion SpotBy (spots_from 0 key.users) → IfSome (delegation s rows key) (λ c. p c.cert.issuer ≡ true)
    delegation_by key h =
        let all = flat_map (delegations_on s rows) (live_spots s.date key) in
        elim s.options.pgp as (λ b. IfSome (cond b (latest_cert all) None) (λ c. p c.cert.issuer ≡ true)) [
          | true ↦ latest_has (λ c. p c.cert.issuer ≡ true) all (of_spots (live_spots s.date key) (live_by s.date key h))
          | false ↦ tt
        ]

  -- ---- chains that are alike on the set

  module _ (m n : RowMap) (same : (y : ℕ) → p y ≡ true → chain m y ≡ chain n y) where
    same_rows : (y : ℕ) → p y ≡ true → finmap.get m y ≡ finmap.get n y
    same_rows y its = chain_row m n y (same y its)

    same_part : finmap.retain_keys m p ≡ finmap.retain_keys n p
    same_part = same_map nat_cmp_total nat_cmp-IsAntisymmetric (finmap.retain_keys m p) (finmap.retain_keys n p) (λ q.
        get_only m p q
        ∙ elim (p q) as (λ b. p q ≡ b → cond b (finmap.get m q) None ≡ cond b (finmap.get n q) None) [
          | true ↦ λ its. same_rows q its
          | false ↦ λ _. refl
        ] refl
        ∙ sym (get_only n p q))

    -- a row of the part has one chain in both
    part_row : (q : ℕ) (row : Row) → finmap.get (finmap.retain_keys m p) q ≡ Some row → chain_of m row ≡ chain_of n row
    part_row q row is = elim (p q) as (λ b. p q ≡ b → cond b (finmap.get m q) None ≡ Some row → chain_of m row ≡ chain_of n row) [
      | true ↦ λ its at. row_chain m n q (same q its) row at
      | false ↦ λ _ none. cc
    ] refl (sym (get_only m p q) ∙ is)

    row_by_frame : (id level : ℕ) (own : Trust) (d : Option Placed) → IfSome d (λ c. p c.cert.issuer ≡ true) → row_by m id level own d ≡ row_by n id level own d
    row_by_frame id level own None its = refl
    row_by_frame id level own (Some c) its =
        let left : left_after m c ≡ left_after n c = ap (λ r. unwrap_or (option_map (λ (row : Row). allowed_depth row c - 1) r) 0) (same_rows c.cert.issuer its) in
        ap (λ (l : ℕ). record { key = id; level = level; trust = greater_trust own (trust_of_amount c.cert.amount); left = l; scope = c.cert.scope; via = Some c.cert.issuer }) left

    -- ---- and two keyrings in which those of the set that have a row have the same fingerprints

    module _ (s : State) (keys : Keyring) (stay : (y : ℕ) → p y ≡ true → finmap.contains_key n y ≡ true → fpr_at s.keys y ≡ fpr_at keys y) where
      -- the state with the other keyring
      abbrev t : State
      t = record s { keys = keys }

      part_fpr : (q : ℕ) (row : Row) → finmap.get (finmap.retain_keys m p) q ≡ Some row → fpr_at s.keys q ≡ fpr_at keys q
      part_fpr q row is = elim (p q) as (λ b. p q ≡ b → cond b (finmap.get m q) None ≡ Some row → fpr_at s.keys q ≡ fpr_at keys q) [
        | true ↦ λ its at. stay q its (ap is_some (sym (same_rows q its) ∙ at))
        | false ↦ λ _ none. absurd (none-some row none)
      ] refl (sym (get_only m p q) ∙ is)

      part_candidacy : (spot : Spot) (e : ℕ × Row) → IsAt (finmap.retain_keys m p) e → candidacy s m spot e.0 e.1 ≡ candidacy t n spot e.0 e.1
      part_candidacy spot e at =
          λ i. cond (not s.options.pgp || list_all (λ link. admits link.scope spot.user.text) (part_row e.0 e.1 at i)) (usable s.date s.options.level (part_fpr e.0 e.1 at i) e.0 spot.certs) None

      same_candidates : (test : Trust → Bool) (spot : Spot) → SpotBy spot → candidates test s spot m ≡ candidates test t spot n
      same_candidates test spot by =
          let part = finmap.retain_keys m p in
          let before = is_candidate test s m spot in
          let after = is_candidate test t n spot in
          count_only before p m (λ y row _ passed. of_the_set s m test spot by y row passed)
          ∙ same_count before after (finmap.entries part) (each (finmap.entries part) (entries_at part))
          ∙ ap (λ r. count_by after (finmap.entries r)) same_part
          ∙ sym (count_only after p n (λ y row _ passed. of_the_set t n test spot by y row passed))
        where
          each : (es : List (ℕ × Row)) → AllByRecursion (IsAt (finmap.retain_keys m p)) es → AllByRecursion (λ e. is_candidate test s m spot e ≡ is_candidate test t n spot e) es
          each [] h = tt
          each (e ∷ es) h = (ap (λ c. test e.1.trust && is_some c) (part_candidacy spot e h.0), each es h.1)

      count_frame : (spot : Spot) → SpotBy spot → count_of s spot m ≡ count_of t spot n
      count_frame spot by = λ i. record {
        ultimate = same_candidates is_ultimate spot by i;
        full = same_candidates is_fully_trusted spot by i;
        marginal = same_candidates is_marginal spot by i;
        other = same_candidates is_below_marginal spot by i;
      }

      any_full : (spots : List Spot) → AllByRecursion SpotBy spots → list_any (λ spot. is_full s.options (count_of s spot m)) spots ≡ list_any (λ spot. is_full s.options (count_of t spot n)) spots
      any_full [] h = refl
      any_full (spot ∷ spots) h = λ i. is_full s.options (count_frame spot h.0 i) || any_full spots h.1 i

      same_delegations : (spot : Spot) → SpotBy spot → delegations_on s m spot ≡ delegations_on t n spot
      same_delegations spot by =
          let part = finmap.retain_keys m p in
          filter_map_only (given s m spot) p m (none s m spot by)
          ∙ same_filter_map (given s m spot) (given t n spot) (finmap.entries part) (each (finmap.entries part) (entries_at part))
          ∙ ap (λ r. filter_map (given t n spot) (finmap.entries r)) same_part
          ∙ sym (filter_map_only (given t n spot) p n (none t n spot by))
        where
          each : (es : List (ℕ × Row)) → AllByRecursion (IsAt (finmap.retain_keys m p)) es → AllByRecursion (λ e. given s m spot e ≡ given t n spot e) es
          each [] h = tt
          each (e ∷ es) h = (ap (option_and_then (delegating_cert e.1)) (part_candidacy spot e h.0), each es h.1)

      all_delegations : (spots : List Spot) → AllByRecursion SpotBy spots → flat_map (delegations_on s m) spots ≡ flat_map (delegations_on t n) spots
      all_delegations [] h = refl
      all_delegations (spot ∷ spots) h = λ i. same_delegations spot h.0 i ++ all_delegations spots h.1 i

      full_frame : (key : Key) → AllByRecursion SpotBy (spots_from 0 key.users) → has_full_user s m key ≡ has_full_user t n key
      full_frame key h = any_full (live_spots s.date key) (live_by s.date key h)

      delegation_frame : (key : Key) → AllByRecursion SpotBy (spots_from 0 key.users) → delegation s m key ≡ delegation t n key
      delegation_frame key h = ap (λ xs. cond s.options.pgp (latest_cert xs) None) (all_delegations (live_spots s.date key) (live_by s.date key h))

-- ---- the certifications of a key

itself : (n : ℕ) → (n == n) ≡ true
itself n = grind arith

certs_by : (p : KeySet) (n : ℕ) (cs : List Cert) → ((y : ℕ) → list_any (λ n. n == y) (map (λ (cert : Cert). cert.issuer) cs) ≡ true → p y ≡ true) → AreBy p (placed_from n cs)
certs_by p n [] h = tt
certs_by p n (c ∷ cs) h = (
  h c.issuer (ap (λ b. b || list_any (λ n. n == c.issuer) (map (λ (cert : Cert). cert.issuer) cs)) (itself c.issuer)),
  certs_by p (n + 1) cs (λ y its. h y (ap (λ b. (c.issuer == y) || b) its ∙ or-true (c.issuer == y))),
)

users_by : (p : KeySet) (n : ℕ) (users : List User) → ((y : ℕ) → list_any (λ n. n == y) (flat_map user_issuers users) ≡ true → p y ≡ true) → AllByRecursion (SpotBy p) (spots_from n users)
users_by p n [] h = tt
users_by p n (user ∷ users) h =
    let here : SpotBy p (record { user = user; certs = placed_from n user.certs }) = record { certs = certs_by p n user.certs (λ y its. h y (first y its)) } in
    (here, users_by p (n + length user.certs) users (λ y its. h y (rest y its)))
  where
    both : (y : ℕ) → list_any (λ n. n == y) (user_issuers user ++ flat_map user_issuers users) ≡ (list_any (λ n. n == y) (user_issuers user) || list_any (λ n. n == y) (flat_map user_issuers users))
    both y = list_any-append (λ n. n == y) (user_issuers user) (flat_map user_issuers users)

    first : (y : ℕ) → list_any (λ n. n == y) (user_issuers user) ≡ true → list_any (λ n. n == y) (user_issuers user ++ flat_map user_issuers users) ≡ true
    first y its = both y ∙ ap (λ b. b || list_any (λ n. n == y) (flat_map user_issuers users)) its

    rest : (y : ℕ) → list_any (λ n. n == y) (flat_map user_issuers users) ≡ true → list_any (λ n. n == y) (user_issuers user ++ flat_map user_issuers users) ≡ true
    rest y its = both y ∙ ap (λ b. list_any (λ n. n == y) (user_issuers user) || b) its ∙ or-true (list_any (λ n. n == y) (user_issuers user))

-- those who certified it
abbrev pub issuers_of : Key → KeySet
issuers_of key y = list_any (λ n. n == y) (key_issuers key)

pub by_issuers : (key : Key) → AllByRecursion (SpotBy (issuers_of key)) (spots_from 0 key.users)
by_issuers key = users_by (issuers_of key) 0 key.users (λ y its. its)

-- no expiry on the key lies between the two dates
abbrev pub AreSame : ℕ → ℕ → Key → Type 0
AreSame a b key = AllByRecursion (Same a b) (key_expiries key)

pub same_key_from : (a b : ℕ) (key : Key) → AreSame a b key → SameKey a b key
same_key_from a b key h = record { own = h.0; spots = same_spots a b 0 key.users h.1 }

-- ---- two states that have a key alike, over rows in which its issuers have the same chains, and with the same fingerprints of those who have one

-- the issuers that have a row have the same fingerprint in both keyrings
abbrev pub IssuersStay : Keyring → Keyring → Key → RowMap → Type 0
IssuersStay keys more key n = (y : ℕ) → issuers_of key y ≡ true → finmap.contains_key n y ≡ true → fpr_at keys y ≡ fpr_at more y

module _ (s t : State) (options : s.options ≡ t.options) (m n : RowMap) (key : Key) (dates : AreSame s.date t.date key) (chains : (y : ℕ) → issuers_of key y ≡ true → chain m y ≡ chain n y)
    (stay : IssuersStay s.keys t.keys key n) where
  abbrev p : KeySet
  p = issuers_of key

  -- the first state at the other's date
  abbrev later : State
  later = record s { date = t.date }

  pub first_row_frame : (id : ℕ) → trust_of_owner s key ≡ trust_of_owner t key → first_row s id key ≡ first_row t id key
  first_row_frame id own =
      let k = same_key_from s.date t.date key dates in
      λ i. cond (same_live s.date t.date key k.own i && is_ultimate (own i)) (Some (record { key = id; level = 0; trust = Ultimate; left = 0; scope = None; via = None })) None

  pub new_row_frame : (level id : ℕ) → trust_of_owner s key ≡ trust_of_owner t key → new_row s m level id key ≡ new_row t n level id key
  new_row_frame level id own =
      let k = same_key_from s.date t.date key dates in
      let by = by_issuers key in
      let full = same_full s t.date m key k ∙ full_frame p m n chains later t.keys stay key by ∙ ap (λ o. has_full_user (record t { options = o }) n key) options in
      let its = same_delegation s t.date m key k ∙ delegation_frame p m n chains later t.keys stay key by ∙ ap (λ o. delegation (record t { options = o }) n key) options in
      let row = (λ i. row_by m id level (own i) (its i)) ∙ row_by_frame p m n chains id level (trust_of_owner t key) (delegation t n key) (delegation_by p t n key by) in
      λ i. cond (same_live s.date t.date key k.own i && full i) (Some (row i)) None

  counts_frame : (spots : List Spot) → AllByRecursion (SpotBy (issuers_of key)) spots → AllByRecursion (SameSpot s.date t.date) spots
      → map (λ spot. count_of s spot m) spots ≡ map (λ spot. count_of t spot n) spots
  counts_frame [] by h = refl
  counts_frame (spot ∷ spots) by h =
      let one = same_counts s t.date m spot h.0 ∙ count_frame p m n chains later t.keys stay spot by.0 ∙ ap (λ o. count_of (record t { options = o }) spot n) options in
      λ i. one i ∷ counts_frame spots by.1 h.1 i

  -- its user IDs have the same candidates
  pub key_counts_frame : map (λ spot. count_of s spot m) (spots_from 0 key.users) ≡ map (λ spot. count_of t spot n) (spots_from 0 key.users)
  key_counts_frame = counts_frame (spots_from 0 key.users) (by_issuers key) (same_key_from s.date t.date key dates).spots

-- a set with the issuer of a certification has certified the key
pub certified_by_one : (set : KeySet) (y : ℕ) → set y ≡ true → (key : Key) → issuers_of key y ≡ true → is_certified_by set key ≡ true
certified_by_one set y its key h = more (key_issuers key) h
  where
    more : (ns : List ℕ) → list_any (λ n. n == y) ns ≡ true → list_any set ns ≡ true
    more [] e = e
    more (n ∷ ns) e = elim (n == y) as (λ b. (n == y) ≡ b → (b || list_any (λ m. m == y) ns) ≡ true → (set n || list_any set ns) ≡ true) [
      | true ↦ λ same _. ap (λ b. b || list_any set ns) (ap set (is_key n y same) ∙ its)
      | false ↦ λ _ rest. ap (λ b. set n || b) (more ns rest) ∙ or-true (set n)
    ] refl e

-- whoever delegated to an introducer certified it
pub via_certified : (s : State) (n y z : ℕ) (row : Row) → finmap.get (rows_upto s n) y ≡ Some row → row.via ≡ Some z → has_cert_by s.keys z y ≡ true
via_certified s n y z row at via = elim (made s n y row at) as (λ _. has_cert_by s.keys z y ≡ true) [
  | inl none ↦ absurd (some_none z (sym via ∙ none))
  | inr found ↦ by found.0 found.2
]
  where
    issued : (key : Key) (d : Option Placed) → IfSome d (λ c. issuers_of key c.cert.issuer ≡ true) → option_map (λ (p : Placed). p.cert.issuer) d ≡ Some z → issuers_of key z ≡ true
    issued key None h none = absurd (some_none z (sym none))
    issued key (Some p) h is = let same : p.cert.issuer ≡ z = cc in ap (issuers_of key) (sym same) ∙ h

    by : (m : ℕ) → IsMadeAt s m y row → has_cert_by s.keys z y ≡ true
    by m it =
        let rows = rows_upto s m in
        let d = delegation s rows it.key in
        let issuer = sym (via_by rows y (suc m) (trust_of_owner s it.key) d) ∙ sym (ap (λ (r : Row). r.via) it.made) ∙ via in
        ap (λ o. option_map_or (λ key. list_any (λ n. n == z) (key_issuers key)) o false) it.is
        ∙ issued it.key d (delegation_by (issuers_of it.key) s rows it.key (by_issuers it.key)) issuer
