-- The tests of a decoder are the conditions on what has a spelling.
use Rattle.std.proofs.Common.{◌≡◌, ◌≢◌, ℕ, zero, suc, ◌<◌, ◌≤◌, Bool, true, false, List, [], ◌∷◌, length, Option, Some, None, refl, arith, add-one}
use Rattle.std.specs.Prelude.{All, IfSome, not, ◌&&◌, ◌||◌, ◌==◌, nat_le, nat_lt, map}
use Rattle.std.specs.List.{list_all, list_any, AllByRecursion}
use Rattle.std.specs.List.Sorted.{IsStrictlyIncreasing}
use Rattle.std.proofs.lemmas.Bool.Decides.{nat_tests}
use Rattle.std.proofs.lemmas.List.Elements.{All-from_recursion, recursion_from_All}
use Rattle.std.proofs.lemmas.Bool.{and_parts}
use Rattle.wot_types.specs.declared.cert.Cert.{Cert}
use Rattle.wot_types.specs.declared.user.User.{User}
use Rattle.wot_types.specs.declared.key.Key.{Key}
use Rattle.wot_types.specs.declared.options.Options.{Options}
use Rattle.wot_types.specs.declared.row.Row.{Row}
use Rattle.wot_types.specs.declared.ownertrust.Entry.{Entry}
use Rattle.wot_types.specs.Ownertrust.{is_unset, kept_of}
use Rattle.std.specs.declared.cmp.Ordering.{Ordering}
use Rattle.std.specs.declared.cmp.Ordering.TheVariants.{Less, Equal, Greater}
use Rattle.std.specs.Ordering.{is_lt, nat_cmp}
use Rattle.wot_types.specs.Fingerprint.{IsFprLength, fpr_cmp}
use Rattle.wot_types.specs.Keyring.{id_of, key_certs}
use Rattle.wot_types.specs.Listing.{is_same_user}
use Rattle.wot_types.specs.Limits.{least_completes, least_depth, least_level, least_marginals, least_sample, most_certs, most_level, most_sample, most_users}
use Rattle.wot_types.specs.Records.{is_capability, is_hash_byte, is_kept_class}
use Rattle.wot_types.specs.WellFormed.{AreDistinctUsers, IsScope, IsCert, IsUser, IsWellFormed}
use Rattle.wot_spelling.specs.Checks.{is_kept_scope, is_cert, is_user, are_distinct, is_marked_once, has_few_certs, is_well_formed, is_rising, are_importable, is_in_range, is_sample_count, are_rising_entries, are_settable}
use Rattle.wot_types.specs.Payload.{IsInRange, IsRisingBy, AreSettable}
use Rattle.wot_types.specs.Accepted.{AreImportable}
use Rattle.wot_spelling.specs.Stored.{are_rising_rows, are_stored}
use Rattle.wot_spelling.proofs.Lengths.{scope_yes, scope_is}

-- what a test means
pub record Tells (b : Bool) (P : Type 0) : Type 0 where
  pub is : b ≡ true → P
  pub yes : P → b ≡ true

and_true : (a b : Bool) → a ≡ true → b ≡ true → (a && b) ≡ true
and_true a b p q = rw (p, q) refl

both : (a b : Bool) (P Q : Type 0) → Tells a P → Tells b Q → Tells (a && b) (P × Q)
both a b P Q p q = record { is = λ e. (p.is (and_parts a b e).0, q.is (and_parts a b e).1); yes = λ h. and_true a b (p.yes h.0) (q.yes h.1) }

itself : (b : Bool) → Tells b (b ≡ true)
itself b = record { is = λ e. e; yes = λ e. e }

-- the same condition in other words
reads : (b : Bool) (P Q : Type 0) → Tells b P → (P → Q) → (Q → P) → Tells b Q
reads b P Q t to from = record { is = λ e. to (t.is e); yes = λ q. t.yes (from q) }

each_by_recursion : {A : Type 0} (p : A → Bool) (P : A → Type 0) → ((x : A) → Tells (p x) (P x)) → (xs : List A) → Tells (list_all p xs) (AllByRecursion P xs)
each_by_recursion p P t [] = record { is = λ e. tt; yes = λ h. refl }
each_by_recursion p P t (x ∷ xs) = both (p x) (list_all p xs) (P x) (AllByRecursion P xs) (t x) (each_by_recursion p P t xs)

each : {A : Type 0} (p : A → Bool) (P : A → Type 0) → ((x : A) → Tells (p x) (P x)) → (xs : List A) → Tells (list_all p xs) (All P xs)
each p P t xs = reads (list_all p xs) (AllByRecursion P xs) (All P xs) (each_by_recursion p P t xs) (λ h. All-from_recursion P xs h) (λ h. recursion_from_All P xs h)

not_true : (b : Bool) → Tells (not b) (b ≡ false)
not_true true = record { is = λ e. absurd cc; yes = λ e. absurd cc }
not_true false = record { is = λ e. refl; yes = λ e. refl }

at_most : (a b : ℕ) → Tells (nat_le a b) (a ≤ b)
at_most a b = record { is = λ e. grind (arith, nat_tests); yes = λ h. grind (arith, nat_tests) }

below : (a b : ℕ) → Tells (nat_lt a b) (a < b)
below a b = record { is = λ e. grind (arith, nat_tests); yes = λ h. grind (arith, nat_tests) }

another : (a b : ℕ) → Tells (not (a == b)) (a ≢ b)
another a b = record { is = λ e. grind (arith, nat_tests); yes = λ h. grind (arith, nat_tests) }

scope_tells : (scope : Option (List ℕ)) → Tells (is_kept_scope scope) (IsScope scope)
scope_tells None = record { is = λ e. tt; yes = λ h. refl }
scope_tells (Some scope) = record { is = λ e. scope_is scope e; yes = λ h. scope_yes scope h }

-- the same where something is known of each
each_known : {A : Type 0} (p : A → Bool) (P Q : A → Type 0) → ((x : A) → Q x → Tells (p x) (P x)) → (xs : List A) → AllByRecursion Q xs → Tells (list_all p xs) (AllByRecursion P xs)
each_known p P Q t [] h = record { is = λ e. tt; yes = λ h. refl }
each_known p P Q t (x ∷ xs) h = both (p x) (list_all p xs) (P x) (AllByRecursion P xs) (t x h.0) (each_known p P Q t xs h.1)

all_known : {A : Type 0} (p : A → Bool) (P Q : A → Type 0) → ((x : A) → Q x → Tells (p x) (P x)) → (xs : List A) → AllByRecursion Q xs → Tells (list_all p xs) (All P xs)
all_known p P Q t xs h = reads (list_all p xs) (AllByRecursion P xs) (All P xs) (each_known p P Q t xs h) (λ k. All-from_recursion P xs k) (λ k. recursion_from_All P xs k)

-- fingerprints have their lengths, which their type keeps
abbrev pub HasFpr : Cert → Type 0
HasFpr cert = IfSome cert.issuer_fpr IsFprLength

abbrev pub HasUserFprs : User → Type 0
HasUserFprs user = AllByRecursion HasFpr user.certs

abbrev pub HasFprs : Key → Type 0
HasFprs key = IsFprLength key.fpr × AllByRecursion HasUserFprs key.users

cert_tells : (id : ℕ) (cert : Cert) → HasFpr cert → Tells (is_cert id cert) (IsCert id cert)
unfolding is_cert
cert_tells id cert fpr =
    reads _ _ (IsCert id cert)
    (both _ _ _ _ (another cert.issuer id) (both _ _ _ _ (itself (is_kept_class cert.class)) (scope_tells cert.scope)))
    (λ h. record { by_another = h.0; class = h.1.0; scope = h.1.1; issuer_fpr = fpr }) (λ h. (h.by_another, (h.class, h.scope)))

user_tells : (id : ℕ) (user : User) → HasUserFprs user → Tells (is_user id user) (IsUser id user)
unfolding is_user
user_tells id user fprs =
    reads _ _ (IsUser id user)
    (both _ _ _ _ (itself (list_all is_hash_byte user.hash)) (all_known (is_cert id) (IsCert id) HasFpr (cert_tells id) user.certs fprs))
    (λ h. record { hash = h.0; certs = h.1 }) (λ h. (h.hash, h.certs))

neither : (a b : Bool) (P Q : Type 0) → Tells (not a) P → Tells (not b) Q → Tells (not (a || b)) (P × Q)
neither true b P Q p q = record { is = λ e. absurd cc; yes = λ h. p.yes h.0 }
neither false b P Q p q = record { is = λ e. (p.is refl, q.is e); yes = λ h. q.yes h.1 }

none_of : {A : Type 0} (p : A → Bool) (xs : List A) → Tells (not (list_any p xs)) (AllByRecursion (λ x. p x ≡ false) xs)
none_of p [] = record { is = λ e. tt; yes = λ h. refl }
none_of p (x ∷ xs) = neither (p x) (list_any p xs) _ _ (not_true (p x)) (none_of p xs)

distinct_tells : (users : List User) → Tells (are_distinct users) (AreDistinctUsers users)
unfolding are_distinct
distinct_tells [] = record { is = λ e. tt; yes = λ h. refl }
distinct_tells (user ∷ users) =
    both _ _ _ _
    (reads _ _ _ (none_of (is_same_user user) users) (λ h. All-from_recursion (λ other. is_same_user user other ≡ false) users h) (λ h. recursion_from_All (λ other. is_same_user user other ≡ false) users h))
    (distinct_tells users)

rising_is : (keys : List Key) → is_rising keys ≡ true → IsStrictlyIncreasing (map id_of keys)
unfolding is_rising
rising_is [] e k h = absurd (omega arith)
rising_is (key ∷ []) e k h = absurd (omega arith)
rising_is (key ∷ next ∷ keys) e zero h = (below (id_of key) (id_of next)).is (and_parts (nat_lt (id_of key) (id_of next)) (is_rising (next ∷ keys)) e).0
rising_is (key ∷ next ∷ keys) e (suc k) h =
    let ih = rising_is (next ∷ keys) (and_parts (nat_lt (id_of key) (id_of next)) (is_rising (next ∷ keys)) e).1 k (omega arith) in
    rw add-one (rw add-one at ih)

rising_yes : (keys : List Key) → IsStrictlyIncreasing (map id_of keys) → is_rising keys ≡ true
unfolding is_rising
rising_yes [] h = refl
rising_yes (key ∷ []) h = refl
rising_yes (key ∷ next ∷ keys) h = and_true _ _ ((below (id_of key) (id_of next)).yes (h 0 (omega arith))) (rising_yes (next ∷ keys) (λ k lt. let more = h (suc k) (omega arith) in rw add-one (rw add-one at more)))

rising_tells : (keys : List Key) → Tells (is_rising keys) (IsStrictlyIncreasing (map id_of keys))
rising_tells keys = record { is = rising_is keys; yes = rising_yes keys }

implied : (a b : Bool) (P : Type 0) → Tells b P → Tells (not a || b) (a ≡ true → P)
implied true b P t = record { is = λ e _. t.is e; yes = λ h. t.yes (h refl) }
implied false b P t = record { is = λ e h. absurd cc; yes = λ h. refl }

well_formed_tells : (key : Key) → HasFprs key → Tells (is_well_formed key) (IsWellFormed key)
unfolding is_well_formed is_marked_once has_few_certs
well_formed_tells key fprs =
    reads _ _ (IsWellFormed key)
    (both _ _ _ _ (itself (list_all is_capability key.caps)) (both _ _ _ _ (at_most (length key.users) most_users) (both _ _ _ _ (at_most (key_certs key) most_certs) (both _ _ _ _ (distinct_tells key.users)
    (both _ _ _ _ (all_known (is_user (id_of key)) (IsUser (id_of key)) HasUserFprs (user_tells (id_of key)) key.users fprs.1)
    (implied key.revoked (list_all (λ user. not user.revoked) key.users) (All (λ user. user.revoked ≡ false) key.users) (each (λ user. not user.revoked) (λ user. user.revoked ≡ false) (λ user. not_true user.revoked) key.users)))))))
    (λ h. record { fpr = fprs.0; caps = h.0; few_users = h.1.0; few_certs = h.1.1.0; distinct = h.1.1.1.0; each = h.1.1.1.1.0; marks = h.1.1.1.1.1 })
    (λ h. (h.caps, (h.few_users, (h.few_certs, (h.distinct, (h.each, h.marks))))))

pub importable_tells : (keys : List Key) → AllByRecursion HasFprs keys → Tells (are_importable keys) (AreImportable keys)
unfolding are_importable
importable_tells keys fprs =
    reads _ _ (AreImportable keys)
    (both _ _ _ _ (each_known is_well_formed IsWellFormed HasFprs well_formed_tells keys fprs) (rising_tells keys))
    (λ h. record { each = All-from_recursion IsWellFormed keys h.0; rising = h.1 })
    (λ h. (recursion_from_All IsWellFormed keys h.each, h.rising))

pub in_range_tells : (o : Options) → Tells (is_in_range o) (IsInRange o)
unfolding is_in_range
in_range_tells o =
    reads _ _ (IsInRange o)
    (both _ _ _ _ (at_most least_completes o.completes) (both _ _ _ _ (at_most least_marginals o.marginals) (both _ _ _ _ (at_most least_depth o.depth) (both _ _ _ _ (at_most least_level o.level) (at_most o.level most_level)))))
    (λ h. record { completes = h.0; marginals = h.1.0; depth = h.1.1.0; least_level = h.1.1.1.0; most_level = h.1.1.1.1 })
    (λ h. (h.completes, (h.marginals, (h.depth, (h.least_level, h.most_level)))))

pub sample_count_tells : (count : ℕ) → Tells (is_sample_count count) ((least_sample ≤ count) × (count ≤ most_sample))
unfolding is_sample_count
sample_count_tells count = both _ _ _ _ (at_most least_sample count) (at_most count most_sample)

less : (o : Ordering) → Tells (is_lt o) (o ≡ Less)
less Less = record { is = λ e. refl; yes = λ h. refl }
less Equal = record { is = λ e. absurd cc; yes = λ h. absurd cc }
less Greater = record { is = λ e. absurd cc; yes = λ h. absurd cc }

rising_entries_tells : (entries : List Entry) → Tells (are_rising_entries entries) (IsRisingBy (λ a b. fpr_cmp a.fpr b.fpr) entries)
unfolding are_rising_entries
rising_entries_tells [] = record { is = λ e. tt; yes = λ h. refl }
rising_entries_tells (a ∷ []) = record { is = λ e. tt; yes = λ h. refl }
rising_entries_tells (a ∷ b ∷ entries) = both _ _ _ _ (less (fpr_cmp a.fpr b.fpr)) (rising_entries_tells (b ∷ entries))

pub settable_tells : (entries : List Entry) → Tells (are_settable entries) (AreSettable entries)
unfolding are_settable
settable_tells entries =
    reads _ _ (AreSettable entries)
    (both _ _ _ _ (each (λ entry. not (is_unset (kept_of entry))) (λ entry. is_unset (kept_of entry) ≡ false) (λ entry. not_true (is_unset (kept_of entry))) entries) (rising_entries_tells entries))
    (λ h. record { each = h.0; rising = h.1 }) (λ h. (h.each, h.rising))

below_by_cmp : (a b : ℕ) → Tells (nat_lt a b) (nat_cmp a b ≡ Less)
below_by_cmp a b = record { is = λ e. grind (arith, nat_tests); yes = λ h. grind (arith, nat_tests) }

rising_rows_tells : (rows : List Row) → Tells (are_rising_rows rows) (IsRisingBy (λ a b. nat_cmp a.key b.key) rows)
unfolding are_rising_rows
rising_rows_tells [] = record { is = λ e. tt; yes = λ h. refl }
rising_rows_tells (a ∷ []) = record { is = λ e. tt; yes = λ h. refl }
rising_rows_tells (a ∷ b ∷ rows) = both _ _ _ _ (below_by_cmp a.key b.key) (rising_rows_tells (b ∷ rows))

-- rows that are stored: a regular expression has 1 to 255 bytes, and key IDs strictly rise
pub record AreStored (rows : List Row) : Type 0 where
  pub each : All (λ row. IsScope row.scope) rows
  pub rising : IsRisingBy (λ a b. nat_cmp a.key b.key) rows

pub stored_tells : (rows : List Row) → Tells (are_stored rows) (AreStored rows)
unfolding are_stored
stored_tells rows =
    reads _ _ (AreStored rows)
    (both _ _ _ _ (each (λ row. is_kept_scope row.scope) (λ row. IsScope row.scope) (λ row. scope_tells row.scope) rows) (rising_rows_tells rows))
    (λ h. record { each = h.0; rising = h.1 }) (λ h. (h.each, h.rising))
