-- A spelling has as many bytes as its size says.
use Rattle.std.proofs.Common.{◌≡◌, ℕ, ◌+◌, List, [], ◌∷◌, Bool, true, false, length, Option, Some, None, refl, arith}
use Rattle.std.specs.Prelude.{sum_by}
use Rattle.std.specs.List.{flat_map}
use Rattle.std.proofs.lemmas.List.{length-append}
use Rattle.std.proofs.lemmas.List.Concat.{length-flat_map}
use Rattle.std.proofs.lemmas.List.Sums.{sum_by-cons}
use Rattle.wot_types.specs.declared.cert.Cert.{Cert}
use Rattle.wot_types.specs.declared.cert.Form.TheVariants.{WithFpr}
use Rattle.wot_types.specs.declared.user.User.{User}
use Rattle.wot_types.specs.declared.user.UserKind.{UserKind}
use Rattle.wot_types.specs.declared.user.UserKind.TheVariants.{Uid, Uat}
use Rattle.wot_types.specs.declared.options.Options.{Options}
use Rattle.wot_types.specs.declared.ownertrust.Entry.{Entry}
use Rattle.wot_types.specs.declared.key.Key.{Key}
use Rattle.wot_types.specs.declared.row.Row.{Row}
use Rattle.wot_types.specs.declared.edit.Edit.{Edit}
use Rattle.wot_types.specs.declared.edit.Edit.TheVariants.{Import, Set, Delete, Options as SetOptions, Ownertrust, Flag, Date, Sample}
use Rattle.wot_types.specs.Spelling.{entry_bytes, number_1, number_4, number_8, flag_bytes, text_bytes, scope_bytes, via_bytes, fpr_bytes, issuer_fpr_bytes, trust_bytes, kind_bytes, list_bytes, cert_bytes, user_bytes, key_bytes, options_bytes, row_bytes}
use Rattle.wot_types.specs.Payload.{payload, payload_in}
use Rattle.wot_spelling.specs.Sizes.{entry_size, issuer_fpr_size, scope_size, via_size, cert_size, user_size, key_size, row_size, payload_size}

pub one : (n : ℕ) → length (number_1 n) ≡ 1
unfolding number_1
one n = refl

pub four : (n : ℕ) → length (number_4 n) ≡ 4
unfolding number_4
four n = refl

pub eight : (n : ℕ) → length (number_8 n) ≡ 8
unfolding number_8
eight n = refl

flag_is : (b : Bool) → length (flag_bytes b) ≡ 1
unfolding flag_bytes
flag_is true = refl
flag_is false = refl

kind_is : (k : UserKind) → length (kind_bytes k) ≡ 1
unfolding kind_bytes
kind_is Uid = refl
kind_is Uat = refl

text_is : (t : List ℕ) → length (text_bytes t) ≡ 4 + length t
unfolding text_bytes
text_is t = omega (arith, length-append (number_4 (length t)) t, four (length t))

scope_is : (o : Option (List ℕ)) → length (scope_bytes o) ≡ scope_size o
unfolding scope_bytes scope_size
scope_is None = flag_is false
scope_is (Some t) = omega (arith, length-append (flag_bytes true) (text_bytes t), flag_is true, text_is t)

pub same_sum : {A : Type 0} (f g : A → ℕ) → ((x : A) → f x ≡ g x) → (xs : List A) → sum_by f xs ≡ sum_by g xs
same_sum f g h [] = refl
same_sum f g h (x ∷ xs) = omega (arith, sum_by-cons f x xs, sum_by-cons g x xs, h x, same_sum f g h xs)

pub list_is : {A : Type 0} (s : A → List ℕ) (size : A → ℕ) → ((x : A) → length (s x) ≡ size x) → (xs : List A) → length (list_bytes s xs) ≡ 4 + sum_by size xs
unfolding list_bytes
list_is s size h xs = omega (arith, length-append (number_4 (length xs)) (flat_map s xs), four (length xs), length-flat_map s xs, same_sum (λ x. length (s x)) size h xs)

fpr_is : (f : List ℕ) → length (fpr_bytes f) ≡ 1 + length f
unfolding fpr_bytes
fpr_is f = omega arith

issuer_fpr_is : (o : Option (List ℕ)) → length (issuer_fpr_bytes WithFpr o) ≡ issuer_fpr_size o
unfolding issuer_fpr_bytes issuer_fpr_size
issuer_fpr_is None = flag_is false
issuer_fpr_is (Some f) = omega (arith, length-append (flag_bytes true) (fpr_bytes f), flag_is true, fpr_is f)

pub cert_is : (c : Cert) → length (cert_bytes WithFpr c) ≡ cert_size c
unfolding cert_bytes cert_size
cert_is c = simp (length-append, one, four, eight, flag_is, scope_is, issuer_fpr_is) (omega arith)

pub user_is : (u : User) → length (user_bytes WithFpr u) ≡ user_size u
unfolding user_bytes user_size
user_is u = let e = list_is (cert_bytes WithFpr) cert_size cert_is u.certs in simp (length-append, four, flag_is, kind_is, text_is) (omega arith)

pub key_is : (k : Key) → length (key_bytes WithFpr k) ≡ key_size k
unfolding key_bytes key_size fpr_bytes
key_is k = let e = list_is (user_bytes WithFpr) user_size user_is k.users in simp (length-append, four, flag_is, text_is) (omega arith)

pub entry_is : (e : Entry) → length (entry_bytes e) ≡ entry_size e
unfolding entry_bytes entry_size fpr_bytes
entry_is e = simp (length-append, one) (omega arith)

via_is : (o : Option ℕ) → length (via_bytes o) ≡ via_size o
unfolding via_bytes via_size
via_is None = flag_is false
via_is (Some id) = omega (arith, length-append (flag_bytes true) (number_8 id), flag_is true, eight id)

pub row_is : (r : Row) → length (row_bytes r) ≡ row_size r
unfolding row_bytes row_size trust_bytes
row_is r = simp (length-append, one, eight, scope_is, via_is) (omega arith)

pub options_is : (o : Options) → length (options_bytes o) ≡ 11
unfolding options_bytes
options_is o = simp (length-append, one, four, flag_is) (omega arith)

pub payload_is : (e : Edit) → length (payload e) ≡ payload_size e
unfolding payload_in payload_size fpr_bytes trust_bytes options_bytes
payload_is (Import keys) = let e = list_is (key_bytes WithFpr) key_size key_is keys in simp (length-append, one) (omega arith)
payload_is (Ownertrust entries) = let e = list_is entry_bytes entry_size entry_is entries in simp (length-append, one) (omega arith)
payload_is (Set fpr trust) = simp (length-append, one) (omega arith)
payload_is (Flag fpr disabled) = simp (length-append, one, flag_is) (omega arith)
payload_is (Delete id) = simp (length-append, one, eight) (omega arith)
payload_is (Date date) = simp (length-append, one, four) (omega arith)
payload_is (SetOptions o) = simp (length-append, one, four, flag_is) (omega arith)
payload_is (Sample seed count) = simp (length-append, one, four, eight) (omega arith)
