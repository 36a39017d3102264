-- What is short where its spelling is.
use Rattle.std.proofs.Common.{◌≡◌, ℕ, ◌+◌, ◌^◌, ◌<◌, List, ◌∷◌, ◌++◌, length, Option, Some, None, true, arith}
use Rattle.std.specs.Prelude.{IfSome}
use Rattle.std.proofs.lemmas.List.{length-append}
use Rattle.wot_types.specs.declared.cert.Cert.{Cert}
use Rattle.wot_types.specs.declared.cert.Form.TheVariants.{WithFpr}
use Rattle.wot_types.specs.declared.user.User.{User}
use Rattle.wot_types.specs.declared.user.UserKind.{UserKind}
use Rattle.wot_types.specs.declared.user.UserKind.TheVariants.{Uid, Uat}
use Rattle.wot_types.specs.declared.ownertrust.Entry.{Entry}
use Rattle.wot_types.specs.declared.row.Row.{Row}
use Rattle.wot_types.specs.declared.key.Key.{Key}
use Rattle.wot_types.specs.Spelling.{entry_bytes, FitsItsLength, number_4, number_8, flag_bytes, text_bytes, scope_bytes, fpr_bytes, kind_bytes, list_bytes, cert_bytes, user_bytes, key_bytes, row_bytes}
use Rattle.wot_spelling.proofs.Lists.{few_parts}

text_len : (t : List ℕ) → length (text_bytes t) ≡ 4 + length t
unfolding text_bytes number_4
text_len t = omega (arith, length-append (number_4 (length t)) t)

scope_room : (o : Option (List ℕ)) → length (scope_bytes o) < 2 ^ 32 → IfSome o FitsItsLength
unfolding scope_bytes
scope_room None h = tt
scope_room (Some t) h = omega (arith, text_len t, length-append (flag_bytes true) (text_bytes t))

some_front : (a b : List ℕ) → 0 < length a → 0 < length (a ++ b)
some_front a b h = omega (arith, length-append a b)

number_8_some : (n : ℕ) → 0 < length (number_8 n)
unfolding number_8
number_8_some n = omega arith

kind_some : (k : UserKind) → 0 < length (kind_bytes k)
unfolding kind_bytes
kind_some Uid = omega arith
kind_some Uat = omega arith

cert_some : (c : Cert) → 0 < length (cert_bytes WithFpr c)
unfolding cert_bytes
cert_some c = some_front (number_8 c.issuer) _ (number_8_some c.issuer)

user_some : (u : User) → 0 < length (user_bytes WithFpr u)
unfolding user_bytes
user_some u = some_front (kind_bytes u.kind) _ (kind_some u.kind)

pub key_some : (k : Key) → 0 < length (key_bytes WithFpr k)
unfolding key_bytes fpr_bytes
key_some k = some_front (length k.fpr ∷ k.fpr) _ (omega arith)

pub entry_some : (e : Entry) → 0 < length (entry_bytes e)
unfolding entry_bytes fpr_bytes
entry_some e = some_front (length e.fpr ∷ e.fpr) _ (omega arith)

pub cert_room : (c : Cert) → length (cert_bytes WithFpr c) < 2 ^ 32 → IfSome c.scope FitsItsLength
unfolding cert_bytes
cert_room c h = let k = simp length-append at h in scope_room c.scope (omega arith)

pub record UserRoom (u : User) : Type 0 where
  pub text : FitsItsLength u.text
  pub hash : FitsItsLength u.hash
  pub few : length u.certs < 2 ^ 32
  pub certs : length (list_bytes (cert_bytes WithFpr) u.certs) < 2 ^ 32

pub user_room : (u : User) → length (user_bytes WithFpr u) < 2 ^ 32 → UserRoom u
unfolding user_bytes
user_room u h =
    let k = simp length-append at h in
    let certs : length (list_bytes (cert_bytes WithFpr) u.certs) < 2 ^ 32 = omega arith in
    record { text = omega (arith, text_len u.text); hash = omega (arith, text_len u.hash); few = few_parts (cert_bytes WithFpr) u.certs cert_some certs; certs = certs }

pub record KeyRoom (k : Key) : Type 0 where
  pub caps : FitsItsLength k.caps
  pub few : length k.users < 2 ^ 32
  pub users : length (list_bytes (user_bytes WithFpr) k.users) < 2 ^ 32

pub key_room : (k : Key) → length (key_bytes WithFpr k) < 2 ^ 32 → KeyRoom k
unfolding key_bytes
key_room k h =
    let w = simp length-append at h in
    let users : length (list_bytes (user_bytes WithFpr) k.users) < 2 ^ 32 = omega arith in
    record { caps = omega (arith, text_len k.caps); few = few_parts (user_bytes WithFpr) k.users user_some users; users = users }

pub row_some : (r : Row) → 0 < length (row_bytes r)
unfolding row_bytes
row_some r = some_front (number_8 r.key) _ (number_8_some r.key)

pub row_room : (r : Row) → length (row_bytes r) < 2 ^ 32 → IfSome r.scope FitsItsLength
unfolding row_bytes
row_room r h = let k = simp length-append at h in scope_room r.scope (omega arith)
