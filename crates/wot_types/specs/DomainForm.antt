-- The domain form of a scope, `<[^>]+[@.]DOMAIN>$`, and the texts that it admits (RFC 9580, section 5.2.3.22).
use Rattle.std.specs.Prelude.{◌≡◌, ◌≢◌, ◌⊎◌, ℕ, Bool, true, false, ◌==◌, not, ◌-◌, ◌&&◌, ◌||◌, nat_le, nat_eq, List, [], ◌∷◌, ◌++◌, length, take, drop, map, if◌then◌else◌, Option, Some, None, option_map, codes}
use Rattle.std.specs.Cmp.Lexicographic.{pointwise}
use Rattle.std.specs.List.{list_any}
use Rattle.wot_types.specs.Records.{is_alphanumeric}
use Rattle.wot_types.specs.Bytes.{at_sign, backslash, dot, greater_than, hyphen, less_than, lower_case, underscore}

abbrev pub opening : List ℕ
opening = codes "<[^>]+[@.]"

abbrev pub closing : List ℕ
closing = codes ">$"

abbrev pub is_plain : ℕ → Bool
is_plain b = is_alphanumeric b || (b == hyphen) || (b == underscore)

abbrev pub with_byte : ℕ → Option (List ℕ) → Option (List ℕ)
with_byte b domain = option_map (λ rest. b ∷ rest) domain

-- the bytes for which the pieces stand: a letter, a digit, `-` or `_` for itself, a backslash and a byte that is neither a letter
-- nor a digit for that byte
abbrev pub pieces : List ℕ → Option (List ℕ)
pieces [] = Some []
pieces (c ∷ []) = if is_plain c then Some (c ∷ []) else None
pieces (c ∷ d ∷ rest) =
    if is_plain c then with_byte c (pieces (d ∷ rest)) else
    if (c == backslash) && not (is_alphanumeric d) then with_byte d (pieces rest) else None

abbrev pub domain_part : List ℕ → List ℕ
domain_part scope = take (length scope - 12) (drop 10 scope)

abbrev pub has_domain_form : List ℕ → Bool
has_domain_form scope = nat_le 13 (length scope) && pointwise nat_eq (take 10 scope) opening && pointwise nat_eq (drop (length scope - 2) scope) closing

-- the domain of a scope, which has at least one piece
abbrev pub domain_of : List ℕ → Option (List ℕ)
domain_of scope = if has_domain_form scope then pieces (domain_part scope) else None

abbrev pub is_same_up_to_case : List ℕ → List ℕ → Bool
is_same_up_to_case xs ys = pointwise nat_eq (map lower_case xs) (map lower_case ys)

-- each way to cut a list in two
abbrev pub splits_after : List ℕ → List ℕ → List (List ℕ × List ℕ)
splits_after front [] = (front, []) ∷ []
splits_after front (x ∷ xs) = (front, x ∷ xs) ∷ splits_after (front ++ x ∷ []) xs

abbrev pub splits : List ℕ → List (List ℕ × List ℕ)
splits xs = splits_after [] xs

-- the front of an address, not empty and without `>`; then `@` or `.`, the domain and `>`
abbrev pub is_address : List ℕ → List ℕ × List ℕ → Bool
is_address domain (front, []) = false
is_address domain (front, c ∷ back) = not (length front == 0) && not (list_any (λ b. b == greater_than) front) && ((c == at_sign) || (c == dot)) && is_same_up_to_case back (domain ++ greater_than ∷ [])

-- a text ends with an address in the domain
abbrev pub is_mailbox : List ℕ → List ℕ × List ℕ → Bool
is_mailbox domain (name, []) = false
is_mailbox domain (name, c ∷ rest) = (c == less_than) && list_any (is_address domain) (splits rest)

abbrev pub admits_domain : Option (List ℕ) → List ℕ → Bool
admits_domain None text = false
admits_domain (Some domain) text = list_any (is_mailbox domain) (splits text)

abbrev pub has_closing : List ℕ → Bool
has_closing xs = list_any (λ b. b == greater_than) xs

-- the text is `name<local` and a separator, the domain up to ASCII case, and `>`
pub record IsMailbox (domain : List ℕ) (text : List ℕ) : Type 0 where
  pub name : List ℕ
  pub local : List ℕ
  pub separator : ℕ
  pub host : List ℕ
  pub parts : text ≡ name ++ less_than ∷ (local ++ separator ∷ (host ++ greater_than ∷ []))
  pub some : local ≢ []
  pub inside : has_closing local ≡ false
  pub separates : (separator ≡ at_sign) ⊎ (separator ≡ dot)
  pub same : is_same_up_to_case host domain ≡ true

-- the scope has the domain form, and the text ends with an address in its domain
pub record IsInDomain (scope : List ℕ) (text : List ℕ) : Type 0 where
  pub domain : List ℕ
  pub form : domain_of scope ≡ Some domain
  pub mailbox : IsMailbox domain text
