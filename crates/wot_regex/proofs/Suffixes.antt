-- Matches of symbols, by what is left of the text.
use Rattle.std.proofs.Common.{◌≡◌, ℕ, ◌+◌, ◌<◌, ◌==◌, true, List, [], ◌∷◌, ◌++◌, length, get_or, drop, refl, sym, ap, ◌∙◌, subst, add-zero, length-drop, eqb-true, eq-eqb, arith}
use Rattle.std.proofs.lemmas.Bool.{and_from, and_parts}
use Rattle.std.proofs.lemmas.List.{drop_more}
use Rattle.std.specs.List.{list_all}
use Rattle.wot_types.specs.Bytes.{lower_case}
use Rattle.wot_types.specs.DomainForm.{is_same_up_to_case}
use Rattle.wot_types.specs.Expression.{Symbol, Tree, byte, followed, symbol}
use Rattle.wot_types.specs.ExpressionMatch.{Chain, Matches, more, none, takes}

-- what is left begins with a byte: the place is in the text
pub place_of : (text : List ℕ) (i b : ℕ) (ys : List ℕ) → drop i text ≡ b ∷ ys → (i < length text) × (get_or text i 0 ≡ b) × (drop (i + 1) text ≡ ys)
place_of text i b ys h =
    let lt : i < length text = omega (arith, length-drop i text, ap length h) in
    let split : get_or text i 0 ∷ drop (i + 1) text ≡ b ∷ ys = sym (drop_more text i 0 lt) ∙ h in
    let first : get_or text i 0 ≡ b = cc in
    let rest : drop (i + 1) text ≡ ys = cc in
    (lt, first, rest)

pub symbol_from : (text : List ℕ) (x : Symbol) (i b : ℕ) (ys : List ℕ) → drop i text ≡ b ∷ ys → takes x b ≡ true → Matches text (symbol x) i (i + 1)
symbol_from text x i b ys h t =
    let p = place_of text i b ys h in (p.0, refl, ap (takes x) p.1 ∙ t)

pub symbol_to : (text : List ℕ) (x : Symbol) (i j : ℕ) → Matches text (symbol x) i j → (b : ℕ) × (drop i text ≡ b ∷ drop j text) × (takes x b ≡ true)
symbol_to text x i j m = (get_or text i 0, drop_more text i 0 m.0 ∙ ap (λ k. get_or text i 0 ∷ drop k text) (sym m.1), m.2)

pub chain_from : (text : List ℕ) (x : Symbol) (i : ℕ) (xs ys : List ℕ) → drop i text ≡ xs ++ ys → list_all (takes x) xs ≡ true → Chain (Matches text (symbol x)) i (i + length xs)
chain_from text x i [] ys h t = let P : ℕ → Type 0 = λ k. Chain (Matches text (symbol x)) i k in subst P (sym (add-zero i)) none
chain_from text x i (b ∷ xs) ys h t =
    let parts = and_parts (takes x b) (list_all (takes x) xs) t in
    let p = place_of text i b (xs ++ ys) h in
    let P : ℕ → Type 0 = λ k. Chain (Matches text (symbol x)) i k in
    let at : (i + 1) + length xs ≡ i + length (b ∷ xs) = omega arith in
    subst P at (more (symbol_from text x i b (xs ++ ys) h parts.0) (chain_from text x (i + 1) xs ys p.2 parts.1))

pub drop_past : (text : List ℕ) (i : ℕ) (xs ys : List ℕ) → drop i text ≡ xs ++ ys → drop (i + length xs) text ≡ ys
drop_past text i [] ys h = ap (λ k. drop k text) (add-zero i) ∙ h
drop_past text i (b ∷ xs) ys h =
    let p = place_of text i b (xs ++ ys) h in
    let at : i + length (b ∷ xs) ≡ (i + 1) + length xs = omega arith in
    ap (λ k. drop k text) at ∙ drop_past text (i + 1) xs ys p.2

pub chain_to : (text : List ℕ) (x : Symbol) (i j : ℕ) → Chain (Matches text (symbol x)) i j → (xs : List ℕ) × (drop i text ≡ xs ++ drop j text) × (list_all (takes x) xs ≡ true)
chain_to text x i j none = ([], refl, refl)
chain_to text x i k (more {j = j} s rest) =
    let first = symbol_to text x i j s in
    let others = chain_to text x j k rest in
    (first.0 ∷ others.0, first.1 ∙ ap (λ ys. first.0 ∷ ys) others.1, and_from (takes x first.0) (list_all (takes x) others.0) first.2 others.2)

-- bytes one after another
abbrev pub bytes_tree : Tree → List ℕ → Tree
bytes_tree b [] = b
bytes_tree b (c ∷ d) = bytes_tree (followed b (symbol (byte c))) d

same_sym : (a b : ℕ) → (a == b) ≡ true → (b == a) ≡ true
same_sym a b h = eq-eqb b a (sym (eqb-true a b h))

pub bytes_from : (text : List ℕ) (b : Tree) (d host ys : List ℕ) (i k : ℕ) → Matches text b i k → drop k text ≡ host ++ ys → is_same_up_to_case host d ≡ true → Matches text (bytes_tree b d) i (k + length host)
bytes_from text b [] [] ys i k m h same = let P : ℕ → Type 0 = λ q. Matches text b i q in subst P (sym (add-zero k)) m
bytes_from text b [] (c ∷ host) ys i k m h same = cc (same)
bytes_from text b (e ∷ d) [] ys i k m h same = cc (same)
bytes_from text b (e ∷ d) (c ∷ host) ys i k m h same =
    let parts = and_parts (lower_case c == lower_case e) (is_same_up_to_case host d) same in
    let p = place_of text k c (host ++ ys) h in
    let one : Matches text (followed b (symbol (byte e))) i (k + 1) = (k, m, symbol_from text (byte e) k c (host ++ ys) h (same_sym (lower_case c) (lower_case e) parts.0)) in
    let at : (k + 1) + length host ≡ k + length (c ∷ host) = omega arith in
    let P : ℕ → Type 0 = λ q. Matches text (bytes_tree (followed b (symbol (byte e))) d) i q in
    subst P at (bytes_from text (followed b (symbol (byte e))) d host ys i (k + 1) one p.2 parts.1)

pub record Hosted (text : List ℕ) (b : Tree) (d : List ℕ) (i j : ℕ) : Type 0 where
  pub place : ℕ
  pub host : List ℕ
  pub front : Matches text b i place
  pub is : drop place text ≡ host ++ drop j text
  pub same : is_same_up_to_case host d ≡ true

pub bytes_to : (text : List ℕ) (b : Tree) (d : List ℕ) (i j : ℕ) → Matches text (bytes_tree b d) i j → Hosted text b d i j
bytes_to text b [] i j m = record { place = j; host = []; front = m; is = refl; same = refl }
bytes_to text b (e ∷ d) i j m =
    let h = bytes_to text (followed b (symbol (byte e))) d i j m in
    let s = symbol_to text (byte e) h.front.0 h.place h.front.2 in
    record {
      place = h.front.0;
      host = s.0 ∷ h.host;
      front = h.front.1;
      is = s.1 ∙ ap (λ ys. s.0 ∷ ys) h.is;
      same = and_from (lower_case s.0 == lower_case e) (is_same_up_to_case h.host d) (same_sym (lower_case e) (lower_case s.0) s.2) h.same;
    }
