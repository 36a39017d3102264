-- On the domain form an expression admits what the domain does.
use Rattle.std.proofs.Common.{◌≡◌, ◌≤◌, ◌<◌, ◌+◌, ◌↔◌, ℕ, ◌==◌, true, false, ◌||◌, ◌&&◌, List, [], ◌∷◌, ◌++◌, length, take, drop, nat_le, Some, IsSome, Option, None, inl, inr, ◌⊎◌, refl, sym, ap, ap₂, ◌∙◌, subst, eqb-true, eq-eqb, leb-true, length-drop, arith}
use Rattle.std.proofs.lemmas.Bool.{and_from, and_parts, false_from_ne_true, false≢true, not_from_false, or_cases, or_from, or_parts}
use Rattle.std.proofs.lemmas.Bool.Decides.{nat_tests}
use Rattle.std.proofs.lemmas.List.{drop_all, drop_at, take-append-drop}
use Rattle.std.specs.List.{list_all}
use Rattle.wot_types.specs.Bytes.{lower_case}
use Rattle.wot_types.specs.DomainForm.{domain_of}
use Rattle.wot_types.specs.DomainForm.{IsInDomain, IsMailbox, has_closing}
use Rattle.wot_types.specs.Expression.{Tree, at_least_one, byte, followed, nothing, range, symbol}
use Rattle.wot_types.specs.Bytes.{other_case}
use Rattle.wot_types.specs.ExpressionMatch.{Admits, Matches, MatchesIn, is_in_range, is_member, takes}
use Rattle.wot_regex.proofs.Completes.{reads-tree_of}
use Rattle.wot_regex.proofs.Sound.{tree_of-reads}
use Rattle.wot_regex.proofs.Suffixes.{bytes_from, bytes_to, bytes_tree, chain_from, chain_to, drop_past, place_of, symbol_from, symbol_to}
use Rattle.wot_regex.proofs.DomainTrees.{address_tree, domain_tree, local_part, reads_domain, separator_part}

-- bytes that are no letters have no other case

lower_is : (b s : ℕ) → s < 97 → lower_case b ≡ s → b ≡ s
lower_is b s lt h = grind (arith, nat_tests)

other_is : (b s : ℕ) → s < 65 → other_case b ≡ s → b ≡ s
other_is b s lt h = grind (arith, nat_tests)

takes_itself : (s b : ℕ) → s < 97 → lower_case s ≡ s → takes (byte s) b ≡ true → b ≡ s
takes_itself s b lt same h = lower_is b s lt (sym (eqb-true (lower_case s) (lower_case b) h) ∙ same)

one_member : (s b : ℕ) → is_member ((s, s) ∷ []) b ≡ true → b ≡ s
one_member s b h = grind (arith, nat_tests)

takes_local : (b : ℕ) → takes (range true ((62, 62) ∷ [])) b ≡ true → (b == 62) ≡ false
takes_local b h = false_from_ne_true (b == 62) (λ e. false≢true (sym (ap (λ x. takes (range true ((62, 62) ∷ [])) x) (eqb-true b 62 e)) ∙ h))

local_takes : (b : ℕ) → (b == 62) ≡ false → takes (range true ((62, 62) ∷ [])) b ≡ true
local_takes b h =
    let not_62 : b ≡ 62 → ⊥ = λ e. false≢true (sym h ∙ eq-eqb b 62 e) in
    not_from_false (is_in_range ((62, 62) ∷ []) b)
    (or_from (is_member ((62, 62) ∷ []) b) (is_member ((62, 62) ∷ []) (other_case b))
    (false_from_ne_true (is_member ((62, 62) ∷ []) b) (λ e. not_62 (one_member 62 b e)))
    (false_from_ne_true (is_member ((62, 62) ∷ []) (other_case b)) (λ e. not_62 (other_is b 62 (omega arith) (one_member 62 (other_case b) e)))))

two_members : (s t b : ℕ) → is_member ((s, s) ∷ (t, t) ∷ []) b ≡ true → (b ≡ s) ⊎ (b ≡ t)
two_members s t b h =
    elim (or_cases (nat_le s b && nat_le b s) ((nat_le t b && nat_le b t) || false) h) [
      | inl p ↦ let q = and_parts (nat_le s b) (nat_le b s) p in inl (omega (arith, leb-true s b q.0, leb-true b s q.1))
      | inr p ↦ elim (or_cases (nat_le t b && nat_le b t) false p) [
        | inl r ↦ let q = and_parts (nat_le t b) (nat_le b t) r in inr (omega (arith, leb-true t b q.0, leb-true b t q.1))
        | inr r ↦ absurd (false≢true r)
      ]
    ]

takes_separator : (b : ℕ) → takes (range false ((64, 64) ∷ (46, 46) ∷ [])) b ≡ true → (b ≡ 64) ⊎ (b ≡ 46)
takes_separator b h =
    elim (or_cases (is_member ((64, 64) ∷ (46, 46) ∷ []) b) (is_member ((64, 64) ∷ (46, 46) ∷ []) (other_case b)) h) [
      | inl p ↦ two_members 64 46 b p
      | inr p ↦ elim (two_members 64 46 (other_case b) p) [ inl e ↦ inl (other_is b 64 (omega arith) e) | inr e ↦ inr (other_is b 46 (omega arith) e) ]
    ]

separator_takes : (b : ℕ) → (b ≡ 64) ⊎ (b ≡ 46) → takes (range false ((64, 64) ∷ (46, 46) ∷ [])) b ≡ true
separator_takes b h = elim h [ inl e ↦ ap (takes (range false ((64, 64) ∷ (46, 46) ∷ []))) e | inr e ↦ ap (takes (range false ((64, 64) ∷ (46, 46) ∷ []))) e ]

all_local : (xs : List ℕ) → list_all (takes (range true ((62, 62) ∷ []))) xs ≡ true → has_closing xs ≡ false
all_local [] h = refl
all_local (b ∷ xs) h =
    let parts = and_parts (takes (range true ((62, 62) ∷ [])) b) (list_all (takes (range true ((62, 62) ∷ []))) xs) h in
    or_from (b == 62) (has_closing xs) (takes_local b parts.0) (all_local xs parts.1)

local_all : (xs : List ℕ) → has_closing xs ≡ false → list_all (takes (range true ((62, 62) ∷ []))) xs ≡ true
local_all [] h = refl
local_all (b ∷ xs) h =
    let parts = or_parts (b == 62) (has_closing xs) h in
    and_from (takes (range true ((62, 62) ∷ [])) b) (list_all (takes (range true ((62, 62) ∷ []))) xs) (local_takes b parts.0) (local_all xs parts.1)

-- from a match to a mailbox

mailbox_of : (text d : List ℕ) (i j : ℕ) → Matches text (domain_tree d) i j → IsMailbox d text
mailbox_of text d i j m =
    let body = m.1 in
    let bytes = bytes_to text address_tree d i body.0 body.1 in
    let angle = symbol_to text (byte 62) body.0 m.0 body.2 in
    let address = bytes.front in
    let before = address.1 in
    let opens = before.1 in
    let less = symbol_to text (byte 60) opens.0 before.0 opens.2 in
    let first = symbol_to text (range true ((62, 62) ∷ [])) before.0 before.2.0 before.2.1 in
    let others = chain_to text (range true ((62, 62) ∷ [])) before.2.0 address.0 before.2.2 in
    let sep = symbol_to text (range false ((64, 64) ∷ (46, 46) ∷ [])) address.0 bytes.place address.2 in
    let less_is : less.0 ≡ 60 = takes_itself 60 less.0 (omega arith) refl less.2 in
    let angle_is : angle.0 ≡ 62 = takes_itself 62 angle.0 (omega arith) refl angle.2 in
    let end : drop m.0 text ≡ [] = drop_all m.0 text (omega (arith, m.2.0)) in
    let local = first.0 ∷ others.0 in
    let tail : drop bytes.place text ≡ bytes.host ++ 62 ∷ [] = bytes.is ∙ ap (λ x. bytes.host ++ x) (angle.1 ∙ ap₂ (λ x y. x ∷ y) angle_is end) in
    let middle : drop before.0 text ≡ local ++ sep.0 ∷ (bytes.host ++ 62 ∷ []) =
    first.1 ∙ ap (λ x. first.0 ∷ x) (others.1 ∙ ap (λ x. others.0 ++ x) (sep.1 ∙ ap (λ x. sep.0 ∷ x) tail)) in
    let none : local ≡ [] → ⊥ = λ h. cc in
    record {
      name = take opens.0 text;
      local = local;
      separator = sep.0;
      host = bytes.host;
      parts = sym (take-append-drop opens.0 text) ∙ ap (λ x. take opens.0 text ++ x) (less.1 ∙ ap₂ (λ x y. x ∷ y) less_is middle);
      some = none;
      inside = all_local local (and_from (takes (range true ((62, 62) ∷ [])) first.0) (list_all (takes (range true ((62, 62) ∷ []))) others.0) first.2 others.2);
      separates = takes_separator sep.0 sep.2;
      same = bytes.same;
    }

-- and back

some_local : (xs : List ℕ) → (xs ≡ [] → ⊥) → (b : ℕ) × (rest : List ℕ) × (xs ≡ b ∷ rest)
some_local [] h = absurd (h refl)
some_local (b ∷ rest) h = (b, rest, refl)

matches_mailbox : (text d : List ℕ) → IsMailbox d text → MatchesIn (domain_tree d) text
matches_mailbox text d m =
    let i = length m.name in
    let tail = m.separator ∷ (m.host ++ 62 ∷ []) in
    let l = some_local m.local m.some in
    let b = l.0 in
    let xs = l.1 in
    let at0 : drop i text ≡ 60 ∷ (b ∷ (xs ++ tail)) =
    ap (drop i) m.parts ∙ drop_at m.name (60 ∷ (m.local ++ tail)) i refl ∙ ap (λ x. 60 ∷ (x ++ tail)) l.2 in
    let p0 = place_of text i 60 (b ∷ (xs ++ tail)) at0 in
    let p1 = place_of text (i + 1) b (xs ++ tail) p0.2 in
    let good = local_all (b ∷ xs) (ap has_closing (sym l.2) ∙ m.inside) in
    let parts = and_parts (takes (range true ((62, 62) ∷ [])) b) (list_all (takes (range true ((62, 62) ∷ []))) xs) good in
    let k = ((i + 1) + 1) + length xs in
    let at2 : drop k text ≡ tail = drop_past text ((i + 1) + 1) xs tail p1.2 in
    let p2 = place_of text k m.separator (m.host ++ 62 ∷ []) at2 in
    let e = (k + 1) + length m.host in
    let at3 : drop e text ≡ 62 ∷ [] = drop_past text (k + 1) m.host (62 ∷ []) p2.2 in
    let p3 = place_of text e 62 [] at3 in
    let end : e + 1 ≡ length text = omega (arith, p3.0, length-drop (e + 1) text, ap length p3.2) in
    let less : Matches text (followed nothing (symbol (byte 60))) i (i + 1) = (i, refl, symbol_from text (byte 60) i 60 (b ∷ (xs ++ tail)) at0 refl) in
    let local : Matches text (at_least_one local_part) (i + 1) k =
    ((i + 1) + 1, symbol_from text (range true ((62, 62) ∷ [])) (i + 1) b (xs ++ tail) p0.2 parts.0, chain_from text (range true ((62, 62) ∷ [])) ((i + 1) + 1) xs tail p1.2 parts.1) in
    let sep : Matches text separator_part k (k + 1) = symbol_from text (range false ((64, 64) ∷ (46, 46) ∷ [])) k m.separator (m.host ++ 62 ∷ []) at2 (separator_takes m.separator m.separates) in
    let address : Matches text address_tree i (k + 1) = (k, (i + 1, less, local), sep) in
    let bytes : Matches text (bytes_tree address_tree d) i e = bytes_from text address_tree d m.host (62 ∷ []) i (k + 1) address p2.2 m.same in
    let angle : Matches text (symbol (byte 62)) e (e + 1) = symbol_from text (byte 62) e 62 [] at3 refl in
    record { from = i; to = length text; within = omega (arith, p0.0); matches = (e + 1, (e, bytes, angle), (end, refl)) }

some_domain : (o : Option (List ℕ)) → IsSome o → (d : List ℕ) × (o ≡ Some d)
some_domain None h = absurd (false≢true h)
some_domain (Some d) h = (d, refl)

-- the domain form is one way to say what an expression says
pub domains_agree : (scope text : List ℕ) → IsSome (domain_of scope) → length scope ≤ 255 → Admits scope text ↔ IsInDomain scope text
domains_agree scope text some le =
    let s = some_domain (domain_of scope) some in (
      λ a.
          let same : Some a.tree ≡ Some (domain_tree s.0) = sym (reads-tree_of a.tree scope a.reads) ∙ reads_domain scope s.0 s.1 le in
          let is : a.tree ≡ domain_tree s.0 = cc in
          let P : Tree → Type 0 = λ x. Matches text x a.matches.from a.matches.to in
          record { domain = s.0; form = s.1; mailbox = mailbox_of text s.0 a.matches.from a.matches.to (subst P is a.matches.matches) },
      λ r. record { tree = domain_tree r.domain; reads = tree_of-reads (domain_tree r.domain) scope (reads_domain scope r.domain r.form le); matches = matches_mailbox text r.domain r.mailbox },
    )
