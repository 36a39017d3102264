-- One byte of the text more.
use Rattle.std.proofs.Common.{◌≡◌, ℕ, ◌+◌, ◌<◌, ◌≤◌, Bool, true, false, ◌||◌, List, [], ◌∷◌, length, get_or, drop, replicate, take, refl, sym, ap, ap₂, ◌∙◌, subst}
use Rattle.std.proofs.lemmas.Bool.{or_left}
use Rattle.std.proofs.lemmas.List.{drop_all, drop_more, take-replicate}
use Rattle.wot_types.specs.Scope.{matches_in}
use Rattle.wot_types.specs.Expression.{Tree}
use Rattle.wot_types.specs.ExpressionMarks.{Marks, accepts, finds, shifted, unmarked}
use Rattle.wot_regex.specs.Table.{nodes_of}
use Rattle.wot_regex.specs.Cells.{cells_of}
use Rattle.wot_regex.specs.Reaching.{exits, nowhere, top}
use Rattle.wot_regex.specs.Searching.{Searching}
use Rattle.wot_regex.specs.Gathering.{all_gathered, all_noted, all_spread, back_start}
use Rattle.wot_regex.specs.declared.node.Node.{Node}
use Rattle.wot_regex.specs.declared.reach.Place.{Place}
use Rattle.wot_regex.specs.declared.reach.Reach.{Reach}
use Rattle.wot_regex.proofs.Tables.{blank_tree, gather_whole, note_whole, spread_whole}

module _ (tree : Tree) (nodes : List Node) (cells : List Reach) (start end : Bool) (is_tree : nodes ≡ nodes_of tree) where
  pub exits_tree : (marks : Marks tree) (r : Reach) → cells ≡ cells_of tree marks → r ≡ top (all_gathered (record { start = start; end = end }) nodes cells []) → exits r true ≡ accepts start end tree marks
  exits_tree marks r is e =
      ap (λ x. exits x true) (e ∙ ap top (ap₂ (λ x y. all_gathered (record { start = start; end = end }) x y []) is_tree is ∙ gather_whole (record { start = start; end = end }) tree marks))

  pub moved_tree : (b : ℕ) (marks : Marks tree) (noted moved : List Reach) → cells ≡ cells_of tree marks → noted ≡ all_noted (record { start = start; end = end }) nodes cells [] → moved ≡ (all_spread b nodes noted back_start).cells
      → moved ≡ cells_of tree (shifted start end b true tree marks)
  moved_tree b marks noted moved is e f =
      let place : Place = record { start = start; end = end } in
      f
      ∙ ap₂ (λ x y. (all_spread b x y back_start).cells) is_tree (e ∙ ap₂ (λ x y. all_noted place x y []) is_tree is ∙ note_whole place tree marks)
      ∙ spread_whole place b tree marks

-- a match ends here
pub found_here : (tree : Tree) (nodes : List Node) (cells : List Reach) (start : Bool) (b : ℕ) (rest : List ℕ) (found : Bool) (r : Reach) → nodes ≡ nodes_of tree → Searching tree cells start (b ∷ rest) found
    → r ≡ top (all_gathered (record { start = start; end = false }) nodes cells []) → exits r true ≡ true → true ≡ found
found_here tree nodes cells start b rest found r is_tree s e h =
    sym (or_left (accepts start false tree s.marks) (finds false tree (shifted start false b true tree s.marks) rest) (sym (exits_tree tree nodes cells start false is_tree s.marks r s.is e) ∙ h)) ∙ s.finds

-- none ends here
pub search_on : (tree : Tree) (nodes : List Node) (cells noted moved : List Reach) (start : Bool) (b : ℕ) (rest : List ℕ) (found : Bool) (r : Reach) → nodes ≡ nodes_of tree → Searching tree cells start (b ∷ rest) found
    → r ≡ top (all_gathered (record { start = start; end = false }) nodes cells []) → exits r true ≡ false → noted ≡ all_noted (record { start = start; end = false }) nodes cells []
    → moved ≡ (all_spread b nodes noted back_start).cells → Searching tree moved false rest found
search_on tree nodes cells noted moved start b rest found r is_tree s e h f g = record {
  marks = shifted start false b true tree s.marks;
  is = moved_tree tree nodes cells start false is_tree b s.marks noted moved s.is f g;
  finds =
      ap (λ t. t || finds false tree (shifted start false b true tree s.marks) rest) (sym h ∙ exits_tree tree nodes cells start false is_tree s.marks r s.is e)
      ∙ s.finds;
}

-- the end of the text
pub found_at_end : (tree : Tree) (nodes : List Node) (cells : List Reach) (start : Bool) (found : Bool) (r : Reach) → nodes ≡ nodes_of tree → Searching tree cells start [] found
    → r ≡ top (all_gathered (record { start = start; end = true }) nodes cells []) → exits r true ≡ found
found_at_end tree nodes cells start found r is_tree s e = exits_tree tree nodes cells start true is_tree s.marks r s.is e ∙ s.finds

-- the next byte
pub at_byte : (tree : Tree) (nodes : List Node) (cells : List Reach) (start : Bool) (text : List ℕ) (i : ℕ) (found : Bool) → i < length text → Searching tree cells start (drop i text) found → Searching tree cells start (get_or text i 0 ∷ drop (i + 1) text) found
at_byte tree nodes cells start text i found lt s = let P : List ℕ → Type 0 = λ x. Searching tree cells start x found in subst P (drop_more text i 0 lt) s

pub at_text_end : (tree : Tree) (nodes : List Node) (cells : List Reach) (start : Bool) (text : List ℕ) (i : ℕ) (found : Bool) → length text ≤ i → Searching tree cells start (drop i text) found → Searching tree cells start [] found
at_text_end tree nodes cells start text i found le s = let P : List ℕ → Type 0 = λ x. Searching tree cells start x found in subst P (drop_all i text le) s

-- the table of a tree without marks, made of a longer one
pub opening : (tree : Tree) (text : List ℕ) (nodes : List Node) → nodes ≡ nodes_of tree → length nodes ≤ 769 → Searching tree (take (length nodes) (replicate 769 nowhere)) true text (matches_in tree text)
opening tree text nodes is room = record {
  marks = unmarked tree;
  is = take-replicate (length nodes) 769 nowhere room ∙ ap (λ ns. replicate (length ns) nowhere) is ∙ blank_tree tree;
  finds = refl;
}

pub searched : (tree : Tree) (text : List ℕ) (nodes : List Node) (found : Bool) → nodes ≡ nodes_of tree → length nodes ≤ 769
    → ((t : Tree) (f : Bool) → nodes ≡ nodes_of t → Searching t (take (length nodes) (replicate 769 nowhere)) true text f → found ≡ f) → found ≡ matches_in tree text
searched tree text nodes found is room finds = finds tree (matches_in tree text) is (opening tree text nodes is room)
