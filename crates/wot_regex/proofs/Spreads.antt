-- One part more on the way back.
use Rattle.std.proofs.Common.{◌≡◌, ℕ, ◌+◌, ◌-◌, ◌<◌, ◌≤◌, Bool, List, [], ◌∷◌, length, get_or, set, take, drop, sym, ap, ap₂, ◌∙◌, subst, arith}
use Rattle.std.proofs.lemmas.List.{drop-set, drop_more, get_or-take, take-set, take-take}
use Rattle.wot_regex.specs.Gathering.{Back, all_spread, back_at, back_start, spread_by}
use Rattle.wot_regex.specs.Reaching.{below}
use Rattle.wot_regex.specs.declared.node.Node.{Node}
use Rattle.wot_regex.specs.declared.node.Node.TheVariants.{Any, AnyNumber, AtLeastOne, AtMostOne, Byte, Either, End, Followed, Member, Nothing, Range, Start}
use Rattle.wot_regex.specs.declared.reach.Reach.{Reach}

module _ (b : ℕ) (nodes : List Node) (before cells : List Reach) (i : ℕ) (some : 0 < i) (le : i ≤ length nodes) (same : length cells ≡ length nodes) (former : length before ≡ length nodes) (rest : take i cells ≡ take i before) where
  pub spread_step : (entries entries' : List Reach) (member member' : Bool) (result : Reach) (dn : Node) (dc : Reach)
      → back_at entries member (drop i cells) ≡ all_spread b (drop i nodes) (drop i before) back_start
      → back_at entries' member' (result ∷ drop i cells) ≡ spread_by b (get_or nodes (i - 1) dn) (get_or cells (i - 1) dc) (back_at entries member (drop i cells))
      → back_at entries' member' (drop (i - 1) (set cells (i - 1) result)) ≡ all_spread b (drop (i - 1) nodes) (drop (i - 1) before) back_start
  spread_step entries entries' member member' result dn dc inv e =
      let up : (i - 1) + 1 ≡ i = omega arith in
      let lt : i - 1 < i = omega arith in
      let in_nodes : i - 1 < length nodes = omega arith in
      let in_cells : i - 1 < length cells = omega arith in
      let in_before : i - 1 < length before = omega arith in
      let cell : get_or cells (i - 1) dc ≡ get_or before (i - 1) dc = sym (get_or-take i cells (i - 1) dc lt) ∙ ap (λ xs. get_or xs (i - 1) dc) rest ∙ get_or-take i before (i - 1) dc lt in
      let ns : drop (i - 1) nodes ≡ get_or nodes (i - 1) dn ∷ drop i nodes = drop_more nodes (i - 1) dn in_nodes ∙ ap (λ k. get_or nodes (i - 1) dn ∷ drop k nodes) up in
      let cs : drop (i - 1) before ≡ get_or before (i - 1) dc ∷ drop i before = drop_more before (i - 1) dc in_before ∙ ap (λ k. get_or before (i - 1) dc ∷ drop k before) up in
      let new : drop (i - 1) (set cells (i - 1) result) ≡ result ∷ drop i cells = drop-set cells (i - 1) result in_cells ∙ ap (λ k. result ∷ drop k cells) up in
      ap (back_at entries' member') new
      ∙ e
      ∙ ap (λ x. spread_by b (get_or nodes (i - 1) dn) x (back_at entries member (drop i cells))) cell
      ∙ ap (spread_by b (get_or nodes (i - 1) dn) (get_or before (i - 1) dc)) inv
      ∙ sym (ap₂ (λ x y. all_spread b x y back_start) ns cs)

  pub spread_rest : (result : Reach) → take (i - 1) (set cells (i - 1) result) ≡ take (i - 1) before
  spread_rest result =
      let le1 : i - 1 ≤ i = omega arith in
      take-set cells (i - 1) result ∙ sym (take-take (i - 1) i cells le1) ∙ ap (take (i - 1)) rest ∙ take-take (i - 1) i before le1

-- at most one entry more

below_few : (m : ℕ) (st : List Reach) → length st ≤ m → 1 ≤ m → length (below st) + 1 ≤ m
below_few m [] h k = omega arith
below_few m (x ∷ st) h k = omega arith

pub spread_few : (b m : ℕ) (node : Node) (cell : Reach) (back : Back) → length back.entries ≤ m → 1 ≤ m → length (spread_by b node cell back).entries ≤ m + 1
spread_few b m Nothing cell back h k = omega (arith, below_few m back.entries h k)
spread_few b m Start cell back h k = omega (arith, below_few m back.entries h k)
spread_few b m End cell back h k = omega (arith, below_few m back.entries h k)
spread_few b m Any cell back h k = omega (arith, below_few m back.entries h k)
spread_few b m (Byte a) cell back h k = omega (arith, below_few m back.entries h k)
spread_few b m (Range n) cell back h k = omega (arith, below_few m back.entries h k)
spread_few b m (Member f l) cell back h k = omega arith
spread_few b m Followed cell back h k = omega (arith, below_few m back.entries h k)
spread_few b m Either cell back h k = omega (arith, below_few m back.entries h k)
spread_few b m AnyNumber cell back h k = omega (arith, below_few m back.entries h k)
spread_few b m AtLeastOne cell back h k = omega (arith, below_few m back.entries h k)
spread_few b m AtMostOne cell back h k = omega (arith, below_few m back.entries h k)

pub spread_few_by : (b m : ℕ) (node : Node) (cell : Reach) (back : Back) (entries : List Reach) (member : Bool) (cells : List Reach) → back_at entries member cells ≡ spread_by b node cell back → length back.entries ≤ m → 1 ≤ m → length entries ≤ m + 1
spread_few_by b m node cell back entries member cells e h k =
    let P : ℕ → Type 0 = λ n. n ≤ m + 1 in
    subst P (sym (ap (λ (x : Back). length x.entries) e)) (spread_few b m node cell back h k)
