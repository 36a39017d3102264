use Rattle.std.proofs.Common.{◌≡◌, ◌+◌, ◌-◌, ◌<◌, [], List, ℕ, get_or, ◌∙◌, sym, subst, arith}
use Rattle.std.proofs.lemmas.List.{get_or_default}
use Rattle.wot_regex.specs.States.{IsMove}
use Rattle.wot_regex.specs.declared.set.Set.{Set}
use Rattle.wot_regex.proofs.known.Known.noted.Goals as goal

pub returns-then-class-lt-FEW : goal.returns-then-class-lt-FEW
returns-then-class-lt-FEW c =
    let at = c.args.at in
    let class = c.args.class in
    let sets = c.args.self.now.masks.sets.items in
    let states = c.args.self.now.states.items in
    let moves = c.args.self.now.moves.items in
    let is = c.requires.moves in
    let row : c.index.result.now ≡ get_or moves at [] = c.index.ensures ∙ get_or_default moves at _ [] (omega (arith, is.rows, c.requires.there)) in
    let whole : 0 + class ≡ class = omega arith in
    let P : List ℕ → Type 0 = λ r. 0 < get_or r class 0 → (d : Set) → IsMove states at (get_or sets class d) (get_or r class 0) in
    let Q : ℕ → Type 0 = λ k. (d : Set) → IsMove states at (get_or sets k d) (get_or (get_or moves at []) class 0) in
    record { moves = subst P (sym row) (λ some. subst Q whole (λ d. is.each at class d some)) }

pub returns-then-class-lt-CLASSES : goal.returns-then-class-lt-CLASSES
returns-then-class-lt-CLASSES c =
    let at = c.args.at in
    let class = c.args.class in
    let sets = c.args.self.now.masks.sets.items in
    let states = c.args.self.now.states.items in
    let further = c.args.self.now.further.items in
    let is = c.requires.further in
    let row : c.index-then-class-lt-CLASSES.result.now ≡ get_or further at [] = c.index-then-class-lt-CLASSES.ensures ∙ get_or_default further at _ [] (omega (arith, is.rows, c.requires.there)) in
    let whole : 32 + (class - 32) ≡ class = omega (arith, c.if-class-lt-FEW.false) in
    let P : List ℕ → Type 0 = λ r. 0 < get_or r (class - 32) 0 → (d : Set) → IsMove states at (get_or sets class d) (get_or r (class - 32) 0) in
    let Q : ℕ → Type 0 = λ k. (d : Set) → IsMove states at (get_or sets k d) (get_or (get_or further at []) (class - 32) 0) in
    record { moves = subst P (sym row) (λ some. subst Q whole (λ d. is.each at (class - 32) d some)) }
