-- Expressions as tables: each part stands behind the parts that it is made of, and a range before its members.
use Rattle.std.specs.Prelude.{◌≡◌, ℕ, Bool, List, [], ◌∷◌, ◌++◌}
use Rattle.std.proofs.Common.{refl, sym, ap, ◌∙◌, append_assoc, append-nil}
use Rattle.wot_types.specs.Expression.{Symbol, Tree, any, any_number, at_least_one, at_most_one, byte, either, followed, nothing, range, symbol, text_end, text_start}
use Rattle.wot_regex.specs.declared.node.Node.{Node}
use Rattle.wot_regex.specs.declared.node.Node.TheVariants.{Any, AnyNumber, AtLeastOne, AtMostOne, Byte, Either, End, Followed, Member, Nothing, Range, Start}

abbrev pub member_nodes : List (ℕ × ℕ) → List Node
member_nodes [] = []
member_nodes (m ∷ ms) = Member m.0 m.1 ∷ member_nodes ms

abbrev pub symbol_nodes : Symbol → List Node
symbol_nodes any = Any ∷ []
symbol_nodes (byte b) = Byte b ∷ []
symbol_nodes (range negated members) = Range negated ∷ member_nodes members

abbrev pub nodes_of : Tree → List Node
nodes_of nothing = Nothing ∷ []
nodes_of (symbol x) = symbol_nodes x
nodes_of text_start = Start ∷ []
nodes_of text_end = End ∷ []
nodes_of (followed a b) = nodes_of a ++ (nodes_of b ++ Followed ∷ [])
nodes_of (either a b) = nodes_of a ++ (nodes_of b ++ Either ∷ [])
nodes_of (any_number a) = nodes_of a ++ AnyNumber ∷ []
nodes_of (at_least_one a) = nodes_of a ++ AtLeastOne ∷ []
nodes_of (at_most_one a) = nodes_of a ++ AtMostOne ∷ []

-- the trees that a table leaves, the last first
abbrev pub with_node : Node → List Tree → List Tree
with_node Nothing trees = nothing ∷ trees
with_node Start trees = text_start ∷ trees
with_node End trees = text_end ∷ trees
with_node Any trees = symbol any ∷ trees
with_node (Byte b) trees = symbol (byte b) ∷ trees
with_node (Range negated) trees = symbol (range negated []) ∷ trees
with_node (Member first last) (symbol (range negated members) ∷ trees) = symbol (range negated (members ++ (first, last) ∷ [])) ∷ trees
with_node Followed (b ∷ a ∷ trees) = followed a b ∷ trees
with_node Either (b ∷ a ∷ trees) = either a b ∷ trees
with_node AnyNumber (a ∷ trees) = any_number a ∷ trees
with_node AtLeastOne (a ∷ trees) = at_least_one a ∷ trees
with_node AtMostOne (a ∷ trees) = at_most_one a ∷ trees
with_node node trees = trees

abbrev pub trees_of : List Node → List Tree → List Tree
trees_of [] trees = trees
trees_of (node ∷ nodes) trees = trees_of nodes (with_node node trees)

abbrev pub last_tree : List Tree → Tree
last_tree [] = nothing
last_tree (a ∷ trees) = a

-- the tree of a table
abbrev pub tree_in : List Node → Tree
tree_in nodes = last_tree (trees_of nodes [])

-- a table has its tree

pub three : {A : Type 0} (xs ys zs ws : List A) → (xs ++ (ys ++ zs)) ++ ws ≡ xs ++ (ys ++ (zs ++ ws))
three xs ys zs ws = simp append_assoc

trees_members : (n : Bool) (acc ms : List (ℕ × ℕ)) (ns : List Node) (trees : List Tree) → trees_of (member_nodes ms ++ ns) (symbol (range n acc) ∷ trees) ≡ trees_of ns (symbol (range n (acc ++ ms)) ∷ trees)
trees_members n acc [] ns trees = ap (λ x. trees_of ns (symbol (range n x) ∷ trees)) (sym (append-nil acc))
trees_members n acc (m ∷ ms) ns trees = trees_members n (acc ++ m ∷ []) ms ns trees ∙ ap (λ x. trees_of ns (symbol (range n x) ∷ trees)) (append_assoc acc (m ∷ []) ms)

trees-nodes : (e : Tree) (ns : List Node) (trees : List Tree) → trees_of (nodes_of e ++ ns) trees ≡ trees_of ns (e ∷ trees)
trees-nodes nothing ns trees = refl
trees-nodes (symbol any) ns trees = refl
trees-nodes (symbol (byte b)) ns trees = refl
trees-nodes (symbol (range n ms)) ns trees = trees_members n [] ms ns trees
trees-nodes text_start ns trees = refl
trees-nodes text_end ns trees = refl
trees-nodes (followed a b) ns trees =
    ap (λ x. trees_of x trees) (three (nodes_of a) (nodes_of b) (Followed ∷ []) ns) ∙ trees-nodes a (nodes_of b ++ Followed ∷ ns) trees ∙ trees-nodes b (Followed ∷ ns) (a ∷ trees)
trees-nodes (either a b) ns trees =
    ap (λ x. trees_of x trees) (three (nodes_of a) (nodes_of b) (Either ∷ []) ns) ∙ trees-nodes a (nodes_of b ++ Either ∷ ns) trees ∙ trees-nodes b (Either ∷ ns) (a ∷ trees)
trees-nodes (any_number a) ns trees = ap (λ x. trees_of x trees) (append_assoc (nodes_of a) (AnyNumber ∷ []) ns) ∙ trees-nodes a (AnyNumber ∷ ns) trees
trees-nodes (at_least_one a) ns trees = ap (λ x. trees_of x trees) (append_assoc (nodes_of a) (AtLeastOne ∷ []) ns) ∙ trees-nodes a (AtLeastOne ∷ ns) trees
trees-nodes (at_most_one a) ns trees = ap (λ x. trees_of x trees) (append_assoc (nodes_of a) (AtMostOne ∷ []) ns) ∙ trees-nodes a (AtMostOne ∷ ns) trees

pub tree_in-nodes_of : (e : Tree) → tree_in (nodes_of e) ≡ e
tree_in-nodes_of e = ap (λ x. last_tree (trees_of x [])) (sym (append-nil (nodes_of e))) ∙ ap last_tree (trees-nodes e [] [])
