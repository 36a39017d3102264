-- Whether a block follows words, by what they ask for.
use Rattle.std.proofs.Common.{◌≡◌, ℕ, Bool, true, false, List, [], ◌∷◌, length, if◌then◌else◌, Option, Some, None, Result, Ok, Err, codes, ap}
use Rattle.std.specs.Prelude.{nat_le}
use Rattle.wot_types.specs.declared.command_name.CommandName.{CommandName}
use Rattle.wot_types.specs.declared.command_name.CommandName.TheVariants as named
use Rattle.wot_types.specs.declared.edit.Edit.{Edit}
use Rattle.wot_types.specs.declared.head.Head.{Head}
use Rattle.wot_types.specs.declared.head.Head.TheVariants.{Edit as EditHead, Query as QueryHead, Import, Ownertrust}
use Rattle.wot_types.specs.declared.query.Query.{Query}
use Rattle.wot_types.specs.declared.query.Query.TheVariants.{List as ListAll, ListOne, Sigs, SigsOne, Suppose}
use Rattle.wot_types.specs.declared.refusal.Refusal.{Refusal}
use Rattle.wot_types.specs.declared.refusal.Refusal.TheVariants.{BadArgument}
use Rattle.wot_types.specs.Bytes.{is_word}
use Rattle.wot_types.specs.Grammar.{argument, at_head, at_list, at_list_one, at_why, command_name, command_of, date_head, has_block, head_if_named, names_block, one_or_all, options_head, set_head, suppose_head, supposed, unless_bad}

-- the commands that a block follows
abbrev pub takes : Head → Bool
takes Import = true
takes Ownertrust = true
takes _ = false

-- a command that is read asks for what its name says
is_same : (bad : Option ℕ) (h head : Head) → unless_bad bad h ≡ Ok head → h ≡ head
is_same None h head is = cc
is_same (Some n) h head is = cc

by_arguments : (bad : Option ℕ) (h head : Head) → unless_bad bad h ≡ Ok head → takes h ≡ takes head
by_arguments bad h head is = ap takes (is_same bad h head is)

by_one_or_all : (all : Query) (one : List ℕ → Query) (words : List (List ℕ)) (head : Head) → one_or_all all one words ≡ Ok head → false ≡ takes head
by_one_or_all all one [] head is = ap takes (is_same None (QueryHead all) head is)
by_one_or_all all one (word ∷ words) head is = by_arguments _ _ head is

by_supposed : (bad : Option ℕ) (edit : Edit) (head : Head) → supposed (unless_bad bad (EditHead edit)) ≡ Ok head → false ≡ takes head
by_supposed None edit head is = ap takes (is_same None (QueryHead (Suppose edit)) head is)
by_supposed (Some n) edit head is = cc

-- one of two readings
by_either : (b : Bool) (x y : Result Head Refusal) (head : Head) → (x ≡ Ok head → false ≡ takes head) → (y ≡ Ok head → false ≡ takes head)
    → (if b then x else y) ≡ Ok head → false ≡ takes head
by_either true x y head one other is = one is
by_either false x y head one other is = other is

by_suppose : (words : List (List ℕ)) (head : Head) → suppose_head words ≡ Ok head → false ≡ takes head
by_suppose [] head is = cc
by_suppose (name ∷ words) head is =
    by_either (is_word (codes "trust") name) (supposed (set_head words)) _ head (by_supposed _ _ head)
    (by_either (is_word (codes "date") name) (supposed (date_head words)) _ head (by_supposed _ _ head)
    (by_either (is_word (codes "options") name) (supposed (options_head words)) (Err (BadArgument 1)) head (by_supposed _ _ head) (λ bad. cc))) is

by_at : (words : List (List ℕ)) (head : Head) → at_head words ≡ Ok head → false ≡ takes head
by_at words head is =
    by_either (is_word (codes "why") (argument 1 words)) (at_why words) _ head (by_arguments _ _ head)
    (by_either (nat_le (length words) 2) (at_list words) (at_list_one words) head (by_arguments _ _ head) (by_arguments _ _ head)) is

by_name : (o : Option CommandName) (words : List (List ℕ)) (head : Head) → head_if_named o words ≡ Ok head → names_block o ≡ takes head
by_name None words head is = cc
by_name (Some named.Trust) words head is = by_arguments _ _ head is
by_name (Some named.Disable) words head is = by_arguments _ _ head is
by_name (Some named.Enable) words head is = by_arguments _ _ head is
by_name (Some named.Delete) words head is = by_arguments _ _ head is
by_name (Some named.Date) words head is = by_arguments _ _ head is
by_name (Some named.Options) words head is = by_arguments _ _ head is
by_name (Some named.Import) words head is = by_arguments _ _ head is
by_name (Some named.Ownertrust) words head is = by_arguments _ _ head is
by_name (Some named.Sample) words head is = by_arguments _ _ head is
by_name (Some named.List) words head is = by_one_or_all ListAll ListOne words head is
by_name (Some named.Sigs) words head is = by_one_or_all Sigs SigsOne words head is
by_name (Some named.Export) words head is = by_arguments _ _ head is
by_name (Some named.Why) words head is = by_arguments _ _ head is
by_name (Some named.Check) words head is = by_arguments _ _ head is
by_name (Some named.Suppose) words head is = by_suppose words head is
by_name (Some named.Critical) words head is = by_arguments _ _ head is
by_name (Some named.At) words head is = by_at words head is
by_name (Some named.Compact) words head is = by_arguments _ _ head is
by_name (Some named.Quit) words head is = by_arguments _ _ head is

pub by_head : (words : List (List ℕ)) (head : Head) → command_of words ≡ Ok head → has_block words ≡ takes head
by_head [] head is = cc
by_head (name ∷ words) head is = by_name (command_name name) words head is
