use Rattle.std.proofs.Common.{◌≡◌, Bool, false, List, drop, length}
use Rattle.wot_types.specs.Expression.{Tree}
use Rattle.wot_regex.specs.Following.{Holds}
use Rattle.wot_regex.specs.Searching.{Searching}
use Rattle.wot_regex.specs.Table.{nodes_of}
use Rattle.wot_regex.specs.declared.reach.Reach.{Reach}
use Rattle.wot_regex.proofs.Followings.{Going}
use Rattle.wot_regex.proofs.followers.search_sets.Given as goal

-- the rest decides
abbrev pub invariant-loop-b : goal.invariant-loop-b
invariant-loop-b l = (tree : Tree) (cells : List Reach) (found : Bool) → l.nodes ≡ nodes_of tree → length cells ≡ length l.nodes → Holds l.fn.marks.words cells → Searching tree cells false l.rest found
    → Going tree l.nodes false l.marks.words (drop l.b-index l.rest) found
