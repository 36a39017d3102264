use Rattle.std.proofs.Common.{◌≡◌, Bool, false, List, drop, length}
use Rattle.wot_types.specs.Expression.{Tree}
use Rattle.wot_regex.specs.Following.{Holds, IsMasks, Keeps}
use Rattle.wot_regex.specs.Searching.{Searching}
use Rattle.wot_regex.specs.Table.{nodes_of}
use Rattle.wot_regex.specs.declared.reach.Reach.{Reach}
use Rattle.wot_regex.proofs.Followings.{Going}
use Rattle.wot_regex.proofs.search.search_from.Given as goal

-- the rest decides
abbrev pub invariant-loop-b : goal.invariant-loop-b
invariant-loop-b l = record {
  masks : IsMasks l.nodes l.masks;
  kept : Keeps l.fn.masks.sets.items l.masks.sets.items;
  rest :
      (tree : Tree) (cells : List Reach) (found : Bool) → l.nodes ≡ nodes_of tree → length cells ≡ length l.nodes → Holds l.fn.marks.words cells → Searching tree cells false l.rest found
      → Going tree l.nodes false l.marks.words (drop l.b-index l.rest) found;
}
