use Rattle.std.proofs.Common.{◌≡◌, drop, Bool}
use Rattle.wot_types.specs.Expression.{Tree}
use Rattle.wot_regex.specs.Searching.{Searching}
use Rattle.wot_regex.specs.Table.{nodes_of}
use Rattle.wot_regex.proofs.matching.search_by_walks.Given as goal

-- the rest decides
abbrev pub invariant-loop-b : goal.invariant-loop-b
invariant-loop-b l =
    (tree : Tree) (found : Bool) → l.nodes ≡ nodes_of tree → Searching tree l.fn.cells l.fn.start l.rest found
    → Searching tree l.cells l.start (drop l.b-index l.rest) found
