use Rattle.std.proofs.Common.{◌≡◌, ◌<◌, ◌==◌, length, get_or, drop}
use Rattle.wot_types.specs.Scope.{matches_in}
use Rattle.wot_types.specs.Expression.{Tree}
use Rattle.wot_regex.specs.States.{IsKnown}
use Rattle.wot_regex.specs.Table.{nodes_of}
use Rattle.wot_regex.specs.declared.known.State.{State}
use Rattle.wot_regex.proofs.Followings.{Going}
use Rattle.wot_regex.proofs.known.Known.matches.Given as goal

-- the rest decides
abbrev pub invariant-loop-i : goal.invariant-loop-i
invariant-loop-i l = record {
  known : IsKnown l.nodes l.self;
  there : l.at < length l.self.states.items;
  rest : (tree : Tree) (d : State) → l.nodes ≡ nodes_of tree → Going tree l.nodes (l.at == 0) (get_or l.self.states.items l.at d).marks.words (drop l.i l.text) (matches_in tree l.text);
}
