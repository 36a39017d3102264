use Rattle.std.proofs.Common.{◌≡◌, take}
use Rattle.wot_regex.specs.Following.{opened}
use Rattle.wot_regex.proofs.followers.opened.Given as goal

abbrev pub invariant-loop-node : goal.invariant-loop-node
invariant-loop-node l = l.table ≡ opened (take l.node-index l.nodes)
