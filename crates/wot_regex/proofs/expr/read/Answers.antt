use Rattle.std.proofs.Common.{◌≡◌, ◌≤◌, Some, None, length, sym, ◌∙◌, arith}
use Rattle.wot_types.specs.ExpressionReading.{tree_of}
use Rattle.wot_regex.proofs.Completes.{reads-tree_of}
use Rattle.wot_regex.proofs.Sound.{tree_of-reads}
use Rattle.wot_regex.proofs.Takings.{tabled, untabled}
use Rattle.wot_regex.proofs.expr.read.Goals as goal

pub invariant_of-result : goal.invariant_of-result
invariant_of-result c =
    let le : length c.args.scope.now ≤ 255 = omega arith in
    (tabled c.args.scope.now c.in_ok-nodes.nodes le (sym c.in_ok-nodes.was ∙ c.read_nodes.ensures)).1

pub returns-in_err-nodes-clause-only : goal.returns-in_err-nodes-clause-only
returns-in_err-nodes-clause-only c = λ tree reads.
    let le : length c.args.scope.now ≤ 255 = omega arith in
    let none : tree_of c.args.scope.now ≡ None = untabled c.args.scope.now le (sym c.in_err-nodes.was ∙ c.read_nodes.ensures) in
    let some : tree_of c.args.scope.now ≡ Some tree = reads-tree_of tree c.args.scope.now reads in
    cc

pub returns-clause-value : goal.returns-clause-value
returns-clause-value c =
    let le : length c.args.scope.now ≤ 255 = omega arith in
    sym (tabled c.args.scope.now c.in_ok-nodes.nodes le (sym c.in_ok-nodes.was ∙ c.read_nodes.ensures)).0

pub returns-clause-found : goal.returns-clause-found
returns-clause-found c =
    let le : length c.args.scope.now ≤ 255 = omega arith in
    tree_of-reads _ c.args.scope.now (tabled c.args.scope.now c.in_ok-nodes.nodes le (sym c.in_ok-nodes.was ∙ c.read_nodes.ensures)).0

pub returns-clause-only : goal.returns-clause-only
returns-clause-only c = λ tree reads.
    let le : length c.args.scope.now ≤ 255 = omega arith in
    sym (tabled c.args.scope.now c.in_ok-nodes.nodes le (sym c.in_ok-nodes.was ∙ c.read_nodes.ensures)).0 ∙ reads-tree_of tree c.args.scope.now reads
