-- The code of a tree, for types that are seen as one: its table.
use Rattle.std.specs.Prelude.{List}
use Rattle.std.specs.Coded.{Coded, code_by, coded_list}
use Rattle.wot_types.specs.Expression.{Tree}
use Rattle.wot_regex.specs.Table.{nodes_of, tree_in, tree_in-nodes_of}
use Rattle.wot_regex.specs.declared.node.Node.{Node}
use Rattle.wot_regex.specs.contracts.node.Node as node_enum

abbrev pub tree_code : Coded Tree
tree_code = code_by (List Node) (coded_list node_enum.the_row.coded) nodes_of tree_in tree_in-nodes_of
