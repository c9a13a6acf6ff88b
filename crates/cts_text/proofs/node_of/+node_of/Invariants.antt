use Rattle.std.proofs.Common.{◌≡◌, map, take, true}
use Rattle.std.specs.List.{list_all}
use Rattle.cts_meaning.specs.Canonical.{has_distances, query_node}
use Rattle.cts_text.proofs.node_of.+node_of.Given as goal

abbrev pub invariant-each_node-loop-query : goal.invariant-each_node-loop-query
invariant-each_node-loop-query l = record {
  nodes : l.nodes ≡ map query_node (take l.query-index l.queries);
  distances : list_all has_distances (take l.query-index l.queries) ≡ true;
}
