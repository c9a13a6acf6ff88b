use Rattle.std.proofs.Common.{true, ◌≡◌, ap, ◌∙◌}
use Rattle.cts_meaning.specs.Canonical.{has_distances}
use Rattle.cts_text.proofs.Folded.{distances_and, distances_near, distances_or}
use Rattle.cts_text.proofs.Members.{on_ok}
use Rattle.cts_text.proofs.node_of.+node_of.Goals as goal

pub node_of-returns-in_ok-each_node-in-And-clause-distances : goal.node_of-returns-in_ok-each_node-in-And-clause-distances
node_of-returns-in_ok-each_node-in-And-clause-distances t c =
    on_ok c.node-in-And.result (has_distances c.args.query.now ≡ true)
    (ap has_distances c.in-And.is ∙ distances_and c.in-And.queries ∙ c.in_ok-each_node-in-And.ensures.distances)

pub node_of-returns-in_ok-each_node-in-Or-clause-distances : goal.node_of-returns-in_ok-each_node-in-Or-clause-distances
node_of-returns-in_ok-each_node-in-Or-clause-distances t c =
    on_ok c.node-in-Or.result (has_distances c.args.query.now ≡ true)
    (ap has_distances c.in-Or.is ∙ distances_or c.in-Or.queries ∙ c.in_ok-each_node-in-Or.ensures.distances)

pub node_of-returns-in_ok-each_node-in-Near-clause-distances : goal.node_of-returns-in_ok-each_node-in-Near-clause-distances
node_of-returns-in_ok-each_node-in-Near-clause-distances t c =
    on_ok c.node-in-Near.result (has_distances c.args.query.now ≡ true)
    (ap has_distances c.in-Near.is ∙ distances_near c.in-Near.queries c.in-Near.distance c.in-Near.ordered
    c.node-in-Near.ensures.near c.in_ok-each_node-in-Near.ensures.distances)
