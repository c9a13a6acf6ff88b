use Rattle.std.proofs.Common.{◌≡◌, ◌-◌, ◌+◌, ◌*◌, []}
use Rattle.docs_format.specs.Answers.{HasNames}
use Rattle.docs_format.specs.Reading.{list_at, member_at, names, node_at}
use Rattle.docs_format.proofs.nodes.+reading.Given as goal

abbrev pub decreases-node_at : goal.decreases-node_at
decreases-node_at l = 3 * l.depth

abbrev pub decreases-items_at : goal.decreases-items_at
decreases-items_at l = 3 * l.depth + 2

abbrev pub decreases-members_at : goal.decreases-members_at
decreases-members_at l = 3 * l.depth + 2

abbrev pub decreases-member_at : goal.decreases-member_at
decreases-member_at l = 3 * l.depth + 1

abbrev pub invariant-items_at-loop : goal.invariant-items_at-loop
invariant-items_at-loop l =
    list_at (λ before. node_at l.depth) l.items (l.count - l.counter) l.reader ≡ list_at
    (λ before. node_at l.depth) [] l.count l.initial.reader

abbrev pub invariant-members_at-loop : goal.invariant-members_at-loop
invariant-members_at-loop l = record {
  total : list_at (member_at (node_at l.depth)) l.members (l.count - l.counter) l.reader
      ≡ list_at (member_at (node_at l.depth)) [] l.count l.initial.reader;
  seen : HasNames l.seen (names l.members);
}
