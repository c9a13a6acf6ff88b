use Rattle.std.proofs.Common.{◌≡◌, ◌+◌, ◌-◌, ◌*◌, length}
use Rattle.json_text.specs.Reading.{with_front, repeated, value_at, item_at, member_at}
use Rattle.json_text.proofs.value.+value.Given as goal

abbrev pub decreases-value : goal.decreases-value
decreases-value l = 5 * l.room

abbrev pub decreases-item : goal.decreases-item
decreases-item l = 5 * l.room + 1

abbrev pub decreases-member : goal.decreases-member
decreases-member l = 5 * l.room + 1

abbrev pub decreases-some_items : goal.decreases-some_items
decreases-some_items l = 5 * l.room + 2

abbrev pub decreases-some_members : goal.decreases-some_members
decreases-some_members l = 5 * l.room + 2

abbrev pub decreases-items : goal.decreases-items
decreases-items l = 5 * l.room + 3

abbrev pub decreases-members : goal.decreases-members
decreases-members l = 5 * l.room + 3

abbrev pub decreases-nested : goal.decreases-nested
decreases-nested l = 5 * l.room + 4

abbrev pub invariant-some_items-loop : goal.invariant-some_items-loop
invariant-some_items-loop l = with_front l.items.items
    (repeated (item_at (value_at l.room)) (length l.bytes - l.counter) l.rest) ≡ repeated (item_at (value_at l.room))
    (length l.bytes) l.bytes

abbrev pub invariant-some_members-loop : goal.invariant-some_members-loop
invariant-some_members-loop l = with_front l.members.items
    (repeated (member_at (value_at l.room)) (length l.bytes - l.counter) l.rest) ≡ repeated
    (member_at (value_at l.room)) (length l.bytes) l.bytes
