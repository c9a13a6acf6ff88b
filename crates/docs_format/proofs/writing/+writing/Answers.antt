use Rattle.std.proofs.Common.{append_assoc, arith}
use Rattle.docs_format.proofs.Trees.{length-items, length-members, spell_items, spell_members, values_items}
use Rattle.docs_format.proofs.Trees.{values_members}
use Rattle.docs_format.proofs.writing.+writing.Goals as goal

pub put_items-put_count-requires : goal.put_items-put_count-requires
put_items-put_count-requires t c = omega (arith, c.len.ensures, length-items c.args.list.now)

pub put_members-put_count-requires : goal.put_members-put_count-requires
put_members-put_count-requires t c = omega (arith, c.len.ensures, length-members c.args.list.now)

pub put_node-returns-in_ok-put_kind-in-Items-clause-written : goal.put_node-returns-in_ok-put_kind-in-Items-clause-written
put_node-returns-in_ok-put_kind-in-Items-clause-written t c =
    rw (c.in-Items.is, spell_items c.in-Items.list)
    (rw (c.in_ok-put_kind-in-Items.ensures, append_assoc) at c.put_items.ensures.written)

pub put_node-returns-in_ok-put_kind-in-Items-clause-values : goal.put_node-returns-in_ok-put_kind-in-Items-clause-values
put_node-returns-in_ok-put_kind-in-Items-clause-values t c =
    rw (c.in-Items.is, values_items c.in-Items.list) c.put_items.ensures.values

pub put_node-returns-in_ok-put_kind-in-Members-clause-written : goal.put_node-returns-in_ok-put_kind-in-Members-clause-written
put_node-returns-in_ok-put_kind-in-Members-clause-written t c =
    rw (c.in-Members.is, spell_members c.in-Members.list)
    (rw (c.in_ok-put_kind-in-Members.ensures, append_assoc) at c.put_members.ensures.written)

pub put_node-returns-in_ok-put_kind-in-Members-clause-values : goal.put_node-returns-in_ok-put_kind-in-Members-clause-values
put_node-returns-in_ok-put_kind-in-Members-clause-values t c =
    rw (c.in-Members.is, values_members c.in-Members.list) c.put_members.ensures.values
