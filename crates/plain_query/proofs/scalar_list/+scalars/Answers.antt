use Rattle.std.specs.Option.{option_copied}
use Rattle.doc_meaning.proofs.ScalarLemmas.{scalars_items, scalars_members}
use Rattle.plain_query.proofs.scalar_list.+scalars.Goals as goal

pub add_scalars-returns-in-Items : goal.add_scalars-returns-in-Items
add_scalars-returns-in-Items t c =
    rw (scalars_items c.args.node.now c.in-Items.items (option_copied c.args.property) c.in-Items.is) c.add_items.ensures

pub add_scalars-returns-in-Members : goal.add_scalars-returns-in-Members
add_scalars-returns-in-Members t c =
    rw (scalars_members c.args.node.now c.in-Members.members (option_copied c.args.property) c.in-Members.is)
    c.add_members.ensures
