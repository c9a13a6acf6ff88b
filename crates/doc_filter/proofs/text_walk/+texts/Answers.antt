use Rattle.std.specs.Option.{option_copied}
use Rattle.doc_filter.proofs.TextLemmas.{text_in_items, text_in_members}
use Rattle.doc_filter.proofs.text_walk.+texts.Goals as goal

pub occurs_under-returns-in-Items : goal.occurs_under-returns-in-Items
occurs_under-returns-in-Items t c =
    rw (text_in_items c.args.any_case c.args.wanted.now (option_copied c.args.names) c.args.node.now c.in-Items.items
    (option_copied c.args.property) c.in-Items.is) c.occurs_in_items.ensures

pub occurs_under-returns-in-Members : goal.occurs_under-returns-in-Members
occurs_under-returns-in-Members t c =
    rw (text_in_members c.args.any_case c.args.wanted.now (option_copied c.args.names) c.args.node.now
    c.in-Members.members (option_copied c.args.property) c.in-Members.is) c.occurs_in_members.ensures
