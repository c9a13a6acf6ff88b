use Rattle.std.specs.Option.{option_copied}
use Rattle.doc_filter.specs.Scalars.{passes}
use Rattle.doc_filter.proofs.ScalarLemmas.{named_items, named_members}
use Rattle.doc_filter.proofs.scalar_walk.+scalars.Goals as goal

pub some_passes-returns-in-Items : goal.some_passes-returns-in-Items
some_passes-returns-in-Items t c =
    rw (named_items c.args.names.now (passes c.args.test.now) c.args.node.now c.in-Items.items
    (option_copied c.args.property) c.in-Items.is) c.some_item_passes.ensures

pub some_passes-returns-in-Members : goal.some_passes-returns-in-Members
some_passes-returns-in-Members t c =
    rw (named_members c.args.names.now (passes c.args.test.now) c.args.node.now c.in-Members.members
    (option_copied c.args.property) c.in-Members.is) c.some_member_passes.ensures
