use Rattle.std.proofs.Common.{sym, ap}
use Rattle.post_lists.specs.Sets.{starts_below}
use Rattle.post_lists.proofs.Places.{seen_none, seen_some}
use Rattle.post_lists.proofs.term_list.cursor.Cursor.starts_below.Goals as goal

pub returns-in-Some : goal.returns-in-Some
returns-in-Some c =
    let i = c.self.inside in
    let left = seen_some i.passed i.list.now c.args.self.now i.head c.in-Some.head c.self.view_is c.self.invariant.next
    c.in-Some.is in
    ap (starts_below c.args.least) (sym left.1)

pub returns-in-None : goal.returns-in-None
returns-in-None c =
    let i = c.self.inside in
    let left = seen_none i.passed i.list.now c.args.self.now i.head c.self.view_is c.self.invariant.next c.in-None.is in
    ap (starts_below c.args.least) (sym left)
