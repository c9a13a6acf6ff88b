use Rattle.std.proofs.Common.{drop, sym, ap, ◌∙◌}
use Rattle.std.proofs.lemmas.List.{drop-drop}
use Rattle.post_lists.proofs.Places.{seen_none}
use Rattle.post_lists.proofs.term_list.cursor.Cursor.advance.Goals as goal

pub returns-in-Some : goal.returns-in-Some
returns-in-Some c =
    let i = c.self.inside in
    c.self-in-Some.view_is ∙ c.at.ensures ∙ sym (drop-drop 1 i.passed i.list.now) ∙ ap (drop 1) c.self.view_is

pub returns-in_default : goal.returns-in_default
returns-in_default c =
    let i = c.self.inside in
    let none = seen_none i.passed i.list.now c.args.self.now i.head c.self.view_is c.self.invariant.next
    c.in_default.is in
    none ∙ ap (drop 1) (sym none)
