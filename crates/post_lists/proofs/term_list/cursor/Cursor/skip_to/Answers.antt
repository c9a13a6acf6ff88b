use Rattle.std.proofs.Common.{sym, ◌∙◌}
use Rattle.post_lists.proofs.Jumps.{passes_all}
use Rattle.post_lists.proofs.term_list.cursor.Cursor.skip_to.Goals as goal

pub returns : goal.returns
returns c =
    sym (passes_all c.args.least c.loop-self.self c.loop-self.invariant.rising
    (sym c.starts_below.ensures ∙ c.loop-self-test.false))
    ∙ c.loop-self.invariant.same
