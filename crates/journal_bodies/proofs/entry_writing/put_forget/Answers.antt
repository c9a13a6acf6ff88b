use Rattle.std.proofs.Common.{append_assoc}
use Rattle.journal_bodies.specs.Roots.{long}
use Rattle.journal_bodies.proofs.entry_writing.put_forget.Goals as goal

pub returns : goal.returns
unfolding long
returns c =
    (simp (c.in_ok-put_long.ensures, c.in_ok-put_kind.ensures, append_assoc) at c.put_long-2.ensures)
