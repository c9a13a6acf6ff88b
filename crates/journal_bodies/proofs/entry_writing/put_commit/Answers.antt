use Rattle.std.proofs.Common.{append_assoc}
use Rattle.journal_bodies.specs.Roots.{long}
use Rattle.journal_bodies.proofs.entry_writing.put_commit.Goals as goal

pub returns-clause-written : goal.returns-clause-written
unfolding long
returns-clause-written c =
    (simp (c.in_ok-put_long.ensures, c.in_ok-put_kind.ensures, append_assoc) at c.put_ops.ensures.written)
