use Rattle.std.proofs.Common.{append_assoc}
use Rattle.journal_bodies.specs.Roots.{long}
use Rattle.journal_bodies.proofs.root_writing.put_numbers.Goals as goal

pub returns-clause-written : goal.returns-clause-written
unfolding long
returns-clause-written c =
    simp append_assoc
    (simp (
      c.in_ok-put_long-4.ensures,
      c.in_ok-put_long-3.ensures,
      c.in_ok-put_long-2.ensures,
      c.in_ok-put_long.ensures,
      append_assoc,
    ) at c.put_long-5.ensures)
