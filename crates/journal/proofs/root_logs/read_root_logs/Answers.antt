use Rattle.std.proofs.Common.{[]}
use Rattle.journal.proofs.FourLogs.{four}
use Rattle.journal.proofs.ReadSteps.{read_earlier, read_later}
use Rattle.journal.proofs.root_logs.read_root_logs.Goals as goal

pub returns-clause-found : goal.returns-clause-found
returns-clause-found g c =
    let one = c.in_ok-first.ensures.found in
    let two = c.in_ok-second.ensures.found in
    record {
      bodies = four [] [] one.bodies two.bodies;
      first_read = read_later g.D.Disk 2 _ _ _ c.in_ok-first.first one.bodies c.read_roots-2.ensures.read one.read;
      second_read = read_earlier g.D.Disk 3 _ _ _ c.in_ok-second.second two.bodies c.read_roots.ensures.read two.read;
      first_roots = (one.newest.roots, one.newest.spelled);
      second_roots = (two.newest.roots, two.newest.spelled);
      newest = c.newest_root.ensures (four [] [] one.bodies two.bodies) one.newest two.newest;
    }
