use Rattle.std.proofs.Common.{[]}
use Rattle.journal.proofs.FourLogs.{four}
use Rattle.journal.proofs.ReadSteps.{read_earlier, read_later}
use Rattle.journal.proofs.journals.read_journals.Goals as goal

pub returns-clause-found : goal.returns-clause-found
returns-clause-found g c =
    let one = c.in_ok-first.ensures.found in
    let two = c.in_ok-second.ensures.found in
    record {
      bodies = four one.bodies two.bodies [] [];
      first_read = read_later g.D.Disk 0 _ _ _ c.in_ok-first.first one.bodies c.read_entries-2.ensures.read one.read;
      second_read = read_earlier g.D.Disk 1 _ _ _ c.in_ok-second.second two.bodies c.read_entries.ensures.read
          two.read;
      first_entries = one.has;
      second_entries = two.has;
    }
