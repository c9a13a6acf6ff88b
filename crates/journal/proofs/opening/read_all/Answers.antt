use Rattle.std.proofs.Common.{◌≡◌, Some}
use Rattle.frame_log.proofs.ReadLemmas.{if_some, if_some_both, if_some_three}
use Rattle.frame_log.specs.LogStates.{IsUp, IsWithin}
use Rattle.directory_reading.specs.Reading.{IsNewestRoot}
use Rattle.journal.proofs.AllReads.{entries_in, reads_all, roots_in}
use Rattle.journal.proofs.FourLogs.{four, four_have, newest_beside}
use Rattle.journal.proofs.ReadSteps.{read_earlier, read_later}
use Rattle.journal.proofs.RefusedReads.{failed_by, files_blame, files_unread, horizon_unread, if_some_four, journals_unread, newest_there, roots_unread, turns_unread}
use Rattle.journal.proofs.ToldReads.{Replayed}
use Rattle.journal.proofs.opening.read_all.Goals as goal

pub returns-in_err-first-clause-refused : goal.returns-in_err-first-clause-refused
returns-in_err-first-clause-refused g c =
    failed_by c.from_residual.result _ _ c.from_residual.ensures.1
    (if_some (g.D.Disk.seen c.args.disk.now) c.in_err-first.ensures.refused
    (λ image why. roots_unread image c.in_err-first.field-0.0 why))

pub returns-in_err-check_files-clause-refused : goal.returns-in_err-check_files-clause-refused
returns-in_err-check_files-clause-refused g c =
    let found = c.in_ok-first.ensures.found in
    let newest = c.in_ok-newest.newest in
    let there : c.in_ok-first.field-0.newest ≡ Some newest =
    cc c.in_ok-newest.ensures.ok_part in
    let is : IsNewestRoot found.bodies newest = newest_there found.bodies _ _ newest there found.newest in
    failed_by c.from_residual-in_err-check_files.result c.in_err-check_files.field-0.0 _
    c.from_residual-in_err-check_files.ensures.1
    (if_some_both (g.D.Disk.seen c.args.disk.now) found.first_read.frames found.second_read.frames
    (λ image root_0 root_1. files_unread image found.bodies root_0 root_1 newest is c.in_err-check_files.field-0.0
    c.in_err-check_files.ensures.some))

pub returns-in_err-check_files-clause-cause : goal.returns-in_err-check_files-clause-cause
returns-in_err-check_files-clause-cause g c =
    files_blame c.in_ok-newest.newest.files c.in_ok-newest.newest.file c.in_err-check_files.field-0.0
    c.from_residual-in_err-check_files.result _ _ c.read_root_logs.ensures.cause.later
    c.in_err-check_files.ensures.some c.from_residual-in_err-check_files.ensures.1

pub returns-in_err-logs-clause-refused : goal.returns-in_err-logs-clause-refused
returns-in_err-logs-clause-refused g c =
    let found = c.in_ok-first.ensures.found in
    let newest = c.in_ok-newest.newest in
    let there : c.in_ok-first.field-0.newest ≡ Some newest =
    cc c.in_ok-newest.ensures.ok_part in
    let is : IsNewestRoot found.bodies newest = newest_there found.bodies _ _ newest there found.newest in
    failed_by c.from_residual-in_err-logs.result _ _ c.from_residual-in_err-logs.ensures.1
    (if_some_three (g.D.Disk.seen c.args.disk.now) found.first_read.frames found.second_read.frames
    (rw c.read_root_logs.ensures.read.same at c.in_err-logs.ensures.refused)
    (λ image root_0 root_1 why. journals_unread image found.bodies root_0 root_1 newest is
    c.in_err-logs.field-0.0 why))

pub returns-in_err-replay-clause-refused : goal.returns-in_err-replay-clause-refused
returns-in_err-replay-clause-refused g c =
    let found = c.in_ok-first.ensures.found in
    let read = c.in_ok-logs.ensures.found in
    let logs = c.in_ok-logs.logs in
    let newest = c.in_ok-newest.newest in
    let bodies = four (read.bodies 0) (read.bodies 1) (found.bodies 2) (found.bodies 3) in
    let there : c.in_ok-first.field-0.newest ≡ Some newest =
    cc c.in_ok-newest.ensures.ok_part in
    let is : IsNewestRoot found.bodies newest = newest_there found.bodies _ _ newest there found.newest in
    let beside : IsNewestRoot bodies newest =
    newest_beside (read.bodies 0) (read.bodies 1) found.bodies newest is in
    let only = c.read_root_logs.ensures.read in
    let journal_0 = read_earlier g.D.Disk 0 _ _ _ logs.first (read.bodies 0) only read.first_read in
    let journal_1 = read_earlier g.D.Disk 1 _ _ _ logs.second (read.bodies 1) only read.second_read in
    failed_by c.from_residual-in_err-replay.result _ _ c.from_residual-in_err-replay.ensures.1
    (if_some_four (g.D.Disk.seen c.args.disk.now) journal_0.frames journal_1.frames found.first_read.frames
    found.second_read.frames
    (λ image has_0 has_1 has_2 has_3. turns_unread image bodies has_2 has_3 newest beside
    (four_have image bodies has_0 has_1 has_2 has_3) c.in_err-replay.field-0.0
    (c.in_err-replay.ensures bodies read.first_entries read.second_entries)))

pub returns-in_err-check_horizon-clause-refused : goal.returns-in_err-check_horizon-clause-refused
returns-in_err-check_horizon-clause-refused g c =
    let found = c.in_ok-first.ensures.found in
    let read = c.in_ok-logs.ensures.found in
    let logs = c.in_ok-logs.logs in
    let newest = c.in_ok-newest.newest in
    let bodies = four (read.bodies 0) (read.bodies 1) (found.bodies 2) (found.bodies 3) in
    let there : c.in_ok-first.field-0.newest ≡ Some newest =
    cc c.in_ok-newest.ensures.ok_part in
    let is : IsNewestRoot found.bodies newest = newest_there found.bodies _ _ newest there found.newest in
    let beside : IsNewestRoot bodies newest =
    newest_beside (read.bodies 0) (read.bodies 1) found.bodies newest is in
    let replay = c.in_ok-replay.replay in
    let told : Replayed bodies newest.root replay = record {
      entries_0 = logs.entries_0.entries.items;
      entries_1 = logs.entries_1.entries.items;
      first_journal = read.first_entries.journal;
      second_journal = read.second_entries.journal;
      replays = c.in_ok-replay.ensures bodies read.first_entries read.second_entries;
    } in
    let only = c.read_root_logs.ensures.read in
    let journal_0 = read_earlier g.D.Disk 0 _ _ _ logs.first (read.bodies 0) only read.first_read in
    let journal_1 = read_earlier g.D.Disk 1 _ _ _ logs.second (read.bodies 1) only read.second_read in
    failed_by c.from_residual-in_err-check_horizon.result c.in_err-check_horizon.field-0.0 _
    c.from_residual-in_err-check_horizon.ensures.1
    (if_some_four (g.D.Disk.seen c.args.disk.now) journal_0.frames journal_1.frames found.first_read.frames
    found.second_read.frames
    (λ image has_0 has_1 has_2 has_3. horizon_unread image bodies has_2 has_3 newest beside
    (four_have image bodies has_0 has_1 has_2 has_3) replay told c.in_err-check_horizon.field-0.0
    c.in_err-check_horizon.ensures.below))

pub assemble-requires-clause-up : goal.assemble-requires-clause-up
assemble-requires-clause-up g c =
    let found = c.in_ok-first.ensures.found in
    let read = c.in_ok-logs.ensures.found in
    let logs = c.in_ok-logs.logs in
    let roots = c.in_ok-first.field-0 in
    let replay = c.in_ok-replay.replay in (
      entries_in IsUp replay.current replay.resets_first logs.first logs.second c.entry_pair-entries.result
          c.entry_pair-entries.ensures read.first_read.opens.up read.second_read.opens.up,
      roots_in IsUp c.in_ok-newest.newest.file roots.first roots.second c.root_pair-roots.result
          c.root_pair-roots.ensures found.first_read.opens.up found.second_read.opens.up,
    )

pub returns-clause-within : goal.returns-clause-within
returns-clause-within g c =
    let found = c.in_ok-first.ensures.found in
    let read = c.in_ok-logs.ensures.found in
    let logs = c.in_ok-logs.logs in
    let roots = c.in_ok-first.field-0 in
    let replay = c.in_ok-replay.replay in
    let same = c.read_journals.ensures.read.same in
    let seen = g.D.Disk.seen c.read_journals.new.disk in (
      rw c.assemble.ensures.entry_logs (entries_in (λ log. IsWithin log seen) replay.current replay.resets_first
          logs.first logs.second c.entry_pair-entries.result c.entry_pair-entries.ensures
          read.first_read.opens.within read.second_read.opens.within),
      rw c.assemble.ensures.root_logs (roots_in (λ log. IsWithin log seen) c.in_ok-newest.newest.file roots.first
          roots.second c.root_pair-roots.result c.root_pair-roots.ensures (rw same found.first_read.opens.within)
          (rw same found.second_read.opens.within)),
    )

pub returns-clause-found : goal.returns-clause-found
returns-clause-found g c =
    let found = c.in_ok-first.ensures.found in
    let read = c.in_ok-logs.ensures.found in
    let logs = c.in_ok-logs.logs in
    let newest = c.in_ok-newest.newest in
    let bodies = four (read.bodies 0) (read.bodies 1) (found.bodies 2) (found.bodies 3) in
    let there : c.in_ok-first.field-0.newest ≡ Some newest =
    cc c.in_ok-newest.ensures.ok_part in
    let is : IsNewestRoot found.bodies newest = newest_there found.bodies _ _ newest there found.newest in
    let beside : IsNewestRoot bodies newest =
    newest_beside (read.bodies 0) (read.bodies 1) found.bodies newest is in
    let replay = c.in_ok-replay.replay in
    let told : Replayed bodies newest.root replay = record {
      entries_0 = logs.entries_0.entries.items;
      entries_1 = logs.entries_1.entries.items;
      first_journal = read.first_entries.journal;
      second_journal = read.second_entries.journal;
      replays = c.in_ok-replay.ensures bodies read.first_entries read.second_entries;
    } in
    let only = c.read_root_logs.ensures.read in
    let then = c.read_journals.ensures.read in
    let journal_0 = read_earlier g.D.Disk 0 _ _ _ logs.first (read.bodies 0) only read.first_read in
    let journal_1 = read_earlier g.D.Disk 1 _ _ _ logs.second (read.bodies 1) only read.second_read in
    let roots = c.in_ok-first.field-0 in
    let root_0 = read_later g.D.Disk 2 _ _ _ roots.first (found.bodies 2) then found.first_read in
    let root_1 = read_later g.D.Disk 3 _ _ _ roots.second (found.bodies 3) then found.second_read in
    if_some_four (g.D.Disk.seen c.args.disk.now) journal_0.frames journal_1.frames root_0.frames root_1.frames
    (λ image has_0 has_1 has_2 has_3. reads_all g.D.Disk c.args.disk.now c.read_journals.new.disk bodies logs.first
    logs.second roots.first roots.second journal_0 journal_1 root_0 root_1 newest beside
    c.in_ok-check_files.ensures.none replay told c.in_ok-check_horizon.ensures.fits c.entry_pair-entries.result
    c.root_pair-roots.result c.entry_pair-entries.ensures c.root_pair-roots.ensures c.assemble.result
    c.assemble.ensures image (four_have image bodies has_0 has_1 has_2 has_3))
