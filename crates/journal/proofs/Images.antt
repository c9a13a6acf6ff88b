-- The four logs of a journal, and what an image has of them.
use Rattle.std.proofs.Common.{◌≡◌, ◌≢◌, ◌≤◌, ◌<◌, ◌+◌, ◌∙◌, ℕ, zero, suc, ap, sym, subst, List, arith}
use Rattle.disk_model.specs.Logs.{Image}
use Rattle.disk_model.specs.declared.disk.Disk
use Rattle.directory_meaning.specs.Bodies.{Bodies, MayHaveBodies}
use Rattle.directory_meaning.specs.declared.logs.TheConstants.{DIRECTORY_LOGS}
use Rattle.frame_log.proofs.Steps.{leaves_may}
use Rattle.frame_log.specs.Frames.{MayHave}
use Rattle.frame_log.specs.LogStates.{file_of}
use Rattle.frame_log.specs.declared.log.Log.{Log}
use Rattle.journal.specs.JournalStates.{LogsRepresent, current_of}
use Rattle.journal.specs.declared.journal.Journal.{Journal}
use Rattle.log_pair.specs.PairStates as pair
use Rattle.log_pair.specs.PairStates.{Both, chosen}
use Rattle.log_pair.specs.declared.current.Current.{Current}
use Rattle.log_pair.specs.declared.current.Current.TheVariants.{First, Second}

-- what the current and the other log have, the first and the second have, and conversely
pub both_numbers : (P : Log → Type 0) (current : Current) (first second : Log) → P (chosen current first second)
    → P (chosen current second first) → P first × P second
both_numbers P First first second p q = (p, q)
both_numbers P Second first second p q = (q, p)

pub both_turns : (P : Log → Type 0) (current : Current) (first second : Log) → P first → P second
    → P (chosen current first second) × P (chosen current second first)
both_turns P First first second p q = (p, q)
both_turns P Second first second p q = (q, p)

-- a fact of each log's number is one of the four numbers
pub four_logs : (journal : Journal) (P : ℕ → Type 0) → Both (λ log. P (file_of log)) journal.entries
    → Both (λ log. P (file_of log)) journal.roots → (file : ℕ) → file < DIRECTORY_LOGS → P file
four_logs journal P entries roots zero lt =
    let e = journal.entries in
    subst P journal.journals (both_numbers (λ log. P (file_of log)) e.current e.first e.second entries.0 entries.1).0
four_logs journal P entries roots (suc zero) lt =
    let e = journal.entries in
    subst P (e.neighbours ∙ ap (λ n. n + 1) journal.journals)
    (both_numbers (λ log. P (file_of log)) e.current e.first e.second entries.0 entries.1).1
four_logs journal P entries roots (suc (suc zero)) lt =
    let r = journal.roots in
    subst P journal.root_logs (both_numbers (λ log. P (file_of log)) r.current r.first r.second roots.0 roots.1).0
four_logs journal P entries roots (suc (suc (suc zero))) lt =
    let r = journal.roots in
    subst P (r.neighbours ∙ ap (λ n. n + 1) journal.root_logs)
    (both_numbers (λ log. P (file_of log)) r.current r.first r.second roots.0 roots.1).1
four_logs journal P entries roots (suc (suc (suc (suc n)))) lt = absurd (omega (arith, lt))

-- the journals have the numbers 0 and 1, the root logs 2 and 3
pub entry_numbers : (journal : Journal) → Both (λ log. file_of log ≤ 1) journal.entries
entry_numbers journal =
    let e = journal.entries in
    both_turns (λ log. file_of log ≤ 1) e.current e.first e.second (omega (arith, journal.journals))
    (omega (arith, journal.journals, e.neighbours))

pub root_numbers : (journal : Journal) → Both (λ log. 2 ≤ file_of log) journal.roots
root_numbers journal =
    let r = journal.roots in
    both_turns (λ log. 2 ≤ file_of log) r.current r.first r.second (omega (arith, journal.root_logs))
    (omega (arith, journal.root_logs, r.neighbours))

-- an image of such logs has the frames that are kept, or more
pub may_have : {D : Type 0} (of_disk : Disk.Ghosts D) (journal : Journal) (disk : D) (kept more : Bodies)
    (image : Image) → LogsRepresent of_disk journal disk kept more → of_disk.may_leave disk image
    → MayHaveBodies kept more image
may_have of_disk journal disk kept more image represents left =
    let has : (log : Log) → pair.RepresentsAt of_disk disk kept more log
    → MayHave (kept (file_of log)) (more (file_of log)) (image (file_of log)) =
    λ log is. leaves_may log.state (kept (file_of log)) (more (file_of log)) (image (file_of log)) (is.images image left) in
    four_logs journal (λ k. MayHave (kept k) (more k) (image k))
    (has (pair.current_of journal.entries) represents.0.0, has (pair.other_of journal.entries) represents.0.1)
    (has (pair.current_of journal.roots) represents.1.0, has (pair.other_of journal.roots) represents.1.1)
