use Rattle.std.proofs.Common.{◌≤◌, ◌+◌, ℕ, List, length, arith}
use Rattle.std.proofs.lemmas.Grind.{common_steps}
use Rattle.disk_model.specs.Logs.{Writes, Torn}
use Rattle.disk_model.proofs.LogsLemmas.{torn_same, whole_torn}
use Rattle.disk_model.proofs.MomentsLemmas.{throughout_first, throughout_more}
use Rattle.disk_model.specs.Stretches.{Changed}
use Rattle.frame_log.proofs.Changes.{reaches, OneLog, becomes_any, one_log, one_change, one_log_more, one_log_same, settled_change}
use Rattle.frame_log.proofs.device.write_synced.Goals as goal

written_longer : (place n : ℕ) (bytes a b : List ℕ) → Writes place bytes a b → n ≤ length a → n ≤ length b
written_longer place n bytes a b is long = rw is (omega (arith, long, (whole_torn a bytes place).no_shorter))

torn_longer : (place k n : ℕ) (a b : List ℕ) → Torn place k a b → n ≤ length a → n ≤ length b
torn_longer place k n a b torn long = omega (arith, long, torn.no_shorter)

written_torn : (place : ℕ) (bytes a b : List ℕ) → Writes place bytes a b → Torn place (length bytes) a b
written_torn place bytes a b is = rw is (whole_torn a bytes place)

pub returns-in_err-write_at-clause-longer : goal.returns-in_err-write_at-clause-longer
returns-in_err-write_at-clause-longer g c n long =
    reaches c.args.file n n (Torn c.args.place (length c.args.bytes.now)) _ _
    (torn_longer c.args.place (length c.args.bytes.now) n) c.in_err-write_at.ensures.broken long

pub returns-in_err-sync-clause-longer : goal.returns-in_err-sync-clause-longer
returns-in_err-sync-clause-longer g c n long =
    rw c.sync.ensures.seen (reaches c.args.file n n (Writes c.args.place c.args.bytes.now) _ _
    (written_longer c.args.place n c.args.bytes.now) c.in_ok-write_at.ensures.written long)

pub returns-clause-longer : goal.returns-clause-longer
returns-clause-longer g c n long =
    rw c.sync.ensures.seen (reaches c.args.file n n (Writes c.args.place c.args.bytes.now) _ _
    (written_longer c.args.place n c.args.bytes.now) c.in_ok-write_at.ensures.written long)

pub returns-in_err-write_at-clause-others : goal.returns-in_err-write_at-clause-others
returns-in_err-write_at-clause-others g c =
    let laws = g.met.D.Disk g.world.𝓛 g.world.𝓜 g.world.𝓡 ((λ s x. x), (λ x. x), (λ x. x), λ x. x) in
    record {
      reads = becomes_any c.args.file (Torn c.args.place (length c.args.bytes.now)) _ _
          c.in_err-write_at.ensures.broken;
      images = throughout_first _ _ _ _ _ _ (OneLog c.args.file (g.D.Disk.may_leave c.args.disk.now))
          (laws.only_now c.args.disk.now) c.write_at.ensures.time
          (one_log_same c.args.file _) (one_log c.args.file _ _ _ c.write_at.ensures.crash);
    }

pub returns-in_err-sync-clause-others : goal.returns-in_err-sync-clause-others
returns-in_err-sync-clause-others g c =
    let laws = g.met.D.Disk g.world.𝓛 g.world.𝓜 g.world.𝓡 ((λ s x. x), (λ x. x), (λ x. x), λ x. x) in
    let first = throughout_first _ _ _ _ _ _ (OneLog c.args.file (g.D.Disk.may_leave c.args.disk.now))
    (laws.only_now c.args.disk.now) c.write_at.ensures.time
    (one_log_same c.args.file _) (one_log c.args.file _ _ _ c.write_at.ensures.crash) in
    record {
      reads = rw c.sync.ensures.seen (becomes_any c.args.file (Writes c.args.place c.args.bytes.now) _ _
          c.in_ok-write_at.ensures.written);
      images = throughout_more _ _ _ _ _ _ _ _ first c.sync.ensures.time
          (λ d left. one_log c.args.file _ _ _ c.write_at.ensures.crash d (c.in_err-sync.ensures.broken d left));
    }

pub returns-clause-others : goal.returns-clause-others
returns-clause-others g c =
    let laws = g.met.D.Disk g.world.𝓛 g.world.𝓜 g.world.𝓡 ((λ s x. x), (λ x. x), (λ x. x), λ x. x) in
    let first = throughout_first _ _ _ _ _ _ (OneLog c.args.file (g.D.Disk.may_leave c.args.disk.now))
    (laws.only_now c.args.disk.now) c.write_at.ensures.time
    (one_log_same c.args.file _) (one_log c.args.file _ _ _ c.write_at.ensures.crash) in
    record {
      reads = rw c.sync.ensures.seen (becomes_any c.args.file (Writes c.args.place c.args.bytes.now) _ _
          c.in_ok-write_at.ensures.written);
      images = throughout_more _ _ _ _ _ _ _ _ first c.sync.ensures.time
          (one_log_more c.args.file _ _ _ c.write_at.ensures.crash _ c.in_ok-sync.ensures.others);
    }

pub returns-in_err-write_at-clause-torn : goal.returns-in_err-write_at-clause-torn
returns-in_err-write_at-clause-torn g c told =
    let laws = g.met.D.Disk g.world.𝓛 g.world.𝓜 g.world.𝓡 ((λ s x. x), (λ x. x), (λ x. x), λ x. x) in
    throughout_first _ _ _ _ _ _ (Changed (g.D.Disk.may_leave c.args.disk.now) c.args.file
    (Torn c.args.place (length c.args.bytes.now)))
    (laws.only_now c.args.disk.now) c.write_at.ensures.time
    (λ d was. (d, was, torn_same c.args.place (length c.args.bytes.now) (d c.args.file)))
    (one_change c.args.file _ _ _ c.write_at.ensures.crash)

pub returns-in_err-sync-clause-torn : goal.returns-in_err-sync-clause-torn
returns-in_err-sync-clause-torn g c told =
    let laws = g.met.D.Disk g.world.𝓛 g.world.𝓜 g.world.𝓡 ((λ s x. x), (λ x. x), (λ x. x), λ x. x) in
    let first = throughout_first _ _ _ _ _ _ (Changed (g.D.Disk.may_leave c.args.disk.now) c.args.file
    (Torn c.args.place (length c.args.bytes.now)))
    (laws.only_now c.args.disk.now) c.write_at.ensures.time
    (λ d was. (d, was, torn_same c.args.place (length c.args.bytes.now) (d c.args.file)))
    (one_change c.args.file _ _ _ c.write_at.ensures.crash) in
    throughout_more _ _ _ _ _ _ _ _ first c.sync.ensures.time
    (λ d left. one_change c.args.file _ _ _ c.write_at.ensures.crash d (c.in_err-sync.ensures.broken d left))

pub returns-clause-torn : goal.returns-clause-torn
returns-clause-torn g c told =
    let laws = g.met.D.Disk g.world.𝓛 g.world.𝓜 g.world.𝓡 ((λ s x. x), (λ x. x), (λ x. x), λ x. x) in
    let first = throughout_first _ _ _ _ _ _ (Changed (g.D.Disk.may_leave c.args.disk.now) c.args.file
    (Torn c.args.place (length c.args.bytes.now)))
    (laws.only_now c.args.disk.now) c.write_at.ensures.time
    (λ d was. (d, was, torn_same c.args.place (length c.args.bytes.now) (d c.args.file)))
    (one_change c.args.file _ _ _ c.write_at.ensures.crash) in
    throughout_more _ _ _ _ _ _ _ _ first c.sync.ensures.time
    (settled_change c.args.file (Writes c.args.place c.args.bytes.now) _ _ _ _ _ told (laws.reads_now c.args.disk.now)
    c.in_ok-write_at.ensures.written (rw c.sync.ensures.seen at c.in_ok-sync.ensures.settled)
    (written_torn c.args.place c.args.bytes.now))

written_reaches : (place : ℕ) (bytes a b : List ℕ) → Writes place bytes a b → place ≤ length a → place + length bytes
    ≤ length b
written_reaches place bytes a b is long = rw is (grind (arith, common_steps))

pub returns-clause-reaches : goal.returns-clause-reaches
returns-clause-reaches g c =
    rw c.sync.ensures.seen (reaches c.args.file c.args.place (c.args.place + length c.args.bytes.now)
    (Writes c.args.place c.args.bytes.now) _ _ (written_reaches c.args.place c.args.bytes.now)
    c.in_ok-write_at.ensures.written c.requires.place)
