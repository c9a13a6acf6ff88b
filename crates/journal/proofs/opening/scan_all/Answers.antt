use Rattle.std.proofs.Common.{◌∙◌, IsSome}
use Rattle.frame_log.proofs.ReadLemmas.{if_some_both, only_read_more}
use Rattle.journal.specs.Assembling.{ReadsAll}
use Rattle.journal.proofs.Scans.{opens, ready_restarted, ready_revived, restarted_shows, revived_shows}
use Rattle.journal.proofs.Shows.{if_told, with_told}
use Rattle.journal.proofs.opening.scan_all.Goals as goal
use Rattle.journal.proofs.opening.scan_all.Goals.{then-read+in_ok-restart, else-read}

-- the logs weren't brought back
pub returns-in_err-revive-clause-images : goal.returns-in_err-revive-clause-images
returns-in_err-revive-clause-images g c told =
    let laws = g.met.D.Disk g.world.𝓛 g.world.𝓜 g.world.𝓡 ((λ s x. x), (λ x. x), (λ x. x), λ x. x) in
    let known : IsSome (g.D.Disk.seen c.sync_all.new.disk) = rw c.sync_all.ensures.seen told in
    let only = only_read_more g.D.Disk _ _ _ (c.sync_all.ensures.read told) c.read_all.ensures.read in
    with_told _ (g.D.Disk.seen c.args.disk.now) told
    (if_some_both {R = λ image. g.D.Disk.may_leave c.args.disk.now image
    × ReadsAll g.D.Disk image c.sync_all.new.disk c.read_all.new.disk c.in_ok-read.read}
    (g.D.Disk.seen c.args.disk.now) (laws.reads_now c.args.disk.now)
    (rw c.sync_all.ensures.seen at c.in_ok-read.ensures.found) (λ image was reads. (was, reads)))
    (λ image both. revived_shows g.D.Disk c.args.disk.now c.sync_all.new.disk c.read_all.new.disk c.in_ok-read.read
    image both.1 known c.in_ok-sync_all.ensures.settled both.0 only c.revive.new.disk c.revive.new.self c.revive.result
    c.revive.ensures.revives)

-- the first journal wasn't reset
pub returns-in_err-restart-clause-images : goal.returns-in_err-restart-clause-images
returns-in_err-restart-clause-images g c told =
    let laws = g.met.D.Disk g.world.𝓛 g.world.𝓜 g.world.𝓡 ((λ s x. x), (λ x. x), (λ x. x), λ x. x) in
    let known : IsSome (g.D.Disk.seen c.sync_all.new.disk) = rw c.sync_all.ensures.seen told in
    let only = only_read_more g.D.Disk _ _ _ (c.sync_all.ensures.read told) c.read_all.ensures.read in
    with_told _ (g.D.Disk.seen c.args.disk.now) told
    (if_some_both {R = λ image. g.D.Disk.may_leave c.args.disk.now image
    × ReadsAll g.D.Disk image c.sync_all.new.disk c.read_all.new.disk c.in_ok-read.read}
    (g.D.Disk.seen c.args.disk.now) (laws.reads_now c.args.disk.now)
    (rw c.sync_all.ensures.seen at c.in_ok-read.ensures.found) (λ image was reads. (was, reads)))
    (λ image both. restarted_shows g.D.Disk c.args.disk.now c.sync_all.new.disk c.read_all.new.disk c.in_ok-read.read
    image both.1 known c.in_ok-sync_all.ensures.settled both.0 only c.revive.new.disk c.revive.new.self _
    c.restart.result c.restart.new.disk c.restart.new.self c.if-read.true c.in_ok-revive.ensures.revives
    c.restart.ensures.restarts)

pub returns-clause-opened : goal.returns-clause-opened
returns-clause-opened g c = elim c.if-read.branch [
  | then-read+in_ok-restart w ↦ rw (w.disk-is, w.journal-is) (record {
    found = if_told (g.D.Disk.seen c.args.disk.now) (rw c.sync_all.ensures.seen at c.in_ok-read.ensures.found)
        (λ told image reads files. opens g.D.Disk c.args.disk.now c.sync_all.new.disk c.read_all.new.disk
        c.in_ok-read.read image reads (rw c.sync_all.ensures.seen told) c.in_ok-sync_all.ensures.settled
        w.restart.new.disk w.restart.new.self
        (ready_restarted g.D.Disk c.in_ok-read.read c.read_all.new.disk c.revive.new.disk c.revive.new.self _
        c.in_ok-revive.ensures.revives _ w.restart.new.disk w.restart.new.self w.if-read.true
        w.in_ok-restart.ensures.restarts (w.in_ok-restart.ensures.trimmed c.in_ok-revive.ensures.trimmed)) files);
    up = w.in_ok-restart.ensures.restarts.answer.0;
    whole = w.in_ok-restart.ensures.restarts.broken ∙ c.in_ok-revive.ensures.revives.answer.1;
    within = w.restart.ensures.within;
    rises = c.in_ok-read.ensures.rises;
  })
  | else-read w ↦ rw (w.disk-is, w.journal-is) (record {
    found = if_told (g.D.Disk.seen c.args.disk.now) (rw c.sync_all.ensures.seen at c.in_ok-read.ensures.found)
        (λ told image reads files. opens g.D.Disk c.args.disk.now c.sync_all.new.disk c.read_all.new.disk
        c.in_ok-read.read image reads (rw c.sync_all.ensures.seen told) c.in_ok-sync_all.ensures.settled
        c.revive.new.disk c.revive.new.self
        (ready_revived g.D.Disk c.in_ok-read.read c.read_all.new.disk c.revive.new.disk c.revive.new.self _
        c.in_ok-revive.ensures.revives w.if-read.false c.in_ok-revive.ensures.trimmed) files);
    up = c.in_ok-revive.ensures.revives.answer.0;
    whole = c.in_ok-revive.ensures.revives.answer.1;
    within = c.revive.ensures.within;
    rises = c.in_ok-read.ensures.rises;
  })
]

pub returns-clause-images : goal.returns-clause-images
returns-clause-images g c told =
    let laws = g.met.D.Disk g.world.𝓛 g.world.𝓜 g.world.𝓡 ((λ s x. x), (λ x. x), (λ x. x), λ x. x) in
    let known : IsSome (g.D.Disk.seen c.sync_all.new.disk) = rw c.sync_all.ensures.seen told in
    let only = only_read_more g.D.Disk _ _ _ (c.sync_all.ensures.read told) c.read_all.ensures.read in
    with_told _ (g.D.Disk.seen c.args.disk.now) told
    (if_some_both {R = λ image. g.D.Disk.may_leave c.args.disk.now image
    × ReadsAll g.D.Disk image c.sync_all.new.disk c.read_all.new.disk c.in_ok-read.read}
    (g.D.Disk.seen c.args.disk.now) (laws.reads_now c.args.disk.now)
    (rw c.sync_all.ensures.seen at c.in_ok-read.ensures.found) (λ image was reads. (was, reads)))
    (λ image both. elim c.if-read.branch [
      | then-read+in_ok-restart w ↦ rw w.disk-is (restarted_shows g.D.Disk c.args.disk.now c.sync_all.new.disk
          c.read_all.new.disk c.in_ok-read.read image both.1 known c.in_ok-sync_all.ensures.settled both.0 only
          c.revive.new.disk c.revive.new.self _ w.restart.result w.restart.new.disk w.restart.new.self w.if-read.true
          c.in_ok-revive.ensures.revives w.restart.ensures.restarts)
      | else-read w ↦ rw w.disk-is (revived_shows g.D.Disk c.args.disk.now c.sync_all.new.disk c.read_all.new.disk
          c.in_ok-read.read image both.1 known c.in_ok-sync_all.ensures.settled both.0 only c.revive.new.disk
          c.revive.new.self c.revive.result c.revive.ensures.revives)
    ])
