use Rattle.journal.proofs.Syncs.{sync_reads}
use Rattle.journal.proofs.syncing.settle.Goals as goal

pub returns-clause-read : goal.returns-clause-read
returns-clause-read g c told =
    let laws = g.met.D.Disk g.world.𝓛 g.world.𝓜 g.world.𝓡 ((λ s x. x), (λ x. x), (λ x. x), λ x. x) in
    sync_reads g.D.Disk c.args.disk.now c.sync.new.self
    c.sync.ensures.seen (laws.only_now c.args.disk.now) c.sync.ensures.time c.args.file c.sync.result told
    (laws.reads_now c.args.disk.now) (laws.each_alone c.args.disk.now c.args.file) c.sync.ensures.settled
    c.sync.ensures.others c.sync.ensures.broken
