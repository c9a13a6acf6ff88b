use Rattle.std.proofs.Common.{refl}
use Rattle.journal.proofs.Resets.{restarts_all, restarts_not, trims_restarted}
use Rattle.journal.proofs.journal.Journal.restart.Goals as goal

-- the reset failed
pub returns-in-Err-clause-restarts : goal.returns-in-Err-clause-restarts
returns-in-Err-clause-restarts g c =
    let laws = g.met.D.Disk g.world.𝓛 g.world.𝓜 g.world.𝓡 ((λ s x. x), (λ x. x), (λ x. x), λ x. x) in
    restarts_not g.D.Disk c.args.self.now c.reset_other.new.self c.args.disk.now c.reset_other.new.disk
    (laws.counts_now c.reset_other.new.disk) c.reset_other.ensures.disk c.reset_other.ensures.current _ c.requires.up
    refl refl _ refl c.in-Err.ensures.answer c.in-Err.ensures.frames

pub returns-clause-restarts : goal.returns-clause-restarts
returns-clause-restarts g c =
    let laws = g.met.D.Disk g.world.𝓛 g.world.𝓜 g.world.𝓡 ((λ s x. x), (λ x. x), (λ x. x), λ x. x) in
    restarts_all g.D.Disk c.args.self.now c.reset_other.new.self c.args.disk.now c.reset_other.new.disk
    (laws.counts_now c.reset_other.new.disk) c.reset_other.ensures.disk c.reset_other.ensures.current _ c.requires.up
    refl refl _ refl c.in_default.ensures.answer c.in_default.ensures.frames c.switch.ensures.current c.switch.ensures.other

pub returns-clause-trimmed : goal.returns-clause-trimmed
returns-clause-trimmed g c =
    let laws = g.met.D.Disk g.world.𝓛 g.world.𝓜 g.world.𝓡 ((λ s x. x), (λ x. x), (λ x. x), λ x. x) in
    let old = c.args.self.now in
    trims_restarted g.D.Disk old c.reset_other.new.self c.args.disk.now c.reset_other.new.disk
    (laws.counts_now c.reset_other.new.disk) c.reset_other.ensures.disk c.reset_other.ensures.current
    c.switch.new.self c.in_default.ensures.answer.answer
    c.in_default.ensures.answer.file c.in_default.ensures.trimmed c.switch.ensures.current c.switch.ensures.other
