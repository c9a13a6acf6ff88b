use Rattle.std.proofs.Common.{refl, arith}
use Rattle.std.proofs.lemmas.Result.{err_from_is_err_and}
use Rattle.log_pair.specs.declared.pair.LogPair.{LogPair}
use Rattle.log_pair.proofs.Reviving.{brings_both, fails_first, keeps_both, trims_both}
use Rattle.log_pair.proofs.pair.LogPair.revive.Goals as goal

pub returns-in_err-revive-clause-frames : goal.returns-in_err-revive-clause-frames
returns-in_err-revive-clause-frames g c =
    let laws = g.met.D.Disk g.world.𝓛 g.world.𝓜 g.world.𝓡 ((λ s x. x), (λ x. x), (λ x. x), λ x. x) in
    let error = err_from_is_err_and c.from_residual.result c.from_residual.ensures.1 in
    fails_first g.D.Disk c.args.self.now _ _ _ (laws.counts_now c.revive.new.disk) c.revive.ensures.answer.file
    c.revive.ensures.disk _ _ _ error.1 refl c.in_err-revive.ensures.frames

pub returns-clause-frames : goal.returns-clause-frames
returns-clause-frames g c =
    let laws = g.met.D.Disk g.world.𝓛 g.world.𝓜 g.world.𝓡 ((λ s x. x), (λ x. x), (λ x. x), λ x. x) in
    brings_both g.D.Disk c.args.self.now _ _ _ (laws.counts_now c.revive.new.disk) c.revive.ensures.answer.file
    c.revive.ensures.disk _ (laws.counts_now c.revive-2.new.disk) c.revive-2.ensures.answer.file
    c.revive-2.ensures.disk _ _ c.in_ok-revive.ensures.frames c.revive-2.ensures.frames

pub returns-clause-trimmed : goal.returns-clause-trimmed
returns-clause-trimmed g c =
    let laws = g.met.D.Disk g.world.𝓛 g.world.𝓜 g.world.𝓡 ((λ s x. x), (λ x. x), (λ x. x), λ x. x) in
    let pair = c.args.self.now in
    let new : LogPair = record {
      first = c.revive.new.self;
      second = c.revive-2.new.self;
      current = pair.current;
      neighbours = omega (arith, pair.neighbours, c.revive.ensures.answer.file, c.revive-2.ensures.answer.file);
    } in
    trims_both g.D.Disk pair new _ _ (laws.counts_now c.revive.new.disk) c.revive.ensures.answer.file
    c.revive.ensures.disk _ (laws.counts_now c.revive-2.new.disk) c.revive-2.ensures.answer.file
    c.revive-2.ensures.disk _ c.in_ok-revive.ensures.trimmed c.revive-2.ensures.trimmed

pub returns-clause-disk : goal.returns-clause-disk
returns-clause-disk g c =
    let laws = g.met.D.Disk g.world.𝓛 g.world.𝓜 g.world.𝓡 ((λ s x. x), (λ x. x), (λ x. x), λ x. x) in
    keeps_both g.D.Disk c.args.self.now _ _ _ (laws.counts_now c.revive.new.disk) c.revive.ensures.answer.file
    c.revive.ensures.disk _ (laws.counts_now c.revive-2.new.disk) c.revive-2.ensures.answer.file
    c.revive-2.ensures.disk
