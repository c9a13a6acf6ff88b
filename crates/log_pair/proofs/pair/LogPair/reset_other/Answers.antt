use Rattle.std.proofs.Common.{arith}
use Rattle.log_pair.specs.declared.pair.LogPair.{LogPair}
use Rattle.log_pair.proofs.Leading.{empties_at, trims_at}
use Rattle.log_pair.proofs.OneOfTwo.{chosen_first, chosen_second}
use Rattle.log_pair.proofs.pair.LogPair.reset_other.Goals as goal

pub returns-in-First-clause-frames : goal.returns-in-First-clause-frames
returns-in-First-clause-frames g c =
    let laws = g.met.D.Disk g.world.𝓛 g.world.𝓜 g.world.𝓡 ((λ s x. x), (λ x. x), (λ x. x), λ x. x) in
    let pair = c.args.self.now in
    empties_at g.D.Disk pair _ _ _ (laws.counts_now c.reset.new.disk)
    pair.second c.reset.new.self pair.first c.reset.ensures.answer.file c.reset.ensures.disk
    (chosen_first _ _ _ c.in-First.is) (chosen_first _ _ _ c.in-First.is)
    (chosen_first _ _ _ c.in-First.is) (chosen_first _ _ _ c.in-First.is)
    _ c.reset.ensures.frames

pub returns-in-First-clause-trimmed : goal.returns-in-First-clause-trimmed
returns-in-First-clause-trimmed g c =
    let laws = g.met.D.Disk g.world.𝓛 g.world.𝓜 g.world.𝓡 ((λ s x. x), (λ x. x), (λ x. x), λ x. x) in
    let pair = c.args.self.now in
    let new : LogPair = record {
      first = pair.first;
      second = c.reset.new.self;
      current = pair.current;
      neighbours = omega (arith, pair.neighbours, c.reset.ensures.answer.file);
    } in
    trims_at g.D.Disk pair new _ _ (laws.counts_now c.reset.new.disk)
    pair.second c.reset.new.self pair.first c.reset.ensures.answer.file c.reset.ensures.disk
    (chosen_first _ _ _ c.in-First.is) (chosen_first _ _ _ c.in-First.is)
    (chosen_first _ _ _ c.in-First.is) (chosen_first _ _ _ c.in-First.is)
    _ c.reset.ensures.trimmed

pub returns-in-Second-clause-frames : goal.returns-in-Second-clause-frames
returns-in-Second-clause-frames g c =
    let laws = g.met.D.Disk g.world.𝓛 g.world.𝓜 g.world.𝓡 ((λ s x. x), (λ x. x), (λ x. x), λ x. x) in
    let pair = c.args.self.now in
    empties_at g.D.Disk pair _ _ _ (laws.counts_now c.reset-in-Second.new.disk)
    pair.first c.reset-in-Second.new.self pair.second
    c.reset-in-Second.ensures.answer.file c.reset-in-Second.ensures.disk
    (chosen_second _ _ _ c.in-Second.is) (chosen_second _ _ _ c.in-Second.is)
    (chosen_second _ _ _ c.in-Second.is) (chosen_second _ _ _ c.in-Second.is)
    _ c.reset-in-Second.ensures.frames

pub returns-in-Second-clause-trimmed : goal.returns-in-Second-clause-trimmed
returns-in-Second-clause-trimmed g c =
    let laws = g.met.D.Disk g.world.𝓛 g.world.𝓜 g.world.𝓡 ((λ s x. x), (λ x. x), (λ x. x), λ x. x) in
    let pair = c.args.self.now in
    let new : LogPair = record {
      first = c.reset-in-Second.new.self;
      second = pair.second;
      current = pair.current;
      neighbours = omega (arith, pair.neighbours, c.reset-in-Second.ensures.answer.file);
    } in
    trims_at g.D.Disk pair new _ _ (laws.counts_now c.reset-in-Second.new.disk)
    pair.first c.reset-in-Second.new.self pair.second
    c.reset-in-Second.ensures.answer.file c.reset-in-Second.ensures.disk
    (chosen_second _ _ _ c.in-Second.is) (chosen_second _ _ _ c.in-Second.is)
    (chosen_second _ _ _ c.in-Second.is) (chosen_second _ _ _ c.in-Second.is)
    _ c.reset-in-Second.ensures.trimmed
