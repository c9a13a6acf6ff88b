use Rattle.log_pair.proofs.Leading.{adds_to}
use Rattle.log_pair.proofs.OneOfTwo.{chosen_first, chosen_second}
use Rattle.log_pair.proofs.pair.LogPair.append.Goals as goal

pub returns-in-First-clause-frames : goal.returns-in-First-clause-frames
returns-in-First-clause-frames g c =
    let laws = g.met.D.Disk g.world.𝓛 g.world.𝓜 g.world.𝓡 ((λ s x. x), (λ x. x), (λ x. x), λ x. x) in
    let pair = c.args.self.now in
    adds_to g.D.Disk pair _ _ _ (laws.counts_now c.append.new.disk)
    pair.first c.append.new.self pair.second c.append.ensures.answer.file c.append.ensures.disk
    (chosen_first _ _ _ c.in-First.is) (chosen_first _ _ _ c.in-First.is)
    (chosen_first _ _ _ c.in-First.is) (chosen_first _ _ _ c.in-First.is)
    c.args.frame.now _ c.append.ensures.frames

pub returns-in-Second-clause-frames : goal.returns-in-Second-clause-frames
returns-in-Second-clause-frames g c =
    let laws = g.met.D.Disk g.world.𝓛 g.world.𝓜 g.world.𝓡 ((λ s x. x), (λ x. x), (λ x. x), λ x. x) in
    let pair = c.args.self.now in
    adds_to g.D.Disk pair _ _ _ (laws.counts_now c.append-in-Second.new.disk)
    pair.second c.append-in-Second.new.self pair.first
    c.append-in-Second.ensures.answer.file c.append-in-Second.ensures.disk
    (chosen_second _ _ _ c.in-Second.is) (chosen_second _ _ _ c.in-Second.is)
    (chosen_second _ _ _ c.in-Second.is) (chosen_second _ _ _ c.in-Second.is)
    c.args.frame.now _ c.append-in-Second.ensures.frames
