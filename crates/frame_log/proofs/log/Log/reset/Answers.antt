use Rattle.std.proofs.Common.{◌≡◌, ◌≢◌, [], length, inr, refl, ◌∙◌, subst, rules, arith}
use Rattle.frame_log.specs.Frames.{framed}
use Rattle.frame_log.specs.LogStates.{Holds}
use Rattle.frame_log.proofs.Bytes.{none_framed, from_first}
use Rattle.frame_log.proofs.Stretches.{throughout_still}
use Rattle.frame_log.proofs.Steps.{leaves_good}
use Rattle.frame_log.proofs.log.Log.reset.Goals as goal

-- a log without frames
pub returns-then-is_empty-clause-frames : goal.returns-then-is_empty-clause-frames
returns-then-is_empty-clause-frames g c kept holds =
    let laws = g.met.D.Disk g.world.𝓛 g.world.𝓜 g.world.𝓡 ((λ s x. x), (λ x. x), (λ x. x), λ x. x) in
    let log = c.args.self.now in
    let empty : log.end ≡ 0 = search rules in
    let none : length (framed kept) ≡ 0 = omega (arith, empty, holds.represents.at_end) in
    record {
      now = subst (λ k. Holds g.D.Disk c.args.self.now c.args.disk.now k)
          (none_framed kept none) holds;
      any_moment = throughout_still _ _ _ _ (laws.only_now c.args.disk.now)
          (λ d left. inr (leaves_good log.state kept [] (d log.file) holds.good (holds.represents.images d left)));
    }

-- the first gate is the one that is closed
pub returns-clause-frames : goal.returns-clause-frames
returns-clause-frames g c kept holds =
    let log = c.args.self.now in
    let full : log.end ≢ 0 = search rules in
    let some : length (framed kept) ≢ 0 = λ (none : length (framed kept) ≡ 0). full (holds.represents.at_end ∙ none) in
    c.revive.ensures.frames [] kept (record {
      told = holds.represents.told;
      at_end = refl;
      images = λ d left. from_first kept (d log.file) (leaves_good log.state kept [] (d log.file) holds.good
          (holds.represents.images d left)) some;
    })
