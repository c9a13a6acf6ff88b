use Rattle.std.proofs.Common.{◌≡◌, rules}
use Rattle.disk_model.specs.Changes.{Any}
use Rattle.frame_log.specs.Frames.{HasGate, MayHave}
use Rattle.frame_log.specs.declared.state.State.TheVariants.{GateUnknown}
use Rattle.frame_log.proofs.Bytes.{may_have}
use Rattle.frame_log.proofs.Stretches.{throughout_still, throughout_weaker}
use Rattle.frame_log.proofs.Changes.{told_after}
use Rattle.frame_log.proofs.Steps.{Each, leaves_may, leaves_touched, touched_leaves, writes_gate, closes_gate, at_last}
use Rattle.frame_log.proofs.log.Log.shut.Goals as goal

-- the gate wasn't touched
pub returns-then-not-is_gate_unknown-clause-frames : goal.returns-then-not-is_gate_unknown-clause-frames
returns-then-not-is_gate_unknown-clause-frames g c kept more represents =
    let laws = g.met.D.Disk g.world.𝓛 g.world.𝓜 g.world.𝓡 ((λ s x. x), (λ x. x), (λ x. x), λ x. x) in
    let log = c.args.self.now in (
      represents,
      throughout_still _ _ _ _ (laws.only_now c.args.disk.now)
          (λ d left. leaves_may log.state kept more (d log.file) (represents.images d left)),
    )

-- the gate wasn't closed and synced
pub returns-in_err-write_synced-clause-frames : goal.returns-in_err-write_synced-clause-frames
returns-in_err-write_synced-clause-frames g c kept more represents =
    let laws = g.met.D.Disk g.world.𝓛 g.world.𝓜 g.world.𝓡 ((λ s x. x), (λ x. x), (λ x. x), λ x. x) in
    let log = c.args.self.now in
    let touched : log.state ≡ GateUnknown = search rules in
    let has : Each log.file (g.D.Disk.may_leave c.args.disk.now) (HasGate kept more) = λ d was. leaves_touched
    log.state kept more (d log.file) touched (represents.images d was) in
    let all = writes_gate g.D.Disk log.file log.end kept
    represents.at_end more c.args.disk.now c.write_synced.new.disk has (c.write_synced.ensures.torn represents.told)
    in (
      record {
        told = told_after log.file Any _ _ c.write_synced.ensures.others.reads represents.told;
        at_end = represents.at_end;
        images = λ d left. touched_leaves log.state kept more (d log.file) touched
            (at_last g.D.Disk log.file log.end kept
            represents.at_end (HasGate kept more) c.args.disk.now c.write_synced.new.disk
            (laws.counts_now c.write_synced.new.disk) all d
            left);
      },
      throughout_weaker _ _ _ _ (λ d. HasGate kept more (d log.file)) (λ d. MayHave kept more (d log.file)) all
          (λ d is. may_have kept more (d log.file) is),
    )

-- the gate is closed
pub returns-clause-frames : goal.returns-clause-frames
returns-clause-frames g c kept more represents =
    let laws = g.met.D.Disk g.world.𝓛 g.world.𝓜 g.world.𝓡 ((λ s x. x), (λ x. x), (λ x. x), λ x. x) in
    let log = c.args.self.now in
    let touched : log.state ≡ GateUnknown = search rules in
    let has : Each log.file (g.D.Disk.may_leave c.args.disk.now) (HasGate kept more) = λ d was. leaves_touched
    log.state kept more (d log.file) touched (represents.images d was) in
    let all = writes_gate g.D.Disk log.file log.end kept
    represents.at_end more c.args.disk.now c.write_synced.new.disk has (c.write_synced.ensures.torn represents.told)
    in (
      record {
        told = told_after log.file Any _ _ c.write_synced.ensures.others.reads represents.told;
        at_end = represents.at_end;
        images = closes_gate g.D.Disk log.file log.end
            kept represents.at_end more c.args.disk.now c.write_synced.new.disk has represents.told
            (laws.reads_now c.args.disk.now)
            c.in_ok-write_synced.ensures.written c.in_ok-write_synced.ensures.settled;
      },
      throughout_weaker _ _ _ _ (λ d. HasGate kept more (d log.file)) (λ d. MayHave kept more (d log.file)) all
          (λ d is. may_have kept more (d log.file) is),
    )
