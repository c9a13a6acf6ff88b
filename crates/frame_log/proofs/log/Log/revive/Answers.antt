use Rattle.std.proofs.Common.{inl, refl}
use Rattle.std.proofs.lemmas.Result.{err_from_is_err_and}
use Rattle.disk_model.specs.Changes.{Any}
use Rattle.frame_log.specs.Frames.{HasFrames, MayHave}
use Rattle.frame_log.proofs.Stretches.{throughout_weaker, throughout_then}
use Rattle.frame_log.proofs.Changes.{spares_more, told_after}
use Rattle.frame_log.proofs.Steps.{Each, leaves_shut, cuts_behind, at_last}
use Rattle.frame_log.proofs.log.Log.revive.Goals as goal

-- the gate wasn't closed and synced
pub returns-in_err-shut-clause-frames : goal.returns-in_err-shut-clause-frames
returns-in_err-shut-clause-frames g c kept more represents =
    let error = err_from_is_err_and c.from_residual.result c.from_residual.ensures.1 in
    let (mid, moments) = c.shut.ensures.frames kept more represents in
    record { now = rw error.1 mid; any_moment = moments }

-- what is behind the gate wasn't cut and synced
pub returns-in_err-truncate_synced-clause-frames : goal.returns-in_err-truncate_synced-clause-frames
returns-in_err-truncate_synced-clause-frames g c kept more represents =
    let laws = g.met.D.Disk g.world.𝓛 g.world.𝓜 g.world.𝓡 ((λ s x. x), (λ x. x), (λ x. x), λ x. x) in
    let log = c.shut.new.self in
    let (mid, moments) = c.shut.ensures.frames kept more represents in
    let has : Each log.file (g.D.Disk.may_leave c.shut.new.disk) (HasFrames kept) = λ d was. leaves_shut log.state
    kept more (d log.file) c.in_ok-shut.ensures.shut (mid.images d was) in
    let all = cuts_behind g.D.Disk log.file log.end kept
    mid.at_end c.shut.new.disk c.truncate_synced.new.disk has (c.truncate_synced.ensures.cut mid.told) in
    let error = err_from_is_err_and c.from_residual-in_err-truncate_synced.result
    c.from_residual-in_err-truncate_synced.ensures.1 in
    record {
      now = rw error.1 (record {
        told = told_after log.file Any _ _ c.truncate_synced.ensures.others.reads mid.told;
        at_end = mid.at_end;
        images = at_last g.D.Disk log.file log.end kept
            mid.at_end (HasFrames kept) c.shut.new.disk c.truncate_synced.new.disk
            (laws.counts_now c.truncate_synced.new.disk) all;
      });
      any_moment = throughout_then _ _ _ _ _ _ (λ d. MayHave kept more (d log.file)) moments
          (throughout_weaker _ _ _ _ (λ d. HasFrames kept (d log.file)) (λ d. MayHave kept more (d log.file)) all
          (λ d is. inl is));
    }

pub returns-in_err-truncate_synced-clause-disk : goal.returns-in_err-truncate_synced-clause-disk
returns-in_err-truncate_synced-clause-disk g c =
    let laws = g.met.D.Disk g.world.𝓛 g.world.𝓜 g.world.𝓡 ((λ s x. x), (λ x. x), (λ x. x), λ x. x) in
    record {
      others = spares_more g.D.Disk _ _ _ _
          (laws.counts_now c.shut.new.disk) c.shut.ensures.disk.others c.truncate_synced.ensures.others;
      within = c.truncate_synced.ensures.longer;
    }

-- nothing is behind the closed gate
pub returns-clause-frames : goal.returns-clause-frames
returns-clause-frames g c kept more represents =
    let laws = g.met.D.Disk g.world.𝓛 g.world.𝓜 g.world.𝓡 ((λ s x. x), (λ x. x), (λ x. x), λ x. x) in
    let log = c.shut.new.self in
    let (mid, moments) = c.shut.ensures.frames kept more represents in
    let has : Each log.file (g.D.Disk.may_leave c.shut.new.disk) (HasFrames kept) = λ d was. leaves_shut log.state
    kept more (d log.file) c.in_ok-shut.ensures.shut (mid.images d was) in
    let all = cuts_behind g.D.Disk log.file log.end kept
    mid.at_end c.shut.new.disk c.truncate_synced.new.disk has (c.truncate_synced.ensures.cut mid.told) in
    record {
      now = record {
        good = refl;
        represents = record {
          told = told_after log.file Any _ _ c.truncate_synced.ensures.others.reads mid.told;
          at_end = mid.at_end;
          images = at_last g.D.Disk log.file log.end kept
              mid.at_end (HasFrames kept) c.shut.new.disk c.truncate_synced.new.disk
              (laws.counts_now c.truncate_synced.new.disk) all;
        };
      };
      any_moment = throughout_then _ _ _ _ _ _ (λ d. MayHave kept more (d log.file)) moments
          (throughout_weaker _ _ _ _ (λ d. HasFrames kept (d log.file)) (λ d. MayHave kept more (d log.file)) all
          (λ d is. inl is));
    }

pub returns-clause-disk : goal.returns-clause-disk
returns-clause-disk g c =
    let laws = g.met.D.Disk g.world.𝓛 g.world.𝓜 g.world.𝓡 ((λ s x. x), (λ x. x), (λ x. x), λ x. x) in
    record {
      others = spares_more g.D.Disk _ _ _ _
          (laws.counts_now c.shut.new.disk) c.shut.ensures.disk.others c.truncate_synced.ensures.others;
      within = c.truncate_synced.ensures.longer;
    }
