use Rattle.std.proofs.Common.{◌≡◌, ◌≤◌, ◌+◌, ◌^◌, [], ◌∷◌, length, inl, refl, arith}
use Rattle.std.proofs.lemmas.Result.{err_from_is_err_and}
use Rattle.disk_model.specs.Changes.{Any}
use Rattle.frame_log.specs.Frames.{HasFrames, HasGate, MayHave}
use Rattle.frame_log.proofs.Bytes.{may_have, length-framed-push}
use Rattle.frame_log.proofs.Stretches.{throughout_still, throughout_weaker, throughout_then}
use Rattle.frame_log.proofs.Changes.{spares_more, told_after}
use Rattle.frame_log.proofs.Steps.{Each, leaves_good, holds_more, writes_behind, represents_behind, writes_gate, opens_gate, at_last}
use Rattle.frame_log.proofs.log.Log.append.Goals as goal

-- the log didn't take the frame
pub returns-in_err-admit-clause-frames : goal.returns-in_err-admit-clause-frames
returns-in_err-admit-clause-frames g c kept holds =
    let laws = g.met.D.Disk g.world.𝓛 g.world.𝓜 g.world.𝓡 ((λ s x. x), (λ x. x), (λ x. x), λ x. x) in
    let log = c.args.self.now in
    let error = err_from_is_err_and c.from_residual.result c.from_residual.ensures.1 in
    let represents = holds_more g.D.Disk log c.args.disk.now kept (c.args.frame.now ∷ []) holds in
    record {
      now = rw error.1 represents;
      any_moment = throughout_still _ _ _ _ (laws.only_now c.args.disk.now)
          (λ d left. inl (leaves_good log.state kept [] (d log.file) holds.good (holds.represents.images d left)));
    }

-- the frame wasn't written and synced
pub returns-in_err-write_synced-clause-frames : goal.returns-in_err-write_synced-clause-frames
returns-in_err-write_synced-clause-frames g c kept holds =
    let laws = g.met.D.Disk g.world.𝓛 g.world.𝓜 g.world.𝓡 ((λ s x. x), (λ x. x), (λ x. x), λ x. x) in
    let log = c.args.self.now in
    let bytes = c.bytes.result.now in
    let room : log.end + 1 + length bytes ≤ 2 ^ 62 = omega (arith, c.in_ok-admit.ensures) in
    let has : Each log.file (g.D.Disk.may_leave c.args.disk.now) (HasFrames kept) = λ d was. leaves_good log.state
    kept [] (d log.file) holds.good (holds.represents.images d was) in
    let first = writes_behind g.D.Disk log.file log.end
    kept holds.represents.at_end (length bytes) c.args.disk.now c.write_synced.new.disk room has
    (c.write_synced.ensures.torn holds.represents.told) in
    let error = err_from_is_err_and c.from_residual-in_err-write_synced.result
    c.from_residual-in_err-write_synced.ensures.1 in
    record {
      now = rw error.1 (record {
        told = told_after log.file Any _ _ c.write_synced.ensures.others.reads holds.represents.told;
        at_end = holds.represents.at_end;
        images = at_last g.D.Disk log.file log.end kept
            holds.represents.at_end (HasFrames kept) c.args.disk.now c.write_synced.new.disk
            (laws.counts_now c.write_synced.new.disk)
            first;
      });
      any_moment = throughout_weaker _ _ _ _ (λ d. HasFrames kept (d log.file))
          (λ d. MayHave kept (c.args.frame.now ∷ []) (d log.file)) first (λ d is. inl is);
    }

-- the gate wasn't opened and synced
pub returns-in_err-write_synced-2-clause-frames : goal.returns-in_err-write_synced-2-clause-frames
returns-in_err-write_synced-2-clause-frames g c kept holds =
    let laws = g.met.D.Disk g.world.𝓛 g.world.𝓜 g.world.𝓡 ((λ s x. x), (λ x. x), (λ x. x), λ x. x) in
    let log = c.args.self.now in
    let more = c.args.frame.now ∷ [] in
    let bytes = c.bytes.result.now in
    let room : log.end + 1 + length bytes ≤ 2 ^ 62 = omega (arith, c.in_ok-admit.ensures) in
    let has : Each log.file (g.D.Disk.may_leave c.args.disk.now) (HasFrames kept) = λ d was. leaves_good log.state
    kept [] (d log.file) holds.good (holds.represents.images d was) in
    let first = writes_behind g.D.Disk log.file log.end
    kept holds.represents.at_end (length bytes) c.args.disk.now c.write_synced.new.disk room has
    (c.write_synced.ensures.torn holds.represents.told) in
    let told = told_after log.file Any _ _ c.write_synced.ensures.others.reads holds.represents.told in
    let behind = represents_behind g.D.Disk log.file log.end
    kept holds.represents.at_end c.args.frame.now bytes c.args.disk.now c.write_synced.new.disk c.bytes.ensures.bytes
    room has
    holds.represents.told (laws.reads_now c.args.disk.now) c.in_ok-write_synced.ensures.written
    c.in_ok-write_synced.ensures.settled in
    let second = writes_gate g.D.Disk log.file log.end
    kept holds.represents.at_end (c.args.frame.now ∷ []) c.write_synced.new.disk c.write_synced-2.new.disk behind
    (c.write_synced-2.ensures.torn told) in
    let error = err_from_is_err_and c.from_residual-in_err-write_synced-2.result
    c.from_residual-in_err-write_synced-2.ensures.1 in
    record {
      now = rw error.1 (record {
        told = told_after log.file Any _ _ c.write_synced-2.ensures.others.reads told;
        at_end = holds.represents.at_end;
        images = at_last g.D.Disk log.file log.end kept
            holds.represents.at_end (HasGate kept (c.args.frame.now ∷ [])) c.write_synced.new.disk
            c.write_synced-2.new.disk
            (laws.counts_now c.write_synced-2.new.disk) second;
      });
      any_moment = throughout_then _ _ _ _ _ _ (λ d. MayHave kept (c.args.frame.now ∷ []) (d log.file))
          (throughout_weaker _ _ _ _ (λ d. HasFrames kept (d log.file))
          (λ d. MayHave kept (c.args.frame.now ∷ []) (d log.file)) first (λ d is. inl is))
          (throughout_weaker _ _ _ _ (λ d. HasGate kept (c.args.frame.now ∷ []) (d log.file))
          (λ d. MayHave kept (c.args.frame.now ∷ []) (d log.file)) second
          (λ d is. may_have kept (c.args.frame.now ∷ []) (d log.file) is));
    }

pub returns-in_err-write_synced-2-clause-disk : goal.returns-in_err-write_synced-2-clause-disk
returns-in_err-write_synced-2-clause-disk g c =
    let laws = g.met.D.Disk g.world.𝓛 g.world.𝓜 g.world.𝓡 ((λ s x. x), (λ x. x), (λ x. x), λ x. x) in
    let reach = c.args.self.now.end + 1 in
    record {
      others = spares_more g.D.Disk _ _ _ _
          (laws.counts_now c.write_synced.new.disk) c.write_synced.ensures.others c.write_synced-2.ensures.others;
      within = c.write_synced-2.ensures.longer reach (c.write_synced.ensures.longer reach c.requires.within);
    }

pub returns-clause-disk : goal.returns-clause-disk
returns-clause-disk g c =
    let laws = g.met.D.Disk g.world.𝓛 g.world.𝓜 g.world.𝓡 ((λ s x. x), (λ x. x), (λ x. x), λ x. x) in
    let far = c.args.self.now.end + 1 + length c.bytes.result.now in
    let reach : c.end_with-end.result + 1 ≡ far = omega (arith, c.end_with-end.ensures, c.bytes.ensures.len) in
    record {
      others = spares_more g.D.Disk _ _ _ _
          (laws.counts_now c.write_synced.new.disk) c.write_synced.ensures.others c.write_synced-2.ensures.others;
      within = rw reach (c.write_synced-2.ensures.longer far c.in_ok-write_synced.ensures.reaches);
    }

-- the frame is behind an open gate
pub returns-clause-frames : goal.returns-clause-frames
returns-clause-frames g c kept holds =
    let laws = g.met.D.Disk g.world.𝓛 g.world.𝓜 g.world.𝓡 ((λ s x. x), (λ x. x), (λ x. x), λ x. x) in
    let log = c.args.self.now in
    let bytes = c.bytes.result.now in
    let room : log.end + 1 + length bytes ≤ 2 ^ 62 = omega (arith, c.in_ok-admit.ensures) in
    let has : Each log.file (g.D.Disk.may_leave c.args.disk.now) (HasFrames kept) = λ d was. leaves_good log.state
    kept [] (d log.file) holds.good (holds.represents.images d was) in
    let first = writes_behind g.D.Disk log.file log.end
    kept holds.represents.at_end (length bytes) c.args.disk.now c.write_synced.new.disk room has
    (c.write_synced.ensures.torn holds.represents.told) in
    let told = told_after log.file Any _ _ c.write_synced.ensures.others.reads holds.represents.told in
    let behind = represents_behind g.D.Disk log.file log.end
    kept holds.represents.at_end c.args.frame.now bytes c.args.disk.now c.write_synced.new.disk c.bytes.ensures.bytes
    room has
    holds.represents.told (laws.reads_now c.args.disk.now) c.in_ok-write_synced.ensures.written
    c.in_ok-write_synced.ensures.settled in
    let second = writes_gate g.D.Disk log.file log.end
    kept holds.represents.at_end (c.args.frame.now ∷ []) c.write_synced.new.disk c.write_synced-2.new.disk behind
    (c.write_synced-2.ensures.torn told) in
    record {
      now = record {
        good = refl;
        represents = record {
          told = told_after log.file Any _ _ c.write_synced-2.ensures.others.reads told;
          at_end = omega (
            arith,
            c.end_with-end.ensures,
            holds.represents.at_end,
            length-framed-push kept
                c.args.frame.now,
          );
          images = opens_gate g.D.Disk log.file log.end
              kept holds.represents.at_end (c.args.frame.now ∷ []) c.write_synced.new.disk c.write_synced-2.new.disk
              behind told
              (laws.reads_now c.write_synced.new.disk) c.in_ok-write_synced-2.ensures.written
              c.in_ok-write_synced-2.ensures.settled;
        };
      };
      any_moment = throughout_then _ _ _ _ _ _ (λ d. MayHave kept (c.args.frame.now ∷ []) (d log.file))
          (throughout_weaker _ _ _ _ (λ d. HasFrames kept (d log.file))
          (λ d. MayHave kept (c.args.frame.now ∷ []) (d log.file)) first (λ d is. inl is))
          (throughout_weaker _ _ _ _ (λ d. HasGate kept (c.args.frame.now ∷ []) (d log.file))
          (λ d. MayHave kept (c.args.frame.now ∷ []) (d log.file)) second
          (λ d is. may_have kept (c.args.frame.now ∷ []) (d log.file) is));
    }
