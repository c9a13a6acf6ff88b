use Rattle.std.proofs.Common.{refl}
use Rattle.directory_meaning.specs.Bodies.{past}
use Rattle.directory_reading.proofs.ReplayLemmas.{frozen_past}
use Rattle.directory_reading.specs.Walking.{start_of}
use Rattle.directory_reading.proofs.WalkLemmas.{Reads-append}
use Rattle.directory_reading.proofs.replay.replay_both.Goals as goal

pub returns : goal.returns
returns c =
    let root = c.args.root.now in
    record {
      front = c.in_ok-front.front;
      all = c.in_ok-joined.ensures;
      read = Reads-append (start_of root) c.in_ok-between.between c.in_ok-front.front
          (past root.checkpoint c.args.earlier.entries.items) (past root.checkpoint c.args.later.entries.items)
          c.in_ok-between.ensures c.in_ok-front.ensures;
      merged = refl;
      goes_to = refl;
      stays = refl;
      last = frozen_past root c.deref.result.now c.args.earlier.entries.items c.in_ok-between.between.merge
          c.last_past.result c.frozen_at-frozen.result c.frozen_at-frozen.ensures c.last_past.ensures
          c.deref.ensures.value c.in_ok-between.ensures.merges;
    }
