use Rattle.std.proofs.Common.{◌≡◌, ◌∙◌, [], ◌∷◌, Some, ap}
use Rattle.std.specs.Result.{result_ok}
use Rattle.std.proofs.lemmas.Option.{MatchOption-at_some}
use Rattle.directory_reading.specs.Walking.{Breaks, Reads}
use Rattle.directory_reading.proofs.WalkLemmas.{Reads-more, Reads-same}
use Rattle.directory_reading.proofs.walk.walk.Goals as goal
use Rattle.directory_reading.proofs.walk.walk.Goals.{then-entry-checkpoint+in_ok-front, else-entry-checkpoint}

pub loop-k-preserved : goal.loop-k-preserved
loop-k-preserved c =
    elim c.if-entry-checkpoint.branch [
      | then-entry-checkpoint+in_ok-front w ↦
          let next = w.in_ok-front.front in
          let some : w.follow.result ≡ Some next = w.ok_or.ensures.ok_part ∙ ap result_ok w.in_ok-front.was in
          rw w.front-is
          (Reads-more c.args.checkpoint c.args.from c.loop-k.front next c.args.entries.now c.loop-k.k
          c.index-entries-k.result
          c.loop-k-test.true c.index-entries-k.is w.if-entry-checkpoint.true c.loop-k.invariant
          (MatchOption-at_some (Breaks c.loop-k.front c.index-entries-k.result)
          (Reads c.loop-k.front (c.index-entries-k.result ∷ [])) next some w.follow.ensures))
      | else-entry-checkpoint w ↦
          rw w.front-is
          (Reads-same c.args.checkpoint c.args.from c.loop-k.front c.args.entries.now c.loop-k.k
          c.index-entries-k.result
          c.loop-k-test.true c.index-entries-k.is w.if-entry-checkpoint.false c.loop-k.invariant)
    ]
