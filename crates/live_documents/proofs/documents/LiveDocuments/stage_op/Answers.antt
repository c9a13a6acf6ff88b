use Rattle.std.proofs.lemmas.Result.{on_ok_weaker}
use Rattle.live_documents.proofs.StagingLemmas.{put_before, removed_last}
use Rattle.live_documents.proofs.documents.LiveDocuments.stage_op.Goals as goal

pub returns-in-Put-clause-after : goal.returns-in-Put-clause-after
returns-in-Put-clause-after c =
    on_ok_weaker c.stage_put.result
    (put_before c.args.at c.args.op c.args.staged.now.removals.items c.in-Put.document c.in-Put.expect c.in-Put.is
    c.requires c.args.self.now c.stage_put.new.self)
    c.stage_put.ensures.after

pub returns-in_ok-push-in-Remove-clause-after : goal.returns-in_ok-push-in-Remove-clause-after
returns-in_ok-push-in-Remove-clause-after c =
    removed_last c.args.at c.args.op c.args.staged.now.removals.items c.in-Remove.uri c.in-Remove.expect c.in-Remove.is
    c.push.new.self.items c.in_ok-push-in-Remove.ensures.items c.args.self.now
