use Rattle.std.proofs.Common.{◌∙◌, ◌++◌, ◌∷◌, [], List, ℕ, append_assoc, subst}
use Rattle.std.proofs.lemmas.Result.{err_from_is_err_and}
use Rattle.docs_format.proofs.Lists.{goes_on, stops, ends}
use Rattle.docs_format.proofs.Parts.{stops_same}
use Rattle.journal_bodies.specs.Answers.{HasFiles}
use Rattle.journal_bodies.specs.RootReading.{file_at, removed_at}
use Rattle.journal_bodies.proofs.Loops.{removed_are}
use Rattle.journal_bodies.proofs.parts.removed_at.Goals as goal

pub returns-in_err-file_at : goal.returns-in_err-file_at
returns-in_err-file_at c =
    λ others had.
    let p = err_from_is_err_and c.from_residual-in_err-file_at.result c.from_residual-in_err-file_at.ensures.1 in
    rw (p.1, p.2)
    (stops_same c.in_err-file_at.field-0.0 _ (removed_at c.args.next others c.args.reader.now)
    (removed_are c.args.next others c.args.reader.now c.in_ok-count.count c.count.new.self c.in_ok-count.ensures)
    (stops c.in_err-file_at.field-0.0 (λ before. file_at c.args.next (others ++ before)) c.loop.removed
    c.in_ok-count.count c.loop.counter c.loop.reader _ c.loop-test.true
    (c.in_err-file_at.ensures.file (others ++ c.loop.removed) (c.loop.invariant.seen others had))
    (c.loop.invariant.total others had)))

pub loop-preserved : goal.loop-preserved
loop-preserved c = record {
  total =
      λ others had. rw c.in_ok-push.ensures.ok
      (goes_on (λ before. file_at c.args.next (others ++ before)) c.loop.removed c.in_ok-count.count c.loop.counter
      c.loop.reader c.in_ok-file_at.field-0 c.file_at.new.reader _ c.loop-test.true
      (c.in_ok-file_at.ensures.file (others ++ c.loop.removed) (c.loop.invariant.seen others had))
      (c.loop.invariant.total others had));
  seen =
      λ others had. rw c.in_ok-push.ensures.ok
      (subst (λ (files : List ℕ). HasFiles c.file_at.new.seen files)
      (append_assoc others c.loop.removed (c.in_ok-file_at.field-0 ∷ []))
      (c.in_ok-file_at.ensures.noted (others ++ c.loop.removed) (c.loop.invariant.seen others had)));
}

pub returns : goal.returns
returns c =
    λ others had.
    removed_are c.args.next others c.args.reader.now c.in_ok-count.count c.count.new.self c.in_ok-count.ensures
    ∙ ends (λ before. file_at c.args.next (others ++ before)) c.loop.removed c.in_ok-count.count c.loop.counter
    c.loop.reader _ c.loop-test.false (c.loop.invariant.total others had)
