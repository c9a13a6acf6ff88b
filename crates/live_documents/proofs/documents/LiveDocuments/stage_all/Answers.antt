use Rattle.std.proofs.Common.{◌++◌, ◌∷◌, IsTrue, map, length, ap, sym, ◌∙◌, arith}
use Rattle.std.specs.Vec.Iter.{into_iter_items}
use Rattle.doc_model.specs.Operations.{uri_of}
use Rattle.doc_model.specs.Tree.{is_distinct}
use Rattle.doc_meaning.specs.History.{after_ops}
use Rattle.live_documents.specs.Staging.{settled}
use Rattle.live_documents.proofs.StagingLemmas.{apart_from_later, still_distinct}
use Rattle.live_documents.proofs.documents.LiveDocuments.stage_all.Goals as goal
use Rattle.live_documents.proofs.documents.LiveDocuments.stage_all.Goals.{In-Some}

-- what is to be removed, this operation and those to come name distinct URIs
distinct : (c : In-Some) →
    let later = map uri_of (into_iter_items c.next.new.self) in
    IsTrue (is_distinct (c.loop-op.staged.removals.items ++ uri_of c.in-Some.op ∷ later))
distinct c =
    ap (λ ops. is_distinct (c.loop-op.staged.removals.items ++ map uri_of ops)) (sym c.in-Some.ensures.steps.0)
    ∙ c.loop-op.invariant.distinct

pub stage_op-requires : goal.stage_op-requires
stage_op-requires c =
    apart_from_later c.in-Some.op c.loop-op.staged.removals.items (map uri_of (into_iter_items c.next.new.self))
    (distinct (goal.at.stage_op-requires c).In-Some)

pub loop-op-preserved : goal.loop-op-preserved
loop-op-preserved c =
    let later = into_iter_items c.next.new.self in
    let steps = c.in-Some.ensures.steps in
    record {
      counted = omega (arith, ap length steps.0, steps.1);
      distinct = ap (λ uris. is_distinct (uris ++ map uri_of later)) c.in_ok-stage_op.ensures.noted
          ∙ still_distinct c.in-Some.op c.loop-op.staged.removals.items (map uri_of later)
          (distinct (goal.at.loop-op-preserved c).In-Some);
      after = ap (after_ops c.args.at later) c.in_ok-stage_op.ensures.after
          ∙ ap (λ ops. after_ops c.args.at ops (settled c.loop-op.staged c.loop-op.self)) (sym steps.0)
          ∙ c.loop-op.invariant.after;
      before = c.stage_op.ensures.before ∙ c.loop-op.invariant.before;
    }
