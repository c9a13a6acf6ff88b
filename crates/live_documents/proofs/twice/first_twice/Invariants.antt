use Rattle.std.proofs.Common.{◌≡◌, [], drop, take, map}
use Rattle.doc_model.specs.Operations.{uri_of}
use Rattle.doc_meaning.specs.Replies.{first_twice}
use Rattle.live_documents.proofs.TwiceLemmas.{HasUris}
use Rattle.live_documents.proofs.twice.first_twice.Given as goal

abbrev pub invariant-loop-op : goal.invariant-loop-op
invariant-loop-op l = record {
  met : HasUris l.met (map uri_of (take l.op-index l.op-items));
  first : first_twice (map uri_of (take l.op-index l.op-items)) (map uri_of (drop l.op-index l.op-items))
      ≡ first_twice [] (map uri_of l.op-items);
}
