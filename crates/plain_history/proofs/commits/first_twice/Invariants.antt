use Rattle.std.proofs.Common.{◌≡◌, [], drop, take, map}
use Rattle.doc_model.specs.Operations.{uri_of}
use Rattle.doc_meaning.specs.Replies.{first_twice}
use Rattle.plain_history.proofs.commits.first_twice.Given as goal

abbrev pub invariant-loop-i : goal.invariant-loop-i
invariant-loop-i l = first_twice (map uri_of (take l.i l.ops)) (map uri_of (drop l.i l.ops))
    ≡ first_twice [] (map uri_of l.ops)
