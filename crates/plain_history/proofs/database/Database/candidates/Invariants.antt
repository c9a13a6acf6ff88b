use Rattle.std.proofs.Common.{◌≡◌, ◌++◌}
use Rattle.plain_history.specs.Candidates.{candidates}
use Rattle.plain_history.proofs.database.Database.candidates.Given as goal

abbrev pub invariant-loop-uri : goal.invariant-loop-uri
invariant-loop-uri l = l.found ++ candidates l.uri-iterator l.query ≡ candidates l.initial.uri-iterator l.query
