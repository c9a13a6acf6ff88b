use Rattle.std.proofs.Common.{◌≡◌, drop}
use Rattle.std.specs.List.{list_all}
use Rattle.doc_model.specs.Queries.{directories_end}
use Rattle.doc_model.proofs.checks.directories.+directories.Given as goal

abbrev pub invariant-all_directories_end-loop-query : goal.invariant-all_directories_end-loop-query
invariant-all_directories_end-loop-query l =
    list_all directories_end (drop l.query-index l.queries) ≡ list_all directories_end l.queries
