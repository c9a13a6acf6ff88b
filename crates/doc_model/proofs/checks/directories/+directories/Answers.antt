use Rattle.std.proofs.Common.{ap, sym, ◌∙◌}
use Rattle.std.specs.List.{list_all}
use Rattle.doc_model.specs.Queries.{directories_end, ends_with_slash}
use Rattle.doc_model.proofs.QueryFolds.{directories_and, directories_or, directories_near, directories_directory}
use Rattle.doc_model.proofs.checks.directories.+directories.Goals as goal

pub directories_end-returns-in-Directory : goal.directories_end-returns-in-Directory
directories_end-returns-in-Directory t c = c.all_end_with_slash.ensures ∙ ap (list_all ends_with_slash)
    c.as_slice.ensures ∙ sym (ap directories_end c.in-Directory.is ∙ directories_directory c.in-Directory.uris
    c.in-Directory.infinite)

pub directories_end-returns-in-And : goal.directories_end-returns-in-And
directories_end-returns-in-And t c =
    c.all_directories_end.ensures ∙ sym (ap directories_end c.in-And.is ∙ directories_and c.in-And.queries)

pub directories_end-returns-in-Or : goal.directories_end-returns-in-Or
directories_end-returns-in-Or t c =
    c.all_directories_end-in-Or.ensures ∙ sym (ap directories_end c.in-Or.is ∙ directories_or c.in-Or.queries)

pub directories_end-returns-in-Near : goal.directories_end-returns-in-Near
directories_end-returns-in-Near t c = c.all_directories_end-in-Near.ensures ∙
    sym (ap directories_end c.in-Near.is ∙ directories_near c.in-Near.queries c.in-Near.distance c.in-Near.ordered)
