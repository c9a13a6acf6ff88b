use Rattle.std.proofs.Common.{◌++◌, ◌∷◌, [], List, ℕ, sym, subst}
use Rattle.std.specs.List.{flat_map}
use Rattle.journal_bodies.specs.Answers.{HasFiles}
use Rattle.journal_bodies.specs.Roots.{files_of}
use Rattle.journal_bodies.specs.declared.root.PartFiles.{PartFiles}
use Rattle.journal_bodies.proofs.Distinct.{part_push}
use Rattle.journal_bodies.proofs.parts.part_at.Goals as goal

pub returns-clause-noted : goal.returns-clause-noted
returns-clause-noted c =
    λ before had.
    let a : List ℕ = flat_map files_of before ++ c.in_ok-index.index ∷ [] in
    let b : List ℕ = a ++ c.in_ok-documents.documents ∷ [] in
    let p : PartFiles = record {
      index = c.in_ok-index.index;
      documents = c.in_ok-documents.documents;
      stamps = c.in_ok-stamps.stamps;
      fragments = c.in_ok-fragments.fragments;
    } in
    subst (λ (files : List ℕ). HasFiles c.file_at-3.new.seen files) (sym (part_push before p))
    (c.in_ok-stamps.ensures.noted b
    (c.in_ok-documents.ensures.noted a (c.in_ok-index.ensures.noted (flat_map files_of before) had)))
