use Rattle.std.proofs.Common.{◌<◌, ◌^◌, List, ℕ, sum_by, length, subst, sym, ap, ◌∙◌}
use Rattle.std.specs.List.{filter_map}
use Rattle.doc_meaning.specs.Strings.{Property, text_of}
use Rattle.doc_meaning.specs.Words.{plain}
use Rattle.doc_meaning.proofs.FitLemmas.{texts_fit}
use Rattle.plain_query.proofs.string_list.strings.Goals as goal

pub with_positions-requires : goal.with_positions-requires
with_positions-requires c =
    let P : List (Property × List ℕ) → Type 0 = λ texts. sum_by (λ s. length (plain s.1)) texts < 2 ^ 64 in
    subst P (sym (c.as_slice-2.ensures ∙ c.in_ok-texts.ensures
    ∙ ap (filter_map text_of) (c.as_slice.ensures ∙ c.in_ok-found.ensures)))
    (texts_fit c.args.root.now c.requires)
