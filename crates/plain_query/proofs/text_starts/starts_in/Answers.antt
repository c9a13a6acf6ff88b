use Rattle.std.proofs.Common.{◌+◌, ◌<◌, ◌^◌, All, subst, sym, ap, ◌∙◌}
use Rattle.doc_meaning.specs.Strings.{positions, words_seen}
use Rattle.doc_meaning.proofs.PositionLemmas.{places_fit}
use Rattle.plain_query.proofs.text_starts.starts_in.Goals as goal

pub behind-requires : goal.behind-requires
behind-requires c =
    let any_case = c.ignores_case-any_case.result in
    let seen = c.as_slice-2.ensures ∙ c.in_ok-seen.ensures ∙ ap (words_seen any_case) c.as_str.ensures in
    subst (All (λ j. c.args.string.now.first_position + j < 2 ^ 64))
    (sym (c.as_slice-3.ensures ∙ c.in_ok-found.ensures ∙ ap (positions c.as_slice.result.now) seen))
    (places_fit c.args.string.now.first_position any_case c.as_slice.result.now c.args.string.now.text c.requires)
