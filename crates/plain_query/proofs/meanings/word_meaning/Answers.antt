use Rattle.std.proofs.Common.{All, subst, sym, ap, ◌∙◌}
use Rattle.doc_meaning.specs.Strings.{strings}
use Rattle.doc_meaning.proofs.FitLemmas.{IsNumbered, document_fits, strings_numbered}
use Rattle.plain_query.proofs.meanings.word_meaning.Goals as goal

pub word_starts-requires : goal.word_starts-requires
word_starts-requires c =
    subst (All IsNumbered) (sym (c.as_slice.ensures ∙ c.in_ok-found.ensures ∙ ap strings c.root.ensures.value))
    (strings_numbered c.args.document.now.root (document_fits c.args.document.now c.root.ensures.rules))
