use Rattle.std.proofs.Common.{[], ◌∷◌, ℕ, List, ap, map, string_bytes, sym, ◌∙◌}
use Rattle.command_words.proofs.UseLemmas.{one_word, only_before, only_behind, two_words}
use Rattle.command_words.proofs.reading.only_word.Goals as goal

pub returns-in-Some-len1 : goal.returns-in-Some-len1
returns-in-Some-len1 c =
    only_before c.args.before (map string_bytes c.args.rest.now) c.in-Some-len1.word c.deref.result.now
    c.in-Some-len1.is-0
    (one_word c.args.rest.now c.end-item.result c.in-Some-len1.len_at_least c.in-Some-len1.len_below c.end-item.is
    ∙ ap (λ (t : List ℕ). t ∷ []) (sym c.deref.ensures))
    (c.same.ensures.0 c.if-same.true)

pub returns-in-None-len2 : goal.returns-in-None-len2
returns-in-None-len2 c =
    only_behind c.args.before (map string_bytes c.args.rest.now) c.deref-in-None-len2.result.now
    c.deref-then-this-lt3.result.now (string_bytes c.word-item.result) c.in-None-len2.is-0
    (two_words c.args.rest.now c.end-item-then-this-lt3.result c.word-item.result c.in-None-len2.len_at_least
    c.in-None-len2.len_below c.end-item-then-this-lt3.is c.word-item.is
    ∙ ap (λ (t : List ℕ). t ∷ string_bytes c.word-item.result ∷ []) (sym c.deref-then-this-lt3.ensures))
    (c.same-then-this-lt3.ensures.0 c.if-same-2.true) c.deref-in-None-len2.ensures
