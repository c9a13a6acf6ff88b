use Rattle.std.proofs.Common.{subst, sym, refl, length, true, rules}
use Rattle.client_lines.specs.Rows.{Matches, IsLast}
use Rattle.client_lines.specs.declared.row.Last.{Last}
use Rattle.client_lines.proofs.PrefixMatchLemmas.{goes_nothing, goes_alone, goes_rest}
use Rattle.client_lines.proofs.prefix_match.match_last.Goals as goal

pub returns-in-Whole : goal.returns-in-Whole
returns-in-Whole c =
    subst (λ (l : Last). Matches (IsLast l) c.args.bytes.now (record { count = c.end-count.result; whole = c.is_all-whole.result }))
    (sym c.in-Whole.is)
    (goes_alone c.in-Whole.word_kind c.args.bytes.now c.end-count.result _
    (record { most = c.end-count.ensures.most; is = c.end-count.ensures.is; longest = c.end-count.ensures.longest })
    refl c.is_all-whole.ensures)

pub returns-in-Nothing : goal.returns-in-Nothing
returns-in-Nothing c =
    subst (λ (l : Last). Matches (IsLast l) c.args.bytes.now (record { count = 0; whole = c.is_empty.result }))
    (sym c.in-Nothing.is)
    (goes_nothing c.args.bytes.now _ refl
    (search rules))

pub returns-in-Rest : goal.returns-in-Rest
returns-in-Rest c =
    subst (λ (l : Last). Matches (IsLast l) c.args.bytes.now (record { count = length c.args.bytes.now; whole = true }))
    (sym c.in-Rest.is) (goes_rest c.args.bytes.now _ refl refl)
