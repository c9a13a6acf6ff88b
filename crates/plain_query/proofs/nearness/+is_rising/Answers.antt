use Rattle.std.proofs.Common.{◌≡◌, ℕ, ◌<◌, true, List, [], ◌∷◌, length, refl, sym, arith}
use Rattle.doc_meaning.specs.Near.{is_rising}
use Rattle.plain_query.proofs.nearness.+is_rising.Goals as goal

one_rises : (starts : List ℕ) → length starts < 2 → is_rising starts ≡ true
one_rises [] h = refl
one_rises (n ∷ []) h = refl
one_rises (n ∷ m ∷ starts) h = absurd (omega arith)

pub returns-in_default : goal.returns-in_default
returns-in_default t c = sym (one_rises c.args.starts.now c.in_default.len_below)
