use Rattle.std.proofs.Common.{◌≡◌, ℕ, ◌<◌, true, List, [], ◌∷◌, length, refl, sym, arith}
use Rattle.doc_model.specs.Uri.{is_rising}
use Rattle.doc_model.proofs.uri.+is_rising.Goals as goal

one_rises : (names : List (List ℕ)) → length names < 2 → is_rising names ≡ true
one_rises [] h = refl
one_rises (name ∷ []) h = refl
one_rises (name ∷ next ∷ names) h = absurd (omega arith)

pub returns-in_default : goal.returns-in_default
returns-in_default t c = sym (one_rises c.args.names.now c.in_default.len_below)
