-- What the words of `init` give, as settings.
use Rattle.std.proofs.Common.{◌^◌, List, [], ◌∷◌, length, refl, IsTrue, ap, ◌∙◌, ◌&&◌, Bool}
use Rattle.std.specs.Prelude.{All, nat_lt}
use Rattle.std.specs.List.{list_all}
use Rattle.std.proofs.lemmas.Bool.{lt-ltb}
use Rattle.std.proofs.lemmas.List.Elements.{All-head, All-tail}
use Rattle.doc_model.specs.Queries.{Index}
use Rattle.command_words.specs.Asked.{IsName}

-- names that are short enough for a root
pub short_names : (indexes : List Index) → All (λ (index : Index). IsName index.0) indexes
    → IsTrue (list_all (λ (i : Index). nat_lt (length i.0) (2 ^ 32)) indexes)
short_names [] good = refl
short_names (i ∷ indexes) good =
    ap (λ (b : Bool). b && list_all (λ (j : Index). nat_lt (length j.0) (2 ^ 32)) indexes)
    (lt-ltb (length i.0) (2 ^ 32) (All-head (λ (index : Index). IsName index.0) i indexes good).1)
    ∙ short_names indexes (All-tail (λ (index : Index). IsName index.0) i indexes good)
