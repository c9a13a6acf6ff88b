-- What a list of bytes begins with.
use Rattle.std.specs.Prelude.{ℕ, ◌≡◌, ◌≢◌, List, ◌++◌, MatchOption, Option}
use denote.Ref.{Bor}

-- the bytes behind the head; none where the bytes don't begin with it
abbrev pub FindsRest : List ℕ → List ℕ → Option (Bor (List ℕ)) → Type 0
FindsRest bytes head found =
    MatchOption found ((rest : List ℕ) → bytes ≢ head ++ rest) (λ rest. bytes ≡ head ++ rest.now)
