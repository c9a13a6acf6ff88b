-- The rows of the code, by their texts alone.
use Rattle.std.proofs.Common.{◌⊎◌, ℕ, List, [], ◌∷◌, codes}
use Rattle.std.specs.Prelude.{Option, Some, None}
use Rattle.client_lines.specs.Rows.{Behind, IsTail}
use Rattle.client_lines.specs.declared.row.Last.{Last}
use Rattle.client_lines.specs.declared.row.Last.TheVariants.{Nothing, Whole, Rest}
use Rattle.client_lines.specs.declared.row.WordKind.{WordKind}
use Rattle.client_lines.specs.declared.row.WordKind.TheVariants.{Word, Timestamp}

pub record RowText : Type 0 where
  pub head : List ℕ
  pub middle : Option WordKind
  pub last : Last

abbrev row : List ℕ → Option WordKind → Last → RowText
row head middle last = record { head = head; middle = middle; last = last }

-- of some of the rows
abbrev pub IsOfThese : List RowText → List ℕ → Type 0
IsOfThese [] line = ⊥
IsOfThese (first ∷ rows) line = Behind first.head (IsTail first.middle first.last) line ⊎ IsOfThese rows line

abbrev pub at_rows : List RowText
at_rows =
    row (codes "get at ") (Some Timestamp) (Whole Word) ∷ row (codes "search at ") (Some Timestamp) Rest
    ∷ row (codes "estimate at ") (Some Timestamp) Rest ∷ []

abbrev pub pinned_rows : List RowText
pinned_rows =
    row (codes "get pinned ") None (Whole Word) ∷ row (codes "search pinned ") None Rest
    ∷ row (codes "estimate pinned ") None Rest ∷ []

abbrev pub other_rows : List RowText
other_rows =
    row (codes "commit ") None Rest ∷ row (codes "estimate ") None Rest ∷ row (codes "forget ") None (Whole Timestamp)
    ∷ row (codes "pin") None Nothing ∷ row (codes "unpin") None Nothing ∷ row (codes "save") None Nothing
    ∷ row (codes "merge") None Nothing ∷ row (codes "revive") None Nothing ∷ []

abbrev pub answered_rows : List RowText
answered_rows =
    row (codes "put ") (Some Word) Rest ∷ row (codes "remove ") None (Whole Word) ∷ row (codes "get ") None (Whole Word)
    ∷ row (codes "search ") None Rest ∷ row (codes "stamp") None Nothing ∷ row (codes "quit") None Nothing ∷ []
