-- What the code returns, and what reading gives.
use Rattle.std.specs.Prelude.{◌≡◌, ◌≤◌, ℕ, List, Result, Ok, Err}
use Rattle.std.specs.Borrow.{Bor}
use Rattle.std.specs.BTreeMap.{BTreeMap, get_by}
use Rattle.std.specs.Cmp.Lexicographic.{slice_cmp}
use Rattle.std.specs.Option.{is_some}
use Rattle.std.specs.Ordering.{nat_cmp}
use Rattle.doc_model.specs.Tree.{is_among}
use Rattle.docs_format.specs.declared.fault.DocBytesBad.{DocBytesBad}
use Rattle.docs_format.specs.declared.fault.DocBytesBad.TheVariants as bad

-- the value that reading gives, or the place where the bytes break a rule, unless memory ran out
abbrev pub Decodes : {X : Type 0} → Result X DocBytesBad → Result X ℕ → Type 0
Decodes (Ok x) read = read ≡ Ok x
Decodes (Err bad.Memory) read = Unit {0}
Decodes (Err (bad.Bad place)) read = read ≡ Err place

-- the place is that of one of so many bytes, or their end
abbrev pub IsPlaced : ℕ → DocBytesBad → Type 0
IsPlaced len bad.Memory = Unit {0}
IsPlaced len (bad.Bad place) = place ≤ len

-- the keys of the map are these names
abbrev pub HasNames : BTreeMap (Bor (List ℕ)) Unit → List (List ℕ) → Type 0
HasNames seen names =
    (name : List ℕ) → is_some (get_by (λ key. slice_cmp nat_cmp name key.now) seen) ≡ is_among names name
