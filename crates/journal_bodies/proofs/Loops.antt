-- What is behind a count, as the list that it counts.
use Rattle.std.proofs.Common.{◌≡◌, ℕ, ◌≤◌, true, nat_le, List, [], ◌++◌, Ok, refl}
use Rattle.std.proofs.lemmas.Bool.{le-leb}
use Rattle.docs_format.specs.Reading.{count_at, list_at}
use Rattle.journal_bodies.specs.RootReading.{file_at, index_at, indexes_at, part_at, parts_at, removed_at}

pub indexes_are : (bytes : List ℕ) (n : ℕ) (rest : List ℕ) → count_at bytes ≡ Ok (n, rest) → n ≤ 64
    → indexes_at bytes ≡ list_at index_at [] n rest
unfolding indexes_at
indexes_are bytes n rest e few =
    let small : nat_le n 64 ≡ true = le-leb n 64 few in
    rw (e, small) refl

pub parts_are : (next : ℕ) (bytes : List ℕ) (n : ℕ) (rest : List ℕ) → count_at bytes ≡ Ok (n, rest)
    → parts_at next bytes ≡ list_at (part_at next) [] n rest
unfolding parts_at
parts_are next bytes n rest e = rw e refl

pub removed_are : (next : ℕ) (others bytes : List ℕ) (n : ℕ) (rest : List ℕ) → count_at bytes ≡ Ok (n, rest)
    → removed_at next others bytes ≡ list_at (λ before. file_at next (others ++ before)) [] n rest
unfolding removed_at
removed_are next others bytes n rest e = rw e refl
