-- Roots as a whole.
use Rattle.std.proofs.Common.{◌≡◌, ℕ, List, [], ◌++◌, length, Result, Ok, Err, sym, ap, ◌∙◌}
use Rattle.std.specs.Prelude.{IfOk}
use Rattle.std.proofs.lemmas.List.{append-nil}
use Rattle.byte_formats.specs.Answers.{Fails}
use Rattle.docs_format.specs.Answers.{Decodes}
use Rattle.byte_formats.specs.declared.error.DecodeError.{DecodeError}
use Rattle.docs_format.proofs.Digits.{IsBytes}
use Rattle.journal_bodies.specs.Answers.{IsWithin, alone, root_of}
use Rattle.journal_bodies.specs.Laws.{RootsAreRead, RootsEndEarly}
use Rattle.journal_bodies.specs.RootReading.{root_at}
use Rattle.journal_bodies.specs.Roots.{PlainRoot, SpellsRoot, root}
use Rattle.docs_format.specs.declared.fault.DocBytesBad.{DocBytesBad}
use Rattle.journal_bodies.proofs.Places.{ends_early, is_within, whole_again, whole_found}
use Rattle.journal_bodies.proofs.RootAgain.{root_again, spelled_again}
use Rattle.journal_bodies.proofs.RootReads.{KeepsRoot, root_reads}

pub root_within : (bytes : List ℕ) (why : DecodeError) → IsBytes bytes → Fails why (alone (root_at bytes))
    → IsWithin (length bytes) why
root_within bytes why fits e = is_within root KeepsRoot bytes (root_at bytes) why (root_reads bytes fits) e

pub root_found : (bytes : List ℕ) (r : Result PlainRoot DocBytesBad) → IsBytes bytes → Decodes r (root_of bytes)
    → IfOk r (λ x. SpellsRoot bytes x)
root_found bytes (Err why) fits a = tt
root_found bytes (Ok x) fits a =
    let w = whole_found root KeepsRoot bytes (root_at bytes) x (root_reads bytes fits) a in
    record { rules = w.1.rules; ranges = w.1.ranges; spelled = w.0 }

read_whole : (bytes : List ℕ) (r : PlainRoot) → SpellsRoot bytes r → root_at bytes ≡ Ok (r, [])
read_whole bytes r s = ap root_at (sym (append-nil bytes)) ∙ spelled_again bytes [] r s

pub roots_are_read : RootsAreRead
roots_are_read bytes r s = whole_again (length bytes) (root_at bytes) r (read_whole bytes r s)

pub roots_end_early : RootsEndEarly
roots_end_early bytes more r fits s some =
    ends_early root_at root KeepsRoot (λ x rest k. root_again x rest k.rules k.ranges) bytes more r
    (root_reads bytes fits) (read_whole (bytes ++ more) r s) some
