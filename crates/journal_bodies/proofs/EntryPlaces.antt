-- Entries as a whole.
use Rattle.std.proofs.Common.{◌≡◌, ℕ, List, [], ◌++◌, length, Option, Result, Ok, Err, sym, ap, ◌∙◌}
use Rattle.std.specs.Prelude.{IfOk, IsTrue}
use Rattle.std.proofs.lemmas.List.{append-nil}
use Rattle.doc_model.specs.declared.entry.Entry.{Entry}
use Rattle.byte_formats.specs.Answers.{Fails}
use Rattle.docs_format.specs.Answers.{Decodes}
use Rattle.byte_formats.specs.declared.error.DecodeError.{DecodeError}
use Rattle.docs_format.proofs.Digits.{IsBytes}
use Rattle.journal_bodies.specs.Answers.{IsWithin, alone, entry_of}
use Rattle.journal_bodies.specs.Entries.{SpellsEntry}
use Rattle.journal_bodies.specs.EntryReading.{entry_at, is_expected}
use Rattle.journal_bodies.specs.Laws.{EntriesAreRead, EntriesEndEarly}
use Rattle.docs_format.specs.declared.fault.DocBytesBad.{DocBytesBad}
use Rattle.journal_bodies.proofs.EntryAgain.{entry_again, spelled_again}
use Rattle.journal_bodies.proofs.EntryReads.{KeepsEntry, entry_reads, spell_entry}
use Rattle.journal_bodies.proofs.Places.{ends_early, is_within, whole_again, whole_found}
use Rattle.journal_bodies.proofs.Truths.{from_true, is_true}

pub entry_within : (expected : Option ℕ) (bytes : List ℕ) (why : DecodeError) → IsBytes bytes
    → Fails why (alone (entry_at expected bytes)) → IsWithin (length bytes) why
entry_within expected bytes why fits e = is_within spell_entry (KeepsEntry expected) bytes (entry_at expected bytes) why
    (entry_reads expected bytes fits) e

pub entry_found : (expected : Option ℕ) (bytes : List ℕ) (r : Result (ℕ × Entry) DocBytesBad) → IsBytes bytes
    → Decodes r (entry_of expected bytes) → IfOk r (λ x. SpellsEntry bytes x.0 x.1 × IsTrue (is_expected expected x.0))
entry_found expected bytes (Err why) fits a = tt
entry_found expected bytes (Ok x) fits a =
    let w = whole_found spell_entry (KeepsEntry expected) bytes (entry_at expected bytes) x
    (entry_reads expected bytes fits) a in (
      record { fits = w.1.fits; rules = w.1.rules; values = w.1.values; spelled = w.0 },
      is_true _ w.1.expected,
    )

read_whole : (expected : Option ℕ) (bytes : List ℕ) (number : ℕ) (e : Entry) → SpellsEntry bytes number e
    → IsTrue (is_expected expected number) → entry_at expected bytes ≡ Ok ((number, e), [])
read_whole expected bytes number e s is =
    ap (entry_at expected) (sym (append-nil bytes)) ∙ spelled_again expected bytes [] number e s (from_true _ is)

pub entries_are_read : EntriesAreRead
entries_are_read expected bytes number e s is =
    whole_again (length bytes) (entry_at expected bytes) (number, e) (read_whole expected bytes number e s is)

pub entries_end_early : EntriesEndEarly
entries_end_early expected bytes more number e fits s is some =
    ends_early (entry_at expected) spell_entry (KeepsEntry expected)
    (λ x rest k. entry_again expected x.0 x.1 rest k.fits k.rules k.values k.expected) bytes more (number, e)
    (entry_reads expected bytes fits) (read_whole expected (bytes ++ more) number e s is) some
