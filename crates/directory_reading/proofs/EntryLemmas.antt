-- One more entry of a journal, and an invalid body.
use Rattle.std.proofs.Common.{◌≡◌, ◌∙◌, ◌+◌, ◌-◌, ℕ, suc, List, [], ◌∷◌, ◌++◌, Option, Some, option_map, Result, Err, refl, sym, ap, subst, length, slice_get, length-append, arith}
use Rattle.std.specs.Prelude.{IsTrue}
use Rattle.std.proofs.lemmas.Bool.{eqb-true}
use Rattle.docs_format.specs.Answers.{Decodes, IsPlaced}
use Rattle.docs_format.specs.declared.fault.DocBytesBad.{DocBytesBad}
use Rattle.docs_format.specs.declared.fault.DocBytesBad.TheVariants as bad
use Rattle.disk_model.specs.declared.file_name.FileName.TheVariants.{Log, Sealed}
use Rattle.frame_log.specs.Frames.{framed}
use Rattle.journal_bodies.proofs.Truths.{from_true}
use Rattle.journal_bodies.specs.Answers.{entry_of}
use Rattle.journal_bodies.specs.Entries.{SpellsEntry}
use Rattle.journal_bodies.specs.EntryReading.{is_expected}
use Rattle.directory_meaning.proofs.Rising.{rise_head, rise_one, rise_push, rise_tail}
use Rattle.directory_meaning.specs.Bodies.{IsJournal, Numbered, RiseFrom, last_of}
use Rattle.directory_meaning.specs.Damages.{IsBadEntry, next_number}
use Rattle.directory_reading.specs.Reading.{HasEntries}
use Rattle.directory_reading.specs.Unread.{BreaksAt, IsBadBody, IsUnread, TellsBad}
use Rattle.directory_reading.specs.declared.entries.EntriesRead.{EntriesRead}
use Rattle.directory_reading.specs.declared.unread.LogBad.{LogBad}
use Rattle.directory_reading.specs.declared.unread.LogBad.TheVariants.{Damaged, Fault, Memory}
use Rattle.directory_reading.proofs.GateLemmas.{gates_push, zip_push}

-- what breaks one rule breaks another one
pub unread : (P Q : ℕ → ℕ → Type 0) → ((file place : ℕ) → P file place → Q file place) → (why : LogBad) →
    IsUnread P why → IsUnread Q why
unread P Q f (Damaged (Log file) place) u = f file place u
unread P Q f (Damaged (Sealed number) place) u = absurd u
unread P Q f Fault u = absurd u
unread P Q f Memory u = tt

-- the error of a body is one of its log
pub told_bad : {X : Type 0} (file gate len : ℕ) (read : Result X ℕ) (why : DocBytesBad) (told : LogBad) →
    Decodes (Err why) read → IsPlaced len why → TellsBad file gate why told →
    IsUnread (BreaksAt (λ at. read ≡ Err at) file gate len) told
told_bad file gate len read bad.Memory told decodes placed is =
    subst (IsUnread (BreaksAt (λ at. read ≡ Err at) file gate len)) (sym is) tt
told_bad file gate len read (bad.Bad at) told decodes placed is =
    subst (IsUnread (BreaksAt (λ at. read ≡ Err at) file gate len)) (sym is)
    (record { at = at; log = refl; broken = decodes; within = placed; placed = refl })

-- an invalid body behind those of a journal
pub bad_entry : (bodies : List (List ℕ)) (read : EntriesRead) (file gate : ℕ) (body : List ℕ) (why : LogBad) →
    HasEntries bodies read →
    IsUnread (BreaksAt (λ at. entry_of (next_number read.entries.items) body ≡ Err at) file gate (length body)) why →
    IsUnread (IsBadBody IsBadEntry file bodies gate body) why
bad_entry bodies read file gate body why has = unread _ (IsBadBody IsBadEntry file bodies gate body) (λ other place b.
    record {
      at = b.at;
      log = b.log;
      broken = (read.entries.items, has.journal, b.broken);
      within = b.within;
      placed = b.placed;
    }) why

-- the number of the last of entries that rise
last_is : (n : ℕ) (x : Numbered) (es : List Numbered) → RiseFrom n (x ∷ es) → last_of (x ∷ es) ≡ Some (n + length es)
last_is n x [] rises =
    let same : x.0 ≡ n + 0 = omega (arith, rise_head n x [] rises) in
    ap (λ (k : ℕ). Some k) same
last_is n x (y ∷ es) rises =
    let step : length (x ∷ y ∷ es) - 1 ≡ suc (length (y ∷ es) - 1) = omega arith in
    let sum : n + 1 + length es ≡ n + length (y ∷ es) = omega arith in
    ap (λ k. option_map (λ (d : Numbered). d.0) (slice_get (x ∷ y ∷ es) k)) step
    ∙ last_is (n + 1) y es (rise_tail n x (y ∷ es) rises)
    ∙ ap (λ (k : ℕ). Some k) sum

-- an entry with the next number goes on
next_rises : (n : ℕ) (es : List Numbered) (e : Numbered) → RiseFrom n es →
    IsTrue (is_expected (next_number es) e.0) → (m : ℕ) × RiseFrom m (es ++ e ∷ [])
next_rises n [] e rises is = (e.0, rise_one e.0 e refl)
next_rises n (x ∷ es) e rises is =
    let next : IsTrue (is_expected (Some (n + length es + 1)) e.0) =
    subst (λ (o : Option ℕ). IsTrue (is_expected (option_map (λ m. m + 1) o) e.0)) (last_is n x es rises) is in
    let number : e.0 ≡ n + length es + 1 = eqb-true e.0 (n + length es + 1) (from_true _ next) in
    (n, rise_push n (x ∷ es) e rises (omega (arith, number)))

-- what was expected behind the last entry, from a list that was lent
pub expects : (read : EntriesRead) (lent : List Numbered) (last : Option ℕ) (body : List ℕ) (e : Numbered) →
    lent ≡ read.entries.items → last ≡ last_of lent →
    SpellsEntry body e.0 e.1 × IsTrue (is_expected (option_map (λ n. n + 1) last) e.0) →
    SpellsEntry body e.0 e.1 × IsTrue (is_expected (next_number read.entries.items) e.0)
expects read lent last body e same is spelled = (
  spelled.0,
  subst (λ (o : Option ℕ). IsTrue (is_expected (option_map (λ n. n + 1) o) e.0)) (is ∙ ap last_of same) spelled.1,
)

-- one more body
pub entries_push : (bodies : List (List ℕ)) (read new : EntriesRead) (body : List ℕ) (e : Numbered) (gate : ℕ) →
    HasEntries bodies read →
    SpellsEntry body e.0 e.1 × IsTrue (is_expected (next_number read.entries.items) e.0) →
    gate ≡ length (framed bodies) → new.entries.items ≡ read.entries.items ++ e ∷ [] →
    new.gates.items ≡ read.gates.items ++ gate ∷ [] → HasEntries (bodies ++ body ∷ []) new
entries_push bodies read new body e gate has spelled at entries gates =
    let run = next_rises has.journal.from read.entries.items e has.journal.rises spelled.1 in
    record {
      journal = subst (IsJournal (bodies ++ body ∷ [])) (sym entries) (record {
        from = run.0;
        spelled = zip_push (λ b (d : Numbered). SpellsEntry b d.0 d.1) bodies read.entries.items body e
            has.journal.spelled spelled.0;
        rises = run.1;
      });
      gates = omega (
        arith,
        ap length gates,
        has.gates,
        length-append read.gates.items (gate ∷ []),
        length-append bodies (body ∷ []),
      );
      placed = λ k within. ap (λ (l : List ℕ). slice_get l k) gates
          ∙ gates_push bodies read.gates.items body gate has.gates has.placed at k within;
    }
