-- A root that is read is spelled so and keeps its rules, and a fault is among the bytes.
use Rattle.std.proofs.Common.{◌≡◌, ℕ, ◌^◌, ◌<◌, ◌==◌, Bool, true, ◌&&◌, not, nat_le, nat_lt, List, [], ◌∷◌}
use Rattle.std.proofs.Common.{◌++◌, length, refl, sym, subst, ◌∙◌, append_assoc}
use Rattle.std.specs.List.{flat_map, list_all}
use Rattle.std.proofs.lemmas.Bool.{eqb-true, leb-true, lt-ltb}
use Rattle.std.proofs.lemmas.List.Folds.{list_all-append}
use Rattle.std.proofs.lemmas.List.{append-nil}
use Rattle.doc_model.specs.declared.settings.Settings.{Settings}
use Rattle.docs_format.specs.Reading.{count_at, keeping, kind_at}
use Rattle.docs_format.specs.Spelling.{count}
use Rattle.docs_format.proofs.Digits.{IsBytes}
use Rattle.docs_format.proofs.Fields.{Takes}
use Rattle.journal_bodies.specs.RootReading.{file_at, indexes_at, long_at, numbers_at, part_at, parts_at}
use Rattle.journal_bodies.specs.RootReading.{removed_at, root_at, settings_at}
use Rattle.journal_bodies.specs.Roots.{HasRanges, IsRoot, PlainRoot, files_of, has, index}
use Rattle.journal_bodies.specs.Roots.{listed, long, part, root, settings}
use Rattle.journal_bodies.specs.declared.root.PartFiles.{PartFiles}
use Rattle.journal_bodies.specs.declared.root_reading.RootNumbers.{RootNumbers}
use Rattle.journal_bodies.proofs.Distinct.{AreFiles, files_push, none_are, part_push}
use Rattle.journal_bodies.proofs.IndexReads.{AreIndexes, indexes_reads}
use Rattle.journal_bodies.proofs.Steps.{Reads, byte, count_reads, keeping_reads, kind_reads, listed_reads}
use Rattle.journal_bodies.proofs.Steps.{long_reads, start, step, weaken}
use Rattle.journal_bodies.proofs.Truths.{is_true}

-- ---- numbers

pub record AreNumbers (n : RootNumbers) : Type 0 where
  pub number : (n.number < 2 ^ 64) × (nat_le 1 n.number ≡ true)
  pub checkpoint : n.checkpoint < 2 ^ 64
  pub merge : n.merge < 2 ^ 64
  pub horizon : (n.horizon < 2 ^ 64) × (nat_le n.horizon n.checkpoint ≡ true)
  pub next : (n.next < 2 ^ 64) × (nat_le 1 n.next ≡ true)

abbrev pub spell_numbers : RootNumbers → List ℕ
spell_numbers n = long n.number ++ long n.checkpoint ++ long n.merge ++ long n.horizon ++ long n.next

abbrev Fits : ℕ → Type 0
Fits n = n < 2 ^ 64

kept_long : (rule : ℕ → Bool) (bytes : List ℕ) → IsBytes bytes
    → Reads long (λ n. (n < 2 ^ 64) × (rule n ≡ true)) bytes (keeping rule long_at bytes)
kept_long rule bytes fits = keeping_reads long Fits rule long_at bytes (long_reads bytes fits)

numbers_reads : (bytes : List ℕ) → IsBytes bytes → Reads spell_numbers AreNumbers bytes (numbers_at bytes)
unfolding numbers_at
numbers_reads bytes fits =
    step long _ spell_numbers AreNumbers bytes [] bytes (keeping (λ n. nat_le 1 n) long_at bytes) _ (start bytes fits)
    (kept_long (λ n. nat_le 1 n) bytes fits)
    (λ number a p. step long Fits spell_numbers AreNumbers bytes _ number.1 (long_at number.1) _ a
    (long_reads number.1 a.rest_fits)
    (λ checkpoint b q. step long Fits spell_numbers AreNumbers bytes _ checkpoint.1 (long_at checkpoint.1) _ b
    (long_reads checkpoint.1 b.rest_fits)
    (λ merge d r. step long _ spell_numbers AreNumbers bytes _ merge.1
    (keeping (λ h. nat_le h checkpoint.0) long_at merge.1) _ d (kept_long (λ h. nat_le h checkpoint.0) merge.1 d.rest_fits)
    (λ horizon e s. step long _ spell_numbers AreNumbers bytes _ horizon.1
    (keeping (λ n. nat_le 1 n) long_at horizon.1) _ e (kept_long (λ n. nat_le 1 n) horizon.1 e.rest_fits)
    (λ next f t. (f, record { number = p; checkpoint = q; merge = r; horizon = s; next = t }))))))

-- ---- settings

pub record AreSettings (s : Settings) : Type 0 where
  pub save : s.save_at < 2 ^ 32
  pub merge : s.merge_at < 2 ^ 32
  pub indexes : AreIndexes s.indexes

abbrev IsCount : ℕ → Type 0
IsCount n = n < 2 ^ 32

settings_reads : (bytes : List ℕ) → IsBytes bytes → Reads settings AreSettings bytes (settings_at bytes)
unfolding settings_at
settings_reads bytes fits =
    step count IsCount settings AreSettings bytes [] bytes (count_at bytes) _ (start bytes fits) (count_reads bytes fits)
    (λ save a p. step count IsCount settings AreSettings bytes _ save.1 (count_at save.1) _ a
    (count_reads save.1 a.rest_fits)
    (λ merge b q. step (listed index) AreIndexes settings AreSettings bytes _ merge.1 (indexes_at merge.1) _ b
    (indexes_reads merge.1 b.rest_fits)
    (λ indexes d r. (d, record { save = p; merge = q; indexes = r }))))

-- ---- files

abbrev FitsFragments : List PartFiles → Type 0
FitsFragments list = list_all (λ p. nat_lt p.fragments (2 ^ 32)) list ≡ true

abbrev AreParts : ℕ → List PartFiles → Type 0
AreParts next list = AreFiles next (flat_map files_of list) × FitsFragments list

abbrev IsFile : ℕ → List ℕ → ℕ → Type 0
IsFile next before n = (n < 2 ^ 64) × AreFiles next (before ++ n ∷ [])

file_reads : (next : ℕ) (before bytes : List ℕ) → IsBytes bytes → AreFiles next before
    → Reads long (IsFile next before) bytes (file_at next before bytes)
unfolding file_at
file_reads next before bytes fits are =
    weaken long _ (IsFile next before) bytes (keeping (λ n. nat_lt n next && not (has before n)) long_at bytes)
    (kept_long (λ n. nat_lt n next && not (has before n)) bytes fits)
    (λ n h. (h.0, files_push next before n are h.1))

part_reads : (next : ℕ) (before : List PartFiles) (bytes : List ℕ) → IsBytes bytes → AreParts next before
    → Reads part (λ p. AreParts next (before ++ p ∷ [])) bytes (part_at next before bytes)
unfolding part_at
part_reads next before bytes fits are =
    let Q : PartFiles → Type 0 = λ p. AreParts next (before ++ p ∷ []) in
    let old : List ℕ = flat_map files_of before in
    step long (IsFile next old) part Q bytes [] bytes (file_at next old bytes) _ (start bytes fits)
    (file_reads next old bytes fits are.0)
    (λ i a p. step long (IsFile next (old ++ i.0 ∷ [])) part Q bytes _ i.1 (file_at next (old ++ i.0 ∷ []) i.1) _ a
    (file_reads next (old ++ i.0 ∷ []) i.1 a.rest_fits p.1)
    (λ d b q. step long (IsFile next ((old ++ i.0 ∷ []) ++ d.0 ∷ [])) part Q bytes _ d.1
    (file_at next ((old ++ i.0 ∷ []) ++ d.0 ∷ []) d.1) _ b
    (file_reads next ((old ++ i.0 ∷ []) ++ d.0 ∷ []) d.1 b.rest_fits q.1)
    (λ s e r. step count IsCount part Q bytes _ s.1 (count_at s.1) _ e (count_reads s.1 e.rest_fits)
    (λ f g few.
    let made : PartFiles = record { index = i.0; documents = d.0; stamps = s.0; fragments = f.0 } in
    let fit : list_all (λ p. nat_lt p.fragments (2 ^ 32)) (before ++ made ∷ []) ≡ true =
    list_all-append (λ (p : PartFiles). nat_lt p.fragments (2 ^ 32)) before (made ∷ [])
    ∙ rw (are.1, lt-ltb f.0 (2 ^ 32) few) refl in
    (g, (subst (AreFiles next) (sym (part_push before made)) r.1, fit))))))

parts_reads : (next : ℕ) (bytes : List ℕ) → IsBytes bytes
    → Reads (listed part) (λ list. AreParts next list × (length list < 2 ^ 32)) bytes (parts_at next bytes)
unfolding parts_at
parts_reads next bytes fits =
    listed_reads (part_at next) part (AreParts next) (part_reads next) IsCount bytes (count_at bytes) fits
    (count_reads bytes fits) (none_are next, refl)

removed_reads : (next : ℕ) (others bytes : List ℕ) → IsBytes bytes → AreFiles next others
    → Reads (listed long) (λ list. AreFiles next (others ++ list) × (length list < 2 ^ 32)) bytes
    (removed_at next others bytes)
unfolding removed_at
removed_reads next others bytes fits are =
    listed_reads (λ before. file_at next (others ++ before)) long (λ list. AreFiles next (others ++ list))
    (λ before field f a. weaken long (IsFile next (others ++ before)) (λ n. AreFiles next (others ++ (before ++ n ∷ [])))
    field (file_at next (others ++ before) field) (file_reads next (others ++ before) field f a)
    (λ n h. subst (AreFiles next) (append_assoc others before (n ∷ [])) h.1))
    IsCount bytes (count_at bytes) fits (count_reads bytes fits) (rw append-nil are)

-- ---- roots

pub record KeepsRoot (r : PlainRoot) : Type 0 where
  pub rules : IsRoot r
  pub ranges : HasRanges r

pub root_reads : (bytes : List ℕ) → IsBytes bytes → Reads root KeepsRoot bytes (root_at bytes)
unfolding root_at
root_reads bytes fits =
    step byte _ root KeepsRoot bytes [] bytes (keeping (λ b. b == 3) kind_at bytes) _ (start bytes fits)
    (keeping_reads byte (λ b. Unit {0}) (λ b. b == 3) kind_at bytes (kind_reads bytes fits))
    (λ b a three. step spell_numbers AreNumbers root KeepsRoot bytes _ b.1 (numbers_at b.1) _ a
    (numbers_reads b.1 a.rest_fits)
    (λ n c numbers. step settings AreSettings root KeepsRoot bytes _ n.1 (settings_at n.1) _ c
    (settings_reads n.1 c.rest_fits)
    (λ s d sets. step (listed part) _ root KeepsRoot bytes _ s.1 (parts_at n.0.next s.1) _ d
    (parts_reads n.0.next s.1 d.rest_fits)
    (λ p e parts. step (listed long) _ root KeepsRoot bytes _ p.1
    (removed_at n.0.next (flat_map files_of p.0) p.1) _ e
    (removed_reads n.0.next (flat_map files_of p.0) p.1 e.rest_fits parts.0.0)
    (λ r f removed.
    let three_is : b.0 ≡ 3 = eqb-true b.0 3 three.1 in
    let taken = subst (λ (k : ℕ). Takes bytes
    ((((k ∷ [] ++ spell_numbers n.0) ++ settings s.0) ++ listed part p.0) ++ listed long r.0) r.1) three_is f in (
      taken,
      record {
        rules = record {
          number = leb-true 1 n.0.number numbers.number.1;
          horizon = leb-true n.0.horizon n.0.checkpoint numbers.horizon.1;
          next = leb-true 1 n.0.next numbers.next.1;
          below = is_true _ removed.0.below;
          distinct = is_true _ removed.0.distinct;
          names = is_true _ sets.indexes.short;
          parts = parts.1;
          removed = removed.1;
        };
        ranges = record {
          front = record {
            number = numbers.number.0;
            checkpoint = numbers.checkpoint;
            merge = numbers.merge;
            horizon = numbers.horizon.0;
            next = numbers.next.0;
          };
          save_at = sets.save;
          merge_at = sets.merge;
          fragments = is_true _ parts.0.1;
          names = is_true _ sets.indexes.utf8;
          indexes = is_true _ sets.indexes.pairs;
        };
      },
    ))))))
