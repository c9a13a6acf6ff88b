-- A root that was written is read again.
use Rattle.std.proofs.Common.{◌≡◌, ℕ, ◌^◌, ◌<◌, ◌≤◌, Bool, true, false, ◌&&◌, not, nat_le, nat_lt, List, [], ◌∷◌}
use Rattle.std.proofs.Common.{◌++◌, length, Ok, refl, sym, ap, subst, ◌∙◌, append_assoc, arith}
use Rattle.std.specs.List.{flat_map, list_all}
use Rattle.std.specs.Str.{is_utf8}
use Rattle.std.proofs.lemmas.Bool.{and_parts, le-leb, leb-true, ltb-true}
use Rattle.doc_model.specs.Queries.{Index, is_indexed, is_index_list, no_index_twice}
use Rattle.doc_model.specs.declared.indexes.Kind.{Kind}
use Rattle.doc_model.specs.declared.indexes.Kind.TheVariants as kind
use Rattle.docs_format.specs.Reading.{keeping, kind_at}
use Rattle.docs_format.specs.Spelling.{count, text}
use Rattle.docs_format.proofs.Fields.{count_again, text_again, wide_again}
use Rattle.docs_format.proofs.Keeping.{kept}
use Rattle.docs_format.proofs.Lists.{Follows, list_again}
use Rattle.journal_bodies.specs.RootReading.{file_at, index_at, indexes_at, long_at, numbers_at, part_at, parts_at}
use Rattle.journal_bodies.specs.RootReading.{removed_at, root_at, settings_at, type_at}
use Rattle.journal_bodies.specs.Roots.{HasRanges, IsRoot, PlainRoot, SpellsRoot, files_of, has, index, kind_byte}
use Rattle.journal_bodies.specs.Roots.{listed, long, numbers, part, root, settings}
use Rattle.journal_bodies.specs.declared.root.PartFiles.{PartFiles}
use Rattle.journal_bodies.specs.declared.root_reading.RootNumbers.{RootNumbers}
use Rattle.journal_bodies.proofs.Distinct.{AreFiles, files_at, part_push}
use Rattle.journal_bodies.proofs.IndexReads.{twice_at}
use Rattle.journal_bodies.proofs.Loops.{indexes_are, parts_are, removed_are}
use Rattle.journal_bodies.proofs.Truths.{from_true}

pub long_again : (n : ℕ) (rest : List ℕ) → n < 2 ^ 64 → long_at (long n ++ rest) ≡ Ok (n, rest)
unfolding long long_at
long_again n rest lt = wide_again 8 n rest lt

pub kept_again : (rule : ℕ → Bool) (n : ℕ) (rest : List ℕ) → n < 2 ^ 64 → rule n ≡ true
    → keeping rule long_at (long n ++ rest) ≡ Ok (n, rest)
kept_again rule n rest lt e = kept rule long_at (long n ++ rest) (n, rest) (long_again n rest lt) e

-- ---- numbers

numbers_of : PlainRoot → RootNumbers
numbers_of r = record {
  number = r.number;
  checkpoint = r.checkpoint;
  merge = r.merge;
  horizon = r.horizon;
  next = r.next;
}

numbers_again : (r : PlainRoot) (rest : List ℕ) → IsRoot r → HasRanges r
    → numbers_at (numbers r ++ rest) ≡ Ok (numbers_of r, rest)
unfolding numbers_at numbers_of
numbers_again r rest k h =
    let after_horizon : List ℕ = long r.next ++ rest in
    let after_merge : List ℕ = long r.horizon ++ after_horizon in
    let after_checkpoint : List ℕ = long r.merge ++ after_merge in
    let after_number : List ℕ = long r.checkpoint ++ after_checkpoint in
    let regrouped : numbers r ++ rest ≡ long r.number ++ after_number = simp append_assoc in
    ap numbers_at regrouped
    ∙ rw (
      kept_again (λ n. nat_le 1 n) r.number after_number h.front.number (le-leb 1 r.number k.number),
      long_again r.checkpoint after_checkpoint h.front.checkpoint,
      long_again r.merge after_merge h.front.merge,
      kept_again (λ n. nat_le n r.checkpoint) r.horizon after_horizon h.front.horizon
          (le-leb r.horizon r.checkpoint k.horizon),
      kept_again (λ n. nat_le 1 n) r.next rest h.front.next (le-leb 1 r.next k.next),
    ) refl

-- ---- settings

type_again : (k : Kind) (rest : List ℕ) → type_at (kind_byte k ∷ rest) ≡ Ok (k, rest)
unfolding type_at kind_at
type_again kind.Decimal rest = refl
type_again kind.Text rest = refl

abbrev IsIndex : List Index → Index → Type 0
IsIndex before i = (is_utf8 i.0 ≡ true) × (length i.0 < 2 ^ 32) × (is_indexed before i ≡ false)

index_again : (before : List Index) (i : Index) (rest : List ℕ) → IsIndex before i
    → index_at before (index i ++ rest) ≡ Ok (i, rest)
unfolding index_at
index_again before i rest w =
    let regrouped : index i ++ rest ≡ text i.0 ++ (kind_byte i.1 ∷ rest) =
    append_assoc (text i.0) (kind_byte i.1 ∷ []) rest in
    let fresh : Kind → Bool = λ k. not (is_indexed before (i.0, k)) in
    ap (index_at before) regrouped
    ∙ rw (
      text_again i.0 (kind_byte i.1 ∷ rest) w.1 w.0,
      kept fresh type_at (kind_byte i.1 ∷ rest) (i.1, rest) (type_again i.1 rest) (ap not w.2),
    ) refl

indexes_follow : (list before : List Index) → no_index_twice (before ++ list) ≡ true
    → list_all (λ i. is_utf8 i.0) list ≡ true → list_all (λ i. nat_lt (length i.0) (2 ^ 32)) list ≡ true
    → Follows IsIndex before list
indexes_follow [] before once u s = tt
indexes_follow (x ∷ xs) before once u s =
    let us = and_parts (is_utf8 x.0) (list_all (λ (i : Index). is_utf8 i.0) xs) u in
    let ss =
    and_parts (nat_lt (length x.0) (2 ^ 32)) (list_all (λ (i : Index). nat_lt (length i.0) (2 ^ 32)) xs) s in (
      (us.0, ltb-true (length x.0) (2 ^ 32) ss.0, twice_at before x xs once),
      indexes_follow xs (before ++ x ∷ []) (ap no_index_twice (append_assoc before (x ∷ []) xs) ∙ once) us.1 ss.1,
    )

indexes_again : (r : PlainRoot) (rest : List ℕ) → IsRoot r → HasRanges r
    → indexes_at (listed index r.settings.indexes ++ rest) ≡ Ok (r.settings.indexes, rest)
indexes_again r rest k h =
    let list : List Index = r.settings.indexes in
    let both = and_parts (nat_le (length list) 64) (no_index_twice list) (from_true (is_index_list list) h.indexes) in
    let few : length list ≤ 64 = leb-true (length list) 64 both.0 in
    let behind : List ℕ = flat_map index list ++ rest in
    let regrouped : listed index list ++ rest ≡ count (length list) ++ behind =
    append_assoc (count (length list)) (flat_map index list) rest in
    let f = indexes_follow list [] both.1 (from_true _ h.names) (from_true _ k.names) in
    ap indexes_at regrouped
    ∙ indexes_are (count (length list) ++ behind) (length list) behind
    (count_again (length list) behind (omega (arith, few))) few
    ∙ list_again index_at index IsIndex index_again list [] rest f

settings_again : (r : PlainRoot) (rest : List ℕ) → IsRoot r → HasRanges r
    → settings_at (settings r.settings ++ rest) ≡ Ok (r.settings, rest)
unfolding settings_at
settings_again r rest k h =
    let after_merge : List ℕ = listed index r.settings.indexes ++ rest in
    let after_save : List ℕ = count r.settings.merge_at ++ after_merge in
    let regrouped : settings r.settings ++ rest ≡ count r.settings.save_at ++ after_save =
    append_assoc (count r.settings.save_at ++ count r.settings.merge_at) (listed index r.settings.indexes) rest
    ∙ append_assoc (count r.settings.save_at) (count r.settings.merge_at) after_merge in
    ap settings_at regrouped
    ∙ rw (
      count_again r.settings.save_at after_save h.save_at,
      count_again r.settings.merge_at after_merge h.merge_at,
      indexes_again r rest k h,
    ) refl

-- ---- files

-- a file that may follow others
abbrev IsFile : ℕ → List ℕ → ℕ → Type 0
IsFile next before n = (nat_lt n next && not (has before n)) ≡ true

file_again : (next : ℕ) (before : List ℕ) (n : ℕ) (rest : List ℕ) → next < 2 ^ 64 → IsFile next before n
    → file_at next before (long n ++ rest) ≡ Ok (n, rest)
unfolding file_at
file_again next before n rest small is =
    let below : n < next = ltb-true n next (and_parts (nat_lt n next) (not (has before n)) is).0 in
    kept_again (λ m. nat_lt m next && not (has before m)) n rest (omega (arith, below, small)) is

abbrev IsPart : ℕ → List PartFiles → PartFiles → Type 0
IsPart next before p =
    IsFile next (flat_map files_of before) p.index
    × IsFile next (flat_map files_of before ++ p.index ∷ []) p.documents
    × IsFile next ((flat_map files_of before ++ p.index ∷ []) ++ p.documents ∷ []) p.stamps
    × (p.fragments < 2 ^ 32)

module _ (next : ℕ) (small : next < 2 ^ 64) where
  part_again : (before : List PartFiles) (p : PartFiles) (rest : List ℕ) → IsPart next before p
      → part_at next before (part p ++ rest) ≡ Ok (p, rest)
  unfolding part_at
  part_again before p rest w =
      let old : List ℕ = flat_map files_of before in
      let after_stamps : List ℕ = count p.fragments ++ rest in
      let after_documents : List ℕ = long p.stamps ++ after_stamps in
      let after_index : List ℕ = long p.documents ++ after_documents in
      let regrouped : part p ++ rest ≡ long p.index ++ after_index = simp append_assoc in
      ap (part_at next before) regrouped
      ∙ rw (
        file_again next old p.index after_index small w.0,
        file_again next (old ++ p.index ∷ []) p.documents after_documents small w.1,
        file_again next ((old ++ p.index ∷ []) ++ p.documents ∷ []) p.stamps after_stamps small w.2,
        count_again p.fragments rest w.3,
      ) refl

  parts_follow : (list before : List PartFiles) (back : List ℕ)
      → AreFiles next (flat_map files_of before ++ (flat_map files_of list ++ back))
      → list_all (λ p. nat_lt p.fragments (2 ^ 32)) list ≡ true → Follows (IsPart next) before list
  parts_follow [] before back are f = tt
  parts_follow (x ∷ xs) before back are f =
      let old : List ℕ = flat_map files_of before in
      let more : List ℕ = flat_map files_of xs ++ back in
      let fs =
      and_parts (nat_lt x.fragments (2 ^ 32)) (list_all (λ (p : PartFiles). nat_lt p.fragments (2 ^ 32)) xs) f in
      let i : AreFiles next (old ++ x.index ∷ (x.documents ∷ (x.stamps ∷ more))) = are in
      let d : AreFiles next ((old ++ x.index ∷ []) ++ x.documents ∷ (x.stamps ∷ more)) =
      subst (AreFiles next) (sym (append_assoc old (x.index ∷ []) (x.documents ∷ (x.stamps ∷ more)))) i in
      let s : AreFiles next (((old ++ x.index ∷ []) ++ x.documents ∷ []) ++ x.stamps ∷ more) =
      subst (AreFiles next) (sym (append_assoc (old ++ x.index ∷ []) (x.documents ∷ []) (x.stamps ∷ more))) d in
      let all : AreFiles next ((((old ++ x.index ∷ []) ++ x.documents ∷ []) ++ x.stamps ∷ []) ++ more) =
      subst (AreFiles next)
      (sym (append_assoc ((old ++ x.index ∷ []) ++ x.documents ∷ []) (x.stamps ∷ []) more)) s in (
        (
          files_at next old x.index (x.documents ∷ (x.stamps ∷ more)) i,
          files_at next (old ++ x.index ∷ []) x.documents (x.stamps ∷ more) d,
          files_at next ((old ++ x.index ∷ []) ++ x.documents ∷ []) x.stamps more s,
          ltb-true x.fragments (2 ^ 32) fs.0,
        ),
        parts_follow xs (before ++ x ∷ []) back
            (subst (λ (files : List ℕ). AreFiles next (files ++ more)) (sym (part_push before x)) all) fs.1,
      )

  parts_again : (list : List PartFiles) (back rest : List ℕ) → AreFiles next (flat_map files_of list ++ back)
      → list_all (λ p. nat_lt p.fragments (2 ^ 32)) list ≡ true → length list < 2 ^ 32
      → parts_at next (listed part list ++ rest) ≡ Ok (list, rest)
  parts_again list back rest are f few =
      let behind : List ℕ = flat_map part list ++ rest in
      let regrouped : listed part list ++ rest ≡ count (length list) ++ behind =
      append_assoc (count (length list)) (flat_map part list) rest in
      ap (parts_at next) regrouped
      ∙ parts_are next (count (length list) ++ behind) (length list) behind (count_again (length list) behind few)
      ∙ list_again (part_at next) part (IsPart next) part_again list [] rest (parts_follow list [] back are f)

  removed_follow : (others list before : List ℕ) → AreFiles next (others ++ (before ++ list))
      → Follows (λ b n. IsFile next (others ++ b) n) before list
  removed_follow others [] before are = tt
  removed_follow others (x ∷ xs) before are = (
    files_at next (others ++ before) x xs (subst (AreFiles next) (sym (append_assoc others before (x ∷ xs))) are),
    removed_follow others xs (before ++ x ∷ [])
        (subst (λ (files : List ℕ). AreFiles next (others ++ files)) (sym (append_assoc before (x ∷ []) xs)) are),
  )

  removed_again : (others list rest : List ℕ) → AreFiles next (others ++ list) → length list < 2 ^ 32
      → removed_at next others (listed long list ++ rest) ≡ Ok (list, rest)
  removed_again others list rest are few =
      let item_at = λ (before : List ℕ). file_at next (others ++ before) in
      let behind : List ℕ = flat_map long list ++ rest in
      let regrouped : listed long list ++ rest ≡ count (length list) ++ behind =
      append_assoc (count (length list)) (flat_map long list) rest in
      ap (removed_at next others) regrouped
      ∙ removed_are next others (count (length list) ++ behind) (length list) behind
      (count_again (length list) behind few)
      ∙ list_again item_at long (λ b n. IsFile next (others ++ b) n)
      (λ before n more w. file_again next (others ++ before) n more small w) list [] rest
      (removed_follow others list [] are)

-- ---- roots

pub root_again : (r : PlainRoot) (rest : List ℕ) → IsRoot r → HasRanges r → root_at (root r ++ rest) ≡ Ok (r, rest)
unfolding root_at kind_at numbers_of
root_again r rest k h =
    let named : List ℕ = flat_map files_of r.parts in
    let after_parts : List ℕ = listed long r.removed ++ rest in
    let after_settings : List ℕ = listed part r.parts ++ after_parts in
    let after_numbers : List ℕ = settings r.settings ++ after_settings in
    let regrouped : root r ++ rest ≡ 3 ∷ (numbers r ++ after_numbers) = ap (λ (s : List ℕ). 3 ∷ s) (
    append_assoc (numbers r ++ settings r.settings ++ listed part r.parts) (listed long r.removed) rest
    ∙ append_assoc (numbers r ++ settings r.settings) (listed part r.parts) after_parts
    ∙ append_assoc (numbers r) (settings r.settings) after_settings
    ) in
    let are : AreFiles r.next (named ++ r.removed) =
    record { below = from_true _ k.below; distinct = from_true _ k.distinct } in
    ap root_at regrouped
    ∙ rw (
      numbers_again r after_numbers k h,
      settings_again r after_settings k h,
      parts_again r.next h.front.next r.parts r.removed after_parts are (from_true _ h.fragments) k.parts,
      removed_again r.next h.front.next named r.removed rest are k.removed,
    ) refl

-- the bytes of a root, whatever is behind them
pub spelled_again : (bytes more : List ℕ) (r : PlainRoot) → SpellsRoot bytes r → root_at (bytes ++ more) ≡ Ok (r, more)
spelled_again bytes more r s =
    ap (λ (t : List ℕ). root_at (t ++ more)) s.spelled ∙ root_again r more s.rules s.ranges
