-- The first root isn't too long for an empty log.
use Rattle.std.proofs.Common.{◌≡◌, ℕ, ◌+◌, ◌*◌, ◌^◌, ◌≤◌, List, [], ◌∷◌, ◌++◌, length, true, nat_lt, nat_le, ap, arith, length-append}
use Rattle.std.specs.List.{flat_map, list_all}
use Rattle.std.proofs.lemmas.Bool.{and_parts, leb-true, ltb-true}
use Rattle.doc_model.specs.Queries.{Index, no_index_twice}
use Rattle.doc_model.specs.declared.settings.Settings.{Settings}
use Rattle.journal_bodies.proofs.Truths.{from_true}
use Rattle.journal_bodies.specs.Roots.{PlainRoot, SpellsRoot, index, kind_byte, listed, long, numbers, part}
use Rattle.journal_bodies.specs.Roots.{settings as settings_bytes}
use Rattle.docs_format.specs.Spelling.{count, text}
use Rattle.directory_meaning.specs.Shown.{first_root}
use Rattle.directory_meaning.proofs.LengthLemmas.{length-count, length-listed, length-long, length-text}

indexes_short : (indexes : List Index) → list_all (λ i. nat_lt (length i.0) (2 ^ 32)) indexes ≡ true
    → length (flat_map index indexes) ≤ (2 ^ 32 + 5) * length indexes
indexes_short [] all = omega arith
indexes_short (i ∷ indexes) all =
    let parts = and_parts (nat_lt (length i.0) (2 ^ 32)) (list_all (λ (j : Index). nat_lt (length j.0) (2 ^ 32)) indexes)
    all in
    omega (
      arith,
      length-append (index i) (flat_map index indexes),
      length-append (text i.0) (kind_byte i.1 ∷ []),
      length-text i.0,
      ltb-true (length i.0) (2 ^ 32) parts.0,
      indexes_short indexes parts.1,
    )

numbers_length : (r : PlainRoot) → length (numbers r) ≡ 40
numbers_length r = omega (
  arith,
  length-append (long r.number ++ long r.checkpoint ++ long r.merge ++ long r.horizon) (long r.next),
  length-append (long r.number ++ long r.checkpoint ++ long r.merge) (long r.horizon),
  length-append (long r.number ++ long r.checkpoint) (long r.merge),
  length-append (long r.number) (long r.checkpoint),
  length-long r.number,
  length-long r.checkpoint,
  length-long r.merge,
  length-long r.horizon,
  length-long r.next,
)

settings_short : (s : Settings) → list_all (λ i. nat_lt (length i.0) (2 ^ 32)) s.indexes ≡ true → length s.indexes ≤ 64
    → length (settings_bytes s) ≤ 12 + 64 * (2 ^ 32 + 5)
settings_short s names few = omega (
  arith,
  length-append (count s.save_at ++ count s.merge_at) (listed index s.indexes),
  length-append (count s.save_at) (count s.merge_at),
  length-count s.save_at,
  length-count s.merge_at,
  length-listed index s.indexes,
  indexes_short s.indexes names,
  few,
)

pub first_root_is_short : (settings : Settings) (body : List ℕ) → SpellsRoot body (first_root settings)
    → length body ≤ 2 ^ 61
first_root_is_short settings body spells =
    let r = first_root settings in
    let names = from_true (list_all (λ (i : Index). nat_lt (length i.0) (2 ^ 32)) settings.indexes) spells.rules.names in
    let lists = and_parts (nat_le (length settings.indexes) 64) (no_index_twice settings.indexes)
    (from_true _ spells.ranges.indexes) in
    omega (
      arith,
      ap length spells.spelled,
      length-append (numbers r ++ settings_bytes settings ++ listed part []) (listed long []),
      length-append (numbers r ++ settings_bytes settings) (listed part []),
      length-append (numbers r) (settings_bytes settings),
      numbers_length r,
      settings_short settings names (leb-true (length settings.indexes) 64 lists.0),
      length-listed part [],
      length-listed long [],
    )
