use Rattle.std.proofs.Common.{◌≡◌, ◌-◌, []}
use Rattle.std.specs.Str.{IsUtf8}
use Rattle.docs_format.specs.Reading.{collection_at, last_of, list_at}
use Rattle.docs_format.proofs.collections.collections_at.Given as goal

abbrev pub invariant-loop : goal.invariant-loop
invariant-loop l = record {
  total : list_at (λ before. collection_at (last_of before)) l.collections (l.count - l.counter) l.reader
      ≡ list_at (λ before. collection_at (last_of before)) [] l.count l.initial.reader;
  last : l.last ≡ last_of l.collections;
  text : IsUtf8 l.last;
}
