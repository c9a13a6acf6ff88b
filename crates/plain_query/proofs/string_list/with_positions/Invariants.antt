use Rattle.std.proofs.Common.{◌≡◌, ◌+◌, ◌++◌, drop, sum_by, length}
use Rattle.doc_meaning.specs.Words.{plain}
use Rattle.doc_meaning.specs.Strings.{with_positions}
use Rattle.plain_query.proofs.string_list.with_positions.Given as goal

abbrev pub invariant-loop-text : goal.invariant-loop-text
invariant-loop-text l = record {
  told : l.out ++ with_positions l.first_position (drop l.text-index l.texts) ≡ with_positions 0 l.texts;
  fits : l.first_position + sum_by (λ s. length (plain s.1)) (drop l.text-index l.texts)
      ≡ sum_by (λ s. length (plain s.1)) l.texts;
}
