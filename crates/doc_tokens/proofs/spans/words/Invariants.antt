use Rattle.std.proofs.Common.{◌≡◌, ◌+◌, ◌++◌, IsUtf8, chars, length}
use Rattle.std.specs.Str.Iter.{chars_rest}
use Rattle.doc_meaning.specs.Words.{spans, words}
use Rattle.doc_tokens.proofs.WordsLemmas.{opened}
use Rattle.doc_tokens.proofs.spans.words.Given as goal

abbrev pub invariant-loop-c : goal.invariant-loop-c
invariant-loop-c l = record {
  text : IsUtf8 (chars_rest l.c-iterator);
  place : l.at + length (chars_rest l.c-iterator) ≡ length l.text;
  told : l.out.items ++ opened l.start l.at (spans l.at (chars (chars_rest l.c-iterator))) ≡ words l.text;
}
