use Rattle.std.proofs.Common.{◌≡◌, ◌++◌, take, true}
use Rattle.std.specs.List.{flat_map, list_all}
use Rattle.std.specs.Str.{is_utf8}
use Rattle.docs_format.specs.Spelling.{text}
use Rattle.docs_format.proofs.writing.put_texts.Given as goal

abbrev pub invariant-loop-value : goal.invariant-loop-value
invariant-loop-value l = record {
  written : l.out.items ≡ l.initial.out.items ++ flat_map text (take l.value-index l.values);
  utf8 : list_all is_utf8 (take l.value-index l.values) ≡ true;
}
