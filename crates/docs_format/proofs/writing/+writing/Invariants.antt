use Rattle.std.proofs.Common.{◌≡◌, ◌++◌, ◌&&◌, take, true}
use Rattle.std.specs.List.{flat_map, list_all}
use Rattle.std.specs.Str.{is_utf8}
use Rattle.docs_format.specs.Spelling.{has_values, node, text}
use Rattle.docs_format.proofs.writing.+writing.Given as goal

abbrev pub invariant-put_items-loop-item : goal.invariant-put_items-loop-item
invariant-put_items-loop-item l = record {
  written : l.out.items ≡ l.initial.out.items ++ flat_map node (take l.item-index l.list);
  values : list_all has_values (take l.item-index l.list) ≡ true;
}

abbrev pub invariant-put_members-loop-member : goal.invariant-put_members-loop-member
invariant-put_members-loop-member l = record {
  written : l.out.items ≡ l.initial.out.items ++ flat_map (λ m. text m.0 ++ node m.1) (take l.member-index l.list);
  values : list_all (λ m. is_utf8 m.0 && has_values m.1) (take l.member-index l.list) ≡ true;
}
