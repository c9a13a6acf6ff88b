use Rattle.std.proofs.Common.{◌≡◌, ◌++◌, ◌==◌, ◌&&◌, true, take, map, not}
use Rattle.std.specs.List.{list_all}
use Rattle.std.specs.Str.{is_utf8}
use Rattle.std.specs.Prelude.{string_bytes}
use Rattle.json_text.specs.Grammar.{joined}
use Rattle.json_text.specs.Canonical.{node_text, member_text, has_values}
use Rattle.json_text.proofs.writing.+writing.Given as goal

abbrev pub invariant-put_items-loop-item : goal.invariant-put_items-loop-item
invariant-put_items-loop-item l = record {
  more : l.more ≡ not (l.item-index == 0);
  written : string_bytes l.out ≡ string_bytes l.initial.out ++ joined (map node_text (take l.item-index l.items));
  values : list_all has_values (take l.item-index l.items) ≡ true;
}

abbrev pub invariant-put_members-loop-member : goal.invariant-put_members-loop-member
invariant-put_members-loop-member l = record {
  more : l.more ≡ not (l.member-index == 0);
  written : string_bytes l.out ≡ string_bytes l.initial.out ++ joined (map member_text (take l.member-index l.members));
  values : list_all (λ m. is_utf8 m.0 && has_values m.1) (take l.member-index l.members) ≡ true;
}
