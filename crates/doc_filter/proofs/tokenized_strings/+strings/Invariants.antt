use Rattle.std.proofs.Common.{◌≡◌, ◌+◌, ◌++◌, drop}
use Rattle.std.specs.Option.{option_copied}
use Rattle.doc_filter.specs.Tokenized.{texts_of_items, texts_of_members, word_count, tokenized_from}
use Rattle.doc_filter.proofs.tokenized_strings.+strings.Given as goal

abbrev pub invariant-add_items-loop-item : goal.invariant-add_items-loop-item
invariant-add_items-loop-item l =
    let property = option_copied l.fn.property in
    let rest = texts_of_items (drop l.item-index l.items) property in
    record {
      told : l.out ++ tokenized_from l.any_case l.next rest
          ≡ l.fn.out ++ tokenized_from l.any_case l.fn.first_position (texts_of_items l.items property);
      counted : l.next + word_count rest ≡ l.fn.first_position + word_count (texts_of_items l.items property);
    }

abbrev pub invariant-add_members-loop-member : goal.invariant-add_members-loop-member
invariant-add_members-loop-member l =
    let rest = texts_of_members (drop l.member-index l.members) in
    record {
      told : l.out ++ tokenized_from l.any_case l.next rest
          ≡ l.fn.out ++ tokenized_from l.any_case l.fn.first_position (texts_of_members l.members);
      counted : l.next + word_count rest ≡ l.fn.first_position + word_count (texts_of_members l.members);
    }
