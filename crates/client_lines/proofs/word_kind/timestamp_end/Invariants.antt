use Rattle.std.proofs.Common.{◌≡◌, ◌≤◌, IfSome, take}
use Rattle.client_lines.specs.Rows.{digits_of}
use Rattle.doc_meaning.specs.Replies.{last_timestamp}
use Rattle.client_lines.proofs.word_kind.timestamp_end.Given as goal

abbrev pub invariant-loop-i : goal.invariant-loop-i
invariant-loop-i l = (take l.i l.bytes ≡ digits_of l.value) × IfSome l.value (λ v. v ≤ last_timestamp)
