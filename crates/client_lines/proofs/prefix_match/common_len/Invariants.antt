use Rattle.std.proofs.Common.{◌≡◌, take}
use Rattle.client_lines.proofs.prefix_match.common_len.Given as goal

abbrev pub invariant-loop-i : goal.invariant-loop-i
invariant-loop-i l = take l.i l.line ≡ take l.i l.head
