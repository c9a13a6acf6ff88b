use Rattle.std.proofs.Common.{◌≡◌, ◌++◌, length}
use Rattle.std.specs.Prelude.{string_bytes}
use denote.Shadow.{shadow}
use denote.Text.{Utf8}
use Rattle.json_text.specs.Canonical.{escaped_text}
use Rattle.json_text.proofs.quoting.put_quoted.Given as goal

abbrev pub invariant-loop-run : goal.invariant-loop-run
invariant-loop-run l = shadow (Utf8 l.rest) ×
    (string_bytes l.out ++ escaped_text l.rest ≡ string_bytes l.initial.out ++ escaped_text l.text)

abbrev pub decreases-loop-run : goal.decreases-loop-run
decreases-loop-run l = length l.rest
