use Rattle.std.proofs.Common.{◌≡◌, true, subst, List, ℕ}
use Rattle.std.specs.Str.{is_utf8}
use Rattle.std.proofs.lemmas.Str.{is_utf8-from_IsUtf8}
use Rattle.json_text.proofs.quoting.put_text.Goals as goal

pub returns-clause-utf8 : goal.returns-clause-utf8
returns-clause-utf8 c = subst (λ (bs : List ℕ). is_utf8 bs ≡ true) c.as_str.ensures
    (is_utf8-from_IsUtf8 c.as_str.result.now c.as_str.utf8)
