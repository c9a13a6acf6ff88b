-- Tests and the facts that they hold.
use Rattle.std.proofs.Common.{◌≡◌, Bool, true, false, rules}
use Rattle.std.specs.Prelude.{IsTrue}

pub is_true : (b : Bool) → b ≡ true → IsTrue b
is_true true e = search rules
is_true false e = absurd cc

pub from_true : (b : Bool) → IsTrue b → b ≡ true
from_true b h = search rules
