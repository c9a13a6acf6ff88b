use Rattle.std.proofs.Common.{◌≡◌, drop}
use Rattle.json_text.specs.Places.{place_of}
use Rattle.json_text.proofs.Spots.{moved}
use Rattle.json_text.proofs.kept.place_in.Given as goal

abbrev pub invariant-loop-i : goal.invariant-loop-i
invariant-loop-i l = moved l.i (place_of (drop l.i l.members) l.name) ≡ place_of l.members l.name
