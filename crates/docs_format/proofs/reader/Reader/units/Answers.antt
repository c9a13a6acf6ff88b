use Rattle.std.proofs.Common.{◌≡◌, rules, FitsSigned, to_z, of_z}
use Rattle.std.specs.Int.{w128}
use Rattle.std.proofs.lemmas.Int.{to_z-of_z}
use Rattle.docs_format.proofs.Keeping.{units_read}
use Rattle.docs_format.proofs.reader.Reader.units.Goals as goal

pub returns : goal.returns
returns c =
    let fits : FitsSigned w128 c.read_i128-units.result = search rules in
    let same : to_z w128 (of_z w128 c.read_i128-units.result) ≡ c.read_i128-units.result =
    to_z-of_z w128 c.read_i128-units.result fits in
    rw (same, ← c.self.view_is)
    (units_read c.self.inside.rest.now c.read_i128-units.result (search rules) c.read_i128-units.ensures)
