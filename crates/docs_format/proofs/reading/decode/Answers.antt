use Rattle.std.proofs.Common.{arith}
use Rattle.docs_format.proofs.Again.{is_only}
use Rattle.docs_format.proofs.Places.{is_placed}
use Rattle.docs_format.proofs.Found.{is_found}
use Rattle.docs_format.proofs.reading.decode.Goals as goal

pub returns-clause-found : goal.returns-clause-found
returns-clause-found c =
    is_found c.args.bytes.now c.placed.result (λ i. omega (arith, c.type_inv.bytes i)) c.placed.ensures

pub returns-clause-only : goal.returns-clause-only
returns-clause-only c = λ d s. is_only c.args.bytes.now c.placed.result d s c.placed.ensures

pub returns-clause-within : goal.returns-clause-within
returns-clause-within c = is_placed c.args.bytes.now c.placed.result c.placed.ensures
