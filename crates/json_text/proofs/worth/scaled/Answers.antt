use Rattle.std.proofs.Common.{sym, arith}
use Rattle.json_text.proofs.Tens.{pow_fits, no_room}
use Rattle.json_text.proofs.worth.scaled.Goals as goal

pub returns-then-zeros-gt38 : goal.returns-then-zeros-gt38
returns-then-zeros-gt38 c = sym (no_room c.args.value c.args.zeros (λ e. omega (arith, e)) (omega arith))

pub pow-requires : goal.pow-requires
pow-requires c = pow_fits c.args.zeros (omega arith)
