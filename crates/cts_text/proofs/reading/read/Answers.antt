use Rattle.std.proofs.Common.{arith}
use Rattle.std.proofs.lemmas.Result.{err_from_is_err_and}
use Rattle.cts_text.proofs.Bounds.{node_bounded}
use Rattle.cts_text.proofs.Whole.{fault_only, json_only, json_refused, query_found, query_only}
use Rattle.cts_text.proofs.reading.read.Goals as goal

pub judge-requires : goal.judge-requires
judge-requires c = omega (arith, c.in_ok-tree.ensures.rules.small, node_bounded c.in_ok-tree.tree)

pub returns-clause-only : goal.returns-clause-only
returns-clause-only c q is = absurd
    (fault_only c.args.bytes.now c.in_ok-tree.tree c.in-Err.node c.in_ok-tree.ensures.only c.in-Err.ensures q is)

pub returns-in-Ok-clause-found : goal.returns-in-Ok-clause-found
returns-in-Ok-clause-found c =
    query_found c.args.bytes.now c.in_ok-tree.tree c.in_ok-query_of-in-Ok.field-0 c.in_ok-tree.ensures.found
    c.in-Ok.ensures.0 c.in_ok-query_of-in-Ok.ensures

pub returns-in-Ok-clause-only : goal.returns-in-Ok-clause-only
returns-in-Ok-clause-only c =
    query_only c.args.bytes.now c.in_ok-tree.tree c.in_ok-query_of-in-Ok.field-0 c.in_ok-tree.ensures.only
    c.in-Ok.ensures.0 c.in_ok-query_of-in-Ok.ensures

pub returns-in_err-tree-clause-only : goal.returns-in_err-tree-clause-only
returns-in_err-tree-clause-only c q is =
    let p = err_from_is_err_and c.from_residual.result c.from_residual.ensures.1 in
    rw (p.1, p.2) (json_only c.args.bytes.now c.in_err-tree.field-0.0 c.in_err-tree.ensures.only q is)

pub returns-in_err-tree-clause-refused : goal.returns-in_err-tree-clause-refused
returns-in_err-tree-clause-refused c =
    let p = err_from_is_err_and c.from_residual.result c.from_residual.ensures.1 in
    rw (p.1, p.2) (json_refused c.args.bytes.now c.in_err-tree.field-0.0 c.in_err-tree.ensures.refused)
