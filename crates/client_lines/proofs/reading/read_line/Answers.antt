use Rattle.std.proofs.Common.{◌≢◌, ℕ, List, [], length, Some, Ok, ap, ◌∙◌}
use Rattle.std.proofs.lemmas.Bool.{false≢true}
use Rattle.std.proofs.lemmas.Result.{err_from_is_err_and}
use Rattle.std.specs.Prelude.{◌==◌}
use Rattle.client_lines.proofs.CommandLemmas.{refusal_reads}
use Rattle.client_lines.proofs.OnlyReading.{only_reads}
use Rattle.client_lines.proofs.reading.read_line.Goals as goal

pub returns-in_err-read_command-clause-reads : goal.returns-in_err-read_command-clause-reads
returns-in_err-read_command-clause-reads c =
    let p = err_from_is_err_and c.from_residual.result c.from_residual.ensures.1 in
    let some : c.args.line.now ≢ [] = (λ e. false≢true
    (c.if-is_empty.ensures ∙ ap (λ (line : List ℕ). length line == 0) e)) in
    rw (p.1, p.2) (refusal_reads c.args.line.now c.in_err-read_command.field-0.0 some c.in_err-read_command.ensures)

pub returns-in_err-read_command-clause-only : goal.returns-in_err-read_command-clause-only
returns-in_err-read_command-clause-only c =
    only_reads c.args.line.now c.from_residual.result (returns-in_err-read_command-clause-reads c)

pub returns-clause-only : goal.returns-clause-only
returns-clause-only c =
    only_reads c.args.line.now (Ok (Some c.in_ok-read_command.field-0)) c.in_ok-read_command.ensures
