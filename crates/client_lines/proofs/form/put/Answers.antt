use Rattle.std.proofs.Common.{arith, rules, ◌≡◌, length, None, Some}
use Rattle.std.proofs.lemmas.Str.Pattern.{split_parts}
use Rattle.client_lines.proofs.FindLemmas.{no_space_no_put, empty_no_put, put_fits}
use Rattle.client_lines.proofs.form.put.Goals as goal

pub returns-in_err-uri : goal.returns-in_err-uri
returns-in_err-uri c = rw c.from_residual-in_err-uri.ensures
    (no_space_no_put c.args.line.now c.in_ok-behind.field-0.now c.in_ok-behind.ensures
    (split_parts 0x20 c.in_ok-behind.field-0.now None c.in_err-uri.ensures.cases (omega arith)))

pub returns-then-is_empty : goal.returns-then-is_empty
returns-then-is_empty c =
    let tokens = split_parts 0x20 c.in_ok-behind.field-0.now (Some (c.in_ok-uri.uri, c.in_ok-uri.json))
    c.in_ok-uri.ensures.cases (omega arith) in
    let none : length c.in_ok-uri.uri.now ≡ 0 = first_of (search rules, grind arith) in
    empty_no_put c.args.line.now c.in_ok-behind.field-0.now c.in_ok-uri.uri.now c.in_ok-uri.json.now
    c.in_ok-behind.ensures tokens.0 none

pub returns : goal.returns
returns c =
    let tokens = split_parts 0x20 c.in_ok-behind.field-0.now (Some (c.in_ok-uri.uri, c.in_ok-uri.json))
    c.in_ok-uri.ensures.cases (omega arith) in
    let some : length c.in_ok-uri.uri.now ≡ 0 → ⊥ = first_of (search rules, grind arith) in
    put_fits c.args.line.now c.in_ok-behind.field-0.now c.in_ok-uri.uri.now c.in_ok-uri.json.now c.as_bytes.result.now
    c.in_ok-behind.ensures tokens.0 tokens.1 some c.as_bytes.ensures.value
