use Rattle.std.proofs.Common.{refl}
use Rattle.json_text.specs.declared.bad.JsonBad.TheVariants as json_bad
use Rattle.client_lines.proofs.CommandLemmas.{json_fault}
use Rattle.client_lines.proofs.faults.bad_json.Goals as goal

pub returns-in-Syntax : goal.returns-in-Syntax
returns-in-Syntax c =
    let fault = json_fault c.args.json.now c.args.why (json_bad.Syntax c.in-Syntax.place)
    c.in-Syntax.is (λ e. cc) c.requires.refused in
    rw c.bad.ensures (c.in-Syntax.place, fault, refl)

pub returns-in-Utf8 : goal.returns-in-Utf8
returns-in-Utf8 c =
    let fault = json_fault c.args.json.now c.args.why (json_bad.Utf8 c.in-Utf8.place)
    c.in-Utf8.is (λ e. cc) c.requires.refused in
    rw c.bad-in-Utf8.ensures (c.in-Utf8.place, fault, refl)

pub returns-in-Depth : goal.returns-in-Depth
returns-in-Depth c =
    let fault = json_fault c.args.json.now c.args.why (json_bad.Depth c.in-Depth.place)
    c.in-Depth.is (λ e. cc) c.requires.refused in
    rw c.bad-in-Depth.ensures (c.in-Depth.place, fault, refl)

pub returns-in-Number : goal.returns-in-Number
returns-in-Number c =
    let fault = json_fault c.args.json.now c.args.why (json_bad.Number c.in-Number.place)
    c.in-Number.is (λ e. cc) c.requires.refused in
    rw c.bad-in-Number.ensures (c.in-Number.place, fault, refl)
