use Rattle.std.proofs.Common.{◌≡◌, ◌++◌, length, ap, sym, ◌∙◌, append_assoc, List, [], ℕ, Ok, true, false}
use Rattle.std.specs.Prelude.{string_bytes}
use Rattle.std.specs.Char.{encode_utf8}
use Rattle.std.proofs.lemmas.Result.{err_from_is_err_and}
use Rattle.std.proofs.lemmas.List.{append-nil}
use Rattle.json_text.specs.Reading.{piece_at, text_at, repeated}
use Rattle.json_text.proofs.Turns.{goes_on, ends, fails, runs_out}
use Rattle.json_text.proofs.string.text.Goals as goal

pub returns-in_err-run : goal.returns-in_err-run
unfolding text_at
returns-in_err-run c =
    let p = err_from_is_err_and c.from_residual.result c.from_residual.ensures.1 in
    rw (p.1, p.2) (fails piece_at (string_bytes c.loop.out) (length c.args.bytes.now) c.loop.counter c.loop.rest.now
    (repeated piece_at (length c.args.bytes.now) c.args.bytes.now) c.in_err-run.field-0.0 c.loop-test.true
    c.in_err-run.ensures c.loop.invariant)

pub returns-in-None : goal.returns-in-None
unfolding text_at
returns-in-None c =
    let out = string_bytes c.loop.out in
    let run = c.in_ok-run.run'.now in
    let e : c.from_string.result ≡ out ++ (run ++ []) = c.from_string.ensures ∙ c.in_ok-push_str.ensures.bytes
    ∙ ap (λ (x : List ℕ). out ++ x) (sym (append-nil run)) in
    let step : piece_at c.loop.rest.now ≡ Ok ((run ++ [], false), c.in_ok-run.behind.now) = rw c.in-None.is at
    c.in_ok-run.ensures in
    ends piece_at out (run ++ []) (length c.args.bytes.now) c.loop.counter c.loop.rest.now c.in_ok-run.behind.now
    (repeated piece_at (length c.args.bytes.now) c.args.bytes.now) c.loop-test.true step c.loop.invariant
    ∙ ap (λ (x : List ℕ). Ok (x, c.in_ok-run.behind.now)) (sym e)

pub loop-preserved : goal.loop-preserved
loop-preserved c =
    let out = string_bytes c.loop.out in
    let run = c.in_ok-run.run'.now in
    let ys = run ++ encode_utf8 c.in-Some.c in
    let e : string_bytes c.push.new.self ≡ out ++ ys = c.in_ok-push-in-Some.ensures.bytes
    ∙ ap (λ (x : List ℕ). x ++ encode_utf8 c.in-Some.c) c.in_ok-push_str.ensures.bytes
    ∙ append_assoc out run (encode_utf8 c.in-Some.c) in
    let step : piece_at c.loop.rest.now ≡ Ok ((ys, true), c.in_ok-run.behind.now) = rw c.in-Some.is at
    c.in_ok-run.ensures in
    rw e (goes_on piece_at out ys (length c.args.bytes.now) c.loop.counter c.loop.rest.now c.in_ok-run.behind.now
    (repeated piece_at (length c.args.bytes.now) c.args.bytes.now) c.loop-test.true step c.loop.invariant)

pub returns : goal.returns
unfolding text_at
returns c = rw c.unexpected.ensures (runs_out piece_at (string_bytes c.loop.out) (length c.args.bytes.now)
    c.loop.counter c.loop.rest.now (repeated piece_at (length c.args.bytes.now) c.args.bytes.now) c.loop-test.false
    c.loop.invariant)
