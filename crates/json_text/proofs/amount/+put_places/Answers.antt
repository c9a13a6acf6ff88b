use Rattle.std.proofs.Common.{arith, append_assoc, sym, ◌<◌, ◌≡◌, ◌/◌, ◌^◌, ◌-◌, ℕ, subst, ◌≢◌}
use Rattle.std.specs.Prelude.{string_bytes}
use Rattle.std.proofs.lemmas.List.{append-nil}
use Rattle.json_text.proofs.Written.{no_places, some_places, tenth, ten_positive, next_place}
use Rattle.json_text.proofs.amount.+put_places.Goals as goal

pub returns-then-rest-eq0 : goal.returns-then-rest-eq0
returns-then-rest-eq0 t c = rw (c.if-rest-eq0.true, no_places c.args.places) (sym (append-nil (string_bytes c.args.out.now)))

positive : (places unit rest : ℕ) → unit ≡ 10 ^ places → rest < unit → rest ≢ 0 → 0 < unit / 10
positive places unit rest e lt ne = subst (λ (n : ℕ). 0 < n)
    (sym (tenth places unit e (some_places places unit rest e lt ne))) (ten_positive (places - 1))

pub nonzero_div-rest : goal.nonzero_div-rest
nonzero_div-rest t c = positive c.args.places c.args.unit c.args.rest c.requires.scale c.requires.below c.if-rest-eq0.false

pub nonzero_rem-rest : goal.nonzero_rem-rest
nonzero_rem-rest t c = positive c.args.places c.args.unit c.args.rest c.requires.scale c.requires.below c.if-rest-eq0.false

pub put_places-requires : goal.put_places-requires
put_places-requires t c =
    let some = some_places c.args.places c.args.unit c.args.rest c.requires.scale c.requires.below c.if-rest-eq0.false in
    let p = positive c.args.places c.args.unit c.args.rest c.requires.scale c.requires.below c.if-rest-eq0.false in
    (omega arith, (tenth c.args.places c.args.unit c.requires.scale some, omega arith))

pub returns : goal.returns
returns t c =
    let some = some_places c.args.places c.args.unit c.args.rest c.requires.scale c.requires.below c.if-rest-eq0.false in
    rw (next_place c.args.places c.args.unit c.args.rest c.requires.scale some c.if-rest-eq0.false)
    (rw (c.in_ok-put_ascii.ensures, append_assoc) at c.put_places.ensures)
