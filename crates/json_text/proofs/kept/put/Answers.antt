use Rattle.std.proofs.Common.{◌≡◌, List, Some, None, Result, Ok, Err, OnOk, ap, sym, ◌∙◌}
use Rattle.std.specs.BTreeMap.{get}
use Rattle.std.specs.Cmp.Lexicographic.{slice_cmp}
use Rattle.std.specs.Ordering.{nat_cmp}
use Rattle.json_text.specs.Grammar.{Member}
use Rattle.json_text.specs.Places.{place_of}
use Rattle.json_text.proofs.Spots.{places_stay, inserted}
use Rattle.json_text.proofs.kept.put.Goals as goal

on_ok : {T E : Type 0} (r : Result T E) (P Q : Type 0) → (P → Q) → OnOk r P → OnOk r Q
on_ok (Ok v) P Q f p = f p
on_ok (Err e) P Q f p = tt

pub returns-in-Some-clause-places : goal.returns-in-Some-clause-places
returns-in-Some-clause-places c =
    let members = c.args.kept.now.items in
    let here : place_of members c.args.name ≡ Some c.in-Some.place.now = sym (c.requires c.args.name)
    ∙ sym c.in-Some.ensures.value in
    on_ok c.put_at.result _ _
    (λ is q. c.requires q
    ∙ sym (places_stay members (c.args.name, c.args.value) c.in-Some.place.now q here)
    ∙ ap (λ (ms : List Member). place_of ms q) (sym is))
    c.put_at.ensures

pub returns-in_ok-insert-in-None-clause-places : goal.returns-in_ok-insert-in-None-clause-places
returns-in_ok-insert-in-None-clause-places c =
    let members = c.args.kept.now.items in
    let gone : place_of members c.args.name ≡ None = sym (c.requires c.args.name) ∙ sym c.in-None.ensures.value in
    on_ok c.put_at-in-None.result _ _
    (λ is q. inserted members (c.args.name, c.args.value) q c.in_ok-copy-in-None.field-0 c.len.result
    (get (slice_cmp nat_cmp) c.insert.new.self q) (get (slice_cmp nat_cmp) c.args.places.now q)
    c.in_ok-copy-in-None.ensures (c.len.ensures ∙ c.args.kept.now.ok.0) (c.in_ok-insert-in-None.ensures.updates.0 q)
    (c.requires q) gone
    ∙ ap (λ (ms : List Member). place_of ms q) (sym is))
    c.put_at-in-None.ensures
