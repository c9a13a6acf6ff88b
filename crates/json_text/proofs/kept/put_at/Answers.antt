use Rattle.std.proofs.Common.{◌≡◌, ◌<◌, ℕ, Some, None, ap, sym, subst, ◌∙◌}
use Rattle.std.proofs.Math.ListN.{set}
use Rattle.json_text.specs.Grammar.{Member}
use Rattle.json_text.specs.Places.{place_of}
use Rattle.json_text.proofs.Spots.{put_new, put_there, place_within}
use Rattle.json_text.proofs.kept.put_at.Goals as goal

pub index_mut-member-requires : goal.index_mut-member-requires
index_mut-member-requires c =
    let here : place_of c.args.kept.now.items c.args.name ≡ Some c.in-Some.place = sym c.requires ∙ c.in-Some.is in
    subst (λ (n : ℕ). c.in-Some.place < n) (sym c.args.kept.now.ok.0)
    (place_within c.args.kept.now.items c.args.name c.in-Some.place here)

pub returns-in-Some : goal.returns-in-Some
returns-in-Some c =
    let members = c.args.kept.now.items in
    let here : place_of members c.args.name ≡ Some c.in-Some.place = sym c.requires ∙ c.in-Some.is in
    ap (λ (m : Member). set members c.in-Some.place (m.0, c.args.value)) c.index_mut-member.ensures.value
    ∙ sym (put_there members (c.args.name, c.args.value) c.in-Some.place c.index_mut-member.result.now here)

pub returns-in_ok-push-in-None : goal.returns-in_ok-push-in-None
returns-in_ok-push-in-None c =
    let gone : place_of c.args.kept.now.items c.args.name ≡ None = sym c.requires ∙ c.in-None.is in
    c.in_ok-push-in-None.ensures.items ∙ sym (put_new c.args.kept.now.items (c.args.name, c.args.value) gone)
