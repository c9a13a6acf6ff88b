use Rattle.std.proofs.Common.{map, ap, sym, ◌∙◌, false, is_some, arith}
use Rattle.std.proofs.lemmas.List.{drop_all}
use Rattle.std.specs.Map.{lookup}
use Rattle.std.specs.BTreeMap.{is_at}
use Rattle.std.specs.Cmp.Lexicographic.{slice_cmp}
use Rattle.std.specs.Ordering.{nat_cmp}
use Rattle.doc_model.proofs.NamesLemmas.{are_fresh, has_name, fresh_first, fresh_same, fresh_more, stale_here}
use Rattle.doc_model.proofs.names.are_many_distinct.Goals as goal

pub loop-member-init : goal.loop-member-init
loop-member-init c =
    let names = map (λ m. m.0) c.args.members.now in
    fresh_same (has_name c.new-seen.result) (λ name. false) names
    (λ name. ap (λ es. is_some (lookup (is_at (λ k. slice_cmp nat_cmp name k.now)) es)) c.new-seen.ensures.empty)
    ∙ fresh_first names

pub loop-member-preserved : goal.loop-member-preserved
loop-member-preserved c =
    fresh_more (λ m. m.0) c.args.members.now c.loop-member.member-index c.member-item.result c.as_str.result.now
    c.loop-member.seen c.insert.new.self tt c.loop-member-test.true c.member-item.is
    c.as_str.ensures (ap is_some (sym c.in_ok-insert.ensures.old) ∙ sym c.if-is_some.ensures) c.in_ok-insert.ensures.updates
    ∙ c.loop-member.invariant

pub returns-then-is_some : goal.returns-then-is_some
returns-then-is_some c =
    sym (stale_here (λ m. m.0) c.args.members.now c.loop-member.member-index c.member-item.result c.as_str.result.now
    c.loop-member.seen c.loop-member-test.true c.member-item.is
    c.as_str.ensures (ap is_some (sym c.in_ok-insert.ensures.old) ∙ sym c.if-is_some.ensures))
    ∙ c.loop-member.invariant

pub returns : goal.returns
returns c = sym (ap (λ rest. are_fresh (has_name c.loop-member.seen) (map (λ m. m.0) rest))
    (drop_all c.loop-member.member-index c.args.members.now (omega arith))) ∙ c.loop-member.invariant
