use Rattle.std.proofs.Common.{◌≡◌, true, false, ◌++◌, ◌∷◌, [], Some, None, IsTrue, map, take, ap, sym, subst, ◌∙◌, arith}
use Rattle.std.proofs.lemmas.Bool.{cond-false, cond-true}
use Rattle.std.proofs.lemmas.List.{drop_all}
use Rattle.doc_model.specs.Operations.{uri_of}
use Rattle.doc_model.specs.Tree.{is_among, is_distinct}
use Rattle.doc_meaning.proofs.DistinctLemmas.{distinct_from_none}
use Rattle.doc_meaning.specs.Replies.{first_twice}
use Rattle.live_documents.proofs.TwiceLemmas.{first_twice-more, named_more, one_more, one_names_once}
use Rattle.live_documents.proofs.TwiceLemmas.{was_met, was_new}
use Rattle.live_documents.proofs.twice.first_twice.Goals as goal

pub returns-then-not-branch-clause-first : goal.returns-then-not-branch-clause-first
returns-then-not-branch-clause-first c =
    let ops = c.as_slice-op-items.result.now in
    let op = c.op-item.result in
    let before = map uri_of (take c.loop-op.op-index ops) in
    let again : is_among before (uri_of op) ≡ true =
    sym (ap (is_among before) (c.as_str.ensures ∙ c.uri-uri.ensures))
    ∙ was_met c.in_ok-insert.ensures.added (c.loop-op.invariant.met c.as_str.result.now) c.if-not-branch.true in
    ap Some (c.in_ok-twice.ensures ∙ c.uri-uri.ensures)
    ∙ sym (first_twice-more ops c.loop-op.op-index op (omega arith) c.op-item.is ∙ cond-true _ _ _ again)
    ∙ c.loop-op.invariant.first
    ∙ ap (λ list. first_twice [] (map uri_of list)) c.as_slice-op-items.ensures.value

pub loop-op-preserved : goal.loop-op-preserved
loop-op-preserved c =
    let ops = c.as_slice-op-items.result.now in
    let op = c.op-item.result in
    let before = map uri_of (take c.loop-op.op-index ops) in
    let name : c.as_str.result.now ≡ uri_of op = c.as_str.ensures ∙ c.uri-uri.ensures in
    let new : is_among before (uri_of op) ≡ false =
    sym (ap (is_among before) name)
    ∙ was_new c.in_ok-insert.ensures.added (c.loop-op.invariant.met c.as_str.result.now) c.if-not-branch.false in
    record {
      met = λ uri.
          one_more c.loop-op.met c.insert.new.self before c.as_str.result.now c.in_ok-insert.ensures.updates
          c.loop-op.invariant.met uri
          ∙ ap (λ uris. is_among uris uri)
          (ap (λ u. before ++ u ∷ []) name ∙ sym (named_more ops c.loop-op.op-index op (omega arith) c.op-item.is));
      first = sym (first_twice-more ops c.loop-op.op-index op (omega arith) c.op-item.is ∙ cond-false _ _ _ new)
          ∙ c.loop-op.invariant.first;
    }

pub returns-clause-distinct : goal.returns-clause-distinct
returns-clause-distinct c =
    distinct_from_none (map uri_of c.args.ops.now)
    (sym (ap (λ ops. first_twice (map uri_of (take c.loop-op.op-index c.as_slice-op-items.result.now)) (map uri_of ops))
    (drop_all c.loop-op.op-index c.as_slice-op-items.result.now c.loop-op-test.false))
    ∙ c.loop-op.invariant.first
    ∙ ap (λ list. first_twice [] (map uri_of list)) c.as_slice-op-items.ensures.value)

pub returns-in-len1-clause-first : goal.returns-in-len1-clause-first
returns-in-len1-clause-first c =
    subst (λ ops. None ≡ first_twice [] (map uri_of ops)) c.as_slice.ensures.value
    (one_names_once c.as_slice.result.now c.in-len1.len_at_least c.in-len1.len_below).0

pub returns-in-len1-clause-distinct : goal.returns-in-len1-clause-distinct
returns-in-len1-clause-distinct c =
    subst (λ ops. IsTrue (is_distinct (map uri_of ops))) c.as_slice.ensures.value
    (one_names_once c.as_slice.result.now c.in-len1.len_at_least c.in-len1.len_below).1
