use Rattle.std.proofs.Common.{◌≡◌, List, ◌∙◌, ap, sym, not, Bool, Option, Some, None, ◌++◌, Result, IfOk, Ok, Err}
use Rattle.std.specs.List.{find}
use Rattle.doc_model.specs.Queries.{Index, is_indexed, wanted_indexes, missing_index}
use Rattle.doc_model.proofs.Finding.{find_past, find_here}
use Rattle.doc_model.proofs.QueryFolds.{wanted_and, wanted_or, wanted_near, wanted_and_not}
use Rattle.doc_model.specs.declared.query.Query.{Query}
use Rattle.std.proofs.lemmas.List.Folds.{find-append}
use Rattle.std.specs.Option.{option_or}
use Rattle.doc_model.proofs.checks.ranges.+ranges.Goals as goal

abbrev misses : List Index → Index → Bool
misses indexes index = not (is_indexed indexes index)

-- a query wants what these indexes are
at_wanted : (q : Query) (w indexes : List Index) → wanted_indexes q ≡ w → find (misses indexes) w ≡ missing_index q indexes
at_wanted q w indexes h = ap (find (misses indexes)) (sym h)

-- an answer about what a query wants is one about the query
same_wanted : {E : Type 0} (r : Result (Option Index) E) (q : Query) (w indexes : List Index) → wanted_indexes q ≡ w →
    IfOk r (λ missing. missing ≡ find (misses indexes) w) → IfOk r (λ missing. missing ≡ missing_index q indexes)
same_wanted (Ok missing) q w indexes h is = is ∙ at_wanted q w indexes h
same_wanted (Err e) q w indexes h is = tt

either_wanted : (p n : Query) (indexes : List Index) →
    find (misses indexes) (wanted_indexes p ++ wanted_indexes n) ≡ option_or (missing_index p indexes)
    (missing_index n indexes)
either_wanted p n indexes = find-append (misses indexes) (wanted_indexes p) (wanted_indexes n)

first_wanted : (q p n : Query) (indexes : List Index) (index : Index) → wanted_indexes q ≡ wanted_indexes p ++ wanted_indexes n →
    Some index ≡ missing_index p indexes → Some index ≡ missing_index q indexes
first_wanted q p n indexes index h is =
    ap (λ o. option_or o (missing_index n indexes)) is ∙ sym (either_wanted p n indexes) ∙ at_wanted q _ indexes h

second_wanted : {E : Type 0} (r : Result (Option Index) E) (q p n : Query) (indexes : List Index) →
    wanted_indexes q ≡ wanted_indexes p ++ wanted_indexes n →
    None ≡ missing_index p indexes → IfOk r (λ missing. missing ≡ missing_index n indexes) →
    IfOk r (λ missing. missing ≡ missing_index q indexes)
second_wanted (Ok missing) q p n indexes h none is =
    is ∙ ap (λ o. option_or o (missing_index n indexes)) none ∙ sym (either_wanted p n indexes) ∙ at_wanted q _ indexes h
second_wanted (Err e) q p n indexes h none is = tt

same_negative : {E : Type 0} (r : Result (Option Index) E) (a b : Query) (indexes : List Index) → a ≡ b →
    IfOk r (λ missing. missing ≡ missing_index a indexes) → IfOk r (λ missing. missing ≡ missing_index b indexes)
same_negative (Ok missing) a b indexes h is = is ∙ ap (λ q. missing_index q indexes) h
same_negative (Err e) a b indexes h is = tt

pub missing_in_any-returns-in-Some : goal.missing_in_any-returns-in-Some
missing_in_any-returns-in-Some t c =
    sym (find_here (misses c.args.indexes.now) wanted_indexes c.as_slice-query-items.result.now
    c.loop-query.query-index c.query-item.result c.in-Some.missing c.loop-query-test.true c.query-item.is
    (sym c.in_ok-missing.ensures ∙ c.in-Some.is))
    ∙ c.loop-query.invariant

pub missing_in_any-loop-query-preserved : goal.missing_in_any-loop-query-preserved
missing_in_any-loop-query-preserved t c =
    find_past (misses c.args.indexes.now) wanted_indexes c.as_slice-query-items.result.now c.loop-query.query-index
    c.query-item.result c.loop-query-test.true c.query-item.is (sym c.in_ok-missing.ensures ∙ c.in_default.is)
    ∙ c.loop-query.invariant

pub missing_index-returns-in-And : goal.missing_index-returns-in-And
missing_index-returns-in-And t c =
    same_wanted _ _ _ _ (ap wanted_indexes c.in-And.is ∙ wanted_and c.in-And.queries) c.missing_in_any.ensures

pub missing_index-returns-in-Or : goal.missing_index-returns-in-Or
missing_index-returns-in-Or t c =
    same_wanted _ _ _ _ (ap wanted_indexes c.in-Or.is ∙ wanted_or c.in-Or.queries) c.missing_in_any-in-Or.ensures

pub missing_index-returns-in-Near : goal.missing_index-returns-in-Near
missing_index-returns-in-Near t c =
    same_wanted _ _ _ _ (ap wanted_indexes c.in-Near.is ∙ wanted_near c.in-Near.queries c.in-Near.distance
    c.in-Near.ordered) c.missing_in_any-in-Near.ensures

pub missing_index-returns-in-Some : goal.missing_index-returns-in-Some
missing_index-returns-in-Some t c =
    first_wanted _ c.in-AndNot.positive c.in-AndNot.negative _ _ (ap wanted_indexes c.in-AndNot.is ∙
    wanted_and_not c.in-AndNot.positive c.in-AndNot.negative)
    (sym c.in-Some.is ∙ c.in_ok-missing-in-AndNot.ensures ∙ ap (λ q. missing_index q c.args.indexes.now) c.get-in-AndNot.ensures)

pub missing_index-returns-in-None : goal.missing_index-returns-in-None
missing_index-returns-in-None t c =
    second_wanted _ _ c.in-AndNot.positive c.in-AndNot.negative _ (ap wanted_indexes c.in-AndNot.is ∙
    wanted_and_not c.in-AndNot.positive c.in-AndNot.negative)
    (sym c.in-None.is ∙ c.in_ok-missing-in-AndNot.ensures ∙ ap (λ q. missing_index q c.args.indexes.now) c.get-in-AndNot.ensures)
    (same_negative _ _ _ _ c.get-in-None.ensures c.missing_index-in-None.ensures)
