use Rattle.doc_filter.proofs.ConditionLemmas.{met_and, met_near, met_or}
use Rattle.doc_filter.proofs.holding.+holds.Goals as goal

pub holds-returns-in-And-clause-answer : goal.holds-returns-in-And-clause-answer
holds-returns-in-And-clause-answer t c =
    rw (met_and c.args.condition.now c.args.document.now c.in-And.children c.in-And.is) c.all_hold.ensures.answer

pub holds-returns-in-Or-clause-answer : goal.holds-returns-in-Or-clause-answer
holds-returns-in-Or-clause-answer t c =
    rw (met_or c.args.condition.now c.args.document.now c.in-Or.children c.in-Or.is) c.some_holds.ensures.answer

pub holds-returns-in-Near-clause-answer : goal.holds-returns-in-Near-clause-answer
holds-returns-in-Near-clause-answer t c =
    let q = c.in-Near in
    rw (met_near c.args.condition.now c.args.document.now q.children q.distance q.ordered q.is)
    c.near_holds.ensures.answer
