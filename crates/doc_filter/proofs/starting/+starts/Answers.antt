use Rattle.doc_filter.proofs.ConditionLemmas.{starts_or}
use Rattle.doc_filter.proofs.starting.+starts.Goals as goal

pub add_starts-returns-in-Or-clause-starts : goal.add_starts-returns-in-Or-clause-starts
add_starts-returns-in-Or-clause-starts t c =
    rw (starts_or c.args.condition.now c.args.document.now c.in-Or.children c.in-Or.is) c.add_all_starts.ensures.starts
