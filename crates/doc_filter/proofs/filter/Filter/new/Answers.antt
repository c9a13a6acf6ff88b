use Rattle.std.proofs.Common.{ap}
use Rattle.doc_filter.proofs.filter.Filter.new.Goals as goal

pub returns : goal.returns
returns c = λ d. ap (λ m. m.holds) (c.in_ok-condition.ensures d)
