use Rattle.std.proofs.Common.{◌≡◌, Bool, IfOk, subst}
use Rattle.doc_filter.proofs.matching.matches.Goals as goal

pub returns : goal.returns
returns c =
    let P : Bool → Type 0 = λ answer. IfOk c.matches.result (λ b. b ≡ answer) in
    subst P (c.in_ok-new.ensures c.args.document.now) c.matches.ensures
