use Rattle.std.proofs.Common.{◌≡◌, ◌++◌, ◌∷◌, [], false, take, length}
use Rattle.std.specs.List.{list_any}
use Rattle.plain_query.specs.Choices.{can_be_close}
use Rattle.plain_query.proofs.nearness.+some_choice.Given as goal

abbrev pub invariant-loop-start : goal.invariant-loop-start
invariant-loop-start l =
    list_any (λ n. can_be_close l.distance l.ordered (l.chosen ++ n ∷ []) l.rest) (take l.start-index l.start-items)
    ≡ false

abbrev pub decreases-some_choice : goal.decreases-some_choice
decreases-some_choice l = length l.children.now
