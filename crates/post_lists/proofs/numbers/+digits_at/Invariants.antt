use Rattle.post_lists.proofs.numbers.+digits_at.Given as goal

abbrev pub decreases-digits_at : goal.decreases-digits_at
decreases-digits_at l = l.most
