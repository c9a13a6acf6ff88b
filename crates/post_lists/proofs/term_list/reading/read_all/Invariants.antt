use Rattle.std.proofs.Common.{◌≡◌, ◌++◌, length}
use Rattle.post_lists.specs.Postings.{ArePostings, spelling}
use Rattle.post_lists.proofs.term_list.reading.read_all.Given as goal

abbrev pub invariant-loop : goal.invariant-loop
invariant-loop l = record {
  postings : ArePostings l.below l.list;
  counted : length l.list ≡ l.counter;
  spelled : l.bytes ≡ spelling l.list ++ l.rest;
}
