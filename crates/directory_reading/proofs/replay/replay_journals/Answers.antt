use Rattle.std.proofs.Common.{◌≡◌, subst}
use Rattle.directory_reading.specs.Walking.{ComesLast}
use Rattle.directory_reading.proofs.ReplayLemmas.{by_first, by_second, can_walk, last_lent, the_second}
use Rattle.directory_reading.proofs.replay.replay_journals.Goals as goal

pub replay_both-requires-clause-earlier : goal.replay_both-requires-clause-earlier
replay_both-requires-clause-earlier c = can_walk c.requires.second.0 c.args.second c.requires.second.1

pub replay_both-requires-clause-later : goal.replay_both-requires-clause-later
replay_both-requires-clause-later c = can_walk c.requires.first.0 c.args.first c.requires.first.1

pub replay_both-requires-in-Some-clause-earlier : goal.replay_both-requires-in-Some-clause-earlier
replay_both-requires-in-Some-clause-earlier c = can_walk c.requires.first.0 c.args.first c.requires.first.1

pub replay_both-requires-in-Some-clause-later : goal.replay_both-requires-in-Some-clause-later
replay_both-requires-in-Some-clause-later c = can_walk c.requires.second.0 c.args.second c.requires.second.1

pub returns-in-Some-eq0 : goal.returns-in-Some-eq0
returns-in-Some-eq0 c = λ bodies zeros ones.
    let root = c.args.root.now in
    let entries_0 = c.args.first.entries.items in
    let entries_1 = c.args.second.entries.items in
    let last = last_lent root.checkpoint entries_0 entries_1 c.deref.result.now c.deref-2.result.now
    c.in-Some-eq0.field-0 c.deref.ensures.value c.deref-2.ensures.value c.in-Some-eq0.ensures in
    let first : ComesLast root.checkpoint entries_0 entries_1 0 =
    subst (ComesLast root.checkpoint entries_0 entries_1) c.in-Some-eq0.field-0-test last in
    by_first bodies root c.args.first c.args.second zeros ones c.replay_both.result first c.replay_both.ensures

pub returns-in-Some : goal.returns-in-Some
returns-in-Some c = λ bodies zeros ones.
    let root = c.args.root.now in
    let entries_0 = c.args.first.entries.items in
    let entries_1 = c.args.second.entries.items in
    let last = last_lent root.checkpoint entries_0 entries_1 c.deref.result.now c.deref-2.result.now
    c.in-Some.field-0 c.deref.ensures.value c.deref-2.ensures.value c.in-Some.ensures in
    let is : c.in-Some.field-0 ≡ 1 = the_second c.in-Some.field-0 last.journal c.in-Some.field-0-test.1 in
    let second : ComesLast root.checkpoint entries_0 entries_1 1 =
    subst (ComesLast root.checkpoint entries_0 entries_1) is last in
    by_second bodies root c.args.first c.args.second zeros ones c.replay_both-in-Some.result second
    c.replay_both-in-Some.ensures
