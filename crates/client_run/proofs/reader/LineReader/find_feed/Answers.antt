use Rattle.std.proofs.Common.{◌≡◌, ◌-◌, ◌+◌, ℕ, List, Some, length, take, drop, ap, arith, subst}
use Rattle.client_run.proofs.Windows.{searched, length-window, none_more, one_more, finds_feed, all_clean}
use Rattle.client_run.specs.Reading.{ReaderState, HasNoFeedBefore, FindsFeed}
use Rattle.transcript.specs.Lines.{HasNoFeed}
use Rattle.client_run.proofs.reader.LineReader.find_feed.Goals as goal

pub invariant_of-self : goal.invariant_of-self
invariant_of-self c =
    let r = c.self.inside in
    let (size, order, within, seen, clean) = c.self.invariant in
    let bytes : List ℕ = drop r.from (take r.to r.buffer.items) in
    let len : length bytes ≡ r.to - r.from = length-window r.from r.to r.buffer.items
    (omega (arith, size, within, r.buffer.ok.0)) in
    let one = one_more bytes _ r.seen (searched r.from r.seen r.to r.buffer.items c.deref.result.now
    c.deref.ensures.value (omega (arith, order, seen))) (omega (arith, seen, len)) clean c.in-Some.more
    c.in-Some.ensures in
    (size, order, within, omega (arith, one.0, len), one.1)

pub invariant_of-self-in-None : goal.invariant_of-self-in-None
invariant_of-self-in-None c =
    let r = c.self.inside in
    let (size, order, within, seen, clean) = c.self.invariant in
    let bytes : List ℕ = drop r.from (take r.to r.buffer.items) in
    let len : length bytes ≡ r.to - r.from = length-window r.from r.to r.buffer.items
    (omega (arith, size, within, r.buffer.ok.0)) in
    let none = none_more bytes _ r.seen (searched r.from r.seen r.to r.buffer.items c.deref.result.now
    c.deref.ensures.value (omega (arith, order, seen))) (omega (arith, seen, len)) clean c.in-None.ensures in
    (size, order, within, omega arith, subst (HasNoFeedBefore bytes) len none)

pub returns-in-Some-clause-found : goal.returns-in-Some-clause-found
returns-in-Some-clause-found c =
    let r = c.self.inside in
    let (size, order, within, seen, clean) = c.self.invariant in
    let bytes : List ℕ = drop r.from (take r.to r.buffer.items) in
    let len : length bytes ≡ r.to - r.from = length-window r.from r.to r.buffer.items
    (omega (arith, size, within, r.buffer.ok.0)) in
    let one = one_more bytes _ r.seen (searched r.from r.seen r.to r.buffer.items c.deref.result.now
    c.deref.ensures.value (omega (arith, order, seen))) (omega (arith, seen, len)) clean c.in-Some.more
    c.in-Some.ensures in
    subst (λ (xs : List ℕ). FindsFeed xs (Some (r.seen + c.in-Some.more)))
    (ap (λ (h : ReaderState). h.pending) c.self.view_is) (finds_feed bytes (r.seen + c.in-Some.more) one)

pub returns-in-None-clause-found : goal.returns-in-None-clause-found
returns-in-None-clause-found c =
    let r = c.self.inside in
    let (size, order, within, seen, clean) = c.self.invariant in
    let bytes : List ℕ = drop r.from (take r.to r.buffer.items) in
    let len : length bytes ≡ r.to - r.from = length-window r.from r.to r.buffer.items
    (omega (arith, size, within, r.buffer.ok.0)) in
    let none = none_more bytes _ r.seen (searched r.from r.seen r.to r.buffer.items c.deref.result.now
    c.deref.ensures.value (omega (arith, order, seen))) (omega (arith, seen, len)) clean c.in-None.ensures in
    subst HasNoFeed (ap (λ (h : ReaderState). h.pending) c.self.view_is) (all_clean bytes none)
