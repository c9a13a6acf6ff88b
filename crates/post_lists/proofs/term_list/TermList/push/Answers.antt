use Rattle.std.proofs.Common.{◌++◌, ◌∷◌, [], arith}
use Rattle.post_lists.proofs.Rising.{above, last_at_most}
use Rattle.post_lists.proofs.Skips.{kept_in, keeps_more, keeps_seen, seen}
use Rattle.post_lists.proofs.term_list.TermList.push.Goals as goal

pub overflow_sub-item : goal.overflow_sub-item
overflow_sub-item c =
    let in_ = c.self.inside in
    let kept = kept_in in_ c.args.self c.self.view_is c.self.invariant in
    omega (
      arith,
      kept.ended,
      last_at_most 0 0 c.args.self c.args.item (omega arith)
          (above (c.args.self ++ c.args.item ∷ []) c.requires),
    )

pub invariant_of-result : goal.invariant_of-result
invariant_of-result c =
    let in_ = c.self.inside in
    let kept = kept_in in_ c.args.self c.self.view_is c.self.invariant in
    keeps_seen (c.args.self ++ c.args.item ∷ []) c.put_number.new.out.items c.in_ok-skips.skips.items c.in-Some.count
    c.args.item
    (keeps_more c.args.self c.args.item in_.bytes.items in_.skips.items in_.count in_.last kept c.requires
    (omega (arith, c.ranges.item.fits))
    c.put_number.new.out.items c.in_ok-skips.skips.items c.in-Some.count c.len-place.result
    c.in_ok-put_number.ensures c.in-Some.ensures.1 (omega (arith, c.in-Some.ensures.0, c.in-Some.ensures.1))
    (omega (arith, c.len-place.ensures, c.put_number.new.out.ok.0)) c.in_ok-skips.ensures)

pub returns : goal.returns
returns c =
    let in_ = c.self.inside in
    let kept = kept_in in_ c.args.self c.self.view_is c.self.invariant in
    seen (c.args.self ++ c.args.item ∷ []) c.put_number.new.out.items c.in_ok-skips.skips.items c.in-Some.count
    c.args.item
    (keeps_more c.args.self c.args.item in_.bytes.items in_.skips.items in_.count in_.last kept c.requires
    (omega (arith, c.ranges.item.fits))
    c.put_number.new.out.items c.in_ok-skips.skips.items c.in-Some.count c.len-place.result
    c.in_ok-put_number.ensures c.in-Some.ensures.1 (omega (arith, c.in-Some.ensures.0, c.in-Some.ensures.1))
    (omega (arith, c.len-place.ensures, c.put_number.new.out.ok.0)) c.in_ok-skips.ensures)
