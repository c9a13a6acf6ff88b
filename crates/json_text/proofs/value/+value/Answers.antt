use Rattle.std.proofs.Common.{◌∷◌, [], Ok, length, ap, sym, subst, ◌∙◌, ◌-◌}
use Rattle.std.proofs.lemmas.Result.{err_from_is_err_and}
use Rattle.doc_model.specs.declared.node.Node.{Node}
use Rattle.json_text.specs.declared.lead.Lead.{Lead}
use Rattle.json_text.specs.Reading.{Gives, Read, flat_by, value_by, item_at, member_at, value_at, repeated}
use Rattle.json_text.proofs.Turns.{goes_on, ends, fails, runs_out, fails_as}
use Rattle.json_text.proofs.Levels.{value_flat, value_nested}
use Rattle.json_text.proofs.value.+value.Goals as goal

pub value-returns-then-room-eq0 : goal.value-returns-then-room-eq0
value-returns-then-room-eq0 t c =
    subst (λ (read : Read Node). Gives (λ x. (x.0, x.1.now)) c.flat.result read)
    (ap (λ (l : Lead). flat_by l c.args.bytes.now) c.lead_of-lead.ensures
    ∙ sym (value_flat c.args.room c.args.bytes.now c.if-room-eq0.true)) c.flat.ensures

pub value-returns-else-room-eq0 : goal.value-returns-else-room-eq0
value-returns-else-room-eq0 t c =
    subst (λ (read : Read Node). Gives (λ x. (x.0, x.1.now)) c.nested.result read)
    (ap (λ (l : Lead). value_by (value_at (c.args.room - 1)) l c.args.bytes.now) c.lead_of-lead.ensures
    ∙ sym (value_nested c.args.room c.args.bytes.now c.if-room-eq0.false)) c.nested.ensures

pub some_items-returns-in_err-item : goal.some_items-returns-in_err-item
some_items-returns-in_err-item t c =
    let p = err_from_is_err_and c.from_residual.result c.from_residual.ensures.1 in
    let step = item_at (value_at c.args.room) in
    let whole = repeated step (length c.args.bytes.now) c.args.bytes.now in
    rw (p.1, p.2) (fails_as c.in_err-item.field-0.0 (step c.loop.rest.now) whole c.in_err-item.ensures
    (λ f e. fails step c.loop.items.items (length c.args.bytes.now) c.loop.counter c.loop.rest.now whole f
    c.loop-test.true e c.loop.invariant))

pub some_items-returns-then-not-more : goal.some_items-returns-then-not-more
some_items-returns-then-not-more t c =
    let step = item_at (value_at c.args.room) in
    let whole = repeated step (length c.args.bytes.now) c.args.bytes.now in
    let made = rw c.if-not-more.true at c.in_ok-item.ensures in
    ends step c.loop.items.items (c.in_ok-item.item ∷ []) (length c.args.bytes.now) c.loop.counter c.loop.rest.now
    c.in_ok-item.behind.now whole c.loop-test.true made c.loop.invariant
    ∙ ap (λ ys. Ok (ys, c.in_ok-item.behind.now)) (sym c.in_ok-push.ensures.items)

pub some_items-loop-preserved : goal.some_items-loop-preserved
some_items-loop-preserved t c =
    let step = item_at (value_at c.args.room) in
    let whole = repeated step (length c.args.bytes.now) c.args.bytes.now in
    let made = rw c.if-not-more.false at c.in_ok-item.ensures in
    rw c.in_ok-push.ensures.items (goes_on step c.loop.items.items (c.in_ok-item.item ∷ []) (length c.args.bytes.now)
    c.loop.counter c.loop.rest.now c.in_ok-item.behind.now whole c.loop-test.true made c.loop.invariant)

pub some_items-returns : goal.some_items-returns
some_items-returns t c =
    let step = item_at (value_at c.args.room) in
    rw c.unexpected.ensures (runs_out step c.loop.items.items (length c.args.bytes.now) c.loop.counter c.loop.rest.now
    (repeated step (length c.args.bytes.now) c.args.bytes.now) c.loop-test.false c.loop.invariant)

pub some_members-returns-in_err-member : goal.some_members-returns-in_err-member
some_members-returns-in_err-member t c =
    let p = err_from_is_err_and c.from_residual.result c.from_residual.ensures.1 in
    let step = member_at (value_at c.args.room) in
    let whole = repeated step (length c.args.bytes.now) c.args.bytes.now in
    rw (p.1, p.2) (fails_as c.in_err-member.field-0.0 (step c.loop.rest.now) whole c.in_err-member.ensures
    (λ f e. fails step c.loop.members.items (length c.args.bytes.now) c.loop.counter c.loop.rest.now whole f
    c.loop-test.true e c.loop.invariant))

pub some_members-returns-then-not-more : goal.some_members-returns-then-not-more
some_members-returns-then-not-more t c =
    let step = member_at (value_at c.args.room) in
    let whole = repeated step (length c.args.bytes.now) c.args.bytes.now in
    let made = rw c.if-not-more.true at c.in_ok-member.ensures in
    ends step c.loop.members.items (c.in_ok-member.member ∷ []) (length c.args.bytes.now) c.loop.counter c.loop.rest.now
    c.in_ok-member.behind.now whole c.loop-test.true made c.loop.invariant
    ∙ ap (λ ys. Ok (ys, c.in_ok-member.behind.now)) (sym c.in_ok-push.ensures.items)

pub some_members-loop-preserved : goal.some_members-loop-preserved
some_members-loop-preserved t c =
    let step = member_at (value_at c.args.room) in
    let whole = repeated step (length c.args.bytes.now) c.args.bytes.now in
    let made = rw c.if-not-more.false at c.in_ok-member.ensures in
    rw c.in_ok-push.ensures.items (goes_on step c.loop.members.items (c.in_ok-member.member ∷ [])
    (length c.args.bytes.now) c.loop.counter c.loop.rest.now c.in_ok-member.behind.now whole c.loop-test.true made
    c.loop.invariant)

pub some_members-returns : goal.some_members-returns
some_members-returns t c =
    let step = member_at (value_at c.args.room) in
    rw c.unexpected.ensures (runs_out step c.loop.members.items (length c.args.bytes.now) c.loop.counter c.loop.rest.now
    (repeated step (length c.args.bytes.now) c.args.bytes.now) c.loop-test.false c.loop.invariant)
