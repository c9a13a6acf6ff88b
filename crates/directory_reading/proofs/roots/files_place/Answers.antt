use Rattle.std.proofs.Common.{◌-◌, ap, length, arith}
use Rattle.std.proofs.lemmas.Bool.{iff_false}
use Rattle.directory_reading.proofs.RootLemmas.{length-root, parts_are_named, removed_within, then_removed}
use Rattle.directory_reading.proofs.roots.files_place.Goals as goal

pub overflow_sub-removed : goal.overflow_sub-removed
overflow_sub-removed c = omega (arith, length-root c.args.root.now, ap length c.requires.spelled.spelled)

pub overflow_sub-result : goal.overflow_sub-result
overflow_sub-result c = omega (arith, length-root c.args.root.now, ap length c.requires.spelled.spelled)

pub returns-then-not-is_empty : goal.returns-then-not-is_empty
returns-then-not-is_empty c =
    parts_are_named c.args.body.now c.args.root.now _ c.requires.spelled
    (iff_false c.is_empty.ensures c.if-not-is_empty.true)
    (omega (arith, length-root c.args.root.now, ap length c.requires.spelled.spelled))

pub returns : goal.returns
returns c =
    let within = removed_within c.args.body.now c.args.root.now c.requires.spelled in
    then_removed c.args.body.now c.args.root.now c.is_empty-2.result (length c.args.body.now - c.list_len.result)
    c.then_some.result c.requires.spelled (c.is_empty.ensures.0 c.if-not-is_empty.false) c.is_empty-2.ensures
    (omega arith) c.then_some.ensures
