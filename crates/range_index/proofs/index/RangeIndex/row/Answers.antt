use Rattle.std.proofs.Common.{◌<◌, Some, slice_get, zip, length, get_or, ap, sym, ◌∙◌, arith}
use Rattle.std.proofs.lemmas.Option.{slice_get-get_or}
use Rattle.range_index.specs.Rows.{Row}
use Rattle.range_index.proofs.OrderLemmas.{length-rows, row_at}
use Rattle.range_index.proofs.index.RangeIndex.row.Goals as goal

pub index-requires : goal.index-requires
index-requires c =
    let index = c.self.inside in
    omega (
      arith,
      c.requires,
      ap length c.self.view_is,
      length-rows index.values.items index.fragments.items c.self.invariant.paired,
    )

pub index-requires-2 : goal.index-requires-2
index-requires-2 c =
    let index = c.self.inside in
    omega (
      arith,
      c.requires,
      ap length c.self.view_is,
      length-rows index.values.items index.fragments.items c.self.invariant.paired,
      c.self.invariant.paired,
    )

pub returns : goal.returns
returns c =
    let values = c.self.inside.values.items in
    let fragments = c.self.inside.fragments.items in
    let value = c.index.result.now in
    let fragment = c.index-2.result.now in
    let paired = c.self.invariant.paired in
    let long = length-rows values fragments paired in
    let lt : c.args.i < length (zip values fragments) = omega (arith, c.requires, ap length c.self.view_is) in
    let lt' : c.args.i < length values = omega (arith, lt, long) in
    ap (λ rows. slice_get rows c.args.i) (sym c.self.view_is)
    ∙ slice_get-get_or (zip values fragments) c.args.i (value, fragment) lt
    ∙ ap (λ (row : Row). Some row) (row_at values fragments paired c.args.i value fragment lt')
    ∙ ap (λ v. Some (v, get_or fragments c.args.i fragment)) (sym c.index.ensures)
    ∙ ap (λ n. Some (value, n)) (sym c.index-2.ensures)
