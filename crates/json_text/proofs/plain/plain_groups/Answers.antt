use Rattle.std.proofs.Common.{◌+◌, ◌≤◌, sym, ◌∙◌, length, arith}
use Rattle.json_text.specs.Strings.{is_plain}
use Rattle.json_text.proofs.Groups.{group_passes}
use Rattle.json_text.proofs.plain.plain_groups.Goals as goal

pub loop-n-preserved : goal.loop-n-preserved
loop-n-preserved c =
    let within : c.loop-n.n + 8 ≤ length c.args.bytes.now = omega arith in
    record {
      within = within;
      plain = group_passes is_plain c.args.bytes.now c.loop-n.n 8 within (sym c.all_plain.ensures ∙
          c.if-all_plain.true) c.loop-n.invariant.plain;
    }
