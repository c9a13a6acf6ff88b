use Rattle.std.proofs.Common.{◌-◌, get_or, sym, subst, arith}
use Rattle.std.proofs.lemmas.List.{get_or_default}
use Rattle.post_pool.specs.declared.links.Node.{Node}
use Rattle.post_pool.specs.Links.{LeadsTo, no_node}
use Rattle.post_pool.proofs.LinkLemmas.{along, gathered_more}
use Rattle.post_pool.proofs.links.gather.Goals as goal

pub loop-left-preserved : goal.loop-left-preserved
loop-left-preserved c =
    let nodes = c.args.nodes.now in
    let last = c.args.ends.last in
    let at = c.loop-left.at in
    let left = c.loop-left.left in
    let step = along nodes last at left c.loop-left-test.true c.loop-left.invariant.linked in
    let unread : Node = record { item = 0; next = 0 } in
    let node = get_or nodes at unread in
    let read = get_or_default nodes at unread no_node step.0 in
    record {
      linked = subst (λ (node : Node). LeadsTo nodes last node.next (left - 1)) (sym read) step.1;
      room = omega arith;
      gathered =
          gathered_more nodes c.loop-left.out.items c.push_reserved.new.self.items _ node at left
          c.push_reserved.ensures.items read step.2 c.loop-left.invariant.gathered;
    }
