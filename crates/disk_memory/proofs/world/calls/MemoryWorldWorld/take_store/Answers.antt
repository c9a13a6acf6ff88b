use Rattle.std.proofs.Common.{Some, None, sym, ap, ◌∙◌}
use Rattle.std.specs.BTreeMap.{get_by_text}
use Rattle.std.specs.Str.{bytes_eq}
use Rattle.std.proofs.lemmas.Map.{update_other}
use Rattle.std.proofs.lemmas.Map.Text.{btree_map_updates_text}
use Rattle.disk_memory.proofs.SeatsLemmas.{apart_bytes}
use Rattle.disk_memory.proofs.world.calls.MemoryWorldWorld.take_store.Goals as goal

pub returns-clause-others : goal.returns-clause-others
returns-clause-others c = λ other apart.
    let old = c.args.self.now.directories in
    let dir = c.args.dir.now in
    let sets = btree_map_updates_text dir old c.remove.new.self None c.remove.ensures.updates in
    ap (λ found. Some found) (sets other ∙ update_other bytes_eq (get_by_text old) dir None other
    (apart_bytes dir other (λ same. apart (sym same))))
