use Rattle.std.proofs.Common.{Some, Option, string_bytes, sym, ap, ◌∙◌}
use Rattle.std.specs.BTreeMap.{get_by_text}
use Rattle.std.specs.Str.{bytes_eq}
use Rattle.std.proofs.lemmas.Map.{update_same, update_other}
use Rattle.std.proofs.lemmas.Map.Text.{btree_map_updates_text}
use Rattle.disk_model.specs.declared.world.Store.{Store}
use Rattle.disk_memory.specs.declared.disk.MemoryDisk.{MemoryDisk}
use Rattle.disk_memory.specs.declared.yard.MemoryYard.{MemoryYard}
use Rattle.disk_memory.proofs.SeatsLemmas.{equal_bytes, apart_bytes}
use Rattle.disk_memory.proofs.world.MemoryWorld.store_at.Goals as goal

pub returns-clause-stored : goal.returns-clause-stored
returns-clause-stored c =
    let old = c.args.self.now.directories in
    let bs = string_bytes c.in_ok-directory.directory in
    let sets = btree_map_updates_text bs old c.insert.new.self (Some c.args.store) c.in_ok-insert.ensures.updates in
    ap (λ (found : Option (Store MemoryDisk MemoryYard)). Some found)
    (sets c.args.dir.now ∙ update_same bytes_eq (get_by_text old) bs (Some c.args.store) c.args.dir.now
    (equal_bytes bs c.args.dir.now c.in_ok-directory.ensures.ok))

pub returns-clause-others : goal.returns-clause-others
returns-clause-others c = λ other apart.
    let old = c.args.self.now.directories in
    let bs = string_bytes c.in_ok-directory.directory in
    let sets = btree_map_updates_text bs old c.insert.new.self (Some c.args.store) c.in_ok-insert.ensures.updates in
    ap (λ (found : Option (Store MemoryDisk MemoryYard)). Some found)
    (sets other ∙ update_other bytes_eq (get_by_text old) bs (Some c.args.store) other
    (apart_bytes bs other (λ same. apart (sym same ∙ c.in_ok-directory.ensures.ok))))
