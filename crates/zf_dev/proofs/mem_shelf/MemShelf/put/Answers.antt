use Rattle.std.{proofs.Common.{Some, string_bytes}, specs.BTreeMap.{get_by_text}}
use Rattle.std.proofs.lemmas.Map.Text.{btree_map_updates_text}
use Rattle.zf_dev.proofs.Saving.{SavesFile-put}
use Rattle.zf_dev.proofs.mem_shelf.MemShelf.put.Goals as goal

pub returns-in-Ok-clause-ok : goal.returns-in-Ok-clause-ok
returns-in-Ok-clause-ok c =
    let key = string_bytes c.in_ok-name.name in
    let file = c.in_ok-bytes.bytes in
    let before = c.args.self.now.files in
    let now = c.insert.new.self in
    SavesFile-put (get_by_text before) (get_by_text now) key c.args.name.now c.args.bytes.now file c.in_ok-name.ensures.ok c.in_ok-bytes.ensures.items
    (btree_map_updates_text key before now (Some file) c.in-Ok.ensures.updates)
