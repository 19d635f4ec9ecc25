use Rattle.mem_dev.proofs.NameMapLemmas.{insert-sets}
use Rattle.mem_dev.proofs.name_map.NameMap.insert.Goals as goal

pub returns-clause-ok : goal.returns-clause-ok
returns-clause-ok g c = insert-sets c.self.inside.entries.entries c.insert.new.self.entries c.args.self.now c.args.name.now c.args.value c.self.view_is c.in_ok-insert.ensures.updates.0
