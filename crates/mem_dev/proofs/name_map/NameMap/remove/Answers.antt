use Rattle.mem_dev.proofs.NameMapLemmas.{remove-sets}
use Rattle.mem_dev.proofs.name_map.NameMap.remove.Goals as goal

pub returns : goal.returns
returns g c = remove-sets c.self.inside.entries.entries c.remove.new.self.entries c.args.self.now c.args.name.now c.self.view_is c.remove.ensures.updates.0
