use Rattle.mem_dev.proofs.NameMapLemmas.{get-found}
use Rattle.mem_dev.proofs.name_map.NameMap.get.Goals as goal

pub returns : goal.returns
returns g c = get-found c.self.inside.entries.entries c.args.self.now c.args.name.now _ c.self.view_is c.get.ensures.value
