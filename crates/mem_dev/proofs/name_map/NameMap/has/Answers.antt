use Rattle.std.proofs.Common.{ap, ◌∙◌, refl}
use Rattle.std.specs.Prelude.{is_some}
use Rattle.mem_dev.proofs.NameMapLemmas.{get-found, found}
use Rattle.mem_dev.proofs.name_map.NameMap.has.Goals as goal

pub returns : goal.returns
returns g c = c.contains_key.ensures ∙ ap is_some (get-found c.self.inside.entries.entries c.args.self.now c.args.name.now (found c.self.inside.entries.entries c.args.name.now) c.self.view_is refl)
