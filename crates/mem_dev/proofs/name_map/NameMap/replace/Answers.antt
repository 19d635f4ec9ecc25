use Rattle.std.proofs.Common.{◌≡◌, ap, sym, ◌∙◌, refl}
use Rattle.std.specs.Prelude.{is_some}
use Rattle.std.specs.FinMap as map
use Rattle.mem_dev.proofs.NameMapLemmas.{found, get-found, insert-sets, insert_is_ok, insert_had, on_ok_at}
use Rattle.mem_dev.proofs.name_map.NameMap.replace.Goals as goal

pub unwrap-requires : goal.unwrap-requires
unwrap-requires g c =
    let there : found c.self.inside.entries.entries c.args.name.now ≡ map.get c.args.self.now c.args.name.now = get-found c.self.inside.entries.entries c.args.self.now c.args.name.now _ c.self.view_is refl in
    insert_is_ok c.insert.result (found c.self.inside.entries.entries c.args.name.now) (ap is_some there ∙ c.requires) c.insert.ensures.absent

pub unwrap-requires-2 : goal.unwrap-requires-2
unwrap-requires-2 g c =
    let there : found c.self.inside.entries.entries c.args.name.now ≡ map.get c.args.self.now c.args.name.now = get-found c.self.inside.entries.entries c.args.self.now c.args.name.now _ c.self.view_is refl in
    ap is_some (insert_had c.insert.result (found c.self.inside.entries.entries c.args.name.now) c.unwrap.result c.unwrap.ensures c.insert.ensures.old ∙ there) ∙ c.requires

pub returns-clause-old : goal.returns-clause-old
returns-clause-old g c =
    let there : found c.self.inside.entries.entries c.args.name.now ≡ map.get c.args.self.now c.args.name.now = get-found c.self.inside.entries.entries c.args.self.now c.args.name.now _ c.self.view_is refl in
    sym there ∙ sym (insert_had c.insert.result (found c.self.inside.entries.entries c.args.name.now) c.unwrap.result c.unwrap.ensures c.insert.ensures.old) ∙ c.unwrap-2.ensures

pub returns-clause-new : goal.returns-clause-new
returns-clause-new g c =
    insert-sets c.self.inside.entries.entries c.insert.new.self.entries c.args.self.now c.args.name.now c.args.value c.self.view_is (on_ok_at c.insert.result c.unwrap.result c.unwrap.ensures c.insert.ensures.updates).0
