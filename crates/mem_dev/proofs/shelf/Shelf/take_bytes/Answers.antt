use Rattle.std.proofs.Common.{ap, sym, ◌∙◌}
use Rattle.std.specs.FinMap as map
use Rattle.page_dev.specs.Volume.{Folder}
use Rattle.mem_dev.specs.Out.{out_of}
use Rattle.mem_dev.proofs.FolderLemmas.{there-inserted, restored, not_out}
use Rattle.mem_dev.proofs.OutLemmas.{marked_out}
use Rattle.mem_dev.proofs.shelf.Shelf.take_bytes.Goals as goal

pub into_bytes-requires : goal.into_bytes-requires
into_bytes-requires c =
    not_out c.args.self.now c.args.name.now c.replace-file.result
    (ap (λ (m : Folder). map.get m c.args.name.now) (sym c.self.view_is) ∙ c.replace-file.ensures.old) c.requires

pub replace-requires : goal.replace-requires
replace-requires c = rw c.replace-file.ensures.new (there-inserted c.self.inside.files c.args.name.now c.gone.result)

pub returns-in-Ok-clause-out : goal.returns-in-Ok-clause-out
returns-in-Ok-clause-out c =
    ap out_of (c.replace-file.ensures.new ∙ (λ i. map.insert (c.self.view_is i) c.args.name.now (c.gone.ensures i))) ∙ marked_out c.args.self.now c.args.name.now

pub returns-in-Err-clause-taken : goal.returns-in-Err-clause-taken
returns-in-Err-clause-taken c =
    c.replace.ensures.new ∙ (λ i. map.insert (c.replace-file.ensures.new i) c.args.name.now (c.in-Err.ensures.err i))
    ∙ restored c.self.inside.files c.args.name.now c.gone.result c.replace-file.result c.replace-file.ensures.old ∙ c.self.view_is

pub returns-in-Err-clause-out : goal.returns-in-Err-clause-out
returns-in-Err-clause-out c = ap out_of (returns-in-Err-clause-taken c)
