use Rattle.std.proofs.Common.{ap, ◌∙◌}
use Rattle.std.specs.FinMap as map
use Rattle.std.specs.List.{concat}
use Rattle.std.specs.FinSet as set
use Rattle.page_dev.specs.Volume.{Lies, Out, Folder}
use Rattle.page_dev.proofs.OutLemmas.{taken_out}
use Rattle.mem_dev.specs.Out.{out_of}
use Rattle.mem_dev.proofs.FolderLemmas.{restored}
use Rattle.mem_dev.proofs.OutLemmas.{marked_out}
use Rattle.mem_dev.proofs.sure_volume.SureVolumeVolume.take_pages.Goals as goal

pub put-requires-clause-name : goal.put-requires-clause-name
put-requires-clause-name c =
    ap (λ (f : Folder). set.contains (out_of f) c.args.name.now) c.in_ok-store.ensures.taken.out
    ∙ ap (λ o. set.contains o c.args.name.now) (marked_out c.self.inside.shelf c.args.name.now)
    ∙ taken_out (out_of c.self.inside.shelf) c.args.name.now

pub returns-in-Err-clause-taken : goal.returns-in-Err-clause-taken
returns-in-Err-clause-taken c =
    c.put.ensures.folder
    ∙ (λ i. map.insert (c.in_ok-store.ensures.taken.out i) c.args.name.now ((c.pages.ensures ∙ ap (λ p. Lies (concat p)) c.in-Err.ensures.content) i))
    ∙ restored c.self.inside.shelf c.args.name.now Out _ c.in_ok-store.ensures.taken.had ∙ c.self.view_is

pub returns-in-Err-clause-out : goal.returns-in-Err-clause-out
returns-in-Err-clause-out c = ap out_of (returns-in-Err-clause-taken c)
