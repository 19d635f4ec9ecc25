use Rattle.std.proofs.Common.{set, ap, ◌∙◌}
use Rattle.mem_dev.specs.Store.{SureState, content_of}
use Rattle.mem_dev.proofs.StoreLemmas.{full-set, content-set}
use Rattle.mem_dev.proofs.pages.SurePagesPageFile.write_page.Goals as goal

pub invariant_of-self : goal.invariant_of-self
invariant_of-self c = rw c.overwrite.ensures.new (full-set c.self.inside.store c.args.n c.args.from.now c.self.invariant)

pub returns-clause-pages : goal.returns-clause-pages
returns-clause-pages c =
    ap content_of c.overwrite.ensures.new ∙ content-set c.self.inside.store c.args.n c.args.from.now ∙ ap (λ (s : SureState). set s.pages c.args.n c.args.from.now) c.self.view_is
