use Rattle.std.proofs.Common.{sym, ◌∙◌}
use Rattle.mem_dev.proofs.StoreLemmas.{made}
use Rattle.mem_dev.proofs.page_store.PageStore.make.Goals as goal

pub returns-clause-content : goal.returns-clause-content
returns-clause-content c = made c.write.result c.args.self.now c.write.new.self c.args.n c.args.zeros.now c.write.ensures.ok c.write.ensures.err c.requires.zeros (sym c.has.ensures ∙ c.if-has.false)
