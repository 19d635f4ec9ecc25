use Rattle.std.proofs.Common.{ap, refl}
use Rattle.std.specs.Prelude.{Err}
use Rattle.mem_dev.specs.Store.{PagesState}
use Rattle.mem_dev.proofs.StoreLemmas.{wrote}
use Rattle.mem_dev.proofs.pages.MemPagesPageFile.write_page.Goals as goal

pub returns-then-meets_fault-clause-written : goal.returns-then-meets_fault-clause-written
returns-then-meets_fault-clause-written c = wrote (Err _) c.self.inside.store c.self.inside.store c.args.self.now.pages c.args.n c.args.from.now (ap (λ (s : PagesState). s.pages) c.self.view_is) tt refl

pub returns-then-is_err-clause-written : goal.returns-then-is_err-clause-written
returns-then-is_err-clause-written c = wrote c.put_page-done.result c.self.inside.store c.put_page-done.new.store c.args.self.now.pages c.args.n c.args.from.now (ap (λ (s : PagesState). s.pages) c.self.view_is) c.put_page-done.ensures.ok c.put_page-done.ensures.err

pub returns-else-is_err-clause-written : goal.returns-else-is_err-clause-written
returns-else-is_err-clause-written c = wrote c.put_page-done.result c.self.inside.store c.put_page-done.new.store c.args.self.now.pages c.args.n c.args.from.now (ap (λ (s : PagesState). s.pages) c.self.view_is) c.put_page-done.ensures.ok c.put_page-done.ensures.err
