-- The page that comes has a pin.
use Rattle.std.proofs.lemmas.Result.{on_ok_weaker}
use Rattle.buf_pool.specs.Steps.{PinsOnce}
use Rattle.snap_pages.proofs.PinLemmas.{once_pinned}
use Rattle.snap_pages.proofs.pages.SnapPages.fetch_source.Goals as goal

pub returns-clause-pinned : goal.returns-clause-pinned
returns-clause-pinned g c = on_ok_weaker c.fetch.result (λ (once : PinsOnce c.args.p c.self.inside.pool c.fetch.new.self). once_pinned c.self.inside.pool c.fetch.new.self c.args.p once) c.fetch.ensures.once
