use Rattle.std.proofs.Common.{subst}
use Rattle.early_engine.specs.Closing.{StillLies}
use Rattle.early_engine.specs.Safe.{Run}
use Rattle.early_engine.proofs.engine.Engine.close.Goals as goal

pub returns-clause-lies : goal.returns-clause-lies
returns-clause-lies g c = subst (λ (e : Run). StillLies e.disk.told e.disk.folder (g.V.Volume.folder c.put_back-end.new.volume)) c.self.view_is c.put_back-end.ensures.lies
