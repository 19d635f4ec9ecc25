use Rattle.plain_model.specs.State.{committed}
use Rattle.early_engine.specs.Ready.{reply_of}
use Rattle.early_engine.specs.Stepping.{tables_after}
use Rattle.early_engine.specs.Safe.{state}
use Rattle.early_engine.specs.Steps.{next_stmt}
use Rattle.early_engine.proofs.engine.Engine.statement.Given as goal

abbrev pub ghost-answer : goal.ghost-answer
ghost-answer g a = tables_after (next_stmt a.self.now a.place) (reply_of a.decision.answer) (committed (state a.self.now))
