use Rattle.early_engine.proofs.engine.Engine.answer.Given as goal

abbrev pub ghost-carry_out : goal.ghost-carry_out
ghost-carry_out g a = g.tables
