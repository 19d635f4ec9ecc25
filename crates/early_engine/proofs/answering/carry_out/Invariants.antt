use Rattle.early_engine.proofs.answering.carry_out.Given as goal

abbrev pub ghost-do_edits : goal.ghost-do_edits
ghost-do_edits g a = g.tables
