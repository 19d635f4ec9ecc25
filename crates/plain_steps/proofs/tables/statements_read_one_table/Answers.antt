use Rattle.plain_model.specs.Meaning.{table_in}
use Rattle.plain_model.specs.Statements.{table_named}
use Rattle.plain_steps.proofs.ApplyLemmas.{outcome_reads, shape_reads, changes_of_its}
use Rattle.plain_steps.proofs.tables.statements_read_one_table.Goals as goal

pub returns-clause-reply : goal.returns-clause-reply
returns-clause-reply c = outcome_reads

pub returns-clause-shape : goal.returns-clause-shape
returns-clause-shape c = shape_reads

pub returns-clause-changes : goal.returns-clause-changes
returns-clause-changes c = λ stmt tables. changes_of_its stmt (table_in tables (table_named stmt))
