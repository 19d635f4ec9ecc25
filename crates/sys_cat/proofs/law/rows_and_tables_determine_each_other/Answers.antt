use Rattle.std.proofs.Common.{sym, ◌∙◌}
use Rattle.sys_cat.proofs.ParseLemmas.{rows_determine}
use Rattle.sys_cat.proofs.law.rows_and_tables_determine_each_other.Goals as goal

pub returns : goal.returns
returns c = record {
  tables = λ rows ds es a b. rows_determine rows ds es a.spelled b.spelled;
  rows = λ rows others ds a b. a.spelled ∙ sym b.spelled;
}
