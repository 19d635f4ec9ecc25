use Rattle.stmt_course.proofs.TableLemmas.{table_gone}
use Rattle.stmt_course.proofs.law.a_table_goes.Goals as goal

pub returns : goal.returns
returns c = λ files s ds tables b d there seen shows n edits empties p pages its empty old stage reply mine. table_gone files s ds tables b d there seen shows n edits empties p pages its empty old stage reply mine
