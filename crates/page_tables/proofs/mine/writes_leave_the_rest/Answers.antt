use Rattle.page_tables.specs.Sheets.{sheets}
use Rattle.page_tables.proofs.BaseLemmas.{rows_same_pages}
use Rattle.page_tables.proofs.MineLemmas.{all_move, same_pages, same_slots_on}
use Rattle.page_tables.proofs.mine.writes_leave_the_rest.Goals as goal

pub returns-clause-moves : goal.returns-clause-moves
returns-clause-moves c = λ counts writes s ws none no_alloc spread mine. all_move counts writes none no_alloc s ws spread mine

pub returns-clause-tables : goal.returns-clause-tables
returns-clause-tables c = λ counts writes s x cols number root rows m out small t. rows_same_pages counts (sheets s) (sheets x) cols number root rows (same_pages counts writes s x m number out small) (same_slots_on counts writes s x m number out small) t
