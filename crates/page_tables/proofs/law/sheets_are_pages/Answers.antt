use Rattle.page_tables.proofs.SheetLemmas.{sheets_are_full, slot_of_sheet, sheets_edited, sheets_of_pages}
use Rattle.page_tables.proofs.WriteLemmas.{owner_in_sheets}
use Rattle.page_tables.proofs.law.sheets_are_pages.Goals as goal

pub returns-clause-full : goal.returns-clause-full
returns-clause-full c = sheets_are_full

pub returns-clause-slot : goal.returns-clause-slot
returns-clause-slot c = slot_of_sheet

pub returns-clause-edit : goal.returns-clause-edit
returns-clause-edit c = sheets_edited

pub returns-clause-pages : goal.returns-clause-pages
returns-clause-pages c = sheets_of_pages

pub returns-clause-owners : goal.returns-clause-owners
returns-clause-owners c = owner_in_sheets
