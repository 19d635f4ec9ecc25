use Rattle.page_draft.proofs.MadeLemmas.{all_made, all_below, all_rows}
use Rattle.page_draft.proofs.law.drafts_are_made.Goals as goal

pub returns-clause-made : goal.returns-clause-made
returns-clause-made c = λ claimed n at owns seen ds room s. all_made claimed n owns seen at ds room s

pub returns-clause-below : goal.returns-clause-below
returns-clause-below c = λ n seen ds a. all_below n seen ds a

pub returns-clause-rows : goal.returns-clause-rows
returns-clause-rows c = λ seen ds. all_rows seen ds
