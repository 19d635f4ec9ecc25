use Rattle.page_tables.specs.Sheets.{sheets}
use Rattle.page_tables.proofs.CarriedLemmas.{zero_desc}
use Rattle.page_tables.proofs.OwnLemmas.{few_number, zero_small, plan_go, plan_mine, plan_base, zero_base}
use Rattle.page_tables.proofs.mine.a_plan_is_written.Goals as goal

pub returns-clause-go : goal.returns-clause-go
returns-clause-go c = λ counts s ds tables d claimed n edits rows b some free plan. plan_go counts s b.spread d (few_number counts (sheets s) ds tables b d some) claimed n free edits rows plan

pub returns-clause-mine : goal.returns-clause-mine
returns-clause-mine c = λ counts s ds tables d claimed n edits rows b some free plan. plan_mine counts s b.spread d (few_number counts (sheets s) ds tables b d some) claimed n free edits rows plan

pub returns-clause-base : goal.returns-clause-base
returns-clause-base c = λ counts s ds tables d claimed n edits rows b some free plan. plan_base counts s ds tables b d some claimed n free edits rows plan

pub returns-clause-zero : goal.returns-clause-zero
returns-clause-zero c = λ counts s ds tables claimed n edits rows b free plan. (
  plan_go counts s b.spread zero_desc zero_small claimed n free edits rows plan,
  plan_mine counts s b.spread zero_desc zero_small claimed n free edits rows plan,
  zero_base counts s ds tables b claimed n free edits rows plan,
)
