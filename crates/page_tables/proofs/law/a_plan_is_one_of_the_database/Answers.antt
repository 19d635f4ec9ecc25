use Rattle.std.proofs.Common.{◌≡◌, List, get_or, ◌∙◌}
use Rattle.std.specs.List.{Any}
use Rattle.std.proofs.lemmas.List.{get_or_default}
use Rattle.sys_cat.specs.declared.desc.TableDesc.{TableDesc}
use Rattle.page_tables.proofs.CarriedLemmas.{carried}
use Rattle.page_tables.proofs.law.a_plan_is_one_of_the_database.Goals as goal

at_place : (ds : List TableDesc) (d : TableDesc) (some : Any (λ e. e ≡ d) ds) → get_or ds some.0 d ≡ d
at_place ds d some = get_or_default ds some.0 d some.1 some.2 ∙ some.3 ∙ some.4

pub returns : goal.returns
returns c = λ counts at ds tables d claimed n edits rows b some free plan. carried counts at ds tables b some.0 d some.2 (at_place ds d some) claimed n free edits rows plan
