use Rattle.std.proofs.Common.{◌∙◌, sym, rules, tests}
use Rattle.std.proofs.lemmas.Iterator.{YieldsList-from_slice}
use Rattle.std.proofs.lemmas.Iterator.Search.{any_from_yields_List}
use Rattle.table_def.specs.Parts.{in_column}
use Rattle.table_def.specs.Faults.{contradicts}
use Rattle.table_def.proofs.Written.{any_written}
use Rattle.table_def.proofs.faults.has_contradiction.Goals as goal

pub returns : goal.returns
returns c =
    any_from_yields_List (in_column contradicts) _ _ _ c.any.ensures.ran (YieldsList-from_slice c.args.parts.now cc) (λ x b q k. search (rules, tests))
    ∙ sym (any_written contradicts c.args.parts.now)
