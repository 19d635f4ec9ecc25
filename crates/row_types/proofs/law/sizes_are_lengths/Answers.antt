use Rattle.row_types.proofs.SizeLemmas.{row_sized, key_sized, definition_places}
use Rattle.row_types.proofs.law.sizes_are_lengths.Goals as goal

pub returns-clause-rows : goal.returns-clause-rows
returns-clause-rows c = row_sized

pub returns-clause-keys : goal.returns-clause-keys
returns-clause-keys c = λ cols row definition. key_sized cols row (definition_places cols definition)
