-- What holds of each row that some changes put.
use Rattle.std.specs.Prelude.{List, [], ◌∷◌}
use Rattle.page_base.specs.declared.value.Value.{Value}
use Rattle.plain_model.specs.Tables.{Change, Put, Cut, Add, Remove}

-- this holds of each row that is put; the other changes put none
abbrev pub Puts : (List Value → Type 0) → List Change → Type 0
Puts Holds [] = Unit {0}
Puts Holds (Put table row ∷ changes) = Holds row × Puts Holds changes
Puts Holds (Cut table key ∷ changes) = Puts Holds changes
Puts Holds (Add table cols ∷ changes) = Puts Holds changes
Puts Holds (Remove table ∷ changes) = Puts Holds changes
