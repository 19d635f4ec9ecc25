-- Which table a change is of, and the columns of one.
use Rattle.std.specs.Prelude.{ℕ, ◌≡◌, List, Option, option_map}
use Rattle.std.specs.FinMap as finite
use Rattle.std.specs.List.{AllByRecursion}
use Rattle.page_base.specs.declared.column.Column.{Column}
use Rattle.plain_model.specs.Tables.{Tables, Change, Put, Cut, Add, Remove}

-- the table that a change is about
abbrev pub named_by : Change → List ℕ
named_by (Put table row) = table
named_by (Cut table key) = table
named_by (Add table cols) = table
named_by (Remove table) = table

-- a change of a row
abbrev pub IsOfRow : Change → Type 0
IsOfRow (Put table row) = Unit {0}
IsOfRow (Cut table key) = Unit {0}
IsOfRow (Add table cols) = ⊥
IsOfRow (Remove table) = ⊥

-- each of these changes is of this table
abbrev pub AreOf : List ℕ → List Change → Type 0
AreOf table changes = AllByRecursion (λ c. named_by c ≡ table) changes

-- the columns of a table, if it is there
abbrev pub columns_of : Tables → List ℕ → Option (List Column)
columns_of tables name = option_map (λ t. t.cols) (finite.get tables name)
