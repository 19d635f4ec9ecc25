-- What the types of names and columns keep, as far as it is needed to read a header again.
use Rattle.std.specs.Prelude.{◌<◌, List}
use Rattle.std.specs.List.{AllByRecursion}
use Rattle.page_base.specs.declared.column.Column.{Column}
use Rattle.page_base.specs.Name.{IsLowName}

-- a column has a name in lower case, and its place in the key fits one byte
pub record IsKeptColumn (c : Column) : Type 0 where
  pub name : IsLowName c.name
  pub key : c.key < 256

-- so it is of each column
abbrev pub AreKept : List Column → Type 0
AreKept cols = AllByRecursion IsKeptColumn cols
