-- What is declared of a column behind its type.
use Rattle.std.specs.Prelude.{Bool, true, false}
use Rattle.std.specs.List.{list_any}
use Rattle.table_def.specs.declared.parts.ColumnOption.{ColumnOption}
use Rattle.table_def.specs.declared.parts.ColumnOption.TheVariants.{Null, NotNull, PrimaryKey}
use Rattle.table_def.specs.declared.parts.ColumnPart.{ColumnPart}

abbrev pub is_null : ColumnOption → Bool
is_null Null = true
is_null _ = false

abbrev pub is_not_null : ColumnOption → Bool
is_not_null NotNull = true
is_not_null _ = false

abbrev pub is_primary_key : ColumnOption → Bool
is_primary_key PrimaryKey = true
is_primary_key _ = false

-- the column is declared NULL
abbrev pub says_null : ColumnPart → Bool
says_null c = list_any is_null c.options

-- the column is declared NOT NULL
abbrev pub says_not_null : ColumnPart → Bool
says_not_null c = list_any is_not_null c.options
