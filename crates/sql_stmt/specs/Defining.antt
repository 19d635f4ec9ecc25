-- What the parts of a table's definition say.
use Rattle.std.specs.Prelude.{◌≡◌, ℕ, List}
use Rattle.table_def.specs.declared.parts.ColumnOption.{ColumnOption}
use Rattle.table_def.specs.declared.parts.ColumnOption.TheVariants as option
use Rattle.table_def.specs.declared.parts.ColumnPart.{ColumnPart}
use Rattle.table_def.specs.declared.parts.TablePart.{TablePart}
use Rattle.table_def.specs.declared.parts.TablePart.TheVariants.{Column, Key}
use Rattle.table_def.specs.declared.parts.WrittenType.{WrittenType}
use Rattle.table_def.specs.declared.parts.WrittenType.TheVariants.{Int, Bigint, Varchar}
use Rattle.sql_form.specs.Form.{Form, Value, Either, Left, Right}
use Rattle.sql_stmt.specs.Saying.{SaysName, SaysNumber, SaysInside, SaysColumns, SayEach, SaysEither}
use Rattle.sql_stmt.specs.TableForms.{varchar, column_type, not_null, primary_key, column_option, column_part, constraint, key_part, table_part}

-- VARCHAR ( number )
abbrev pub SaysVarchar : WrittenType → Value varchar → Type 0
SaysVarchar (Varchar max) (word, length) = SaysInside SaysNumber max length
SaysVarchar _ v = ⊥

-- INT | BIGINT | VARCHAR ( number )
abbrev pub SaysType : WrittenType → Value column_type → Type 0
SaysType kind (Left int) = kind ≡ Int
SaysType kind (Right (Left bigint)) = kind ≡ Bigint
SaysType kind (Right (Right v)) = SaysVarchar kind v

-- NULL | NOT NULL | PRIMARY KEY [CLUSTERED]
abbrev pub SaysOption : ColumnOption → Value column_option → Type 0
SaysOption o (Left null) = o ≡ option.Null
SaysOption o (Right (Left not_null)) = o ≡ option.NotNull
SaysOption o (Right (Right primary_key)) = o ≡ option.PrimaryKey

-- name type { NULL | NOT NULL | PRIMARY KEY [CLUSTERED] }
abbrev pub SaysColumnPart : ColumnPart → Value column_part → Type 0
SaysColumnPart c (name, (kind, options)) = SaysName c.name name × SaysType c.kind kind × SayEach SaysOption c.options options

-- CONSTRAINT name
abbrev pub SaysConstraint : List ℕ → Value constraint → Type 0
SaysConstraint name (word, v) = SaysName name v

-- [CONSTRAINT name] PRIMARY KEY [CLUSTERED] ( name { , name } )
abbrev pub SaysKeyPart : List (List ℕ) → Value key_part → Type 0
SaysKeyPart names (constraint, (primary_key, columns)) = SaysColumns names columns

-- a column, or a key
abbrev pub SaysPart : TablePart → Value table_part → Type 0
SaysPart (Column c) (Left v) = SaysColumnPart c v
SaysPart (Column c) (Right v) = ⊥
SaysPart (Key names) (Left v) = ⊥
SaysPart (Key names) (Right v) = SaysKeyPart names v
