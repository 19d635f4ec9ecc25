-- Forms of statements on tables: one is made, with its columns and keys, or dropped.
use Rattle.std.specs.Prelude.{false}
use Rattle.sql_lex.specs.declared.keyword.Keyword.TheVariants as word
use Rattle.sql_form.specs.Form.{Key, AnyNumber, Form, One, Table, Then, Or, May, Many, Parts}
use Rattle.sql_stmt.specs.Pieces.{key, name, in_brackets, column_list}

-- VARCHAR ( number )
abbrev pub varchar : Form
varchar = Then (key word.Varchar) (in_brackets (One AnyNumber))

-- INT | BIGINT | VARCHAR ( number )
abbrev pub column_type : Form
column_type = Or (key word.Int) (Or (key word.Bigint) varchar)

-- PRIMARY KEY [CLUSTERED]
abbrev pub primary_key : Form
primary_key = Then (key word.Primary) (Then (key word.Key) (May (key word.Clustered)))

-- NOT NULL
abbrev pub not_null : Form
not_null = Then (key word.Not) (key word.Null)

-- NULL | NOT NULL | PRIMARY KEY [CLUSTERED]
abbrev pub column_option : Form
column_option = Or (key word.Null) (Or not_null primary_key)

-- name type { NULL | NOT NULL | PRIMARY KEY [CLUSTERED] }
abbrev pub column_part : Form
column_part = Then name (Then column_type (Many column_option))

-- CONSTRAINT name
abbrev pub constraint : Form
constraint = Then (key word.Constraint) name

-- [CONSTRAINT name] PRIMARY KEY [CLUSTERED] ( name { , name } )
abbrev pub key_part : Form
key_part = Then (May constraint) (Then primary_key column_list)

-- a column, or a key
abbrev pub table_part : Form
table_part = Or column_part key_part

-- part { , part }, of which those that define a column are counted
abbrev pub table_parts : Form
table_parts = Parts 64 false table_part

-- TABLE table ( part { , part } )
abbrev pub create_table : Form
create_table = Then (key word.Table) (Then Table (in_brackets table_parts))

-- TABLE table
abbrev pub drop_table : Form
drop_table = Then (key word.Table) Table
