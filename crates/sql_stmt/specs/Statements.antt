-- The grammar of statements: each kind, and a batch of them.
use Rattle.sql_lex.specs.declared.keyword.Keyword.TheVariants as word
use Rattle.sql_lex.specs.declared.token.Mark.TheVariants as mark
use Rattle.sql_form.specs.Form.{Form, Then, Or, Many}
use Rattle.sql_stmt.specs.Pieces.{key, sign}
use Rattle.sql_stmt.specs.TableForms.{create_table, drop_table}
use Rattle.sql_stmt.specs.DatabaseForms.{create_snap, drop_database, restore}
use Rattle.sql_stmt.specs.ChangeForms.{insert, update, delete}
use Rattle.sql_stmt.specs.SelectForms.{select}
use Rattle.sql_stmt.specs.SessionForms.{use_database, begin_transaction, commit, rollback, set_session}

-- CREATE TABLE .. | CREATE DATABASE ..
abbrev pub create : Form
create = Then (key word.Create) (Or create_table create_snap)

-- DROP TABLE .. | DROP DATABASE ..
abbrev pub drop : Form
drop = Then (key word.Drop) (Or drop_table drop_database)

-- USE .. | CREATE .. | DROP ..
abbrev pub structure : Form
structure = Or use_database (Or create drop)

-- INSERT .. | UPDATE .. | DELETE ..
abbrev pub change : Form
change = Or insert (Or update delete)

-- BEGIN .. | COMMIT .. | ROLLBACK .. | SET .. | RESTORE ..
abbrev pub turn : Form
turn = Or begin_transaction (Or commit (Or rollback (Or set_session restore)))

-- a statement
abbrev pub statement : Form
statement = Or select (Or structure (Or change turn))

-- a statement and any number of semicolons
abbrev pub ended : Form
ended = Then statement (Many (sign mark.Semicolon))

-- statements, one behind the other
abbrev pub batch : Form
batch = Many ended
