-- Forms of statements on databases: a snapshot is made, one is dropped, the source is reverted.
use Rattle.sql_lex.specs.declared.context_word.ContextWord.TheVariants as place
use Rattle.sql_lex.specs.declared.keyword.Keyword.TheVariants as word
use Rattle.sql_lex.specs.declared.token.Mark.TheVariants as mark
use Rattle.sql_form.specs.Form.{FileText, NameText, Form, One, Then}
use Rattle.sql_stmt.specs.Pieces.{key, context, sign, name, list}

-- NAME = name
abbrev pub logical_part : Form
logical_part = Then (context place.Name) (Then (sign mark.Equal) name)

-- FILENAME = text
abbrev pub path_part : Form
path_part = Then (context place.Filename) (Then (sign mark.Equal) (One FileText))

-- ( NAME = name , FILENAME = text )
abbrev pub snap_file : Form
snap_file = Then (sign mark.Open) (Then logical_part (Then (sign mark.Comma) (Then path_part (sign mark.Close))))

-- AS SNAPSHOT OF name
abbrev pub snapshot_of : Form
snapshot_of = Then (key word.As) (Then (context place.Snapshot) (Then (key word.Of) name))

-- DATABASE name ON file { , file } AS SNAPSHOT OF name
abbrev pub create_snap : Form
create_snap = Then (key word.Database) (Then name (Then (key word.On) (Then (list snap_file) snapshot_of)))

-- DATABASE name
abbrev pub drop_database : Form
drop_database = Then (key word.Database) name

-- FROM DATABASE_SNAPSHOT = text
abbrev pub snapshot_text : Form
snapshot_text = Then (key word.From) (Then (context place.DatabaseSnapshot) (Then (sign mark.Equal) (One NameText)))

-- RESTORE DATABASE name FROM DATABASE_SNAPSHOT = text
abbrev pub restore : Form
restore = Then (key word.Restore) (Then (key word.Database) (Then name snapshot_text))
