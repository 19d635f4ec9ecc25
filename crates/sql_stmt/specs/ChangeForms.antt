-- Forms of statements that change rows.
use Rattle.std.specs.Prelude.{true}
use Rattle.sql_lex.specs.declared.keyword.Keyword.TheVariants as word
use Rattle.sql_lex.specs.declared.token.Mark.TheVariants as mark
use Rattle.sql_form.specs.Form.{Form, Table, Then, May, Parts}
use Rattle.sql_stmt.specs.Pieces.{key, sign, name, value, entry, list, in_brackets, column_list, where_truth}

-- ( e { , e } )
abbrev pub row : Form
row = in_brackets (list entry)

-- at most 1,000 rows, parted by commas
abbrev pub rows : Form
rows = Parts 1000 true row

-- INSERT [INTO] table [ ( name { , name } ) ] VALUES ( e { , e } ) { , ( e { , e } ) } with at most 1,000 rows
abbrev pub insert : Form
insert = Then (key word.Insert) (Then (May (key word.Into)) (Then Table (Then (May column_list) (Then (key word.Values) rows))))

-- name = e
abbrev pub setting : Form
setting = Then name (Then (sign mark.Equal) value)

-- UPDATE table SET name = e { , name = e } [WHERE e]
abbrev pub update : Form
update = Then (key word.Update) (Then Table (Then (key word.Set) (Then (list setting) (May where_truth))))

-- DELETE [FROM] table [WHERE e]
abbrev pub delete : Form
delete = Then (key word.Delete) (Then (May (key word.From)) (Then Table (May where_truth)))
