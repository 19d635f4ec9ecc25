-- Forms of SELECT: what it shows, from where, in which order.
use Rattle.sql_lex.specs.declared.keyword.Keyword.TheVariants as word
use Rattle.sql_lex.specs.declared.token.Mark.TheVariants as mark
use Rattle.sql_form.specs.Form.{Form, Table, Then, Or, May}
use Rattle.sql_stmt.specs.Pieces.{key, sign, name, value, list, in_brackets, where_truth}

-- COUNT ( * )
abbrev pub count_all : Form
count_all = Then (key word.Count) (in_brackets (sign mark.Star))

-- SUM ( e )
abbrev pub sum_of : Form
sum_of = Then (key word.Sum) (in_brackets value)

-- COUNT ( * ) | SUM ( e )
abbrev pub aggregate : Form
aggregate = Or count_all sum_of

-- ASC | DESC
abbrev pub direction : Form
direction = Or (key word.Asc) (key word.Desc)

-- name [ASC | DESC]
abbrev pub order_item : Form
order_item = Then name (May direction)

-- ORDER BY name [ASC | DESC] { , name [ASC | DESC] }
abbrev pub order_by : Form
order_by = Then (key word.Order) (Then (key word.By) (list order_item))

-- FROM table [WHERE e]
abbrev pub from_table : Form
from_table = Then (key word.From) (Then Table (May where_truth))

-- * | e { , e }
abbrev pub shown : Form
shown = Or (sign mark.Star) (list value)

-- agg { , agg } FROM table [WHERE e]
abbrev pub select_sums : Form
select_sums = Then (list aggregate) from_table

-- * FROM table [WHERE e] [ORDER BY ..] | e { , e } FROM table [WHERE e] [ORDER BY ..]
abbrev pub select_rows : Form
select_rows = Then shown (Then from_table (May order_by))

-- SELECT of aggregates, or of rows
abbrev pub select : Form
select = Then (key word.Select) (Or select_sums select_rows)
