-- Forms that stand in many statements: words, names, lists, conditions.
use Rattle.std.specs.Prelude.{Bool, true, false}
use Rattle.sql_lex.specs.declared.context_word.ContextWord.{ContextWord}
use Rattle.sql_lex.specs.declared.keyword.Keyword.{Keyword}
use Rattle.sql_lex.specs.declared.keyword.Keyword.TheVariants as word
use Rattle.sql_lex.specs.declared.token.Mark.{Mark}
use Rattle.sql_lex.specs.declared.token.Mark.TheVariants as mark
use Rattle.sql_form.specs.Form.{Key, Word, Sign, AnyName, Form, One, Expr, Then, Parts}

-- a reserved word
abbrev pub key : Keyword → Form
key word = One (Key word)

-- a word that has a meaning in its place alone
abbrev pub context : ContextWord → Form
context wanted = One (Word wanted)

abbrev pub sign : Mark → Form
sign mark = One (Sign mark)

abbrev pub name : Form
name = One AnyName

-- a value, in which names of columns may stand or not
abbrev pub value_with : Bool → Form
value_with names = Expr names false

abbrev pub value : Form
value = value_with true

-- an entry of VALUES is a value without columns
abbrev pub entry : Form
entry = value_with false

abbrev pub truth : Form
truth = Expr true true

-- f { , f } with at most 64 parts
abbrev pub list : Form → Form
list f = Parts 64 true f

-- ( f )
abbrev pub in_brackets : Form → Form
in_brackets f = Then (sign mark.Open) (Then f (sign mark.Close))

-- ( name { , name } )
abbrev pub column_list : Form
column_list = in_brackets (list name)

-- WHERE e
abbrev pub where_truth : Form
where_truth = Then (key word.Where) truth
