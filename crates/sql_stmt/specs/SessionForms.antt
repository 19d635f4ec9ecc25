-- Forms of statements on the session itself: its database, its transaction, its settings.
use Rattle.sql_lex.specs.declared.context_word.ContextWord.TheVariants as place
use Rattle.sql_lex.specs.declared.keyword.Keyword.TheVariants as word
use Rattle.sql_form.specs.Form.{Nought, Form, One, Then, Or, May}
use Rattle.sql_stmt.specs.Pieces.{key, context, name}

-- USE name
abbrev pub use_database : Form
use_database = Then (key word.Use) name

-- TRAN | TRANSACTION
abbrev pub transaction : Form
transaction = Or (key word.Tran) (key word.Transaction)

-- BEGIN TRAN | BEGIN TRANSACTION
abbrev pub begin_transaction : Form
begin_transaction = Then (key word.Begin) transaction

-- [TRAN | TRANSACTION | WORK]
abbrev pub work : Form
work = May (Or transaction (context place.Work))

-- COMMIT [TRAN | TRANSACTION | WORK]
abbrev pub commit : Form
commit = Then (key word.Commit) work

-- ROLLBACK [TRAN | TRANSACTION | WORK]
abbrev pub rollback : Form
rollback = Then (key word.Rollback) work

-- LOCK_TIMEOUT 0
abbrev pub timeout : Form
timeout = Then (context place.LockTimeout) (One Nought)

-- READ COMMITTED
abbrev pub read_committed : Form
read_committed = Then (context place.Read) (context place.Committed)

-- READ COMMITTED | SERIALIZABLE
abbrev pub level : Form
level = Or read_committed (context place.Serializable)

-- TRANSACTION ISOLATION LEVEL READ COMMITTED | TRANSACTION ISOLATION LEVEL SERIALIZABLE
abbrev pub isolation : Form
isolation = Then (key word.Transaction) (Then (context place.Isolation) (Then (context place.Level) level))

-- SET LOCK_TIMEOUT 0 | SET TRANSACTION ISOLATION LEVEL ..
abbrev pub set_session : Form
set_session = Then (key word.Set) (Or timeout isolation)
