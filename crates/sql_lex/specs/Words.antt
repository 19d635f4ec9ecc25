-- The letters of each word, and the signs of each mark.
use Rattle.std.specs.Prelude.{ℕ, Bool, List, [], ◌∷◌, codes, Option, find}
use Rattle.std.specs.Str.{bytes_eq}
use Rattle.sql_lex.specs.declared.context_word.ContextWord.{ContextWord}
use Rattle.sql_lex.specs.declared.context_word.ContextWord.TheVariants.{Committed, DatabaseSnapshot, Dbo, Filename, Isolation, Level, LockTimeout, Name, Read, Serializable, Snapshot, Work}
use Rattle.sql_lex.specs.declared.token.Mark.{Mark}
use Rattle.sql_lex.specs.declared.token.Mark.TheVariants.{Open, Close, Comma, Semicolon, Dot, Star, Plus, Minus, Equal, NotEqual, Less, AtMost, Greater, AtLeast}
use Rattle.sql_lex.specs.declared.keyword.Keyword.{Keyword}
use Rattle.sql_lex.specs.declared.keyword.Keyword.TheVariants.{And, As, Asc, Begin, Between, Bigint, By, Clustered, Commit, Constraint, Count, Create, Database, Delete, Desc, Drop, From, In, Insert, Int, Into, Is, Key, Not, Null, Of, On, Or, Order, Primary, Restore, Rollback, Select, Set, Sum, Table, Tran, Transaction, Update, Use, Values, Varchar, Where}

-- a reserved word in lower case
abbrev pub text_of : Keyword → List ℕ
text_of And = codes "and"
text_of As = codes "as"
text_of Asc = codes "asc"
text_of Begin = codes "begin"
text_of Between = codes "between"
text_of Bigint = codes "bigint"
text_of By = codes "by"
text_of Clustered = codes "clustered"
text_of Commit = codes "commit"
text_of Constraint = codes "constraint"
text_of Count = codes "count"
text_of Create = codes "create"
text_of Database = codes "database"
text_of Delete = codes "delete"
text_of Desc = codes "desc"
text_of Drop = codes "drop"
text_of From = codes "from"
text_of In = codes "in"
text_of Insert = codes "insert"
text_of Int = codes "int"
text_of Into = codes "into"
text_of Is = codes "is"
text_of Key = codes "key"
text_of Not = codes "not"
text_of Null = codes "null"
text_of Of = codes "of"
text_of On = codes "on"
text_of Or = codes "or"
text_of Order = codes "order"
text_of Primary = codes "primary"
text_of Restore = codes "restore"
text_of Rollback = codes "rollback"
text_of Select = codes "select"
text_of Set = codes "set"
text_of Sum = codes "sum"
text_of Table = codes "table"
text_of Tran = codes "tran"
text_of Transaction = codes "transaction"
text_of Update = codes "update"
text_of Use = codes "use"
text_of Values = codes "values"
text_of Varchar = codes "varchar"
text_of Where = codes "where"

-- all reserved words
abbrev pub keywords : List Keyword
keywords = And ∷ As ∷ Asc ∷ Begin ∷ Between ∷ Bigint ∷ By ∷ Clustered ∷ Commit ∷ Constraint ∷ Count ∷ Create ∷ Database ∷ Delete ∷ Desc ∷ Drop ∷ From ∷ In ∷ Insert ∷ Int ∷ Into ∷ Is ∷ Key ∷ Not ∷ Null ∷ Of ∷ On ∷ Or ∷ Order ∷ Primary ∷ Restore ∷ Rollback ∷ Select ∷ Set ∷ Sum ∷ Table ∷ Tran ∷ Transaction ∷ Update ∷ Use ∷ Values ∷ Varchar ∷ Where ∷ []

-- the reserved word with these letters
abbrev pub keyword_of : List ℕ → Option Keyword
keyword_of letters = find (λ word. bytes_eq letters (text_of word)) keywords

-- whether two reserved words are one
abbrev pub is_same : Keyword → Keyword → Bool
is_same a b = bytes_eq (text_of a) (text_of b)

-- a word that has a meaning in its place alone, in lower case
abbrev pub letters_of : ContextWord → List ℕ
letters_of Committed = codes "committed"
letters_of DatabaseSnapshot = codes "database_snapshot"
letters_of Dbo = codes "dbo"
letters_of Filename = codes "filename"
letters_of Isolation = codes "isolation"
letters_of Level = codes "level"
letters_of LockTimeout = codes "lock_timeout"
letters_of Name = codes "name"
letters_of Read = codes "read"
letters_of Serializable = codes "serializable"
letters_of Snapshot = codes "snapshot"
letters_of Work = codes "work"

-- the signs of a mark
abbrev pub sign_of : Mark → List ℕ
sign_of Open = codes "("
sign_of Close = codes ")"
sign_of Comma = codes ","
sign_of Semicolon = codes ";"
sign_of Dot = codes "."
sign_of Star = codes "*"
sign_of Plus = codes "+"
sign_of Minus = codes "-"
sign_of Equal = codes "="
sign_of NotEqual = codes "<>"
sign_of Less = codes "<"
sign_of AtMost = codes "<="
sign_of Greater = codes ">"
sign_of AtLeast = codes ">="

-- whether two marks are one
abbrev pub is_same_mark : Mark → Mark → Bool
is_same_mark a b = bytes_eq (sign_of a) (sign_of b)
