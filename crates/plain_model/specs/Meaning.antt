-- What a table statement means over whole tables: its refusal by shape, its changes and its reply, each over its own table.
use Rattle.std.specs.Prelude.{ℕ, List, [], Option, unwrap_or}
use Rattle.std.specs.FinMap as finite
use Rattle.plain_model.specs.declared.stmt.Stmt.{Stmt}
use Rattle.plain_model.specs.declared.reply.Message.{Message}
use Rattle.plain_model.specs.declared.reply.Reply.{Reply}
use Rattle.plain_model.specs.Statements.{shape_over, data_over, table_named}
use Rattle.plain_model.specs.Tables.{Table, Tables, Change}

-- the table of this name; one without columns where there is none
abbrev pub table_in : Tables → List ℕ → Table
table_in tables name = unwrap_or (finite.get tables name) (record { cols = []; rows = finite.empty })

-- the first refusal that the statement's shape gives over these tables, if any
abbrev pub shape : Stmt → Tables → Option Message
shape stmt tables = shape_over stmt (finite.get tables (table_named stmt))

-- what the statement changes over these tables, and its reply
abbrev pub change_and_reply : Stmt → Tables → List Change × Reply
change_and_reply stmt tables = data_over stmt (table_in tables (table_named stmt))
