-- Which statements change the rows of a table.
use Rattle.std.specs.Prelude.{Bool, true, false}
use Rattle.plain_model.specs.declared.stmt.Stmt.{Stmt}
use Rattle.plain_model.specs.declared.stmt.Stmt.TheVariants.{Insert, Update, Delete}

-- whether the statement changes the rows of a table
abbrev pub is_change : Stmt → Bool
is_change (Insert i) = true
is_change (Update u) = true
is_change (Delete d) = true
is_change stmt = false
