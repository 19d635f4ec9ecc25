use Rattle.std.proofs.Common.{List, ℕ}
use Rattle.plain_model.specs.Tables.{Table}
use Rattle.table_pages.specs.Carried.{Holds}
use Rattle.table_pages.specs.Rows.{HoldsFitting}
use Rattle.table_pages.proofs.HeldLemmas.{IsRead}
use Rattle.table_pages.proofs.page.read_table.Given as goal

abbrev pub invariant-loop-i : goal.invariant-loop-i
invariant-loop-i l = record { table : (held : List ℕ) (t : Table) → Holds l.image held t → IsRead l.image t l.i l.table; fits : HoldsFitting l.table }
