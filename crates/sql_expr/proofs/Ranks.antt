-- How far reading goes down from a level before it takes a token.
use Rattle.std.specs.Prelude.{ℕ}
use Rattle.sql_expr.specs.declared.role.Level.{Level}
use Rattle.sql_expr.specs.declared.role.Level.TheVariants.{Ors, Ands, Nots, Comps, Sums, Prods, Unaries}

abbrev pub rank : Level → ℕ
rank Unaries = 0
rank Prods = 2
rank Sums = 4
rank Comps = 7
rank Nots = 8
rank Ands = 10
rank Ors = 12
