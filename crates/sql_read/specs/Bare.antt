-- Statements without the places in memory at which the parts of their expressions lie.
use Rattle.std.specs.Prelude.{ℕ, List, map, Option, Some, None, option_map}
use Rattle.plain_model.specs.declared.stmt.Items.{Items}
use Rattle.plain_model.specs.declared.stmt.Items.TheVariants as items
use Rattle.plain_model.specs.declared.stmt.OrderItem.{OrderItem}
use Rattle.plain_model.specs.declared.stmt.SetItem.{SetItem}
use Rattle.plain_model.specs.declared.stmt.Stmt.{Stmt}
use Rattle.plain_model.specs.declared.stmt.Stmt.TheVariants as stmt
use Rattle.plain_model.specs.declared.stmt.Sum.{Sum}
use Rattle.plain_model.specs.declared.stmt.Sum.TheVariants.{CountAll, SumOf}
use Rattle.plain_model.specs.Tree.{Tree, tree_of}

-- the argument of an aggregate, if it has one
abbrev pub bare_sum : Sum → Option Tree
bare_sum CountAll = None
bare_sum (SumOf e) = Some (tree_of e)

pub data BareItems : Type 0 where
  Star : BareItems
  Exprs : List Tree → BareItems
  Sums : List (Option Tree) → BareItems

abbrev pub bare_items : Items → BareItems
bare_items items.Star = Star
bare_items (items.Exprs es) = Exprs (map tree_of es)
bare_items (items.Sums ss) = Sums (map bare_sum ss)

-- a column and what it is set to
abbrev pub bare_set : SetItem → List ℕ × Tree
bare_set i = (i.col, tree_of i.to)

-- a statement with trees in place of its expressions; one that has none is itself
pub data Bare : Type 0 where
  Insert : (table : List ℕ) (cols : List (List ℕ)) (rows : List (List Tree)) → Bare
  Select : (table : List ℕ) (shown : BareItems) (filter : Option Tree) (order : List OrderItem) → Bare
  Update : (table : List ℕ) (sets : List (List ℕ × Tree)) (filter : Option Tree) → Bare
  Delete : (table : List ℕ) (filter : Option Tree) → Bare
  Itself : Stmt → Bare

abbrev pub bare : Stmt → Bare
bare (stmt.Insert i) = Insert i.table i.cols (map (map tree_of) i.rows)
bare (stmt.Select s) = Select s.table (bare_items s.items) (option_map tree_of s.filter) s.order
bare (stmt.Update u) = Update u.table (map bare_set u.sets) (option_map tree_of u.filter)
bare (stmt.Delete d) = Delete d.table (option_map tree_of d.filter)
bare s = Itself s
