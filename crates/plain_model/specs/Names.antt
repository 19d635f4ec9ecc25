-- The names in an expression, and the first that is no column.
use Rattle.std.specs.Prelude.{ℕ, List, [], ◌∷◌, ◌++◌, Bool, not, is_some, Option, find}
use Rattle.plain_model.specs.Tree.{Tree, Entries}
use Rattle.plain_model.specs.Tree as tree
use Rattle.page_base.specs.declared.column.Column.{Column}
use Rattle.plain_model.specs.Cells.{place_of}

abbrev mutual
  -- the names that stand in a tree, from the left
  pub names_of : Tree → List (List ℕ)
  names_of tree.Null = []
  names_of (tree.Number n) = []
  names_of (tree.Text bytes) = []
  names_of (tree.Col name) = name ∷ []
  names_of (tree.Neg e) = names_of e
  names_of (tree.Math op a b) = names_of a ++ names_of b
  names_of (tree.Compare op a b) = names_of a ++ names_of b
  names_of (tree.IsNull e) = names_of e
  names_of (tree.Between x a b) = names_of x ++ (names_of a ++ names_of b)
  names_of (tree.In x entries) = names_of x ++ names_in entries
  names_of (tree.Not e) = names_of e
  names_of (tree.And a b) = names_of a ++ names_of b
  names_of (tree.Or a b) = names_of a ++ names_of b

  -- those in a list of entries
  pub names_in : Entries → List (List ℕ)
  names_in (tree.Last e) = names_of e
  names_in (tree.More e rest) = names_of e ++ names_in rest

-- whether no column has a name
abbrev pub is_unknown : List Column → List ℕ → Bool
is_unknown cols name = not (is_some (place_of cols name))

-- the first name from the left that is no column
abbrev pub first_unknown : List Column → Tree → Option (List ℕ)
first_unknown cols t = find (is_unknown cols) (names_of t)

-- the same, in a list of entries
abbrev pub first_unknown_in : List Column → Entries → Option (List ℕ)
first_unknown_in cols es = find (is_unknown cols) (names_in es)
