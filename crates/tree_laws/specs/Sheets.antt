-- Pages of a tree with typed slots: leaves of rows, and pages of entries.
use Rattle.std.specs.Prelude.{Bool, nat_le, Option, None, Some, ℕ, List, [], ◌∷◌, ◌++◌, map}
use Rattle.std.specs.List.{concat, flat_map}
use Rattle.page_base.specs.declared.numbers.PageId.{PageId}
use Rattle.page_fmt.specs.Spelling.{used}
use Rattle.byte_fields.specs.Numbers.{number}
use Rattle.row_fmt.specs.Rows.{value_field}
use Rattle.table_walk.specs.Addresses.{address}
use Rattle.table_walk.specs.Leaves.{Leaf, cell}
use Rattle.tree_laws.specs.Keys.{Key}

-- an entry of a page above: the least key of a child, and the child
pub record Entry : Type 0 where
  pub least : Option Key
  pub page : PageId

-- a page: rows in its slots, or a level in slot 0 and entries in the slots behind it
pub data Sheet : Type 0 where
  Rows : (leaf : Leaf) → Sheet
  Inner : (level : ℕ) (entries : List (Option Entry)) → Sheet

-- the bytes of a key, and of an entry
abbrev pub spelled_key : Option Key → List ℕ
spelled_key None = []
spelled_key (Some key) = concat (flat_map value_field key)

abbrev pub entry_bytes : Option Entry → List ℕ
entry_bytes None = []
entry_bytes (Some e) = address e.page ++ spelled_key e.least

-- the slots of a page
abbrev pub slots_in : Sheet → List (List ℕ)
slots_in (Rows leaf) = map cell leaf
slots_in (Inner level entries) = number 4 level ∷ map entry_bytes entries

abbrev pub fits : Sheet → Bool
fits sheet = nat_le (used (slots_in sheet)) 8192

-- the rows of a leaf, and the entries of another page
abbrev pub leaf_in : Sheet → Leaf
leaf_in (Rows leaf) = leaf
leaf_in (Inner level es) = []

abbrev pub entries_in : Sheet → List (Option Entry)
entries_in (Rows leaf) = []
entries_in (Inner level es) = es

-- pages as a plan changes them, and how many it has claimed
pub record Stand : Type 0 where
  pub sheets : PageId → Sheet
  pub claims : ℕ

-- what a page became, and the entries of new pages that the page above gets
pub record Grown : Type 0 where
  pub stand : Stand
  pub more : List Entry
