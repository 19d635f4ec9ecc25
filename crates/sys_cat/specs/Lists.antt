-- Lists of tables: which descriptions they may have, their rows, and the first row that is none of them.
use Rattle.std.specs.Prelude.{ℕ, nat_eq, ◌≡◌, ◌==◌, ◌+◌, ◌^◌, ◌<◌, ◌≤◌, true, Bool, List, ◌++◌, length, map, take}
use Rattle.std.specs.List.{flat_map, list_any, AllByRecursion, IsDistinct}
use Rattle.std.specs.Ordering.{nat_cmp}
use Rattle.std.specs.List.Sorted.{IsStrictlySortedBy}
use Rattle.std.specs.Cmp.Lexicographic.{slice_cmp}
use Rattle.page_base.specs.declared.column.Column.{Column}
use Rattle.page_base.specs.declared.value.Value.{Value}
use Rattle.page_base.specs.Name.{IsLowName}
use Rattle.plain_model.specs.Sound.{is_definition}
use Rattle.sys_cat.specs.declared.desc.TableDesc.{TableDesc}
use Rattle.sys_cat.specs.Rows.{rows_of}

-- a table's name, number and root as a row can hold them; the number 0 is that of table 0 itself
pub record IsHead (d : TableDesc) : Type 0 where
  pub name : IsLowName d.name
  pub some : 1 ≤ d.number.0
  pub number : d.number.0 < 2 ^ 31
  pub file : d.root.file < 256
  pub page : d.root.page < 2 ^ 31

-- each column has a name
abbrev pub AreNamed : List Column → Type 0
AreNamed cols = AllByRecursion (λ c. IsLowName c.name) cols

-- a description: its columns are a table definition that isn't a bad one
pub record IsDesc (d : TableDesc) : Type 0 where
  pub head : IsHead d
  pub named : AreNamed d.cols
  pub sound : is_definition d.cols ≡ true

-- the tables of a database, in the order of table 0's key: the names ascend, and no two have one number
pub record AreDescs (ds : List TableDesc) : Type 0 where
  pub each : AllByRecursion IsDesc ds
  pub names : IsStrictlySortedBy (slice_cmp nat_cmp) (map (λ d. d.name) ds)
  pub numbers : IsDistinct nat_eq (map (λ d. d.number.0) ds)

-- a table has this number
abbrev pub has_number : List TableDesc → ℕ → Bool
has_number ds n = list_any (λ d. d.number.0 == n) ds

-- these rows are these tables
pub record AreTables (rows : List (List Value)) (ds : List TableDesc) : Type 0 where
  pub spelled : rows ≡ flat_map rows_of ds
  pub descs : AreDescs ds

-- rows begin those of some tables
abbrev pub Begin : List (List Value) → Type 0
Begin rows = (more : List (List Value)) × (ds : List TableDesc) × AreTables (rows ++ more) ds

-- the rows before this one begin a list of tables, those up to it don't; or there is no such row, and all are no whole list
pub record IsFirstWrong (rows : List (List Value)) (at : ℕ) : Type 0 where
  pub within : at ≤ length rows
  pub begins : Begin (take at rows)
  pub ends : at < length rows → ¬ Begin (take (at + 1) rows)
  pub none : (ds : List TableDesc) → ¬ AreTables rows ds
