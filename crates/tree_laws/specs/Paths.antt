-- The pages that are come to while keys are cut and rows are put, and what such a page has.
use Rattle.std.specs.Prelude.{Bool, List, [], ◌∷◌, ℕ}
use Rattle.page_base.specs.declared.column.Column.{Column}
use Rattle.page_base.specs.declared.numbers.PageId.{PageId}
use Rattle.page_base.specs.declared.value.Value.{Value}
use Rattle.page_fmt.specs.Spelling.{FitsPage}
use Rattle.plain_model.specs.Tables.{key_of}
use Rattle.tree_laws.specs.Keys.{Key}
use Rattle.tree_laws.specs.Puts.{in_key_order, level_in, cut, put}
use Rattle.tree_laws.specs.Reads.{IsKey}
use Rattle.tree_laws.specs.Sheets.{Sheet, Stand, slots_in, entries_in}
use Rattle.tree_laws.specs.Trees.{Each}
use Rattle.tree_laws.specs.Typed.{IsEntry, OnPath}

-- the path of a key, from a root on, lies on pages that are looked at
abbrev pub IsOnPath : (PageId → Bool) → PageId → Key → Stand → Type 0
IsOnPath looked root key s = OnPath looked s.sheets key (level_in (s.sheets root)) root

-- the path of each key that is cut, as it is when its turn comes
abbrev pub CutPaths : List Column → (PageId → Bool) → PageId → List Key → Stand → Type 0
CutPaths cols looked root [] s = Unit {0}
CutPaths cols looked root (k ∷ ks) s = IsOnPath looked root k s × CutPaths cols looked root ks (cut cols root k s)

-- and of each row that is put
abbrev pub PutPaths : List Column → (PageId → Bool) → (ℕ → PageId) → PageId → List (List Value) → Stand → Type 0
PutPaths cols looked claimed root [] s = Unit {0}
PutPaths cols looked claimed root (r ∷ rs) s = IsOnPath looked root (key_of cols r) s × PutPaths cols looked claimed root rs (put cols claimed root r s)

-- a page has room for its slots as they are spelled, and its entries may be spelled
pub record HasRoom (cols : List Column) (x : Sheet) : Type 0 where
  pub fits : FitsPage (slots_in x)
  pub entries : Each (IsEntry (IsKey cols)) (in_key_order (entries_in x))
