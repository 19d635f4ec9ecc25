-- What is to come where a table is created or dropped.
use Rattle.std.specs.Prelude.{ℕ, false, None, List, [], ◌∷◌, ◌++◌, map, replicate}
use Rattle.page_base.specs.declared.numbers.PageId.{PageId}
use Rattle.alloc_pages.specs.Owners.{owner_bytes}
use Rattle.alloc_pages.specs.Spots.{spot_of}
use Rattle.row_fmt.specs.Rows.{row_bytes}
use Rattle.sys_cat.specs.declared.desc.TableDesc.{TableDesc}
use Rattle.sys_cat.specs.Rows.{table_row}
use Rattle.table_walk.specs.declared.plan.Edit.{Edit}
use Rattle.table_walk.specs.declared.plan.Spot.{Spot}
use Rattle.table_walk.specs.declared.plan.Spot.TheVariants.{Old, New}
use Rattle.table_walk.specs.Differences.{edit_at}
use Rattle.step_words.specs.Courses.{Draft, Plain, Root}

-- n pages are claimed for table 0, and one more for the new table
abbrev pub owners_with : ℕ → ℕ → List ℕ
owners_with n number = replicate n 0 ++ number ∷ []

-- the first bytes of the new table's root, which is claimed behind n pages
abbrev pub root_edit : ℕ → List ℕ → Edit
root_edit n bytes = record { spot = New n; slot = 0; names = None; bytes = bytes; of_row = false }

-- the edits of table 0, of which one writes the row of a new table with the claimed root in place of the one that is
-- described, and last the root's first bytes
abbrev pub creation : ℕ → List Edit → Spot → ℕ → TableDesc → List Edit → List ℕ → List Draft
creation n before spot slot d later bytes = map Plain before ++ Root (edit_at spot (slot, row_bytes (table_row d))) d n ∷ (map Plain later ++ Plain (root_edit n bytes) ∷ [])

-- a page is given back
abbrev pub release_edit : PageId → Edit
release_edit p = record { spot = Old (spot_of p).page; slot = (spot_of p).slot; names = None; bytes = owner_bytes 0; of_row = false }

-- the edits of table 0, those that empty the table's pages, and last these are given back
abbrev pub removal : List Edit → List Edit → List PageId → List Edit
removal edits empties pages = edits ++ (empties ++ map release_edit pages)
