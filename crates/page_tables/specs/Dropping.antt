-- A table that is dropped: table 0 loses its rows, each slot of its pages is emptied, and then the pages are free.
use Rattle.std.specs.Prelude.{true, ◌≡◌, ◌≢◌, ◌↔◌, ℕ, List, [], ◌∷◌, ◌++◌, map}
use Rattle.std.specs.List.{Any, AllPairs}
use Rattle.page_base.specs.declared.numbers.PageId.{PageId}
use Rattle.page_base.specs.Slots.{Slots}
use Rattle.page_fmt.specs.Seen.{SlotsAt}
use Rattle.plain_model.specs.Tables.{Tables}
use Rattle.alloc_pages.specs.Owners.{owner_bytes}
use Rattle.alloc_pages.specs.Spots.{spot_of}
use Rattle.sys_cat.specs.declared.desc.TableDesc.{TableDesc}
use Rattle.sys_cat.specs.Changing.{keys_of}
use Rattle.sys_cat.specs.Rows.{table_0, zero_root}
use Rattle.table_walk.specs.declared.plan.Edit.{Edit}
use Rattle.table_walk.specs.declared.plan.Spot.TheVariants.{Old}
use Rattle.table_walk.specs.Differences.{MakesPage}
use Rattle.table_walk.specs.Plans.{cut_all, Carries}
use Rattle.page_tables.specs.Bases.{IsBase}
use Rattle.page_tables.specs.Layout.{shape, first}
use Rattle.page_tables.specs.Owners.{owns}
use Rattle.page_tables.specs.Sheets.{sheets}
use Rattle.page_tables.specs.Writes.{Write, claims, write_of, AreClaimable}

-- these are the pages of the table of this number, each once
pub record ArePagesOf (counts : List ℕ) (at : SlotsAt) (number : ℕ) (pages : List PageId) : Type 0 where
  pub once : AllPairs (λ (p q : PageId). p ≢ q) pages
  pub owned : (p : PageId) → (owns counts at number p ≡ true) ↔ Any (λ (q : PageId). q ≡ p) pages

-- the edits empty these pages, one page behind the other
abbrev pub Empty : SlotsAt → List PageId → List Edit → Type 0
Empty at [] edits = edits ≡ []
Empty at (p ∷ ps) edits = (its : List Edit) × (rest : List Edit) × (edits ≡ its ++ rest) × MakesPage (Old p) (at p) [] its × Empty at ps rest

-- a page is given back
abbrev pub release : PageId → Write
release p = record { page = (spot_of p).page; slot = (spot_of p).slot; bytes = owner_bytes 0 }

-- the claims of table 0's plan, if it has any, then its edits, the edits that empty the table's pages, and last these are given back
abbrev pub dropping : (ℕ → PageId) → ℕ → List Edit → List Edit → List PageId → List Write
dropping claimed n edits empties pages = claims 0 claimed n ++ (map (write_of claimed) (edits ++ empties) ++ map release pages)

-- A plan of table 0 cuts the rows of a table that is described, and edits empty the table's pages.
pub record Drops (counts : List ℕ) (s : Slots) (ds : List TableDesc) (tables : Tables) (d : TableDesc) (claimed : ℕ → PageId) (n : ℕ) (edits empties : List Edit) (pages : List PageId) : Type 0 where
  pub base : IsBase counts (sheets s) ds tables
  pub there : Any (λ (e : TableDesc). e ≡ d) ds
  pub free : AreClaimable counts (sheets s) claimed n
  pub plan : Carries shape table_0 (first zero_root) claimed n (sheets s) (owns counts (sheets s) 0) edits (cut_all (keys_of d) base.zero_rows)
  pub its : ArePagesOf counts (sheets s) d.number.0 pages
  pub empty : Empty (sheets s) pages empties
