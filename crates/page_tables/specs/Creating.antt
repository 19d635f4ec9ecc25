-- A table that is created: table 0 gets its rows, and a free page is claimed for it and becomes its root.
use Rattle.std.specs.Prelude.{Bool, true, false, ◌≡◌, ◌≢◌, ◌↔◌, ◌≤◌, ◌+◌, ℕ, List, [], ◌∷◌, ◌++◌, length, map}
use Rattle.std.specs.FinMap as finite
use Rattle.page_base.specs.declared.column.Column.{Column}
use Rattle.page_base.specs.declared.limits.TheConstants.{MAX_SLOT_BYTES}
use Rattle.page_base.specs.declared.numbers.PageId.{PageId}
use Rattle.page_base.specs.Slots.{Slots}
use Rattle.page_fmt.specs.Seen.{SlotsAt}
use Rattle.plain_model.specs.Tables.{Tables}
use Rattle.sys_cat.specs.declared.desc.TableDesc.{TableDesc}
use Rattle.sys_cat.specs.Changing.{has_name}
use Rattle.sys_cat.specs.Lists.{IsDesc, has_number}
use Rattle.sys_cat.specs.Rows.{table_0, zero_root, rows_of}
use Rattle.table_walk.specs.declared.plan.Edit.{Edit}
use Rattle.table_walk.specs.Plans.{put_all, Carries}
use Rattle.table_walk.specs.Tables.{HasRows}
use Rattle.page_tables.specs.Bases.{IsBase}
use Rattle.page_tables.specs.Layout.{shape, first}
use Rattle.page_tables.specs.Owners.{owns}
use Rattle.page_tables.specs.Sheets.{sheets}
use Rattle.page_tables.specs.Writes.{Write, claim, claims, write_of, AreClaimable}

-- none of these tables has the name or the number of this one
pub record IsNew (ds : List TableDesc) (d : TableDesc) : Type 0 where
  pub desc : IsDesc d
  pub name : has_name ds d.name ≡ false
  pub number : has_number ds d.number.0 ≡ false

-- a page with these bytes in slot 0 alone is by itself a table of no rows
pub record IsNewRoot (bytes : List ℕ) : Type 0 where
  pub some : bytes ≢ []
  pub short : length bytes ≤ MAX_SLOT_BYTES
  pub empty : (cols : List Column) (at : SlotsAt) (owns : PageId → Bool) (root : PageId) → at root ≡ bytes ∷ [] → ((p : PageId) → (owns p ≡ true) ↔ (p ≡ root)) → HasRows shape cols at owns (first root) finite.empty

-- the claims of table 0's plan and behind them that of the root, then the plan's edits, and last the root's bytes
abbrev pub creating : TableDesc → List ℕ → (ℕ → PageId) → ℕ → List Edit → List Write
creating d bytes claimed n edits = claims 0 claimed n ++ claim d.number.0 (claimed n) ∷ (map (write_of claimed) edits ++ record { page = claimed n; slot = 0; bytes = bytes } ∷ [])

-- A plan of table 0 puts the rows of a table that is new to these, whose root is the page that is claimed behind those of the
-- plan and gets these bytes.
pub record Creates (counts : List ℕ) (s : Slots) (ds : List TableDesc) (tables : Tables) (d : TableDesc) (bytes : List ℕ) (claimed : ℕ → PageId) (n : ℕ) (edits : List Edit) : Type 0 where
  pub base : IsBase counts (sheets s) ds tables
  pub new : IsNew ds d
  pub free : AreClaimable counts (sheets s) claimed (n + 1)
  pub root : d.root ≡ claimed n
  pub blank : IsNewRoot bytes
  pub plan : Carries shape table_0 (first zero_root) claimed n (sheets s) (owns counts (sheets s) 0) edits (put_all table_0 (rows_of d) base.zero_rows)
