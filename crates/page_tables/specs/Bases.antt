-- What pages are as one database: table 0 describes the tables, each of which stands on the pages that it owns.
use Rattle.std.specs.Prelude.{ℕ, ◌≡◌, true, List, [], Some}
use Rattle.std.specs.FinMap as finite
use Rattle.std.specs.List.{All, Any}
use Rattle.page_base.specs.declared.column.Column.{Column}
use Rattle.page_base.specs.declared.numbers.PageId.{PageId}
use Rattle.page_fmt.specs.Seen.{SlotsAt}
use Rattle.plain_model.specs.Tables.{Rows, Table, Tables}
use Rattle.sys_cat.specs.declared.desc.TableDesc.{TableDesc}
use Rattle.sys_cat.specs.Lists.{AreTables}
use Rattle.sys_cat.specs.Rows.{zero_root, table_0}
use Rattle.table_walk.specs.Tables.{HasRows}
use Rattle.page_tables.specs.Layout.{shape, first}
use Rattle.page_tables.specs.Owners.{is_there, owner, owns, IsAllocPage, IsSpread, IsOwner}

-- the pages of the table of this number, from this root on, are these rows
abbrev pub AreRowsOf : List ℕ → SlotsAt → List Column → ℕ → PageId → Rows → Type 0
AreRowsOf counts at cols number root rows = HasRows shape cols at (owns counts at number) (first root) rows

-- a table that is described is one of these, with just its columns and rows
pub record HasTable (counts : List ℕ) (at : SlotsAt) (tables : Tables) (d : TableDesc) : Type 0 where
  pub rows : Rows
  pub pages : AreRowsOf counts at d.cols d.number.0 d.root rows
  pub is : finite.get tables d.name ≡ Some (record { cols = d.cols; rows = rows })

pub record IsBase (counts : List ℕ) (at : SlotsAt) (ds : List TableDesc) (tables : Tables) : Type 0 where
  pub spread : (a : PageId) → IsAllocPage counts a → IsSpread counts at a
  pub zero_rows : Rows
  pub zero_pages : AreRowsOf counts at table_0 0 zero_root zero_rows
  pub descs : AreTables (finite.values zero_rows) ds
  pub each : All (HasTable counts at tables) ds
  pub only : (name : List ℕ) (t : Table) → finite.get tables name ≡ Some t → Any (λ d. d.name ≡ name) ds
  pub owners : (p : PageId) → is_there counts p ≡ true → IsOwner ds (owner at p)
  pub blank : (p : PageId) → is_there counts p ≡ true → owner at p ≡ 0 → at p ≡ []

-- the tables that are described stand on these pages beside table 0, which has these rows, whatever they tell
pub record AreStanding (counts : List ℕ) (at : SlotsAt) (rows : Rows) (ds : List TableDesc) (tables : Tables) : Type 0 where
  pub spread : (a : PageId) → IsAllocPage counts a → IsSpread counts at a
  pub zero_pages : AreRowsOf counts at table_0 0 zero_root rows
  pub each : All (HasTable counts at tables) ds
  pub only : (name : List ℕ) (t : Table) → finite.get tables name ≡ Some t → Any (λ d. d.name ≡ name) ds
  pub owners : (p : PageId) → is_there counts p ≡ true → IsOwner ds (owner at p)
  pub blank : (p : PageId) → is_there counts p ≡ true → owner at p ≡ 0 → at p ≡ []
