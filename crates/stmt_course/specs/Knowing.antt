-- What a statement on tables knows by the pages that it has read.
use Rattle.std.specs.Prelude.{ℕ, ◌≡◌, List, Option, None, find}
use Rattle.std.specs.Str.{bytes_eq}
use Rattle.page_fmt.specs.Seen.{SlotsAt, Shows}
use Rattle.plain_model.specs.declared.stmt.Stmt.{Stmt}
use Rattle.plain_model.specs.Meaning.{shape}
use Rattle.plain_model.specs.Statements.{table_named}
use Rattle.plain_model.specs.Tables.{Tables}
use Rattle.sys_cat.specs.declared.desc.TableDesc.{TableDesc}
use Rattle.sys_cat.specs.Rows.{zero_root}
use Rattle.table_walk.specs.Walk.{IsDone}
use Rattle.page_tables.specs.Bases.{IsBase}
use Rattle.page_tables.specs.Layout as layout
use Rattle.step_words.specs.Courses.{Course}

-- these pages are a database, and what the statement has read stands on them
pub record IsOver (files : List ℕ) (at : SlotsAt) (ds : List TableDesc) (tables : Tables) (c : Course) : Type 0 where
  pub base : IsBase files at ds tables
  pub zero : Shows c.base at
  pub own : Shows c.seen at

-- the table of a name, if it is described
abbrev pub desc_named : List TableDesc → List ℕ → Option TableDesc
desc_named ds name = find (λ d. bytes_eq d.name name) ds

-- the statement's shape is right over these tables, and this is its table, if that is described
pub record IsFound (ds : List TableDesc) (tables : Tables) (stmt : Stmt) (found : Option TableDesc) : Type 0 where
  pub shaped : shape stmt tables ≡ None
  pub desc : desc_named ds (table_named stmt) ≡ found

-- table 0 was read whole, and over each database that shows it so the statement's table is found
pub record Finds (c : Course) : Type 0 where
  pub whole : IsDone layout.shape.kids c.base (layout.first zero_root)
  pub found : (files : List ℕ) (at : SlotsAt) (ds : List TableDesc) (tables : Tables) → IsBase files at ds tables → Shows c.base at → IsFound ds tables c.stmt c.desc
