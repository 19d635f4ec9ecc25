-- What a program knows of its statement from the start.
use Rattle.std.specs.Prelude.{ℕ, ◌≡◌, Bool, true, false, List, [], Option}
use Rattle.page_base.specs.declared.column.Column.{Column}
use Rattle.page_base.specs.declared.numbers.Mode.{Mode}
use Rattle.plain_model.specs.declared.stmt.Stmt.{Stmt}
use Rattle.plain_model.specs.declared.stmt.Stmt.TheVariants.{CreateTable, DropTable}
use Rattle.plain_model.specs.Free.{is_of_tables}
use Rattle.plain_model.specs.Sound.{is_definition, is_sound}
use Rattle.plain_model.specs.Statements.{table_named}
use Rattle.plain_steps.specs.Phases.{first_mode, second_mode}
use Rattle.step_words.specs.declared.stage.DbKind.{DbKind}

-- whether the statement makes a table, or drops one
abbrev pub creates : Stmt → Bool
creates (CreateTable name cols) = true
creates stmt = false

abbrev pub drops : Stmt → Bool
drops (DropTable name) = true
drops stmt = false

-- the columns of the table that it makes, and whether they are a definition that isn't a bad one
abbrev pub new_cols : Stmt → List Column
new_cols (CreateTable name cols) = cols
new_cols stmt = []

abbrev pub defines_well : Stmt → Bool
defines_well (CreateTable name cols) = is_definition cols
defines_well stmt = true

pub record Headed : Type 0 where
  pub stmt : Stmt
  pub at : DbKind

-- the statement is sound and about tables; these are its locks' modes and its table's name
pub record IsHead (stmt : Stmt) (first : Mode) (second : Option Mode) (name : List ℕ) : Type 0 where
  pub tables : is_of_tables stmt ≡ true
  pub sound : is_sound stmt ≡ true
  pub well : defines_well stmt ≡ true
  pub first_is : first ≡ first_mode stmt
  pub second_is : second ≡ second_mode stmt
  pub name_is : name ≡ table_named stmt
