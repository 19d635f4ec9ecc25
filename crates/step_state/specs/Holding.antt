-- Which tables a session holds, by their numbers: the table of tables has 0.
use Rattle.std.specs.Prelude.{ℕ, ◌≡◌, ◌-◌, Bool, true, false, ◌==◌, ◌&&◌, not, List, Option, Some, None}
use Rattle.std.specs.Option.{option_map_or}
use Rattle.page_base.specs.declared.numbers.Mode.{Mode}
use Rattle.page_base.specs.declared.numbers.Mode.TheVariants.{S, X}
use Rattle.plain_model.specs.declared.event.LockName.{LockName}
use Rattle.plain_model.specs.declared.event.LockName.TheVariants.{All, Table}
use Rattle.lock_book.specs.Locks.{lock_of}
use Rattle.sys_cat.specs.declared.desc.TableDesc.{TableDesc}
use Rattle.plain_steps.specs.Modes.{suffices}
use Rattle.plain_steps.specs.Phases.{first_mode, second_mode}
pub use Rattle.stmt_course.specs.Knowing.{desc_named}
use Rattle.step_words.specs.Courses.{Course, is_past_all, is_past_table}
use Rattle.step_state.specs.State.{State, sess}

-- the mode in which session k holds table n
abbrev pub lock_at : State → ℕ → ℕ → Option Mode
lock_at e k n = lock_of e.locks (sess k) (record { 0 = n })

abbrev pub is_x : Option Mode → Bool
is_x None = false
is_x (Some S) = false
is_x (Some X) = true

-- whether the table of tables is held in X, and so all tables
abbrev pub holds_all : (ℕ → Option Mode) → Bool
holds_all held = is_x (held 0)

-- whether pages of an owner are a table's
abbrev pub is_of_table : ℕ → Bool
is_of_table o = not (o == 0) && not (o == 4294967295)

-- whether a session may write pages of this owner: those of a table that it holds in X
abbrev pub writes : (ℕ → Option Mode) → ℕ → Bool
writes held o = is_of_table o && is_x (held (o - 1))

-- the mode in which is held what a lock's name says
abbrev pub lock_named : (ℕ → Option Mode) → List TableDesc → LockName → Option Mode
lock_named held ds All = held 0
lock_named held ds (Table name) = option_map_or (λ (d : TableDesc). held d.number.0) (desc_named ds name) None

-- a statement holds the locks for which it has asked: that on the table of tables, and that on its own table
pub record HasLocks (held : ℕ → Option Mode) (c : Course) : Type 0 where
  pub all : is_past_all c.stage ≡ true → suffices (held 0) (first_mode c.stmt) ≡ true
  pub table : is_past_table c.stage ≡ true → (mode : Mode) → second_mode c.stmt ≡ Some mode → (d : TableDesc) × (c.desc ≡ Some d) × (suffices (held d.number.0) mode ≡ true)
