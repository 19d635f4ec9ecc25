-- What a planned statement still does, for a session that holds these locks.
use Rattle.std.specs.Prelude.{ℕ, List, Option}
use Rattle.page_base.specs.declared.numbers.Mode.{Mode}
use Rattle.page_base.specs.Slots.{Slots}
use Rattle.plain_model.specs.Tables.{Tables}
use Rattle.sys_cat.specs.declared.desc.TableDesc.{TableDesc}
use Rattle.step_words.specs.Courses.{Course}
use Rattle.stmt_course.specs.Planning.{IsPlannedOver}
use Rattle.step_state.specs.Holding.{holds_all, writes}

-- it is planned over the tables that its session sees, and writes on pages of its own
abbrev pub IsPlanned : List ℕ → List TableDesc → (ℕ → Option Mode) → Slots → Tables → Course → Type 0
IsPlanned files ds held s tables c = IsPlannedOver files (holds_all held) (writes held) s ds tables c
