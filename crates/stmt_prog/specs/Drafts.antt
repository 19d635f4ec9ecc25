-- The edits of a queue as edits to come, of which one, at a place, may tell a new table with the root that is claimed for it.
use Rattle.std.specs.Prelude.{ℕ, zero, suc, ◌==◌, if◌then◌else◌, Option, Some, None, List, [], ◌∷◌, map}
use Rattle.sys_cat.specs.declared.desc.TableDesc.{TableDesc}
use Rattle.sys_cat.specs.Lists.{IsDesc}
use Rattle.table_walk.specs.declared.plan.Edit.{Edit}
use Rattle.step_words.specs.Courses.{Draft, Plain, Root}
use Rattle.stmt_prog.specs.declared.queue.Telling.{Telling}

abbrev pub told_in : ℕ → TableDesc → ℕ → List Edit → List Draft
told_in at d new [] = []
told_in zero d new (e ∷ es) = Root e d new ∷ map Plain es
told_in (suc at) d new (e ∷ es) = Plain e ∷ told_in at d new es

abbrev pub all_drafts : Option Telling → List Edit → List Draft
all_drafts None edits = map Plain edits
all_drafts (Some t) edits = told_in t.at t.desc t.new edits

-- the edit at a place
abbrev pub draft_at : Option Telling → ℕ → Edit → Draft
draft_at None i e = Plain e
draft_at (Some t) i e = if i == t.at then Root e t.desc t.new else Plain e

-- a table that is told may be described
abbrev pub IsTold : Option Telling → Type 0
IsTold None = Unit {0}
IsTold (Some t) = IsDesc t.desc
