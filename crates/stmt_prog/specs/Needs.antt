-- What a statement needs next.
use Rattle.std.specs.Prelude.{◌+◌, false, List, [], ◌∷◌, length, Option, Some, None, slice_index_or, unwrap_or}
use Rattle.page_base.specs.declared.numbers.Mode.{Mode}
use Rattle.page_base.specs.declared.numbers.Mode.TheVariants.{S}
use Rattle.plain_model.specs.declared.event.LockName.TheVariants.{All, Table}
use Rattle.plain_steps.specs.Phases.{first_mode, second_mode}
use Rattle.sys_cat.specs.declared.desc.TableDesc.{TableDesc}
use Rattle.step_words.specs.declared.stage.Stage.{Stage}
use Rattle.step_words.specs.declared.stage.Stage.TheVariants as stages
use Rattle.step_words.specs.Courses.{Course, Draft}
use Rattle.step_words.specs.Coming.{draft_write, taken_at}
use Rattle.stmt_prog.specs.declared.need.Need.{Need}
use Rattle.stmt_prog.specs.declared.need.Need.TheVariants.{Lock, Visit, Plan, Claim, Edit, Finish}

-- the lock on the statement's table; it is asked for where that was found
abbrev pub lock_of : Option Mode → Option TableDesc → Need
lock_of mode None = Finish
lock_of mode (Some d) = Lock (Table d.name) d.number (unwrap_or mode S)

-- the page of the next edit; it is asked for where there is one
abbrev pub edit_of : Course → List Draft → Need
edit_of c [] = Finish
edit_of c (draft ∷ drafts) = Edit (draft_write (taken_at c) draft).page

abbrev pub need_at : Stage → Course → Need
need_at stages.AskAll c = Lock All (record { 0 = 0 }) (first_mode c.stmt)
need_at (stages.ScanZero page) c = Visit page false
need_at stages.AskTable c = lock_of (second_mode c.stmt) c.desc
need_at (stages.Scan page rows) c = Visit page rows
need_at stages.Plan c = Plan
need_at stages.Claim c = Claim (slice_index_or c.owners (length c.taken) 0 + 1)
need_at stages.Edit c = edit_of c c.edits
need_at stages.End c = Finish

abbrev pub need_of : Course → Need
need_of c = need_at c.stage c
