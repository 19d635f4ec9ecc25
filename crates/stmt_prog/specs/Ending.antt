-- A SELECT that has its reply.
use Rattle.std.specs.Prelude.{◌≡◌, List, Some}
use Rattle.page_fmt.specs.Seen.{Looked}
use Rattle.plain_model.specs.declared.reply.Reply.{Reply}
use Rattle.plain_model.specs.Statements.{data_over}
use Rattle.sys_cat.specs.declared.desc.TableDesc.{TableDesc}
use Rattle.step_words.specs.declared.stage.Stage.TheVariants as stages
use Rattle.step_words.specs.Courses.{Course}
use Rattle.stmt_prog.specs.Heads.{Headed}
use Rattle.stmt_prog.specs.Reading.{OfRows}
use Rattle.stmt_prog.specs.States.{begun}

-- its reply is by its meaning over each table that was read so
pub record Ends (h : Headed) (d : TableDesc) (own : List Looked) (c : Course) : Type 0 where
  pub reply : Reply
  pub is : c ≡ record (begun h) { stage = stages.End; desc = Some d; reply = Some reply }
  pub over : OfRows d.cols d.root own (λ rows. reply ≡ (data_over h.stmt (record { cols = d.cols; rows = rows })).1)
