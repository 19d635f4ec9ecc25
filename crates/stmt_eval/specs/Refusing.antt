-- What an evaluation's refusal is to a row, and a row's to all rows.
use Rattle.std.specs.Prelude.{ℕ}
use Rattle.plain_model.specs.Messages.{at_place}
use Rattle.stmt_eval.specs.declared.refusal.Stop.{Stop}
use Rattle.stmt_eval.specs.declared.refusal.Stop.TheVariants as stop
use Rattle.sql_eval.specs.declared.refusal.EvalRefusal.{EvalRefusal}
use Rattle.sql_eval.specs.declared.refusal.EvalRefusal.TheVariants as eval
use Rattle.stmt_eval.specs.declared.refusal.RowRefusal.{RowRefusal}
use Rattle.stmt_eval.specs.declared.refusal.RowRefusal.TheVariants.{Refused, Memory}
use Rattle.plain_model.specs.declared.reply.TheConstants.Message.{OVERFLOW}

-- an overflow is OVERFLOW
abbrev pub from_eval : EvalRefusal → RowRefusal
from_eval eval.Overflow = Refused OVERFLOW
from_eval eval.Memory = Memory

-- at a row of this place it stops with the message of its number, or for want of memory
abbrev pub stop_at : RowRefusal → ℕ → Stop
stop_at (Refused number) place = stop.Refused (at_place number place)
stop_at Memory place = stop.Memory
