-- What the work on one row, and on all rows, answers.
use Rattle.std.specs.Prelude.{◌≡◌, ⊤, List, Option, Some, None}
use Rattle.std.specs.declared.result.Result.{Result}
use Rattle.std.specs.declared.result.Result.TheVariants.{Ok, Err}
use Rattle.plain_model.specs.declared.reply.Message.{Message}
use Rattle.plain_model.specs.Outcomes.{Outcome}
use Rattle.plain_model.specs.Outcomes as outcome
use Rattle.stmt_eval.specs.declared.refusal.RowRefusal.{RowRefusal}
use Rattle.stmt_eval.specs.declared.refusal.RowRefusal.TheVariants as row
use Rattle.stmt_eval.specs.declared.refusal.Stop.{Stop}
use Rattle.stmt_eval.specs.declared.refusal.Stop.TheVariants as stop

-- what was taken of the row, or nothing, or the number that refuses it; want of memory is free
abbrev pub Becomes : {X : Type 0} → Result (Option X) RowRefusal → Outcome X → Type 0
Becomes (Ok None) given = given ≡ outcome.Passed
Becomes (Ok (Some x)) given = given ≡ outcome.Taken x
Becomes (Err (row.Refused number)) given = given ≡ outcome.Refused number
Becomes (Err row.Memory) given = ⊤

-- what was taken of all rows, or the message of the first that is refused; want of memory is free
abbrev pub Takes : {X : Type 0} → Result (List X) Stop → Result (List X) Message → Type 0
Takes (Ok taken) given = given ≡ Ok taken
Takes (Err (stop.Refused m)) given = given ≡ Err m
Takes (Err stop.Memory) given = ⊤
