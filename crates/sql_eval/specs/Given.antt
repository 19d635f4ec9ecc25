-- What an evaluation answers: the value, or the overflow, or want of memory.
use Rattle.std.specs.Prelude.{◌≡◌, Option, Some, None, ⊤}
use Rattle.std.specs.declared.result.Result.{Result}
use Rattle.std.specs.declared.result.Result.TheVariants.{Ok, Err}
use Rattle.sql_eval.specs.declared.refusal.EvalRefusal.{EvalRefusal}
use Rattle.sql_eval.specs.declared.refusal.EvalRefusal.TheVariants.{Overflow, Memory}

-- the value where there is one, and `Overflow` exactly where there is none; want of memory is free
abbrev pub Gives : {T : Type 0} → Result T EvalRefusal → Option T → Type 0
Gives (Ok x) given = given ≡ Some x
Gives (Err Overflow) given = given ≡ None
Gives (Err Memory) given = ⊤
