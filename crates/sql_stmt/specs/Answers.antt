-- What a parser answers, by what reading gives.
use Rattle.std.specs.Prelude.{◌≡◌, List, Result, Ok, Err}
use Rattle.sql_lex.specs.declared.refusal.ParseRefusal.{ParseRefusal}
use Rattle.sql_lex.specs.declared.refusal.ParseRefusal.TheVariants.{Syntax, Memory}
use Rattle.sql_lex.specs.declared.token.Token.{Token}
use Rattle.sql_expr.specs.Got.{Got, Done, Refused}

-- reading is refused at the place that the refusal names; want of memory alone is free
abbrev pub Fails : {V : Type 0} → ParseRefusal → Got V → Type 0
Fails (Syntax at) got = got ≡ Refused at
Fails Memory got = Unit {0}

-- a value was read that says this, and these tokens are left
pub record IsRead {R V : Type 0} (says : R → V → Type 0) (said : R) (got : Got V) (left : List Token) : Type 0 where
  pub value : V
  pub is : got ≡ Done value left
  pub means : says said value

-- what was read, or the refusal, is what reading gives
abbrev pub Gives : {R V : Type 0} → (R → V → Type 0) → Result R ParseRefusal → Got V → List Token → Type 0
Gives says (Ok said) got left = IsRead says said got left
Gives says (Err e) got left = Fails e got
