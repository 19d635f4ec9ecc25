-- What is read from the front of some tokens, or the place at which they are refused.
use Rattle.std.specs.Prelude.{ℕ, List}
use Rattle.sql_lex.specs.declared.token.Token.{Token}

-- a value and the tokens behind it, or a place
pub data Got (A : Type 0) : Type 0 where
  Done : (value : A) (rest : List Token) → Got A
  Refused : (at : ℕ) → Got A

-- what is read behind what was read
abbrev pub and_then : {A B : Type 0} → Got A → (A → List Token → Got B) → Got B
and_then (Done value rest) more = more value rest
and_then (Refused at) more = Refused at
