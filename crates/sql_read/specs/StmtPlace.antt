-- Where the statements of a batch begin, and where one is found missing.
use Rattle.std.specs.Prelude.{ℕ, ◌≡◌, ◌⊎◌, true, false, List, ◌++◌, length}
use Rattle.sql_lex.specs.declared.refusal.ParseRefusal.{ParseRefusal}
use Rattle.sql_lex.specs.declared.refusal.ParseRefusal.TheVariants.{Syntax, Memory}
use Rattle.sql_lex.specs.declared.token.Token.{Token}
use Rattle.sql_lex.specs.Ahead.{first_of}
use Rattle.sql_lex.specs.Tokens.{Lexes}
use Rattle.sql_form.specs.Form.{Value}
use Rattle.sql_form.specs.Grammar.{IsForm, AreMany, first}
use Rattle.sql_form.specs.Read.{read}
use Rattle.sql_form.specs.Rules.{strict}
use Rattle.sql_expr.specs.Got.{Done, Refused}
use Rattle.sql_stmt.specs.Laws.{IsBatch}
use Rattle.sql_stmt.specs.Statements.{statement, ended, batch}
use Rattle.sql_read.specs.Place.{IsRefusedAt}

-- a statement begins in front, and is passed over
pub record Passes (old new : List Token) : Type 0 where
  pub begins : first statement (first_of old).kind ≡ true
  pub value : Value ended
  pub is : read strict ended old ≡ Done value new

-- none begins with the token in front, whose place this is
pub record BeginsNone (ts : List Token) (at : ℕ) : Type 0 where
  pub begins : first statement (first_of ts).kind ≡ false
  pub place : (first_of ts).at ≡ at

-- one begins in front, and is refused at this place
pub record BreaksOff (ts : List Token) (at : ℕ) : Type 0 where
  pub begins : first statement (first_of ts).kind ≡ true
  pub is : read strict ended ts ≡ Refused at

-- no statement can be passed over, and why; want of memory alone is free
abbrev pub Stays : List Token → ParseRefusal → Type 0
Stays ts (Syntax at) = BeginsNone ts at ⊎ BreaksOff ts at
Stays ts Memory = Unit {0}

-- The first token of statement n of the batch, counted from 0, stands at this place: n statements stand before it, and a
-- statement begins with it. For n = 0 it is the first token of any batch.
pub record IsStmtPlace (bytes : List ℕ) (n at : ℕ) : Type 0 where
  pub tokens : List Token
  pub lexes : Lexes 0 bytes tokens
  pub front : List Token
  pub rest : List Token
  pub split : tokens ≡ front ++ rest
  pub values : List (Value ended)
  pub so_many : length values ≡ n
  pub are : AreMany (IsForm strict ended) values front
  pub begins : (n ≡ 0) ⊎ (first statement (first_of rest).kind ≡ true)
  pub place : (first_of rest).at ≡ at

-- the bytes are a batch of the grammar, and this is the place behind them
pub record EndsAt (bytes : List ℕ) (at : ℕ) : Type 0 where
  pub value : Value batch
  pub is : IsBatch bytes value
  pub place : at ≡ length bytes

-- The batch has no statement n, counted from 0, and this is the place at which its statements stop: where it is refused, or its end.
pub record LacksStmt (bytes : List ℕ) (n at : ℕ) : Type 0 where
  pub none : (place : ℕ) → IsStmtPlace bytes n place → ⊥
  pub stops : IsRefusedAt bytes at ⊎ EndsAt bytes at

-- no place of a statement is told, for want of memory, or since there is none
abbrev pub Lacks : List ℕ → ℕ → ParseRefusal → Type 0
Lacks bytes n (Syntax at) = LacksStmt bytes n at
Lacks bytes n Memory = Unit {0}
