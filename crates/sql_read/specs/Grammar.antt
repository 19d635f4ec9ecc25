-- Which batches are in the grammar, and the statements that they say.
use Rattle.std.specs.Prelude.{ℕ, List}
use Rattle.plain_model.specs.declared.stmt.Stmt.{Stmt}
use Rattle.sql_lex.specs.declared.token.Token.{Token}
use Rattle.sql_lex.specs.Tokens.{Lexes}
use Rattle.sql_form.specs.Form.{Value}
use Rattle.sql_form.specs.Laws.{IsAll}
use Rattle.sql_stmt.specs.Saying.{SayEach}
use Rattle.sql_stmt.specs.Statements.{batch}
use Rattle.sql_stmt.specs.Stmts.{SaysEnded}

-- the bytes are a batch of the grammar, and these are its statements, in order
pub record IsBatch (bytes : List ℕ) (stmts : List Stmt) : Type 0 where
  pub tokens : List Token
  pub lexes : Lexes 0 bytes tokens
  pub value : Value batch
  pub is : IsAll batch tokens value
  pub says : SayEach SaysEnded stmts value
