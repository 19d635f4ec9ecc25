-- Where a batch that isn't in the grammar is refused.
use Rattle.std.specs.Prelude.{ℕ, ◌≡◌, List}
use Rattle.plain_model.specs.declared.stmt.Stmt.{Stmt}
use Rattle.sql_lex.specs.declared.refusal.ParseRefusal.{ParseRefusal}
use Rattle.sql_lex.specs.declared.refusal.ParseRefusal.TheVariants.{Syntax, Memory}
use Rattle.sql_lex.specs.declared.token.Token.{Token}
use Rattle.sql_lex.specs.Tokens.{Lexes}
use Rattle.sql_expr.specs.Got.{Refused}
use Rattle.sql_form.specs.Laws.{IsRefused}
use Rattle.sql_form.specs.Read.{read_whole}
use Rattle.sql_form.specs.Rules.{Breach}
use Rattle.sql_stmt.specs.Statements.{batch}
use Rattle.sql_read.specs.Grammar.{IsBatch}

-- The bytes are no batch of the grammar, and this is the place: that of the first token that can't stand, or that of the part of an
-- expression which the token finds complete and of the wrong kind. Some batch begins with the tokens before it, limits and kinds
-- left aside, and none that keeps the broken rule with those up to it.
pub record IsRefusedAt (bytes : List ℕ) (at : ℕ) : Type 0 where
  pub tokens : List Token
  pub lexes : Lexes 0 bytes tokens
  pub why : Breach
  pub is : IsRefused batch tokens why at
  pub stops : read_whole batch tokens ≡ Refused at
  pub none : (stmts : List Stmt) → IsBatch bytes stmts → ⊥

-- a refusal for want of memory, or at the right place
abbrev pub IsRefusal : List ℕ → ParseRefusal → Type 0
IsRefusal bytes Memory = Unit {0}
IsRefusal bytes (Syntax at) = IsRefusedAt bytes at
