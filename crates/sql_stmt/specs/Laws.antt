-- What the grammar of statements promises of batches.
use Rattle.std.specs.Prelude.{ℕ, ◌≡◌, List}
use Rattle.sql_lex.specs.declared.token.Token.{Token}
use Rattle.sql_lex.specs.Tokens.{Lexes}
use Rattle.sql_expr.specs.Got.{Done, Refused}
use Rattle.sql_form.specs.Form.{Value}
use Rattle.sql_form.specs.Laws.{IsAll, IsRefused}
use Rattle.sql_form.specs.Read.{read_whole}
use Rattle.sql_form.specs.Rules.{Breach}
use Rattle.sql_stmt.specs.Statements.{batch}

-- a batch of bytes is in the grammar, and says this
pub record IsBatch (bytes : List ℕ) (value : Value batch) : Type 0 where
  pub tokens : List Token
  pub lexes : Lexes 0 bytes tokens
  pub is : IsAll batch tokens value

-- a batch says one thing
abbrev pub SaysOneThing : List ℕ → Type 0
SaysOneThing bytes = (x y : Value batch) → IsBatch bytes x → IsBatch bytes y → x ≡ y

-- The tokens of a batch are read exactly where it is in the grammar; where they are refused, a batch begins with those before the
-- wrong one, limits and kinds left aside, and none that keeps the broken rule with those up to it.
pub record IsTold (bytes : List ℕ) (ts : List Token) : Type 0 where
  pub read : (rest : List Token) (x : Value batch) → read_whole batch ts ≡ Done x rest → IsBatch bytes x
  pub whole : (x : Value batch) → IsBatch bytes x → (rest : List Token) × (read_whole batch ts ≡ Done x rest)
  pub refused : (at : ℕ) → read_whole batch ts ≡ Refused at → (why : Breach) × IsRefused batch ts why at
