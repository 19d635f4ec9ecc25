-- What the cutting of a batch into tokens promises of itself.
use Rattle.std.specs.Prelude.{ℕ, ◌≡◌, true, not, List, [], ◌∷◌, ◌++◌, length}
use Rattle.std.specs.List.{list_all}
use Rattle.sql_lex.specs.declared.token.Token.{Token}
use Rattle.sql_lex.specs.declared.token.TokenKind.TheVariants.{End}
use Rattle.sql_lex.specs.Tokens.{Lexes, token, is_end}

-- all bytes are cut into tokens, and in one way
abbrev pub HasOneCutting : List ℕ → Type 0
HasOneCutting batch = (ts : List Token) × Lexes 0 batch ts × ((us : List Token) → Lexes 0 batch us → us ≡ ts)

-- the last token is the end, at this place, and no other is
pub record EndsOnce (at : ℕ) (tokens : List Token) : Type 0 where
  pub front : List Token
  pub split : tokens ≡ front ++ token at End ∷ []
  pub others : list_all (λ t. not (is_end t.kind)) front ≡ true

-- the tokens of a batch end once, at its length
abbrev pub HaveOneEnd : List ℕ → Type 0
HaveOneEnd batch = (ts : List Token) → Lexes 0 batch ts → EndsOnce (length batch) ts
