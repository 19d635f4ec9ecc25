-- What reading an expression promises, in words of the grammar alone.
use Rattle.std.specs.Prelude.{◌≡◌, ℕ, Bool, true, false, List, [], ◌∷◌, ◌++◌}
use Rattle.std.specs.List.{list_all}
use Rattle.plain_model.specs.Tree.{Tree}
use Rattle.plain_model.specs.Shape.{is_printable}
use Rattle.sql_lex.specs.declared.token.Token.{Token}
use Rattle.sql_lex.specs.declared.token.TokenKind.{TokenKind}
use Rattle.sql_lex.specs.declared.token.TokenKind.TheVariants as kind
use Rattle.sql_expr.specs.declared.role.Role.{Role}
use Rattle.sql_expr.specs.declared.role.Role.TheVariants as role
use Rattle.sql_expr.specs.Rules.{Rules, strict, loose}
use Rattle.sql_expr.specs.declared.role.Level.{Level}
use Rattle.sql_expr.specs.Grammar.{IsExpr, IsWhole}
use Rattle.sql_expr.specs.Roles.{role_of}
use Rattle.sql_expr.specs.Machine.{Fault, CantStand, WrongKind, TooDeep, TooMany}

-- a token with which an expression may go on
abbrev pub goes_on : Role → Bool
goes_on role.Or = true
goes_on role.And = true
goes_on role.Not = true
goes_on role.Is = true
goes_on role.Between = true
goes_on role.In = true
goes_on (role.Math op) = true
goes_on (role.Compare op) = true
goes_on _ = false

-- a token that doesn't go on stands in front
abbrev pub IsBehind : List Token → Type 0
IsBehind [] = ⊥
IsBehind (t ∷ ts) = goes_on (role_of t) ≡ false

-- some token is of no expression, as the one at their end
pub record HasEnd (ts : List Token) : Type 0 where
  pub front : List Token
  pub token : Token
  pub others : List Token
  pub split : ts ≡ front ++ token ∷ others
  pub other : role_of token ≡ role.Other

-- a text has printable bytes alone
abbrev pub is_printed : TokenKind → Bool
is_printed (kind.Text text) = list_all is_printable text
is_printed _ = true

-- so have the texts of tokens
abbrev pub are_printed : List Token → Bool
are_printed ts = list_all (λ t. is_printed t.kind) ts

-- some expression begins with these tokens
pub record Begins (names : Bool) (r : Rules) (truth : Bool) (front : List Token) : Type 0 where
  pub more : List Token
  pub tree : Tree
  pub whole : IsWhole names r truth tree (front ++ more)

-- the expression in front of some tokens: it has its kind and keeps its limits, and with the token behind it no expression begins, whatever its kinds and limits
pub record IsFront (names truth : Bool) (ts : List Token) (e : Tree) (rest : List Token) : Type 0 where
  pub front : List Token
  pub split : ts ≡ front ++ rest
  pub whole : IsWhole names strict truth e front
  pub next : Token
  pub others : List Token
  pub rest_is : rest ≡ next ∷ others
  pub longest : Begins names loose truth (front ++ next ∷ []) → ⊥

-- the one rule that a fault is against; a token that can't stand is against none but the productions
abbrev pub broken : Fault → Rules
broken CantStand = loose
broken WrongKind = record { kinds = true; levels = false; operators = false }
broken TooDeep = record { kinds = false; levels = true; operators = false }
broken TooMany = record { kinds = false; levels = false; operators = true }

-- where tokens begin
abbrev pub place : List Token → ℕ
place [] = 0
place (t ∷ ts) = t.at

-- a part that is complete, an expression of some level whatever its kinds and limits, begins at this place and ends the front
pub record IsPart (names : Bool) (front : List Token) (at : ℕ) : Type 0 where
  pub before : List Token
  pub tokens : List Token
  pub level : Level
  pub tree : Tree
  pub split : front ≡ before ++ tokens
  pub place_is : place tokens ≡ at
  pub is : IsExpr names loose 0 level tree tokens

-- the place of a refusal is the token's, or, for a wrong kind, that of the part which the token finds complete
abbrev pub IsPlace : Bool → Fault → ℕ → List Token → Token → Type 0
IsPlace names WrongKind at front t = IsPart names front at
IsPlace names _ at front t = at ≡ t.at

-- the fault is against one of the limits
abbrev pub is_limit : Fault → Bool
is_limit TooDeep = true
is_limit TooMany = true
is_limit _ = false

-- The tokens are refused at this place: an expression begins with the front, whatever its kinds and limits, and none that keeps the
-- broken rule begins with the front and the token behind it; where that rule is a limit, one without the limits does.
pub record IsRefused (names truth : Bool) (ts : List Token) (why : Fault) (at : ℕ) : Type 0 where
  pub front : List Token
  pub token : Token
  pub others : List Token
  pub split : ts ≡ front ++ token ∷ others
  pub before : Begins names loose truth front
  pub place_is : IsPlace names why at front token
  pub none : Begins names (broken why) truth (front ++ token ∷ []) → ⊥
  pub unlimited : is_limit why ≡ true → Begins names loose truth (front ++ token ∷ [])
