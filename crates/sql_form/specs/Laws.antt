-- What reading a form promises, in words of the grammar alone.
use Rattle.std.specs.Prelude.{◌≡◌, ℕ, Bool, true, false, ◌||◌, List, [], ◌∷◌, ◌++◌}
use Rattle.sql_lex.specs.declared.token.Token.{Token}
use Rattle.sql_lex.specs.Tokens.{is_end}
use Rattle.sql_expr.specs.Machine.{WrongKind}
use Rattle.sql_expr.specs.Laws.{IsPart}
use Rattle.sql_form.specs.Rules.{Rules, strict, loose, named_texts, Breach, OfExpr, rules_of, is_freed}
use Rattle.sql_form.specs.Form.{Form, Value}
use Rattle.sql_form.specs.Grammar.{IsForm}

-- the end is among the tokens
abbrev pub has_end : List Token → Bool
has_end [] = false
has_end (t ∷ ts) = is_end t.kind || has_end ts

-- something of the form begins with these tokens
pub record Begins (r : Rules) (f : Form) (front : List Token) : Type 0 where
  pub more : List Token
  pub value : Value f
  pub is : IsForm r f value (front ++ more)

-- what stands in front of some tokens is of the form, and says this
pub record IsFront (f : Form) (ts : List Token) (value : Value f) (rest : List Token) : Type 0 where
  pub front : List Token
  pub split : ts ≡ front ++ rest
  pub is : IsForm strict f value front

-- the place of a refusal is the token's, or that of the part of an expression which the token finds complete and of the wrong kind
abbrev pub IsPlace : Breach → ℕ → List Token → Token → Type 0
IsPlace (OfExpr WrongKind) at front t = (names : Bool) × IsPart names front at
IsPlace _ at front t = at ≡ t.at

-- The tokens are refused at this place. The front could stand: something of the form begins with it, in which texts are names where
-- they must. Limits and kinds are left aside there, since a front within a limit may leave no room for what has to follow, as the
-- comma behind the last part that may come. The token can't: nothing that keeps the broken rule begins with the front and the token;
-- where that rule is a limit, or asks a text for a name, something that keeps no rules does.
pub record IsRefused (f : Form) (ts : List Token) (why : Breach) (at : ℕ) : Type 0 where
  pub front : List Token
  pub token : Token
  pub others : List Token
  pub split : ts ≡ front ++ token ∷ others
  pub place : IsPlace why at front token
  pub before : Begins named_texts f front
  pub none : Begins (rules_of why) f (front ++ token ∷ []) → ⊥
  pub freed : is_freed why ≡ true → Begins loose f (front ++ token ∷ [])

-- all tokens before the end are of the form, and say this
pub record IsAll (f : Form) (ts : List Token) (value : Value f) : Type 0 where
  pub front : List Token
  pub last : Token
  pub others : List Token
  pub split : ts ≡ front ++ last ∷ others
  pub ends : is_end last.kind ≡ true
  pub is : IsForm strict f value front
