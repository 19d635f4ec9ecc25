-- From what one call answered to what the next must.
use Rattle.std.specs.Prelude.{Option, Some, None, Result, Ok, Err}
use Rattle.std.specs.Option.{SomeIff}
use Rattle.std.proofs.Common.{◌≡◌, ℕ, Bool, true, false, List, [], ◌∷◌, ap, sym, ◌∙◌, refl}
use Rattle.plain_model.specs.declared.expr.Expr.{Expr}
use Rattle.plain_model.specs.Tree.{Tree, tree_of}
use Rattle.sql_lex.specs.declared.refusal.ParseRefusal.{ParseRefusal}
use Rattle.sql_lex.specs.declared.refusal.ParseRefusal.TheVariants.{Syntax, Memory}
use Rattle.sql_lex.specs.declared.token.Token.{Token}
use Rattle.sql_expr.specs.Got.{Got, Done, Refused}
use Rattle.sql_expr.specs.Read.{Answers}
use Rattle.sql_form.specs.Form.{if_name}
use Rattle.sql_stmt.specs.Answers.{Fails, IsRead, Gives}
use Rattle.sql_stmt.specs.Saying.{SaysExpr}

-- a name that is there exactly where the text is one
pub if_name_is : (o : Option (List ℕ)) (b : Bool) (P : Type 0) (name : List ℕ) → (P → b ≡ true) → ((P → ⊥) → b ≡ false) → SomeIff o P name → o ≡ if_name true b name
if_name_is None b P name is isnt h = rw (isnt h) refl
if_name_is (Some x) b P name is isnt h = rw (is h.0) (ap Some h.1)

-- an expression that was read says its tree
pub expr_gives : (r : Result Expr ParseRefusal) (g : Got Tree) (left : List Token) → Answers r g left → Gives SaysExpr r g left
expr_gives (Ok e) (Done tree rest) left h = record { value = tree; is = ap (Done tree) (sym h.1); means = h.0 }
expr_gives (Ok e) (Refused at) left h = absurd h
expr_gives (Err (Syntax at)) g left h = h
expr_gives (Err Memory) g left h = tt
