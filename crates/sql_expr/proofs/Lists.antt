-- Lists of tokens: where they begin, and that an expression has one.
use Rattle.std.proofs.Common.{◌≡◌, ℕ, Bool, true, false, List, [], ◌∷◌, ◌++◌, ap, refl}
use Rattle.plain_model.specs.Tree.{Tree, Entries, More}
use Rattle.sql_lex.specs.declared.token.Token.{Token}
use Rattle.sql_expr.specs.declared.role.Level.{Level}
use Rattle.sql_expr.specs.Rules.{Rules}
use Rattle.sql_expr.specs.Grammar.{IsExpr, one, brackets, minus, negation, onward}
use Rattle.sql_expr.specs.Laws.{place}
use Rattle.sql_expr.specs.Symbols.{onto}

abbrev pub has : List Token → Bool
has [] = false
has (t ∷ ts) = true

pub place_append : (ts us : List Token) → has ts ≡ true → place (ts ++ us) ≡ place ts
place_append [] us h = cc
place_append (t ∷ ts) us h = refl

pub has_append : (ts us : List Token) → has ts ≡ true → has (ts ++ us) ≡ true
has_append [] us h = cc
has_append (t ∷ ts) us h = refl

pub has_some : {names : Bool} {r : Rules} {n : ℕ} {l : Level} {e : Tree} {ts : List Token} → IsExpr names r n l e ts → has ts ≡ true
has_some (one n t e h) = refl
has_some (brackets n e left right ts o c room h) = refl
has_some (minus n e t ts k room h v) = refl
has_some (negation n e t ts k room h v) = refl
has_some (onward n l a e ts us ha hf) = has_append ts us (has_some ha)

pub onto_push : (before : List Tree) (e : Tree) (es : Entries) → onto (before ++ e ∷ []) es ≡ onto before (More e es)
onto_push [] e es = refl
onto_push (b ∷ before) e es = ap (More b) (onto_push before e es)
