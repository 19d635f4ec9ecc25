-- The rules that statements keep beside their productions, each of which may be left aside.
use Rattle.std.specs.Prelude.{Bool, true, false}
use Rattle.sql_expr.specs.Rules as expr
use Rattle.sql_expr.specs.Machine.{Fault}
use Rattle.sql_expr.specs.Laws.{broken, is_limit}

-- which rules hold: those of expressions, that lists have so many parts, that texts are names where they must
pub record Rules : Type 0 where
  pub exprs : expr.Rules
  pub parts : Bool
  pub texts : Bool

-- all of them
abbrev pub strict : Rules
strict = record { exprs = expr.strict; parts = true; texts = true }

-- none of them
abbrev pub loose : Rules
loose = record { exprs = expr.loose; parts = false; texts = false }

-- that texts are names where they must, and no other
abbrev pub named_texts : Rules
named_texts = record { exprs = expr.loose; parts = false; texts = true }

-- what a refusal is against: the productions alone, a rule of expressions, the limit of parts, or that a text is a name
pub data Breach : Type 0 where
  OfForm : Breach
  OfExpr : (fault : Fault) → Breach
  OfParts : Breach
  OfText : Breach

-- the one rule that is broken
abbrev pub rules_of : Breach → Rules
rules_of OfForm = loose
rules_of (OfExpr fault) = record { exprs = broken fault; parts = false; texts = false }
rules_of OfParts = record { exprs = expr.loose; parts = true; texts = false }
rules_of OfText = named_texts

-- the breach is of a limit, or of a text that is no name: without the rules the token could stand
abbrev pub is_freed : Breach → Bool
is_freed OfForm = false
is_freed (OfExpr fault) = is_limit fault
is_freed OfParts = true
is_freed OfText = true
