-- What is read from the front of tokens, one after the other.
use Rattle.std.specs.Prelude.{◌≡◌, ℕ, Bool, true, false, List, [], ◌∷◌, Result, Ok, Err}
use Rattle.plain_model.specs.Tree.{Tree, Null, tree_of}
use Rattle.plain_model.specs.declared.expr.Expr.{Expr}
use Rattle.sql_lex.specs.declared.refusal.ParseRefusal.{ParseRefusal}
use Rattle.sql_lex.specs.declared.refusal.ParseRefusal.TheVariants.{Syntax, Memory}
use Rattle.sql_lex.specs.declared.token.Token.{Token}
use Rattle.sql_expr.specs.declared.role.Level.TheVariants.{Ors}
use Rattle.sql_expr.specs.Got.{Got, Done, Refused}
use Rattle.sql_expr.specs.Rules.{Rules, strict}
use Rattle.sql_expr.specs.Symbols.{Part, part, Whole, Symbol, Want, Judge}
use Rattle.sql_expr.specs.Machine.{Fault, Next, Go, Over, Refuse, feed}

-- where tokens lead: past them, with these symbols still to come; or the expression is over before the rest; or it is refused
pub data Outcome : Type 0 where
  Open : (stack : List Symbol) (now : Part) (spare : ℕ) → Outcome
  Ended : (now : Part) (spare : ℕ) (rest : List Token) → Outcome
  Stopped : (why : Fault) (at : ℕ) → Outcome

-- where the tokens behind one lead, after what it does
abbrev pub go_on : Token → List Token → (List Symbol → Part → ℕ → Outcome) → Next → Outcome
go_on t ts more (Go stack now spare) = more stack now spare
go_on t ts more (Over now spare) = Ended now spare (t ∷ ts)
go_on t ts more (Refuse why at) = Stopped why at

-- where tokens lead from some symbols
abbrev pub run : Bool → Rules → List Symbol → Part → ℕ → List Token → Outcome
run names r stack now spare [] = Open stack now spare
run names r stack now spare (t ∷ ts) = go_on t ts (λ s p m. run names r s p m ts) (feed names r stack now spare t)

-- nothing was read yet
abbrev pub no_part : Part
no_part = part Null 0

-- an expression of a kind, and nothing behind it
abbrev pub whole : Bool → List Symbol
whole truth = Want 100 Ors ∷ Judge truth Whole ∷ []

-- where tokens lead from the start of an expression
abbrev pub reading : Bool → Rules → Bool → List Token → Outcome
reading names r truth ts = run names r (whole truth) no_part 1000 ts

-- what was read in the end
abbrev pub got : Outcome → Got Tree
got (Open stack now spare) = Refused 0
got (Ended now spare rest) = Done now.tree rest
got (Stopped why at) = Refused at

-- The truth, or the value, in front of tokens: as many of them as can be one expression, and its tree. Where what stands there is
-- refused, the place is that of the first token that can't stand, or opens level 101, or is operator 1,001, or with which a part
-- begins that is a truth in the place of a value, or a value in the place of a truth: such a part is refused as soon as it is complete.
unfoldable pub read_front : Bool → Bool → List Token → Got Tree
read_front names truth ts = got (reading names strict truth ts)

-- a value, in which names of columns may stand or not
abbrev pub read_value : Bool → List Token → Got Tree
read_value names ts = read_front names false ts

-- a truth
abbrev pub read_truth : List Token → Got Tree
read_truth ts = read_front true true ts

-- an answer, and the tokens that it leaves, are what these tokens give; want of memory alone is free
abbrev pub Answers : Result Expr ParseRefusal → Got Tree → List Token → Type 0
Answers (Ok e) (Done tree rest) left = (tree_of e ≡ tree) × (left ≡ rest)
Answers (Ok e) (Refused at) left = ⊥
Answers (Err (Syntax at)) given left = given ≡ Refused at
Answers (Err Memory) given left = Unit {0}
