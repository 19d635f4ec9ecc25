-- What a step of reading does with the tokens that are left, told by the machine.
use Rattle.std.specs.Prelude.{◌≡◌, ℕ, ◌-◌, ◌<◌, Bool, true, false, List, [], ◌∷◌, ◌++◌, Option, Some, None, Result, Ok, Err}
use Rattle.plain_model.specs.Tree.{Tree, Last, tree_of, entries_of}
use Rattle.plain_model.specs.declared.expr.MathOp.TheVariants.{Sub}
use Rattle.sql_lex.specs.declared.refusal.ParseRefusal.{ParseRefusal}
use Rattle.sql_lex.specs.declared.refusal.ParseRefusal.TheVariants.{Syntax, Memory}
use Rattle.sql_lex.specs.declared.token.Token.{Token}
use Rattle.sql_lex.specs.Ahead.{first_of, behind_first}
use Rattle.sql_expr.specs.declared.role.Role.{Role}
use Rattle.sql_expr.specs.declared.role.Role.TheVariants as role
use Rattle.sql_expr.specs.declared.role.Level.{Level}
use Rattle.sql_expr.specs.declared.role.Level.TheVariants.{Ors, Nots, Comps, Sums, Unaries}
use Rattle.sql_expr.specs.declared.steps.Beginning.{Beginning}
use Rattle.sql_expr.specs.declared.steps.Beginning.TheVariants as beginning
use Rattle.sql_expr.specs.declared.steps.Comparison.{Comparison}
use Rattle.sql_expr.specs.declared.steps.Comparison.TheVariants as comparison
use Rattle.sql_expr.specs.declared.steps.Found.{Found}
use Rattle.sql_expr.specs.declared.steps.Joint.{Joint}
use Rattle.sql_expr.specs.declared.steps.Opened.{Opened}
use Rattle.sql_expr.specs.declared.steps.Start.{Start}
use Rattle.sql_expr.specs.declared.steps.Start.TheVariants as start
use Rattle.sql_expr.specs.declared.reader.Listing.{Listing}
use Rattle.sql_expr.specs.declared.tree.Read.{Read}
use Rattle.sql_expr.specs.Rules.{strict}
use Rattle.sql_expr.specs.Grammar.{joins_truths, inner}
use Rattle.sql_expr.specs.Symbols.{Part, part, Joining, Negating, Denying, Symbol, Want, May, Judge, Shut, Low, Opens, Entry, onto, null_test, membership}
use Rattle.sql_expr.specs.Read.{Outcome, Stopped, run}

-- the tokens have a first
abbrev pub IsCons : List Token → Type 0
IsCons ts = ts ≡ first_of ts ∷ behind_first ts

-- an expression has such tokens
abbrev pub is_part : Role → Bool
is_part role.Other = false
is_part _ = true

-- how an expression begins
abbrev pub begins : Role → Beginning
begins role.Open = beginning.Bracket
begins (role.Math Sub) = beginning.Minus
begins _ = beginning.Leaf

-- the part that was read
abbrev pub part_of : Read → Part
part_of x = part (tree_of x.tree) x.at

-- the place of a refusal
abbrev pub refusal : Outcome → Option ℕ
refusal (Stopped why at) = Some at
refusal _ = None

-- an answer is the refusal of an outcome; want of memory alone is free
abbrev pub FailsTo : ParseRefusal → Outcome → Type 0
FailsTo (Syntax at) before = refusal before ≡ Some at
FailsTo Memory before = Unit {0}

-- what is read leads the machine from one outcome to the other, and what is refused is refused by the first
abbrev pub Passes : {X : Type 0} → Result X ParseRefusal → Outcome → (X → Outcome) → Type 0
Passes (Ok x) before after = before ≡ after x
Passes (Err e) before after = FailsTo e before

-- one of so many is used, where there is one, else the token in front is refused
abbrev pub Uses : Result ℕ ParseRefusal → ℕ → List Token → Type 0
Uses (Ok m) spare ts = (0 < spare) × (m ≡ spare - 1)
Uses (Err e) spare ts = (spare ≡ 0) × (e ≡ Syntax (first_of ts).at)

-- the operator that was taken, or none stands there
abbrev pub operated : Bool → ℕ → Level → List Symbol → Read → List Token → Option Joint → Outcome
operated names n l stack left rest (Some j) = run names strict (Want n (inner l) ∷ Judge (joins_truths j.operator) (Joining j.operator (part_of left)) ∷ May n l ∷ stack) (part_of left) j.spare rest
operated names n l stack left rest None = run names strict stack (part_of left) left.spare rest

-- the words of a comparison that were taken
abbrev pub found : Bool → ℕ → List Symbol → Part → List Token → ℕ → Comparison → Outcome
found names n stack left rest spare comparison.Nothing = run names strict stack left spare rest
found names n stack left rest spare (comparison.Relation op) = run names strict (Want n Sums ∷ Judge false (Joining (role.Compare op) left) ∷ stack) left spare rest
found names n stack left rest spare (comparison.Null negative) = run names strict stack (null_test negative left) spare rest
found names n stack left rest spare (comparison.Between negative) = run names strict (Want n Sums ∷ Low n negative left ∷ stack) left spare rest
found names n stack left rest spare (comparison.In negative) = run names strict (Opens n negative left ∷ stack) left spare rest

-- the same, with how many operators may come behind them
abbrev pub compared : Bool → ℕ → List Symbol → Part → List Token → Found → Outcome
compared names n stack left rest f = found names n stack left rest f.spare f.comparison

-- the first token that was taken
abbrev pub started : Bool → List Symbol → Part → ℕ → List Token → Start → Outcome
started names stack now spare rest (start.Bracket n at) = run names strict (Want n Ors ∷ Shut at ∷ stack) now spare rest
started names stack now spare rest (start.Minus n at) = run names strict (Want n Unaries ∷ Judge false (Negating at) ∷ stack) now spare rest
started names stack now spare rest (start.Atom tree at) = run names strict stack (part (tree_of tree) at) spare rest

-- the NOT that was taken, or none stands there
abbrev pub noted : Bool → ℕ → List Symbol → Part → ℕ → List Token → Option Opened → Outcome
noted names n stack now spare rest (Some o) = run names strict (Want o.n Nots ∷ Judge true (Denying o.at) ∷ stack) now o.spare rest
noted names n stack now spare rest None = run names strict (Want n Comps ∷ May n Nots ∷ stack) now spare rest

-- a further entry of a list comes, with so many operators, or the list is closed
abbrev pub listed : Bool → ℕ → Bool → Part → List Tree → List Symbol → Read → List Token → Option ℕ → Outcome
listed names n negative left before stack now rest (Some spare) = run names strict (Want n Ors ∷ Entry n negative left (before ++ tree_of now.tree ∷ []) ∷ stack) (part_of now) spare rest
listed names n negative left before stack now rest None = run names strict stack (membership negative left (onto before (Last (tree_of now.tree)))) now.spare rest

-- the levels at which something may follow an operand
abbrev pub IsJoined : Level → Type 0
IsJoined Unaries = ⊥
IsJoined Nots = ⊥
IsJoined _ = Unit {0}

-- the levels at which operators join operands
abbrev pub IsChain : Level → Type 0
IsChain Unaries = ⊥
IsChain Nots = ⊥
IsChain Comps = ⊥
IsChain _ = Unit {0}

-- the entries of a list were read to its end
abbrev pub listing : Bool → Bool → Part → List Tree → List Symbol → List Token → Listing → Outcome
listing names negative left before stack rest list = run names strict stack (membership negative left (onto before (entries_of list.entries))) list.spare rest
