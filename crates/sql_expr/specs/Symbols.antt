-- What may still come of an expression that was begun.
use Rattle.std.specs.Prelude.{ℕ, Bool, List, [], ◌∷◌}
use Rattle.plain_model.specs.Tree.{Tree, Entries, Neg, Not, IsNull, Between, In, More}
use Rattle.sql_expr.specs.declared.role.Role.{Role}
use Rattle.sql_expr.specs.declared.role.Level.{Level}
use Rattle.sql_expr.specs.Grammar.{joined, negated}

-- an expression that was read, and the place where it begins
pub record Part : Type 0 where
  pub tree : Tree
  pub at : ℕ

-- a tree that begins at a place
abbrev pub part : Tree → ℕ → Part
part e at = record { tree = e; at = at }

-- what an operand that was read becomes a part of
pub data Frame : Type 0 where
  Whole : Frame
  -- behind an operator and its left side
  Joining : (operator : Role) (left : Part) → Frame
  -- behind a minus sign, or a NOT, at this place
  Negating : (at : ℕ) → Frame
  Denying : (at : ℕ) → Frame
  -- behind BETWEEN, a lower bound and AND
  Bounding : (negative : Bool) (left : Part) (lower : Tree) → Frame

-- what it becomes
abbrev pub framed : Frame → Part → Part
framed Whole now = now
framed (Joining operator left) now = part (joined operator left.tree now.tree) left.at
framed (Negating at) now = part (Neg now.tree) at
framed (Denying at) now = part (Not now.tree) at
framed (Bounding negative left lower) now = part (negated negative (Between left.tree lower now.tree)) left.at

-- what may come next, or must
pub data Symbol : Type 0 where
  -- an expression of the level must come, under which so many further levels may open
  Want : (n : ℕ) (l : Level) → Symbol
  -- an operator of the level may come
  May : (n : ℕ) (l : Level) → Symbol
  -- an operand was read, which must be of this kind
  Judge : (truth : Bool) (frame : Frame) → Symbol
  -- the bracket that opened here must be closed
  Shut : (at : ℕ) → Symbol
  -- [NOT] NULL, or NULL alone, must come
  Nullness : (left : Part) → Symbol
  NullAfterNot : (left : Part) → Symbol
  -- BETWEEN or IN must come
  AfterNot : (n : ℕ) (left : Part) → Symbol
  -- the lower bound of a BETWEEN was read
  Low : (n : ℕ) (negative : Bool) (left : Part) → Symbol
  -- the bracket of an IN must come
  Opens : (n : ℕ) (negative : Bool) (left : Part) → Symbol
  -- an entry of its list was read, behind others
  Entry : (n : ℕ) (negative : Bool) (left : Part) (before : List Tree) → Symbol

-- these entries and then those
abbrev pub onto : List Tree → Entries → Entries
onto [] es = es
onto (e ∷ before) es = More e (onto before es)

-- an IS NULL with its left side
abbrev pub null_test : Bool → Part → Part
null_test negative left = part (negated negative (IsNull left.tree)) left.at

-- an IN with its left side and its list
abbrev pub membership : Bool → Part → Entries → Part
membership negative left es = part (negated negative (In left.tree es)) left.at
