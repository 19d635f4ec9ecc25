-- Expressions as pure trees, without the places in memory that boxes have.
use Rattle.std.specs.Prelude.{ℤ, ℕ, List}
use Rattle.plain_model.specs.declared.expr.MathOp.{MathOp}
use Rattle.plain_model.specs.declared.expr.CompareOp.{CompareOp}
use Rattle.plain_model.specs.declared.expr.Expr as code
use Rattle.plain_model.specs.declared.expr.Expr.{Expr, Neg', Math', Compare', IsNull', Between', In', Not', And', Or'}
use Rattle.plain_model.specs.declared.expr.InRest.{InRest, Last', More'}

mutual
  pub data Tree : Type 0 where
    Null : Tree
    Number : ℤ → Tree
    Text : List ℕ → Tree
    Col : List ℕ → Tree
    Neg : Tree → Tree
    Math : MathOp → Tree → Tree → Tree
    Compare : CompareOp → Tree → Tree → Tree
    IsNull : Tree → Tree
    Between : Tree → Tree → Tree → Tree
    In : Tree → Entries → Tree
    Not : Tree → Tree
    And : Tree → Tree → Tree
    Or : Tree → Tree → Tree

  -- the list of an IN
  pub data Entries : Type 0 where
    Last : Tree → Entries
    More : Tree → Entries → Entries

abbrev mutual
  -- the tree of an expression
  pub tree_of : Expr → Tree
  tree_of code.Null = Null
  tree_of (code.Number n) = Number n
  tree_of (code.Text bytes) = Text bytes
  tree_of (code.Col name) = Col name
  tree_of (Neg' p e) = Neg (tree_of e)
  tree_of (Math' op p a q b) = Math op (tree_of a) (tree_of b)
  tree_of (Compare' op p a q b) = Compare op (tree_of a) (tree_of b)
  tree_of (IsNull' p e) = IsNull (tree_of e)
  tree_of (Between' p e q a r b) = Between (tree_of e) (tree_of a) (tree_of b)
  tree_of (In' p e q rest) = In (tree_of e) (entries_of rest)
  tree_of (Not' p e) = Not (tree_of e)
  tree_of (And' p a q b) = And (tree_of a) (tree_of b)
  tree_of (Or' p a q b) = Or (tree_of a) (tree_of b)

  pub entries_of : InRest → Entries
  entries_of (Last' p e) = Last (tree_of e)
  entries_of (More' p e q rest) = More (tree_of e) (entries_of rest)
