-- What can be read off an expression before it is worked out: its kind, its texts and columns, its size.
use Rattle.std.specs.Prelude.{ℕ, ◌+◌, nat_le, max, Bool, true, false, ◌&&◌}
use Rattle.std.specs.List.{list_all}
use Rattle.plain_model.specs.Tree.{Tree, Entries, Null, Number, Text, Col, Neg, Math, Compare, IsNull, Between, In, Not, And, Or, Last, More}

-- whether an expression has a value, not a truth, and values and truths stand in it where they must
abbrev mutual
  pub is_value : Tree → Bool
  is_value Null = true
  is_value (Number n) = true
  is_value (Text bytes) = true
  is_value (Col name) = true
  is_value (Neg e) = is_value e
  is_value (Math op a b) = is_value a && is_value b
  is_value _ = false

  -- the same of the entries of an IN list
  pub are_values : Entries → Bool
  are_values (Last e) = is_value e
  are_values (More e rest) = is_value e && are_values rest

-- whether it has a truth, and values and truths stand in it where they must
abbrev pub is_truth : Tree → Bool
is_truth (Compare op a b) = is_value a && is_value b
is_truth (IsNull e) = is_value e
is_truth (Between e a b) = is_value e && (is_value a && is_value b)
is_truth (In e rest) = is_value e && are_values rest
is_truth (Not e) = is_truth e
is_truth (And a b) = is_truth a && is_truth b
is_truth (Or a b) = is_truth a && is_truth b
is_truth _ = false

-- a byte that may stand in a text
abbrev pub is_printable : ℕ → Bool
is_printable b = nat_le 32 b && nat_le b 126

abbrev mutual
  -- a test of each leaf: NULLs, numbers, texts and columns
  pub each_leaf : (Tree → Bool) → Tree → Bool
  each_leaf p Null = p Null
  each_leaf p (Number n) = p (Number n)
  each_leaf p (Text bytes) = p (Text bytes)
  each_leaf p (Col name) = p (Col name)
  each_leaf p (Neg e) = each_leaf p e
  each_leaf p (Math op a b) = each_leaf p a && each_leaf p b
  each_leaf p (Compare op a b) = each_leaf p a && each_leaf p b
  each_leaf p (IsNull e) = each_leaf p e
  each_leaf p (Between e a b) = each_leaf p e && (each_leaf p a && each_leaf p b)
  each_leaf p (In e rest) = each_leaf p e && each_entry_leaf p rest
  each_leaf p (Not e) = each_leaf p e
  each_leaf p (And a b) = each_leaf p a && each_leaf p b
  each_leaf p (Or a b) = each_leaf p a && each_leaf p b

  pub each_entry_leaf : (Tree → Bool) → Entries → Bool
  each_entry_leaf p (Last e) = each_leaf p e
  each_entry_leaf p (More e rest) = each_leaf p e && each_entry_leaf p rest

-- a text has printable bytes alone
abbrev pub has_printable_text : Tree → Bool
has_printable_text (Text bytes) = list_all is_printable bytes
has_printable_text _ = true

-- a leaf that is no column
abbrev pub is_no_column : Tree → Bool
is_no_column (Col name) = false
is_no_column _ = true

abbrev mutual
  -- how many operators it has; each comma of an IN list is one, and so is each NOT
  pub operators : Tree → ℕ
  operators Null = 0
  operators (Number n) = 0
  operators (Text bytes) = 0
  operators (Col name) = 0
  operators (Neg e) = operators e
  operators (Math op a b) = operators a + operators b + 1
  operators (Compare op a b) = operators a + operators b + 1
  operators (IsNull e) = operators e + 1
  operators (Between e a b) = operators e + operators a + operators b + 1
  operators (In e rest) = operators e + entry_operators rest + 1
  operators (Not e) = operators e + 1
  operators (And a b) = operators a + operators b + 1
  operators (Or a b) = operators a + operators b + 1

  pub entry_operators : Entries → ℕ
  entry_operators (Last e) = operators e
  entry_operators (More e rest) = operators e + entry_operators rest + 1

-- the NOT of IS NOT, NOT BETWEEN and NOT IN is no level
abbrev pub not_level : Tree → ℕ
not_level (IsNull e) = 0
not_level (Between e a b) = 0
not_level (In e rest) = 0
not_level _ = 1

abbrev mutual
  -- how many NOTs and minus signs stand one under the other
  pub levels : Tree → ℕ
  levels Null = 0
  levels (Number n) = 0
  levels (Text bytes) = 0
  levels (Col name) = 0
  levels (Neg e) = levels e + 1
  levels (Math op a b) = max (levels a) (levels b)
  levels (Compare op a b) = max (levels a) (levels b)
  levels (IsNull e) = levels e
  levels (Between e a b) = max (levels e) (max (levels a) (levels b))
  levels (In e rest) = max (levels e) (entry_levels rest)
  levels (Not e) = levels e + not_level e
  levels (And a b) = max (levels a) (levels b)
  levels (Or a b) = max (levels a) (levels b)

  pub entry_levels : Entries → ℕ
  entry_levels (Last e) = levels e
  entry_levels (More e rest) = max (levels e) (entry_levels rest)

-- within the limits of 1,000 operators and 100 levels, with printable texts
abbrev pub is_small : Tree → Bool
is_small e = nat_le (operators e) 1000 && (nat_le (levels e) 100 && each_leaf has_printable_text e)
