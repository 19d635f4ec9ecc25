-- The order of values, and of the keys made of them.
use Rattle.std.specs.Prelude.{ℕ, ℤ, pos, List, []}
use Rattle.std.specs.declared.cmp.Ordering.{Ordering}
use Rattle.std.specs.Ordering.{nat_cmp, int_cmp, then_cmp, on}
use Rattle.std.specs.Cmp.Lexicographic.{slice_cmp}
use Rattle.page_base.specs.declared.value.Value.{Value}
use Rattle.page_base.specs.declared.value.Value.TheVariants.{Null, Int, Big, Text}

-- NULL stands before all values; INTs, BIGINTs and texts aren't mixed in one column
abbrev pub rank : Value → ℕ
rank Null = 0
rank (Int n) = 1
rank (Big n) = 2
rank (Text bytes) = 3

-- the number, if it is one
abbrev pub number_of : Value → ℤ
number_of Null = pos 0
number_of (Int n) = n
number_of (Big n) = n
number_of (Text bytes) = pos 0

-- the text, if it is one
abbrev pub text_of : Value → List ℕ
text_of Null = []
text_of (Int n) = []
text_of (Big n) = []
text_of (Text bytes) = bytes

-- numbers by their size, texts by their bytes
abbrev pub value_cmp : Value → Value → Ordering
value_cmp = then_cmp (on rank nat_cmp) (then_cmp (on number_of int_cmp) (on text_of (slice_cmp nat_cmp)))

-- keys by their first value that differs
abbrev pub key_cmp : List Value → List Value → Ordering
key_cmp = slice_cmp value_cmp
