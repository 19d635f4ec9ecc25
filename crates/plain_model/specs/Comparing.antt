-- What a comparison of two numbers or two texts comes to, and one with NULL.
use Rattle.std.specs.Prelude.{Bool, true, false, Option, Some, None, option_map}
use Rattle.std.specs.declared.cmp.Ordering.{Ordering}
use Rattle.std.specs.declared.cmp.Ordering.TheVariants.{Less, Equal, Greater}
use Rattle.std.specs.Ordering.{nat_cmp, int_cmp}
use Rattle.std.specs.Cmp.Lexicographic.{slice_cmp}
use Rattle.plain_model.specs.declared.expr.CompareOp.{CompareOp}
use Rattle.plain_model.specs.declared.expr.CompareOp.TheVariants.{Eq, Ne, Lt, Le, Gt, Ge}
use Rattle.page_base.specs.declared.value.Value.{Value}
use Rattle.page_base.specs.declared.value.Value.TheVariants as value
use Rattle.page_base.specs.declared.value.Truth.{Truth}
use Rattle.page_base.specs.declared.value.Truth.TheVariants.{True, False, Unknown}

-- numbers by their size whatever their types, texts by their bytes; none with NULL, or of a number and a text
abbrev pub order_of : Value → Value → Option Ordering
order_of (value.Int a) (value.Int b) = Some (int_cmp a b)
order_of (value.Int a) (value.Big b) = Some (int_cmp a b)
order_of (value.Big a) (value.Int b) = Some (int_cmp a b)
order_of (value.Big a) (value.Big b) = Some (int_cmp a b)
order_of (value.Text a) (value.Text b) = Some (slice_cmp nat_cmp a b)
order_of _ _ = None

-- whether an operator holds of two values in an order
abbrev pub holds : CompareOp → Ordering → Bool
holds Eq Equal = true
holds Ne Less = true
holds Ne Greater = true
holds Lt Less = true
holds Le Less = true
holds Le Equal = true
holds Gt Greater = true
holds Ge Greater = true
holds Ge Equal = true
holds _ _ = false

-- TRUE or FALSE where it is known
abbrev pub truth_from : Option Bool → Truth
truth_from None = Unknown
truth_from (Some true) = True
truth_from (Some false) = False

-- a comparison of two values; with NULL it is UNKNOWN
abbrev pub compared : CompareOp → Value → Value → Truth
compared op a b = truth_from (option_map (holds op) (order_of a b))

-- whether a value is NULL, which is never UNKNOWN
abbrev pub null_test : Value → Truth
null_test value.Null = True
null_test _ = False
