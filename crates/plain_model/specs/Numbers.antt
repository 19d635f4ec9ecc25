-- What the operators on numbers give: the exact number, where the type holds it.
use Rattle.std.specs.Prelude.{ℕ, ℤ, pos, negsuc, ◌+ℤ◌, ◌-ℤ◌, ◌*ℤ◌, neg_ℤ, ◌^◌, nat_lt, Bool, true, false, ◌||◌, if◌then◌else◌}
use Rattle.std.specs.Prelude.{Option, Some, None}
use Rattle.plain_model.specs.declared.expr.MathOp.{MathOp}
use Rattle.plain_model.specs.declared.expr.MathOp.TheVariants.{Add, Sub, Mul}
use Rattle.page_base.specs.declared.value.Value.{Value}
use Rattle.page_base.specs.declared.value.Value.TheVariants.{Null, Int, Big, Text}

-- whether a number is at least -limit and below limit
abbrev pub is_within : ℕ → ℤ → Bool
is_within limit (pos n) = nat_lt n limit
is_within limit (negsuc n) = nat_lt n limit

-- whether INT holds a number
abbrev pub fits_int : ℤ → Bool
fits_int n = is_within (2 ^ 31) n

-- whether BIGINT holds a number
abbrev pub fits_big : ℤ → Bool
fits_big n = is_within (2 ^ 63) n

-- a number literal is INT where it fits 32 bits, else BIGINT
abbrev pub literal : ℤ → Value
literal n = if fits_int n then Int n else Big n

-- a number as a BIGINT or as an INT; none is an overflow
abbrev pub stored : Bool → ℤ → Option Value
stored true n = if fits_big n then Some (Big n) else None
stored false n = if fits_int n then Some (Int n) else None

-- the number, where a value is one
abbrev pub number_in : Value → Option ℤ
number_in Null = None
number_in (Int n) = Some n
number_in (Big n) = Some n
number_in (Text bytes) = None

abbrev pub is_big : Value → Bool
is_big (Big n) = true
is_big _ = false

-- sum, difference or product
abbrev pub exact : MathOp → ℤ → ℤ → ℤ
exact Add a b = a +ℤ b
exact Sub a b = a -ℤ b
exact Mul a b = a *ℤ b

-- an operator on what may be two numbers, BIGINTs or not: NULL where one isn't there; none is an overflow
abbrev pub math_on : MathOp → Bool → Option ℤ → Option ℤ → Option Value
math_on op big (Some a) (Some b) = stored big (exact op a b)
math_on op big (Some a) None = Some Null
math_on op big None _ = Some Null

-- an operator on two values: BIGINT where an operand is, else INT
abbrev pub math : MathOp → Value → Value → Option Value
math op a b = math_on op (is_big a || is_big b) (number_in a) (number_in b)

-- the unary minus
abbrev pub opposite : Value → Option Value
opposite Null = Some Null
opposite (Int n) = stored false (neg_ℤ n)
opposite (Big n) = stored true (neg_ℤ n)
opposite (Text bytes) = Some Null
