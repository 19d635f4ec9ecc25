-- Numbers as decimal digits.
use Rattle.std.specs.Prelude.{ℕ, ◌+◌, ◌*◌, ◌-◌, ◌≡◌, Bool, true, false, ◌==◌, ◌&&◌, not, List, [], ◌∷◌}
use Rattle.std.specs.List.{list_all}
use Rattle.std.specs.Char.{is_ascii_digit}

-- one digit, or several of which the first isn't 0
abbrev pub is_decimal : List ℕ → Bool
is_decimal [] = false
is_decimal (d ∷ []) = is_ascii_digit d
is_decimal (d ∷ e ∷ ds) = not (d == 48) && list_all is_ascii_digit (d ∷ e ∷ ds)

-- the number that digits spell behind those of another number
abbrev pub number_behind : ℕ → List ℕ → ℕ
number_behind n [] = n
number_behind n (d ∷ ds) = number_behind (n * 10 + (d - 48)) ds

-- the number that digits spell
abbrev pub number_of : List ℕ → ℕ
number_of digits = number_behind 0 digits

-- the digits are those of the number, without zeros in front
pub record IsDecimal (digits : List ℕ) (n : ℕ) : Type 0 where
  pub form : is_decimal digits ≡ true
  pub value : number_of digits ≡ n
