-- The number that digits spell.
use Rattle.std.proofs.Common.{◌≡◌, ℕ, suc, ◌+◌, ◌*◌, ◌-◌, ◌<◌, ◌≤◌, List, [], ◌∷◌, length, drop, get_or, arith, ap, sym, ◌∙◌}
use Rattle.std.proofs.Math.Seq.{drop-cons}
use Rattle.script_read.specs.Decimal.{number_behind}

number_grows : (n : ℕ) (ds : List ℕ) → n ≤ number_behind n ds
number_grows n [] = omega arith
number_grows n (d ∷ ds) = omega (arith, number_grows (n * 10 + (d - 48)) ds)

-- a number that is too large at some digit is too large
pub number_exceeds : (n m i most : ℕ) (ds : List ℕ) → i < length ds → number_behind n (drop i ds) ≡ m → most < n * 10 + (get_or ds i 0 - 48) → most < m
number_exceeds n m i most ds within value more =
    let e : number_behind (n * 10 + (get_or ds i 0 - 48)) (drop (suc i) ds) ≡ m = ap (number_behind n) (sym (drop-cons ds i 0 within)) ∙ value in
    omega (arith, e, number_grows (n * 10 + (get_or ds i 0 - 48)) (drop (suc i) ds))
