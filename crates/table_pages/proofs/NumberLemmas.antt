-- Numbers that were written read back.
use Rattle.std.proofs.Common.{◌≡◌, ℕ, ◌^◌, ◌<◌, List, ◌++◌, length, drop, ap, ◌∙◌, arith}
use Rattle.std.proofs.lemmas.List.{drop_at}
use Rattle.byteorder.specs.Numbers.{little_number-reads_back, length-bytes_low_first}
use Rattle.table_pages.specs.Numbers.{number, number_in}

-- a number in 32 bits
pub number_in-number : (x : ℕ) (rest : List ℕ) → x < 2 ^ 32 → number_in (number x ++ rest) ≡ x
unfolding number number_in
number_in-number x rest lt = little_number-reads_back 4 x rest lt

pub length-number : (x : ℕ) → length (number x) ≡ 4
unfolding number
length-number x = length-bytes_low_first 0 4 x

-- what stands behind a number
pub drop-number : (x : ℕ) (rest : List ℕ) → drop 4 (number x ++ rest) ≡ rest
drop-number x rest = drop_at (number x) rest 4 (length-number x)
