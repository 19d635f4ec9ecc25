-- A name of a file is its own last part.
use Rattle.std.proofs.Common.{◌≡◌, ℕ, true, false, cond, List, [], ◌∷◌, refl, ap, arith}
use Rattle.std.specs.List.{list_any}
use Rattle.std.proofs.lemmas.Bool.Decides.{nat_tests}
use Rattle.std.proofs.lemmas.List.Elements.{All-weaker}
use Rattle.std.proofs.lemmas.List.Folds.{list_any_none}
use Rattle.page_base.specs.FileName.{IsFileName, is_file_name_byte, is_separator, last_part}

no_separator : (b : ℕ) → is_file_name_byte b ≡ true → is_separator b ≡ false
no_separator b h = grind (arith, nat_tests)

last_part-none : (bs : List ℕ) → list_any is_separator bs ≡ false → last_part bs ≡ bs
last_part-none [] h = refl
last_part-none (b ∷ bs) h = ap (λ c. cond c (last_part bs) (b ∷ bs)) h

pub last_part-IsFileName : (bs : List ℕ) → IsFileName bs → last_part bs ≡ bs
last_part-IsFileName bs name =
    last_part-none bs (list_any_none is_separator bs (All-weaker (λ c. is_file_name_byte c ≡ true) (λ c. is_separator c ≡ false) no_separator bs name.each))
