-- The sizes of rows and keys are the lengths of their bytes.
use Rattle.std.proofs.Common.{◌≡◌, ℕ, ◌+◌, ◌/◌, List, [], ◌∷◌, length, refl, ap, ◌∙◌, arith}
use Rattle.std.specs.List.{concat}
use Rattle.page_base.specs.declared.value.Value.{Value}
use Rattle.page_base.specs.declared.value.Value.TheVariants.{Null, Int, Big, Text}
use Rattle.row_fmt.specs.Rows.{value_field, row_bytes, null_bytes}
use Rattle.row_fmt.proofs.SizeLemmas.{int_size, big_size, text_size, values_size, values_size-cons, row_size}
use Rattle.plain_model.specs.Sizes.{size_of_value, size_of_values, size_of_row}

pub value_sized : (v : Value) → length (concat (value_field v)) ≡ size_of_value v
value_sized Null = refl
value_sized (Int n) = int_size n
value_sized (Big n) = big_size n
value_sized (Text bytes) = text_size bytes

pub values_sized : (row : List Value) → values_size row ≡ size_of_values row
values_sized [] = refl
values_sized (v ∷ row) = values_size-cons v row ∙ (λ t. value_sized v t + values_sized row t)

pub row_sized : (row : List Value) → length (row_bytes row) ≡ size_of_row row
row_sized row = row_size row ∙ ap (λ (n : ℕ). null_bytes (length row) + n) (values_sized row)
