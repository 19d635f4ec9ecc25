-- The order of rows is total.
use Rattle.std.proofs.Common.{◌≡◌, refl, Bool, true, false, List, [], ◌∷◌}
use Rattle.std.specs.Cmp.{IsTotalOrder, IsStrictWeakOrder, then_total, on_total, back_total}
use Rattle.std.proofs.lemmas.List.Sorted.{ranks_by}
use Rattle.page_base.specs.declared.column.Column.{Column}
use Rattle.page_base.proofs.Ordered.{value_cmp_total}
use Rattle.plain_model.specs.declared.stmt.OrderItem.{OrderItem}
use Rattle.plain_model.specs.Cells.{cell}
use Rattle.plain_model.specs.Sorting.{directed, row_cmp, is_before}

directed_total : (down : Bool) → IsTotalOrder (directed down)
directed_total false = value_cmp_total
directed_total true = back_total value_cmp_total

pub row_cmp_total : (cols : List Column) (items : List OrderItem) → IsTotalOrder (row_cmp cols items)
row_cmp_total cols [] = record { antisymm = λ x y. refl; trans = λ x y z p q. p; congr = λ x y z p. refl }
row_cmp_total cols (item ∷ items) = then_total (on_total (λ row. cell cols row item.col) (directed_total item.down)) (row_cmp_total cols items)

-- standing before another row is an order in which rows may tie
pub is_before_ranks : (cols : List Column) (items : List OrderItem) → IsStrictWeakOrder (is_before cols items)
is_before_ranks cols items = ranks_by (row_cmp_total cols items) (λ row. row)
