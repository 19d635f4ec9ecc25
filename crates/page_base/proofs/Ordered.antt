-- The order of values and keys is total, and only equal ones tie.
use Rattle.std.proofs.Common.{◌≡◌, refl, ap, List}
use Rattle.std.specs.Cmp.{IsTotalOrder, then_total, on_total, nat_cmp_total, int_cmp_total}
use Rattle.std.specs.Cmp.Lexicographic.{lists_total, nat_list_cmp_total, on_texts}
use Rattle.std.specs.FinMap.{IsAntisymmetric, int_cmp-IsAntisymmetric, nat_cmp-IsAntisymmetric, slice_cmp-IsAntisymmetric}
use Rattle.std.specs.declared.cmp.Ordering.TheVariants.{Less, Equal, Greater}
use Rattle.page_base.specs.declared.value.Value.{Value}
use Rattle.page_base.specs.declared.value.Value.TheVariants.{Null, Int, Big, Text}
use Rattle.page_base.specs.Order.{rank, number_of, text_of, value_cmp, key_cmp}

pub value_cmp_total : IsTotalOrder value_cmp
value_cmp_total = then_total (on_total rank nat_cmp_total) (then_total (on_total number_of int_cmp_total) (on_texts text_of))

pub key_cmp_total : IsTotalOrder key_cmp
key_cmp_total = lists_total value_cmp_total
