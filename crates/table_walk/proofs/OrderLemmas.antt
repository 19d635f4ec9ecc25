-- Only equal values and keys tie.
use Rattle.std.proofs.Common.{◌≡◌, refl, ap}
use Rattle.std.specs.Ordering.{int_cmp, ordering_then}
use Rattle.std.specs.FinMap.{IsAntisymmetric, nat_cmp-IsAntisymmetric, int_cmp-IsAntisymmetric, slice_cmp-IsAntisymmetric}
use Rattle.std.specs.declared.cmp.Ordering.{Ordering}
use Rattle.std.specs.declared.cmp.Ordering.TheVariants.{Less, Equal, Greater}
use Rattle.page_base.specs.declared.value.Value.TheVariants.{Null, Int, Big, Text}
use Rattle.page_base.specs.Order.{value_cmp, key_cmp}

then_equal : (r : Ordering) → ordering_then r Equal ≡ Equal → r ≡ Equal
then_equal Less e = cc
then_equal Equal e = refl
then_equal Greater e = cc

value_cmp-exact : IsAntisymmetric value_cmp
value_cmp-exact Null Null e = refl
value_cmp-exact Null (Int b) e = cc
value_cmp-exact Null (Big b) e = cc
value_cmp-exact Null (Text b) e = cc
value_cmp-exact (Int a) Null e = cc
value_cmp-exact (Int a) (Int b) e = ap Int (int_cmp-IsAntisymmetric a b (then_equal (int_cmp a b) e))
value_cmp-exact (Int a) (Big b) e = cc
value_cmp-exact (Int a) (Text b) e = cc
value_cmp-exact (Big a) Null e = cc
value_cmp-exact (Big a) (Int b) e = cc
value_cmp-exact (Big a) (Big b) e = ap Big (int_cmp-IsAntisymmetric a b (then_equal (int_cmp a b) e))
value_cmp-exact (Big a) (Text b) e = cc
value_cmp-exact (Text a) Null e = cc
value_cmp-exact (Text a) (Int b) e = cc
value_cmp-exact (Text a) (Big b) e = cc
value_cmp-exact (Text a) (Text b) e = ap Text (slice_cmp-IsAntisymmetric nat_cmp-IsAntisymmetric a b e)

-- only equal keys tie
pub keys_exact : IsAntisymmetric key_cmp
keys_exact = slice_cmp-IsAntisymmetric value_cmp-exact
