-- The names of table 0's columns are names.
use Rattle.std.proofs.Common.{[], ◌∷◌, refl}
use Rattle.page_base.specs.Name.{IsLowName}
use Rattle.byte_fields.proofs.LowNames.{IsLowName-true}

pub record AreNames : Type 0 where
  pub name : IsLowName (110 ∷ 97 ∷ 109 ∷ 101 ∷ [])
  pub ord : IsLowName (111 ∷ 114 ∷ 100 ∷ [])
  pub text : IsLowName (116 ∷ 101 ∷ 120 ∷ 116 ∷ [])
  pub a : IsLowName (97 ∷ [])
  pub b : IsLowName (98 ∷ [])
  pub c : IsLowName (99 ∷ [])

pub names : AreNames
names = record {
  name = IsLowName-true _ refl;
  ord = IsLowName-true _ refl;
  text = IsLowName-true _ refl;
  a = IsLowName-true _ refl;
  b = IsLowName-true _ refl;
  c = IsLowName-true _ refl;
}
