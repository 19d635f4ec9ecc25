-- A set of std with one more key.
use Rattle.std.proofs.Common.{◌≡◌, Bool, true, false, ◌||◌, cond, List, ◌∷◌, refl, ap, ◌∙◌}
use Rattle.std.specs.BTreeSet.{BTreeSet, Updates}
use Rattle.std.specs.Cmp.{eq_by_cmp_equiv}
use Rattle.std.specs.Ordering.{is_eq}
use Rattle.page_base.proofs.Ordered.{key_cmp_total}
use Rattle.page_base.specs.declared.value.Value.{Value}
use Rattle.page_base.specs.Order.{key_cmp}
use Rattle.plain_model.specs.Inserting.{is_among}
use Rattle.stmt_eval.specs.Keys.{HasKeys}

either : (b c : Bool) → cond b true c ≡ (b || c)
either true c = refl
either false c = refl

pub keys_more : (old new : BTreeSet (List Value)) (key : List Value) (others : List (List Value)) → Updates key_cmp old new key true → HasKeys old others → HasKeys new (key ∷ others)
keys_more old new key others u h = record {
  at = λ q. u.0 q
      ∙ ap (λ (c : Bool). cond (is_eq (key_cmp key q)) true c) (h.at q)
      ∙ either (is_eq (key_cmp key q)) (is_among others q)
      ∙ ap (λ (b : Bool). b || is_among others q) ((eq_by_cmp_equiv key_cmp_total).symm key q);
}
