-- Values of a row, read one by one.
use Rattle.std.proofs.Common.{◌≡◌, ℕ, List, [], ◌∷◌, ◌++◌, refl, sym, ap, ◌∙◌, append_assoc}
use Rattle.std.specs.Prelude.{Option, Some, None, option_and_then}
use Rattle.std.specs.Option.{option_map}
use Rattle.page_base.specs.declared.value.Value.{Value}
use Rattle.reply_text.specs.Values.{in_front, value_on, values_on}

map_front : {X : Type 0} (front : List X) (x : X) (o : Option (List X)) → option_map (λ (more : List X). front ++ more) (in_front x o) ≡ option_map (λ (more : List X). (front ++ x ∷ []) ++ more) o
map_front front x None = refl
map_front front x (Some xs) = ap Some (sym (append_assoc front (x ∷ []) xs))

-- one value more was read
pub values_more : (all pieces next : List (List ℕ)) (piece : List ℕ) (row longer : List Value) (value : Value) → values_on all ≡ option_map (λ (more : List Value). row ++ more) (values_on pieces) → pieces ≡ piece ∷ next
    → value_on piece ≡ Some value → longer ≡ row ++ value ∷ [] → values_on all ≡ option_map (λ (more : List Value). longer ++ more) (values_on next)
values_more all pieces next piece row longer value h split read added =
    h ∙ rw (split, read, added) (map_front row value (values_on next))
