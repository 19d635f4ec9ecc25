-- Why an overflow in a part is one of the whole.
use Rattle.std.proofs.Common.{◌≡◌, ◌⊎◌, List, ap, inl, inr, sym, ◌∙◌, refl}
use Rattle.std.specs.Prelude.{Option, Some, None, option_map, option_and_then}
use Rattle.plain_model.specs.Tree.{Tree, Entries}
use Rattle.plain_model.specs.Tree as tree
use Rattle.plain_model.specs.declared.expr.CompareOp.{CompareOp}
use Rattle.plain_model.specs.declared.expr.CompareOp.TheVariants.{Eq, Le, Ge}
use Rattle.page_base.specs.declared.column.Column.{Column}
use Rattle.page_base.specs.declared.value.Value.{Value}
use Rattle.sql_eval.specs.Laws.{IsEntry, IsValuePart, IsTruthPart, Overflows}
use Rattle.plain_model.specs.Numbers.{math}
use Rattle.plain_model.specs.Truths.{truth_of, comparison, among}
use Rattle.plain_model.specs.Values.{value_of, both}

-- of two, the first is an overflow
pub both-left : {A B C : Type 0} (f : A → B → Option C) (a : Option A) (b : Option B) → a ≡ None → both f a b ≡ None
both-left {A = A} f a b e = ap (λ (o : Option A). both f o b) e

-- of two, the second is an overflow
pub both-right : {A B C : Type 0} (f : A → B → Option C) (a : Option A) (b : Option B) → b ≡ None → both f a b ≡ None
both-right f None b e = refl
both-right {B = B} f (Some x) b e = ap (λ (o : Option B). option_and_then (f x) o) e

-- of two, one is an overflow
pub both-one : {A B C : Type 0} (f : A → B → Option C) (a : Option A) (b : Option B) → (a ≡ None) ⊎ (b ≡ None) → both f a b ≡ None
both-one f a b (inl e) = both-left f a b e
both-one f a b (inr e) = both-right f a b e

-- the value of what equals an overflowing part
pub same_value : (cols : List Column) (row : List Value) (p e : Tree) → value_of cols row p ≡ None → p ≡ e → value_of cols row e ≡ None
same_value cols row p e over same = ap (value_of cols row) (sym same) ∙ over

pub same_truth : (cols : List Column) (row : List Value) (p e : Tree) → truth_of cols row p ≡ None → p ≡ e → truth_of cols row e ≡ None
same_truth cols row p e over same = ap (truth_of cols row) (sym same) ∙ over

-- one of two values
pub one_value : (cols : List Column) (row : List Value) (p a b : Tree) → value_of cols row p ≡ None → (p ≡ a) ⊎ (p ≡ b) → (value_of cols row a ≡ None) ⊎ (value_of cols row b ≡ None)
one_value cols row p a b over (inl e) = inl (same_value cols row p a over e)
one_value cols row p a b over (inr e) = inr (same_value cols row p b over e)

-- one of two truths
pub one_truth : (cols : List Column) (row : List Value) (p a b : Tree) → truth_of cols row p ≡ None → (p ≡ a) ⊎ (p ≡ b) → (truth_of cols row a ≡ None) ⊎ (truth_of cols row b ≡ None)
one_truth cols row p a b over (inl e) = inl (same_truth cols row p a over e)
one_truth cols row p a b over (inr e) = inr (same_truth cols row p b over e)

pub comparison-one : (cols : List Column) (row : List Value) (op : CompareOp) (a b : Tree) → (value_of cols row a ≡ None) ⊎ (value_of cols row b ≡ None) → comparison cols row op a b ≡ None
comparison-one cols row op a b over = both-one _ (value_of cols row a) (value_of cols row b) over

-- the value before an IN
pub among-left : (cols : List Column) (row : List Value) (x : Tree) (es : Entries) → value_of cols row x ≡ None → among cols row x es ≡ None
among-left cols row x (tree.Last e) over = comparison-one cols row Eq x e (inl over)
among-left cols row x (tree.More e rest) over =
    both-left _ (comparison cols row Eq x e) (among cols row x rest) (comparison-one cols row Eq x e (inl over))

-- an entry of its list
pub among-entry : (cols : List Column) (row : List Value) (x p : Tree) (es : Entries) → value_of cols row p ≡ None → IsEntry p es → among cols row x es ≡ None
among-entry cols row x p (tree.Last e) over same = comparison-one cols row Eq x e (inr (same_value cols row p e over same))
among-entry cols row x p (tree.More e rest) over (inl same) =
    both-left _ (comparison cols row Eq x e) (among cols row x rest) (comparison-one cols row Eq x e (inr (same_value cols row p e over same)))
among-entry cols row x p (tree.More e rest) over (inr behind) =
    both-right _ (comparison cols row Eq x e) (among cols row x rest) (among-entry cols row x p rest over behind)

-- a part whose value is an overflow
pub value_overflows : (cols : List Column) (row : List Value) (p t : Tree) → IsValuePart p t → value_of cols row p ≡ None → Overflows cols row t
value_overflows cols row p tree.Null is over = absurd is
value_overflows cols row p (tree.Number n) is over = absurd is
value_overflows cols row p (tree.Text bytes) is over = absurd is
value_overflows cols row p (tree.Col name) is over = absurd is
value_overflows cols row p (tree.Neg e) is over = inl (ap (option_and_then _) (same_value cols row p e over is))
value_overflows cols row p (tree.Math op a b) is over =
    inl (both-one (math op) (value_of cols row a) (value_of cols row b) (one_value cols row p a b over is))
value_overflows cols row p (tree.Compare op a b) is over = inr (comparison-one cols row op a b (one_value cols row p a b over is))
value_overflows cols row p (tree.IsNull e) is over = inr (ap (option_map _) (same_value cols row p e over is))
value_overflows cols row p (tree.Between x a b) (inl same) over =
    inr (both-left _ (comparison cols row Ge x a) (comparison cols row Le x b) (comparison-one cols row Ge x a (inl (same_value cols row p x over same))))
value_overflows cols row p (tree.Between x a b) (inr (inl same)) over =
    inr (both-left _ (comparison cols row Ge x a) (comparison cols row Le x b) (comparison-one cols row Ge x a (inr (same_value cols row p a over same))))
value_overflows cols row p (tree.Between x a b) (inr (inr same)) over =
    inr (both-right _ (comparison cols row Ge x a) (comparison cols row Le x b) (comparison-one cols row Le x b (inr (same_value cols row p b over same))))
value_overflows cols row p (tree.In x es) (inl same) over = inr (among-left cols row x es (same_value cols row p x over same))
value_overflows cols row p (tree.In x es) (inr entry) over = inr (among-entry cols row x p es over entry)
value_overflows cols row p (tree.Not e) is over = absurd is
value_overflows cols row p (tree.And a b) is over = absurd is
value_overflows cols row p (tree.Or a b) is over = absurd is

-- a part whose truth is an overflow
pub truth_overflows : (cols : List Column) (row : List Value) (p t : Tree) → IsTruthPart p t → truth_of cols row p ≡ None → Overflows cols row t
truth_overflows cols row p tree.Null is over = absurd is
truth_overflows cols row p (tree.Number n) is over = absurd is
truth_overflows cols row p (tree.Text bytes) is over = absurd is
truth_overflows cols row p (tree.Col name) is over = absurd is
truth_overflows cols row p (tree.Neg e) is over = absurd is
truth_overflows cols row p (tree.Math op a b) is over = absurd is
truth_overflows cols row p (tree.Compare op a b) is over = absurd is
truth_overflows cols row p (tree.IsNull e) is over = absurd is
truth_overflows cols row p (tree.Between x a b) is over = absurd is
truth_overflows cols row p (tree.In x es) is over = absurd is
truth_overflows cols row p (tree.Not e) is over = inr (ap (option_map _) (same_truth cols row p e over is))
truth_overflows cols row p (tree.And a b) is over = inr (both-one _ (truth_of cols row a) (truth_of cols row b) (one_truth cols row p a b over is))
truth_overflows cols row p (tree.Or a b) is over = inr (both-one _ (truth_of cols row a) (truth_of cols row b) (one_truth cols row p a b over is))
