-- The rows of a leaf by their keys, in slot order and in key order, with one row put.
use Rattle.std.proofs.Common.{◌≡◌, ◌||◌, Bool, true, false, cond, List, [], ◌∷◌, ◌++◌, refl, ap, sym, ◌∙◌, subst, append_assoc}
use Rattle.std.specs.Prelude.{None, Some}
use Rattle.std.specs.FinMap as finite
use Rattle.std.specs.Ordering.{is_le}
use Rattle.page_base.specs.declared.column.Column.{Column}
use Rattle.page_base.specs.declared.value.Value.{Value}
use Rattle.page_base.specs.Order.{key_cmp}
use Rattle.plain_model.specs.Tables.{Rows, key_of}
use Rattle.table_walk.specs.Leaves.{Leaf, rows_in, ByKeys, holds, changed, added}
use Rattle.table_walk.proofs.LeafLemmas.{is_there, is_there-append, OneOf, out, inn, lacks, put_put, holds_is, Found, found, Added, added_is}
use Rattle.tree_laws.specs.Keys.{Key}
use Rattle.tree_laws.specs.Puts.{placed_row, rows_in_order, with_row}

abbrev Rs : Type 0
Rs = List (List Value)

-- a row that took its place
record PlacedAt (cols : List Column) (row : List Value) (rs : Rs) : Type 0 where
  front : Rs
  back : Rs
  are : rs ≡ front ++ back
  placed : placed_row cols row rs ≡ front ++ row ∷ back

placed_at : (cols : List Column) (row : List Value) (rs : Rs) → PlacedAt cols row rs
placed_at cols row [] = record { front = []; back = []; are = refl; placed = refl }
placed_at cols row (r ∷ rs) = by (is_le (key_cmp (key_of cols row) (key_of cols r))) refl (placed_at cols row rs)
  where
    by : (b : Bool) → is_le (key_cmp (key_of cols row) (key_of cols r)) ≡ b → PlacedAt cols row rs → PlacedAt cols row (r ∷ rs)
    by true e rec = record { front = []; back = r ∷ rs; are = refl; placed = ap (λ (b : Bool). cond b (row ∷ r ∷ rs) (r ∷ placed_row cols row rs)) e }
    by false e rec = record { front = r ∷ rec.front; back = rec.back; are = ap (λ (l : Rs). r ∷ l) rec.are; placed = ap (λ (b : Bool). cond b (row ∷ r ∷ rs) (r ∷ placed_row cols row rs)) e ∙ ap (λ (l : Rs). r ∷ l) rec.placed }

-- one row further back, and further on
moved : (cols : List Column) (cs : Rs) (r : List Value) (xs ys : Rs) (m : Rows) → ByKeys cols (cs ++ r ∷ (xs ++ ys)) m → ByKeys cols (cs ++ (xs ++ r ∷ ys)) m
moved cols cs r xs ys m a =
    let o : OneOf cols cs r (xs ++ ys) m = out cols cs r (xs ++ ys) m a in
    subst (ByKeys cols (cs ++ (xs ++ r ∷ ys))) (sym o.all)
    (subst (λ (l : Rs). ByKeys cols l (finite.insert o.rest (key_of cols r) r)) (append_assoc cs xs (r ∷ ys))
    (inn cols (cs ++ xs) r ys o.rest (subst (λ (l : Rs). ByKeys cols l o.rest) (sym (append_assoc cs xs ys)) o.others) o.new))

moved_back : (cols : List Column) (cs : Rs) (r : List Value) (xs ys : Rs) (m : Rows) → ByKeys cols (cs ++ (xs ++ r ∷ ys)) m → ByKeys cols (cs ++ r ∷ (xs ++ ys)) m
moved_back cols cs r xs ys m a =
    let o : OneOf cols (cs ++ xs) r ys m = out cols (cs ++ xs) r ys m (subst (λ (l : Rs). ByKeys cols l m) (sym (append_assoc cs xs (r ∷ ys))) a) in
    subst (ByKeys cols (cs ++ r ∷ (xs ++ ys))) (sym o.all)
    (inn cols cs r (xs ++ ys) o.rest (subst (λ (l : Rs). ByKeys cols l o.rest) (append_assoc cs xs ys) o.others) o.new)

pub to_sorted : (cols : List Column) (leaf : Leaf) (cs ds : Rs) (m : Rows) → ByKeys cols (cs ++ (rows_in leaf ++ ds)) m → ByKeys cols (cs ++ (rows_in_order cols leaf ++ ds)) m
to_sorted cols [] cs ds m a = a
to_sorted cols (None ∷ xs) cs ds m a = to_sorted cols xs cs ds m a
to_sorted cols (Some r ∷ xs) cs ds m a =
    let p : PlacedAt cols r (rows_in_order cols xs) = placed_at cols r (rows_in_order cols xs) in
    let rest : ByKeys cols ((cs ++ r ∷ []) ++ (rows_in_order cols xs ++ ds)) m = to_sorted cols xs (cs ++ r ∷ []) ds m (subst (λ (l : Rs). ByKeys cols l m) (sym (append_assoc cs (r ∷ []) (rows_in xs ++ ds))) a) in
    let there : ByKeys cols (cs ++ r ∷ (p.front ++ (p.back ++ ds))) m =
    subst (λ (l : Rs). ByKeys cols l m) (append_assoc cs (r ∷ []) (rows_in_order cols xs ++ ds) ∙ ap (λ (l : Rs). cs ++ r ∷ l) (ap (λ (l : Rs). l ++ ds) p.are ∙ append_assoc p.front p.back ds)) rest in
    subst (λ (l : Rs). ByKeys cols l m) (ap (λ (l : Rs). cs ++ l) (sym (ap (λ (l : Rs). l ++ ds) p.placed ∙ append_assoc p.front (r ∷ p.back) ds))) (moved cols cs r p.front (p.back ++ ds) m there)

pub from_sorted : (cols : List Column) (leaf : Leaf) (cs ds : Rs) (m : Rows) → ByKeys cols (cs ++ (rows_in_order cols leaf ++ ds)) m → ByKeys cols (cs ++ (rows_in leaf ++ ds)) m
from_sorted cols [] cs ds m a = a
from_sorted cols (None ∷ xs) cs ds m a = from_sorted cols xs cs ds m a
from_sorted cols (Some r ∷ xs) cs ds m a =
    let p : PlacedAt cols r (rows_in_order cols xs) = placed_at cols r (rows_in_order cols xs) in
    let there : ByKeys cols (cs ++ (p.front ++ r ∷ (p.back ++ ds))) m = subst (λ (l : Rs). ByKeys cols l m) (ap (λ (l : Rs). cs ++ l) (ap (λ (l : Rs). l ++ ds) p.placed ∙ append_assoc p.front (r ∷ p.back) ds)) a in
    let front : ByKeys cols (cs ++ r ∷ (rows_in_order cols xs ++ ds)) m =
    subst (λ (l : Rs). ByKeys cols (cs ++ r ∷ l) m) (sym (ap (λ (l : Rs). l ++ ds) p.are ∙ append_assoc p.front p.back ds)) (moved_back cols cs r p.front (p.back ++ ds) m there) in
    subst (λ (l : Rs). ByKeys cols l m) (append_assoc cs (r ∷ []) (rows_in xs ++ ds)) (from_sorted cols xs (cs ++ r ∷ []) ds m (subst (λ (l : Rs). ByKeys cols l m) (sym (append_assoc cs (r ∷ []) (rows_in_order cols xs ++ ds))) front))

pub no_more : (cols : List Column) (k : Key) (xs ys : Rs) → is_there cols k xs ≡ false → is_there cols k ys ≡ false → is_there cols k (xs ++ ys) ≡ false
no_more cols k xs ys e f = is_there-append cols k xs ys ∙ (λ i. e i || f i)

pub around : (cs front back ds : Rs) (r : List Value) → cs ++ ((front ++ r ∷ back) ++ ds) ≡ (cs ++ front) ++ r ∷ (back ++ ds)
around cs front back ds r = ap (λ (l : Rs). cs ++ l) (append_assoc front (r ∷ back) ds) ∙ sym (append_assoc cs front (r ∷ (back ++ ds)))

pub behind : (cols : List Column) (xs ys : Rs) (m : Rows) → ByKeys cols (xs ++ ys) m → (rest : Rows) × ByKeys cols ys rest
behind cols [] ys m a = (m, a)
behind cols (x ∷ xs) ys m a = behind cols xs ys a.0 a.1

-- the row is put among rows of other keys
pub with_row_by_keys : (cols : List Column) (row : List Value) (leaf : Leaf) (cs ds : Rs) (m : Rows) → ByKeys cols (cs ++ (rows_in leaf ++ ds)) m → is_there cols (key_of cols row) cs ≡ false → is_there cols (key_of cols row) ds ≡ false
    → ByKeys cols (cs ++ (rows_in (with_row cols row leaf) ++ ds)) (finite.insert m (key_of cols row) row)
with_row_by_keys cols row leaf cs ds m a no_cs no_ds = by (holds cols (key_of cols row) leaf) refl
  where
    by : (b : Bool) → holds cols (key_of cols row) leaf ≡ b → ByKeys cols (cs ++ (rows_in (cond b (changed cols (key_of cols row) (Some row) leaf) (added row leaf)) ++ ds)) (finite.insert m (key_of cols row) row)
    by true e =
        let k : Key = key_of cols row in
        let part = behind cols cs (rows_in leaf ++ ds) m a in
        let f : Found cols (key_of cols row) leaf = found cols (key_of cols row) leaf ds part.0 part.1 (sym (holds_is cols (key_of cols row) leaf) ∙ e) in
        let o : OneOf cols (cs ++ f.front) f.row (f.back ++ ds) m = out cols (cs ++ f.front) f.row (f.back ++ ds) m (subst (λ (l : Rs). ByKeys cols l m) (ap (λ (l : Rs). cs ++ (l ++ ds)) f.is ∙ around cs f.front f.back ds f.row) a) in
        let new : finite.get o.rest (key_of cols row) ≡ None = ap (finite.get o.rest) (sym f.key) ∙ o.new in
        let map_is : finite.insert o.rest (key_of cols row) row ≡ finite.insert m (key_of cols row) row =
        sym (ap (λ (t : Rows). finite.insert t (key_of cols row) row) (o.all ∙ ap (λ (q : Key). finite.insert o.rest q f.row) f.key) ∙ put_put o.rest (key_of cols row) f.row row) in
        subst (λ (l : Rs). ByKeys cols l (finite.insert m (key_of cols row) row)) (sym (ap (λ (l : Rs). cs ++ (l ++ ds)) (f.swap row) ∙ around cs f.front f.back ds row))
        (subst (ByKeys cols ((cs ++ f.front) ++ row ∷ (f.back ++ ds))) map_is (inn cols (cs ++ f.front) row (f.back ++ ds) o.rest o.others new))
    by false e =
        let d : Added row leaf = added_is row leaf in
        let none : finite.get m (key_of cols row) ≡ None =
        lacks cols (cs ++ (rows_in leaf ++ ds)) m (key_of cols row) a (no_more cols (key_of cols row) cs (rows_in leaf ++ ds) no_cs (no_more cols (key_of cols row) (rows_in leaf) ds (sym (holds_is cols (key_of cols row) leaf) ∙ e) no_ds)) in
        let spread : cs ++ (rows_in leaf ++ ds) ≡ (cs ++ d.front) ++ (d.back ++ ds) = ap (λ (l : Rs). cs ++ (l ++ ds)) d.is ∙ ap (λ (l : Rs). cs ++ l) (append_assoc d.front d.back ds) ∙ sym (append_assoc cs d.front (d.back ++ ds)) in
        subst (λ (l : Rs). ByKeys cols l (finite.insert m (key_of cols row) row)) (sym (ap (λ (l : Rs). cs ++ (l ++ ds)) d.made ∙ around cs d.front d.back ds row))
        (inn cols (cs ++ d.front) row (d.back ++ ds) m (subst (λ (l : Rs). ByKeys cols l m) spread a) none)
