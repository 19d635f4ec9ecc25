-- The rows of leaves after keys were cut and rows put.
pub use Rattle.table_walk.proofs.LeafLemmas.{is_there, is_there-append, OneOf, out, inn, lacks, not_there, remove_none, remove_put, put_put, put_cut, rows_in-append, rows_in-before, rows_in-cons, rows_in-trimmed, holds_is, changed_none, Found, found, Added, added_is}
use Rattle.std.proofs.Common.{◌≡◌, Bool, true, false, cond, ◌||◌, List, [], ◌∷◌, ◌++◌, refl, ap, sym, ◌∙◌, subst, append_assoc}
use Rattle.std.specs.Prelude.{Option, Some, None}
use Rattle.std.specs.FinMap as finite
use Rattle.page_base.specs.declared.column.Column.{Column}
use Rattle.plain_model.specs.Tables.{Rows, key_of}
use Rattle.table_walk.specs.Plans.{cut_all, put_all}
use Rattle.table_walk.proofs.RowsLemmas.{Key, same_key, rows_same, get_put, get_cut, get_none, itself, turned, ties, insert_swap, none_apart, none_other}
use Rattle.table_heap.specs.Leaves.{ByKeys, Leaf, rows_in, all_rows, holds, before, trimmed, changed, cut, has_room, swap, added, add, put, cut_keys, put_rows, fits}

-- ALL LEAVES

behind : (cols : List Column) (xs ys : List Key) (m : Rows) → ByKeys cols (xs ++ ys) m → (rest : Rows) × ByKeys cols ys rest
behind cols [] ys m a = (m, a)
behind cols (x ∷ xs) ys m a = behind cols xs ys a.0 a.1

no_more : (cols : List Column) (k : Key) (xs ys : List Key) → is_there cols k xs ≡ false → is_there cols k ys ≡ false → is_there cols k (xs ++ ys) ≡ false
no_more cols k xs ys e f = is_there-append cols k xs ys ∙ (λ i. e i || f i)

-- rows in front of one, and behind it
around : (xs front back rest : List Key) (r : Key) → xs ++ ((front ++ r ∷ back) ++ rest) ≡ (xs ++ front) ++ r ∷ (back ++ rest)
around xs front back rest r = ap (λ rs. xs ++ rs) (append_assoc front (r ∷ back) rest) ∙ sym (append_assoc xs front (r ∷ (back ++ rest)))

without_it : (xs front back rest : List Key) → (xs ++ front) ++ (back ++ rest) ≡ xs ++ ((front ++ back) ++ rest)
without_it xs front back rest = append_assoc xs front (back ++ rest) ∙ ap (λ rs. xs ++ rs) (sym (append_assoc front back rest))

cut_from : (cols : List Column) (k : Key) (xs : List Key) (leaves : List Leaf) (m : Rows) → is_there cols k xs ≡ false → ByKeys cols (xs ++ all_rows leaves) m → ByKeys cols (xs ++ all_rows (cut cols k leaves)) (finite.remove m k)
cut_from cols k xs [] m none a =
    let e : is_there cols k (xs ++ []) ≡ false = no_more cols k xs [] none refl in
    subst (ByKeys cols (xs ++ [])) (sym (remove_none m k (lacks cols (xs ++ []) m k a e))) a
cut_from cols k xs (leaf ∷ leaves) m none a = by (holds cols k leaf) refl (λ e. cut_from cols k (xs ++ rows_in leaf) leaves m e (subst (λ rs. ByKeys cols rs m) (sym (append_assoc xs (rows_in leaf) (all_rows leaves))) a))
  where
    by : (b : Bool) → holds cols k leaf ≡ b → (is_there cols k (xs ++ rows_in leaf) ≡ false → ByKeys cols ((xs ++ rows_in leaf) ++ all_rows (cut cols k leaves)) (finite.remove m k))
        → ByKeys cols (xs ++ all_rows (cond b (trimmed (changed cols k None leaf) ∷ leaves) (leaf ∷ cut cols k leaves))) (finite.remove m k)
    by true e later =
        let part = behind cols xs (rows_in leaf ++ all_rows leaves) m a in
        let f : Found cols k leaf = found cols k leaf (all_rows leaves) part.0 part.1 (sym (holds_is cols k leaf) ∙ e) in
        let o : OneOf cols (xs ++ f.front) f.row (f.back ++ all_rows leaves) m =
        out cols (xs ++ f.front) f.row (f.back ++ all_rows leaves) m (subst (λ rs. ByKeys cols rs m) (ap (λ rs. xs ++ (rs ++ all_rows leaves)) f.is ∙ around xs f.front f.back (all_rows leaves) f.row) a) in
        let map_is : o.rest ≡ finite.remove m k =
        sym (ap (λ (t : Rows). finite.remove t k) (o.all ∙ ap (λ (q : Key). finite.insert o.rest q f.row) f.key) ∙ remove_put o.rest k f.row (ap (finite.get o.rest) (sym f.key) ∙ o.new)) in
        subst (λ rs. ByKeys cols rs (finite.remove m k)) (without_it xs f.front f.back (all_rows leaves) ∙ ap (λ rs. xs ++ (rs ++ all_rows leaves)) (sym (rows_in-trimmed (changed cols k None leaf) ∙ f.cut)))
        (subst (ByKeys cols ((xs ++ f.front) ++ (f.back ++ all_rows leaves))) map_is o.others)
    by false e later = subst (λ rs. ByKeys cols rs (finite.remove m k)) (append_assoc xs (rows_in leaf) (all_rows (cut cols k leaves))) (later (no_more cols k xs (rows_in leaf) none (sym (holds_is cols k leaf) ∙ e)))

swap_from : (cols : List Column) (k row : Key) (xs : List Key) (leaves : List Leaf) (m : Rows) → key_of cols row ≡ k → has_room cols k row leaves ≡ true → ByKeys cols (xs ++ all_rows leaves) m → ByKeys cols (xs ++ all_rows (swap cols k row leaves)) (finite.insert m k row)
swap_from cols k row xs [] m key room a = absurd (let wrong : false ≡ true = room in cc)
swap_from cols k row xs (leaf ∷ leaves) m key room a = by (holds cols k leaf) refl room (λ e. swap_from cols k row (xs ++ rows_in leaf) leaves m key e (subst (λ rs. ByKeys cols rs m) (sym (append_assoc xs (rows_in leaf) (all_rows leaves))) a))
  where
    by : (b : Bool) → holds cols k leaf ≡ b → cond b (fits (changed cols k (Some row) leaf)) (has_room cols k row leaves) ≡ true → (has_room cols k row leaves ≡ true → ByKeys cols ((xs ++ rows_in leaf) ++ all_rows (swap cols k row leaves)) (finite.insert m k row))
        → ByKeys cols (xs ++ all_rows (cond b (changed cols k (Some row) leaf ∷ leaves) (leaf ∷ swap cols k row leaves))) (finite.insert m k row)
    by true e r later =
        let part = behind cols xs (rows_in leaf ++ all_rows leaves) m a in
        let f : Found cols k leaf = found cols k leaf (all_rows leaves) part.0 part.1 (sym (holds_is cols k leaf) ∙ e) in
        let o : OneOf cols (xs ++ f.front) f.row (f.back ++ all_rows leaves) m =
        out cols (xs ++ f.front) f.row (f.back ++ all_rows leaves) m (subst (λ rs. ByKeys cols rs m) (ap (λ rs. xs ++ (rs ++ all_rows leaves)) f.is ∙ around xs f.front f.back (all_rows leaves) f.row) a) in
        let new : finite.get o.rest (key_of cols row) ≡ None = ap (finite.get o.rest) (key ∙ sym f.key) ∙ o.new in
        let map_is : finite.insert o.rest (key_of cols row) row ≡ finite.insert m k row =
        ap (λ (q : Key). finite.insert o.rest q row) key ∙ sym (ap (λ (t : Rows). finite.insert t k row) (o.all ∙ ap (λ (q : Key). finite.insert o.rest q f.row) f.key) ∙ put_put o.rest k f.row row) in
        subst (λ rs. ByKeys cols rs (finite.insert m k row)) (sym (ap (λ rs. xs ++ (rs ++ all_rows leaves)) (f.swap row) ∙ around xs f.front f.back (all_rows leaves) row))
        (subst (ByKeys cols ((xs ++ f.front) ++ row ∷ (f.back ++ all_rows leaves))) map_is (inn cols (xs ++ f.front) row (f.back ++ all_rows leaves) o.rest o.others new))
    by false e r later = subst (λ rs. ByKeys cols rs (finite.insert m k row)) (append_assoc xs (rows_in leaf) (all_rows (swap cols k row leaves))) (later r)

add_from : (cols : List Column) (row : Key) (xs : List Key) (leaves : List Leaf) (m : Rows) → finite.get m (key_of cols row) ≡ None → ByKeys cols (xs ++ all_rows leaves) m → ByKeys cols (xs ++ all_rows (add row leaves)) (finite.insert m (key_of cols row) row)
add_from cols row xs [] m none a = inn cols xs row [] m a none
add_from cols row xs (leaf ∷ leaves) m none a = by (fits (added row leaf)) (add_from cols row (xs ++ rows_in leaf) leaves m none (subst (λ rs. ByKeys cols rs m) (sym (append_assoc xs (rows_in leaf) (all_rows leaves))) a))
  where
    by : (b : Bool) → ByKeys cols ((xs ++ rows_in leaf) ++ all_rows (add row leaves)) (finite.insert m (key_of cols row) row) → ByKeys cols (xs ++ all_rows (cond b (added row leaf ∷ leaves) (leaf ∷ add row leaves))) (finite.insert m (key_of cols row) row)
    by true later =
        let d : Added row leaf = added_is row leaf in
        subst (λ rs. ByKeys cols rs (finite.insert m (key_of cols row) row)) (sym (ap (λ rs. xs ++ (rs ++ all_rows leaves)) d.made ∙ around xs d.front d.back (all_rows leaves) row))
        (inn cols (xs ++ d.front) row (d.back ++ all_rows leaves) m (subst (λ rs. ByKeys cols rs m) (ap (λ rs. xs ++ (rs ++ all_rows leaves)) d.is ∙ sym (without_it xs d.front d.back (all_rows leaves))) a) none)
    by false later = subst (λ rs. ByKeys cols rs (finite.insert m (key_of cols row) row)) (append_assoc xs (rows_in leaf) (all_rows (add row leaves))) later

put_leaves : (cols : List Column) (row : Key) (leaves : List Leaf) (m : Rows) → ByKeys cols (all_rows leaves) m → ByKeys cols (all_rows (put cols row leaves)) (finite.insert m (key_of cols row) row)
put_leaves cols row leaves m a = by (has_room cols k row leaves) refl
  where
    k : Key
    k = key_of cols row

    by : (b : Bool) → has_room cols (key_of cols row) row leaves ≡ b → ByKeys cols (all_rows (cond b (swap cols (key_of cols row) row leaves) (add row (cut cols (key_of cols row) leaves)))) (finite.insert m (key_of cols row) row)
    by true e = swap_from cols (key_of cols row) row [] leaves m refl e a
    by false e =
        let none : finite.get (finite.remove m (key_of cols row)) (key_of cols row) ≡ None = get_cut m (key_of cols row) (key_of cols row) ∙ ap (λ b. cond b None (finite.get m (key_of cols row))) (itself (key_of cols row)) in
        subst (ByKeys cols (all_rows (add row (cut cols (key_of cols row) leaves)))) (put_cut m (key_of cols row) row)
        (add_from cols row [] (cut cols (key_of cols row) leaves) (finite.remove m (key_of cols row)) none (cut_from cols (key_of cols row) [] leaves m refl a))

cut_leaves : (cols : List Column) (ks : List Key) (leaves : List Leaf) (m : Rows) → ByKeys cols (all_rows leaves) m → ByKeys cols (all_rows (cut_keys cols ks leaves)) (cut_all ks m)
cut_leaves cols [] leaves m a = a
cut_leaves cols (k ∷ ks) leaves m a = cut_leaves cols ks (cut cols k leaves) (finite.remove m k) (cut_from cols k [] leaves m refl a)

put_all_leaves : (cols : List Column) (rs : List Key) (leaves : List Leaf) (m : Rows) → ByKeys cols (all_rows leaves) m → ByKeys cols (all_rows (put_rows cols rs leaves)) (put_all cols rs m)
put_all_leaves cols [] leaves m a = a
put_all_leaves cols (r ∷ rs) leaves m a = put_all_leaves cols rs (put cols r leaves) (finite.insert m (key_of cols r) r) (put_leaves cols r leaves m a)

-- the rows of the leaves after a plan
pub planned_rows : (cols : List Column) (ks rs : List Key) (leaves : List Leaf) (m : Rows) → ByKeys cols (all_rows leaves) m → ByKeys cols (all_rows (put_rows cols rs (cut_keys cols ks leaves))) (put_all cols rs (cut_all ks m))
planned_rows cols ks rs leaves m a = put_all_leaves cols rs (cut_keys cols ks leaves) (cut_all ks m) (cut_leaves cols ks leaves m a)
