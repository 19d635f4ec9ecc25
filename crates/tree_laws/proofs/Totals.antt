-- How much rows and entries take, in slots and in key order, with others put.
use Rattle.std.proofs.Common.{◌≡◌, ◌≢◌, ◌≤◌, ◌+◌, ◌*◌, ◌||◌, ℕ, Bool, true, false, cond, List, [], ◌∷◌, length, map, refl, ap, ◌∙◌, subst, arith}
use Rattle.std.specs.Prelude.{Option, None, Some}
use Rattle.std.specs.Ordering.{is_le}
use Rattle.page_base.specs.declared.column.Column.{Column}
use Rattle.page_base.specs.declared.value.Value.{Value}
use Rattle.page_base.specs.Order.{key_cmp}
use Rattle.page_fmt.specs.Spelling.{row_bytes as bytes_in}
use Rattle.plain_model.specs.Tables.{key_of}
use Rattle.table_walk.specs.Leaves.{Leaf, cell, rows_in, holds, changed, added}
use Rattle.table_walk.proofs.LeafLemmas.{is_there, changed_none}
use Rattle.table_walk.proofs.RowsLemmas.{same_key, ties}
use Rattle.tree_laws.specs.Keys.{Key}
use Rattle.tree_laws.specs.Kids.{is_upto}
use Rattle.tree_laws.specs.Order.{placed_key}
use Rattle.tree_laws.specs.Order.Mark.{Row}
use Rattle.tree_laws.specs.Parts.{total}
use Rattle.tree_laws.specs.Puts.{placed_row, rows_in_order, row_size, with_row, placed_entry, in_key_order, put_entry, put_entries, entry_size}
use Rattle.tree_laws.specs.Sheets.{Entry, entry_bytes}
use Rattle.tree_laws.proofs.KeyOrder.{below_not, below_not_same, apart}
use Rattle.tree_laws.proofs.LeafOrder.{keys_of}
use Rattle.tree_laws.proofs.Lists.{Each, Precedes, Ascend}

-- ROWS

total_placed : (cols : List Column) (r : List Value) (rs : List (List Value)) → total row_size (placed_row cols r rs) ≡ row_size r + total row_size rs
total_placed cols r [] = refl
total_placed cols r (q ∷ rs) = by (is_le (key_cmp (key_of cols r) (key_of cols q))) (total_placed cols r rs)
  where
    by : (b : Bool) → total row_size (placed_row cols r rs) ≡ row_size r + total row_size rs → total row_size (cond b (r ∷ q ∷ rs) (q ∷ placed_row cols r rs)) ≡ row_size r + (row_size q + total row_size rs)
    by true rec = refl
    by false rec = omega (arith, rec)

pub total_order : (cols : List Column) (leaf : Leaf) → total row_size (rows_in_order cols leaf) ≡ total row_size (rows_in leaf)
total_order cols [] = refl
total_order cols (None ∷ cs) = total_order cols cs
total_order cols (Some r ∷ cs) = total_placed cols r (rows_in_order cols cs) ∙ ap (λ (n : ℕ). row_size r + n) (total_order cols cs)

pub total_leaf : (leaf : Leaf) → total row_size (rows_in leaf) ≤ bytes_in (map cell leaf) + 2 * length (map cell leaf)
total_leaf [] = omega arith
total_leaf (None ∷ cs) = omega (arith, total_leaf cs)
total_leaf (Some r ∷ cs) = omega (arith, total_leaf cs)

total_added : (row : List Value) (leaf : Leaf) → total row_size (rows_in (added row leaf)) ≡ row_size row + total row_size (rows_in leaf)
total_added row [] = refl
total_added row (None ∷ cs) = refl
total_added row (Some r ∷ cs) = omega (arith, total_added row cs)

-- a key among keys that ascend differs from the others
pub ascend_placed : (k : Key) (ks : List Key) → Ascend (map Row (placed_key k ks)) → Each (λ l. l ≢ k) ks × Ascend (map Row ks)
ascend_placed k [] a = (tt, tt)
ascend_placed k (l ∷ ls) a = by (is_le (key_cmp k l)) a (ascend_placed k ls)
  where
    all : (xs : List Key) → Each (Precedes (Row k)) (map Row xs) → Each (λ m. m ≢ k) xs
    all [] h = tt
    all (x ∷ xs) h = (below_not_same k x h.0, all xs h.1)

    parts : (xs : List Key) → Each (Precedes (Row l)) (map Row (placed_key k xs)) → Precedes (Row l) (Row k) × Each (Precedes (Row l)) (map Row xs)
    parts [] h = (h.0, tt)
    parts (x ∷ xs) h = one (is_le (key_cmp k x)) h (parts xs)
      where
        one : (b : Bool) → Each (Precedes (Row l)) (map Row (cond b (k ∷ x ∷ xs) (x ∷ placed_key k xs))) → (Each (Precedes (Row l)) (map Row (placed_key k xs)) → Precedes (Row l) (Row k) × Each (Precedes (Row l)) (map Row xs)) → Precedes (Row l) (Row k) × Each (Precedes (Row l)) (map Row (x ∷ xs))
        one true h rec = (h.0, h.1)
        one false h rec = let r = rec h.1 in (r.0, (h.0, r.1))

    by : (b : Bool) → Ascend (map Row (cond b (k ∷ l ∷ ls) (l ∷ placed_key k ls))) → (Ascend (map Row (placed_key k ls)) → Each (λ m. m ≢ k) ls × Ascend (map Row ls)) → Each (λ m. m ≢ k) (l ∷ ls) × Ascend (map Row (l ∷ ls))
    by true a rec = ((below_not_same k l a.0.0, all ls a.0.1), a.1)
    by false a rec = let p = parts ls a.0 in let r = rec a.1 in ((below_not l k p.0, r.0), (p.1, r.1))

key_parts : (P : Key → Type 0) (k : Key) (ks : List Key) → Each P (placed_key k ks) → P k × Each P ks
key_parts P k [] h = (h.0, tt)
key_parts P k (l ∷ ls) h = by (is_le (key_cmp k l)) h (key_parts P k ls)
  where
    by : (b : Bool) → Each P (cond b (k ∷ l ∷ ls) (l ∷ placed_key k ls)) → (Each P (placed_key k ls) → P k × Each P ls) → P k × Each P (l ∷ ls)
    by true h rec = (h.0, h.1)
    by false h rec = let r = rec h.1 in (r.0, (h.0, r.1))

not_there : (cols : List Column) (k : Key) (leaf : Leaf) → Each (λ l. l ≢ k) (keys_of cols leaf) → is_there cols k (rows_in leaf) ≡ false
not_there cols k [] h = refl
not_there cols k (None ∷ cs) h = not_there cols k cs h
not_there cols k (Some r ∷ cs) h = let p = key_parts (λ l. l ≢ k) (key_of cols r) (keys_of cols cs) h in λ i. apart (key_of cols r) k p.0 i || not_there cols k cs p.1 i

total_changed : (cols : List Column) (row : List Value) (leaf : Leaf) → Ascend (map Row (keys_of cols leaf)) → total row_size (rows_in (changed cols (key_of cols row) (Some row) leaf)) ≤ row_size row + total row_size (rows_in leaf)
total_changed cols row [] a = omega arith
total_changed cols row (None ∷ cs) a = total_changed cols row cs a
total_changed cols row (Some r ∷ cs) a = by (same_key (key_of cols r) (key_of cols row)) refl (total_changed cols row cs p.1)
  where
    p : Each (λ l. l ≢ key_of cols r) (keys_of cols cs) × Ascend (map Row (keys_of cols cs))
    p = ascend_placed (key_of cols r) (keys_of cols cs) a

    by : (b : Bool) → same_key (key_of cols r) (key_of cols row) ≡ b → total row_size (rows_in (changed cols (key_of cols row) (Some row) cs)) ≤ row_size row + total row_size (rows_in cs)
        → total row_size (rows_in (cond b (Some row) (Some r) ∷ changed cols (key_of cols row) (Some row) cs)) ≤ row_size row + (row_size r + total row_size (rows_in cs))
    by true e rec =
        let none : Each (λ l. l ≢ key_of cols row) (keys_of cols cs) = subst (λ (z : Key). Each (λ l. l ≢ z) (keys_of cols cs)) (ties (key_of cols r) (key_of cols row) e) (ascend_placed (key_of cols r) (keys_of cols cs) a).0 in
        let same : changed cols (key_of cols row) (Some row) cs ≡ cs = changed_none cols (key_of cols row) (Some row) cs (not_there cols (key_of cols row) cs none) in
        omega (arith, ap (λ (l : Leaf). total row_size (rows_in l)) same)
    by false e rec = omega (arith, rec)

pub total_with : (cols : List Column) (row : List Value) (leaf : Leaf) → Ascend (map Row (keys_of cols leaf)) → total row_size (rows_in (with_row cols row leaf)) ≤ row_size row + total row_size (rows_in leaf)
total_with cols row leaf a = by (holds cols (key_of cols row) leaf)
  where
    by : (b : Bool) → total row_size (rows_in (cond b (changed cols (key_of cols row) (Some row) leaf) (added row leaf))) ≤ row_size row + total row_size (rows_in leaf)
    by true = total_changed cols row leaf a
    by false = omega (arith, total_added row leaf)

-- ENTRIES

total_entry : (e : Entry) (xs : List Entry) → total entry_size (placed_entry e xs) ≡ entry_size e + total entry_size xs
total_entry e [] = refl
total_entry e (x ∷ xs) = by (is_upto e.least x.least) (total_entry e xs)
  where
    by : (b : Bool) → total entry_size (placed_entry e xs) ≡ entry_size e + total entry_size xs → total entry_size (cond b (e ∷ x ∷ xs) (x ∷ placed_entry e xs)) ≡ entry_size e + (entry_size x + total entry_size xs)
    by true rec = refl
    by false rec = omega (arith, rec)

pub total_slots : (es : List (Option Entry)) → total entry_size (in_key_order es) ≤ bytes_in (map entry_bytes es) + 2 * length (map entry_bytes es)
total_slots [] = omega arith
total_slots (None ∷ es) = omega (arith, total_slots es)
total_slots (Some e ∷ es) = omega (arith, total_slots es, total_entry e (in_key_order es))

total_put : (e : Entry) (es : List (Option Entry)) → total entry_size (in_key_order (put_entry e es)) ≡ entry_size e + total entry_size (in_key_order es)
total_put e [] = refl
total_put e (None ∷ es) = total_entry e (in_key_order es)
total_put e (Some d ∷ es) = omega (arith, total_entry d (in_key_order (put_entry e es)), total_put e es, total_entry d (in_key_order es))

pub total_puts : (more : List Entry) (es : List (Option Entry)) → total entry_size (in_key_order (put_entries more es)) ≡ total entry_size more + total entry_size (in_key_order es)
total_puts [] es = omega arith
total_puts (e ∷ more) es = omega (arith, total_puts more (put_entry e es), total_put e es)
