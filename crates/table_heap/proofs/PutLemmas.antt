-- Rows of leaves that were cut and put are rows that may be put.
use Rattle.std.proofs.Common.{refl, ◌≡◌, suc, ◌≤◌, arith, length, List, [], ◌∷◌, ◌++◌, ap, ◌∙◌, Bool, true, false, cond, Option, None, Some}
use Rattle.std.specs.List.{All}
use Rattle.std.proofs.lemmas.List.Elements.{All-nil, All-cons, All-head, All-tail, All-append}
use Rattle.page_base.specs.declared.column.Column.{Column}
use Rattle.page_base.specs.declared.value.Value.{Value}
use Rattle.plain_model.specs.Tables.{key_of}
use Rattle.table_heap.specs.Leaves.{Leaf, rows_in, all_rows, has, holds, before, trimmed, changed, cut, has_room, swap, fits, added, add, put, cut_keys, put_rows}

abbrev Row : Type 0
Row = List Value

module _ (P : Row → Type 0) where
  -- what holds of a row in a slot
  abbrev OfSlot : Option Row → Type 0
  OfSlot None = Unit {0}
  OfSlot (Some r) = P r

  all_front : (xs ys : List Row) → All P (xs ++ ys) → All P xs
  all_front [] ys a = All-nil P
  all_front (x ∷ xs) ys a = All-cons P x xs (All-head P x (xs ++ ys) a) (all_front xs ys (All-tail P x (xs ++ ys) a))

  all_back : (xs ys : List Row) → All P (xs ++ ys) → All P ys
  all_back [] ys a = a
  all_back (x ∷ xs) ys a = all_back xs ys (All-tail P x (xs ++ ys) a)

  slot_first : (c : Option Row) (cs : Leaf) → OfSlot c → All P (rows_in cs) → All P (rows_in (c ∷ cs))
  slot_first None cs o a = a
  slot_first (Some r) cs o a = All-cons P r (rows_in cs) o a

  trimmed_all : (leaf : Leaf) → All P (rows_in leaf) → All P (rows_in (trimmed leaf))
  trimmed_all [] a = a
  trimmed_all (None ∷ cs) a = none (trimmed cs) (trimmed_all cs a)
    where
      none : (cs : Leaf) → All P (rows_in cs) → All P (rows_in (before None cs))
      none [] a = a
      none (c ∷ cs) a = a
  trimmed_all (Some r ∷ cs) a = All-cons P r (rows_in (trimmed cs)) (All-head P r (rows_in cs) a) (trimmed_all cs (All-tail P r (rows_in cs) a))

  changed_all : (cols : List Column) (key : Row) (to : Option Row) (leaf : Leaf) → OfSlot to → All P (rows_in leaf) → All P (rows_in (changed cols key to leaf))
  changed_all cols key to [] o a = a
  changed_all cols key to (None ∷ cs) o a = changed_all cols key to cs o a
  changed_all cols key to (Some r ∷ cs) o a =
      let rest : All P (rows_in (changed cols key to cs)) = changed_all cols key to cs o (All-tail P r (rows_in cs) a) in
      let by : (b : Bool) → All P (rows_in (cond b to (Some r) ∷ changed cols key to cs)) =
      elim [
        | true ↦ slot_first to (changed cols key to cs) o rest
        | false ↦ All-cons P r (rows_in (changed cols key to cs)) (All-head P r (rows_in cs) a) rest
      ] in
      by (has cols key (Some r))

  added_all : (row : Row) (leaf : Leaf) → P row → All P (rows_in leaf) → All P (rows_in (added row leaf))
  added_all row [] p a = All-cons P row [] p a
  added_all row (None ∷ cs) p a = All-cons P row (rows_in cs) p a
  added_all row (Some r ∷ cs) p a = All-cons P r (rows_in (added row cs)) (All-head P r (rows_in cs) a) (added_all row cs p (All-tail P r (rows_in cs) a))

  -- another leaf in front, or other leaves behind
  front_all : (leaf other : Leaf) (leaves : List Leaf) → All P (rows_in leaf ++ all_rows leaves) → (All P (rows_in leaf) → All P (rows_in other)) → All P (rows_in other ++ all_rows leaves)
  front_all leaf other leaves a f = All-append P (rows_in other) (all_rows leaves) (f (all_front (rows_in leaf) (all_rows leaves) a)) (all_back (rows_in leaf) (all_rows leaves) a)

  back_all : (leaf : Leaf) (leaves others : List Leaf) → All P (rows_in leaf ++ all_rows leaves) → All P (all_rows others) → All P (rows_in leaf ++ all_rows others)
  back_all leaf leaves others a b = All-append P (rows_in leaf) (all_rows others) (all_front (rows_in leaf) (all_rows leaves) a) b

  cut_all : (cols : List Column) (key : Row) (leaves : List Leaf) → All P (all_rows leaves) → All P (all_rows (cut cols key leaves))
  cut_all cols key [] a = a
  cut_all cols key (leaf ∷ leaves) a =
      let rest : All P (all_rows (cut cols key leaves)) = cut_all cols key leaves (all_back (rows_in leaf) (all_rows leaves) a) in
      let by : (b : Bool) → All P (all_rows (cond b (trimmed (changed cols key None leaf) ∷ leaves) (leaf ∷ cut cols key leaves))) =
      elim [
        | true ↦ front_all leaf (trimmed (changed cols key None leaf)) leaves a (λ x. trimmed_all (changed cols key None leaf) (changed_all cols key None leaf tt x))
        | false ↦ back_all leaf leaves (cut cols key leaves) a rest
      ] in
      by (holds cols key leaf)

  swap_all : (cols : List Column) (key row : Row) (leaves : List Leaf) → P row → All P (all_rows leaves) → All P (all_rows (swap cols key row leaves))
  swap_all cols key row [] p a = a
  swap_all cols key row (leaf ∷ leaves) p a =
      let rest : All P (all_rows (swap cols key row leaves)) = swap_all cols key row leaves p (all_back (rows_in leaf) (all_rows leaves) a) in
      let by : (b : Bool) → All P (all_rows (cond b (changed cols key (Some row) leaf ∷ leaves) (leaf ∷ swap cols key row leaves))) =
      elim [
        | true ↦ front_all leaf (changed cols key (Some row) leaf) leaves a (λ x. changed_all cols key (Some row) leaf p x)
        | false ↦ back_all leaf leaves (swap cols key row leaves) a rest
      ] in
      by (holds cols key leaf)

  add_all : (row : Row) (leaves : List Leaf) → P row → All P (all_rows leaves) → All P (all_rows (add row leaves))
  add_all row [] p a = All-cons P row [] p a
  add_all row (leaf ∷ leaves) p a =
      let rest : All P (all_rows (add row leaves)) = add_all row leaves p (all_back (rows_in leaf) (all_rows leaves) a) in
      let by : (b : Bool) → All P (all_rows (cond b (added row leaf ∷ leaves) (leaf ∷ add row leaves))) =
      elim [
        | true ↦ front_all leaf (added row leaf) leaves a (λ x. added_all row leaf p x)
        | false ↦ back_all leaf leaves (add row leaves) a rest
      ] in
      by (fits (added row leaf))

  put_all : (cols : List Column) (row : Row) (leaves : List Leaf) → P row → All P (all_rows leaves) → All P (all_rows (put cols row leaves))
  put_all cols row leaves p a =
      let by : (b : Bool) → All P (all_rows (cond b (swap cols (key_of cols row) row leaves) (add row (cut cols (key_of cols row) leaves)))) =
      elim [
        | true ↦ swap_all cols (key_of cols row) row leaves p a
        | false ↦ add_all row (cut cols (key_of cols row) leaves) p (cut_all cols (key_of cols row) leaves a)
      ] in
      by (has_room cols (key_of cols row) row leaves)

  cut_keys_all : (cols : List Column) (keys : List Row) (leaves : List Leaf) → All P (all_rows leaves) → All P (all_rows (cut_keys cols keys leaves))
  cut_keys_all cols [] leaves a = a
  cut_keys_all cols (k ∷ ks) leaves a = cut_keys_all cols ks (cut cols k leaves) (cut_all cols k leaves a)

  put_rows_all : (cols : List Column) (rows : List Row) (leaves : List Leaf) → All P rows → All P (all_rows leaves) → All P (all_rows (put_rows cols rows leaves))
  put_rows_all cols [] leaves p a = a
  put_rows_all cols (r ∷ rs) leaves p a = put_rows_all cols rs (put cols r leaves) (All-tail P r rs p) (put_all cols r leaves (All-head P r rs p) a)

  -- what holds of the rows of leaves and of those that are put holds of all rows afterwards
  pub planned_all : (cols : List Column) (keys rows : List Row) (leaves : List Leaf) → All P (all_rows leaves) → All P rows → All P (all_rows (put_rows cols rows (cut_keys cols keys leaves)))
  planned_all cols keys rows leaves a p = put_rows_all cols rows (cut_keys cols keys leaves) p (cut_keys_all cols keys leaves a)

-- NO LEAF IS LOST

module _ (cols : List Column) where
  cut_length : (key : Row) (leaves : List Leaf) → length (cut cols key leaves) ≡ length leaves
  cut_length key [] = refl
  cut_length key (leaf ∷ leaves) =
      let by : (b : Bool) → length (cond b (trimmed (changed cols key None leaf) ∷ leaves) (leaf ∷ cut cols key leaves)) ≡ suc (length leaves) =
      elim [
        | true ↦ refl
        | false ↦ ap (λ n. suc n) (cut_length key leaves)
      ] in
      by (holds cols key leaf)

  swap_length : (key row : Row) (leaves : List Leaf) → length (swap cols key row leaves) ≡ length leaves
  swap_length key row [] = refl
  swap_length key row (leaf ∷ leaves) =
      let by : (b : Bool) → length (cond b (changed cols key (Some row) leaf ∷ leaves) (leaf ∷ swap cols key row leaves)) ≡ suc (length leaves) =
      elim [
        | true ↦ refl
        | false ↦ ap (λ n. suc n) (swap_length key row leaves)
      ] in
      by (holds cols key leaf)

  add_length : (row : Row) (leaves : List Leaf) → length leaves ≤ length (add row leaves)
  add_length row [] = omega arith
  add_length row (leaf ∷ leaves) =
      let by : (b : Bool) → suc (length leaves) ≤ length (cond b (added row leaf ∷ leaves) (leaf ∷ add row leaves)) =
      elim [
        | true ↦ omega arith
        | false ↦ omega (arith, add_length row leaves)
      ] in
      by (fits (added row leaf))

  put_length : (row : Row) (leaves : List Leaf) → length leaves ≤ length (put cols row leaves)
  put_length row leaves =
      let by : (b : Bool) → length leaves ≤ length (cond b (swap cols (key_of cols row) row leaves) (add row (cut cols (key_of cols row) leaves))) =
      elim [
        | true ↦ omega (arith, swap_length (key_of cols row) row leaves)
        | false ↦ omega (arith, add_length row (cut cols (key_of cols row) leaves), cut_length (key_of cols row) leaves)
      ] in
      by (has_room cols (key_of cols row) row leaves)

  cut_keys_length : (keys : List Row) (leaves : List Leaf) → length (cut_keys cols keys leaves) ≡ length leaves
  cut_keys_length [] leaves = refl
  cut_keys_length (k ∷ ks) leaves = cut_keys_length ks (cut cols k leaves) ∙ cut_length k leaves

  put_rows_length : (rows : List Row) (leaves : List Leaf) → length leaves ≤ length (put_rows cols rows leaves)
  put_rows_length [] leaves = omega arith
  put_rows_length (r ∷ rs) leaves = omega (arith, put_length r leaves, put_rows_length rs (put cols r leaves))

  -- there are no fewer leaves than before
  pub planned_length : (keys rows : List Row) (leaves : List Leaf) → length leaves ≤ length (put_rows cols rows (cut_keys cols keys leaves))
  planned_length keys rows leaves = omega (arith, cut_keys_length keys leaves, put_rows_length rows (cut_keys cols keys leaves))
