-- The rows of the leaves of a heap, from their slots and back.
use Rattle.std.proofs.Common.{refl, ◌≡◌, ◌≢◌, ℕ, zero, suc, ◌≤◌, List, [], ◌∷◌, ◌++◌, length, drop, map, ap, sym, ◌∙◌, subst, arith, Bool, true, false, cond, Option, None, Some}
use Rattle.std.specs.List.{All, concat, flat_map}
use Rattle.std.proofs.lemmas.List.Elements.{All-nil, All-cons, All-head, All-tail}
use Rattle.page_base.specs.declared.column.Column.{Column}
use Rattle.page_base.specs.declared.numbers.PageId.{PageId}
use Rattle.page_base.specs.declared.value.Value.{Value}
use Rattle.page_fmt.specs.Seen.{SlotsAt}
use Rattle.plain_model.specs.Tables.{Rows}
use Rattle.row_fmt.specs.Rows.{row_bytes, bit_fields, null_bytes, is_null, value_field}
use Rattle.row_fmt.proofs.RowLemmas.{one_row}
use Rattle.table_walk.specs.declared.visit.Visit.{Visit}
use Rattle.table_walk.specs.Tables.{is_leaf, full, cells, Gathers, MayPut}
use Rattle.table_walk.proofs.WalkLemmas.{walks-one}
use Rattle.table_heap.specs.Heap.{heap_kids, first, RowsAt}
use Rattle.table_heap.specs.Leaves.{Leaf, cell, slots_of, rows_in, all_rows, ByKeys}
use Rattle.table_heap.specs.Planning.{leaf_slots, HasLeaves}
use Rattle.table_heap.specs.Shape.{leaves_in}

abbrev Row : Type 0
Row = List Value

-- SLOTS

-- the cells of leaves
abbrev pub all_cells : List (List (List ℕ)) → List (List ℕ)
all_cells [] = []
all_cells (s ∷ ss) = full s ++ all_cells ss

pub leaf_slots-map : (at : SlotsAt) (vs : List Visit) → leaf_slots at vs ≡ map at (leaves_in vs)
leaf_slots-map at [] = refl
leaf_slots-map at (v ∷ vs) =
    let by : (b : Bool) → cond b (at v.page ∷ leaf_slots at vs) (leaf_slots at vs) ≡ map at (cond b (v.page ∷ leaves_in vs) (leaves_in vs)) =
    elim [
      | true ↦ ap (λ ss. at v.page ∷ ss) (leaf_slots-map at vs)
      | false ↦ leaf_slots-map at vs
    ] in
    by (is_leaf v)

pub cells-leaves : (at : SlotsAt) (vs : List Visit) → cells at vs ≡ all_cells (map at (leaves_in vs))
cells-leaves at [] = refl
cells-leaves at (v ∷ vs) =
    let by : (b : Bool) → cond b (full (at v.page)) [] ++ cells at vs ≡ all_cells (map at (cond b (v.page ∷ leaves_in vs) (leaves_in vs))) =
    elim [
      | true ↦ ap (λ xs. full (at v.page) ++ xs) (cells-leaves at vs)
      | false ↦ cells-leaves at vs
    ] in
    by (is_leaf v)

-- THE BYTES OF A ROW

pub bytes_of_none : row_bytes [] ≡ []
unfolding row_bytes bit_fields
bytes_of_none = refl

-- a row of some values has bytes
pub bytes_of_some : (row : Row) → row ≢ [] → row_bytes row ≢ []
unfolding row_bytes bit_fields
bytes_of_some [] some e = some refl
bytes_of_some (v ∷ vs) some e = begins (null_bytes (length (v ∷ vs))) (omega arith) e
  where
    begins : (n : ℕ) → 1 ≤ n → concat (bit_fields n (map is_null (v ∷ vs)) ++ flat_map value_field (v ∷ vs)) ≡ [] → ⊥
    begins zero h f = absurd (omega arith)
    begins (suc n) h f = let w : suc (length (concat (bit_fields n (drop 8 (map is_null (v ∷ vs))) ++ flat_map value_field (v ∷ vs)))) ≡ 0 = ap length f in absurd (omega arith)

-- ROWS IN LEAVES

full_some : (x : List ℕ) (xs : List (List ℕ)) → x ≢ [] → full (x ∷ xs) ≡ x ∷ full xs
full_some [] xs some = absurd (some refl)
full_some (b ∷ bs) xs some = refl

module _ (cols : List Column) where
  pub full_slots : (leaf : Leaf) → All (MayPut cols) (rows_in leaf) → full (slots_of leaf) ≡ map row_bytes (rows_in leaf)
  full_slots [] a = refl
  full_slots (None ∷ cs) a = full_slots cs a
  full_slots (Some row ∷ cs) a =
      full_some (row_bytes row) (slots_of cs) (bytes_of_some row (All-head (MayPut cols) row (rows_in cs) a).some) ∙ ap (λ xs. row_bytes row ∷ xs) (full_slots cs (All-tail (MayPut cols) row (rows_in cs) a))

  map_more : (xs ys : List Row) → map row_bytes (xs ++ ys) ≡ map row_bytes xs ++ map row_bytes ys
  map_more [] ys = refl
  map_more (x ∷ xs) ys = ap (λ bs. row_bytes x ∷ bs) (map_more xs ys)

  all_front : (xs ys : List Row) → All (MayPut cols) (xs ++ ys) → All (MayPut cols) xs
  all_front [] ys a = All-nil (MayPut cols)
  all_front (x ∷ xs) ys a = All-cons (MayPut cols) x xs (All-head (MayPut cols) x (xs ++ ys) a) (all_front xs ys (All-tail (MayPut cols) x (xs ++ ys) a))

  all_back : (xs ys : List Row) → All (MayPut cols) (xs ++ ys) → All (MayPut cols) ys
  all_back [] ys a = a
  all_back (x ∷ xs) ys a = all_back xs ys (All-tail (MayPut cols) x (xs ++ ys) a)

  pub cells_made : (leaves : List Leaf) → All (MayPut cols) (all_rows leaves) → all_cells (map slots_of leaves) ≡ map row_bytes (all_rows leaves)
  cells_made [] a = refl
  cells_made (leaf ∷ leaves) a =
      (λ i. full_slots leaf (all_front (rows_in leaf) (all_rows leaves) a) i ++ cells_made leaves (all_back (rows_in leaf) (all_rows leaves) a) i) ∙ sym (map_more (rows_in leaf) (all_rows leaves))

  -- the rows are gathered from their bytes
  pub gathers_rows : (rs : List Row) (rows : Rows) → All (MayPut cols) rs → ByKeys cols rs rows → Gathers cols (map row_bytes rs) rows
  gathers_rows [] rows a b = b
  gathers_rows (r ∷ rs) rows a b =
      let may : MayPut cols r = All-head (MayPut cols) r rs a in
      (r, b.0, record { of = may.of; spelled = refl }, may.small, gathers_rows rs b.0 (All-tail (MayPut cols) r rs a) b.1, b.2, b.3)

  -- no cell is empty
  abbrev pub NoEmpty : List (List ℕ) → Type 0
  NoEmpty [] = Unit {0}
  NoEmpty (x ∷ xs) = (x ≢ []) × NoEmpty xs

  no_empty : (ss : List (List (List ℕ))) → NoEmpty (all_cells ss)
  no_empty [] = tt
  no_empty (s ∷ ss) = both s (no_empty ss)
    where
      both : (s : List (List ℕ)) → NoEmpty (all_cells ss) → NoEmpty (full s ++ all_cells ss)
      both [] n = n
      both ([] ∷ xs) n = both xs n
      both ((b ∷ bs) ∷ xs) n = ((λ e. let w : suc (length bs) ≡ 0 = ap length e in absurd (omega arith)), both xs n)

  -- cells that gather are the bytes of rows
  pub record RowsOf (xs : List (List ℕ)) (rows : Rows) : Type 0 where
    pub all : List Row
    pub bytes : map row_bytes all ≡ xs
    pub keys : ByKeys cols all rows
    pub may : All (MayPut cols) all

  rows_gathered : (xs : List (List ℕ)) (rows : Rows) → NoEmpty xs → Gathers cols xs rows → RowsOf xs rows
  rows_gathered [] rows n g = record { all = []; bytes = refl; keys = g; may = All-nil (MayPut cols) }
  rows_gathered (x ∷ xs) rows n g =
      let r : RowsOf xs g.1 = rows_gathered xs g.1 n.1 g.4 in
      let some : g.0 ≢ [] = λ e. n.0 (g.2.spelled ∙ ap row_bytes e ∙ bytes_of_none) in
      record {
        all = g.0 ∷ r.all;
        bytes = λ i. sym g.2.spelled i ∷ r.bytes i;
        keys = (g.1, r.keys, g.5, g.6);
        may = All-cons (MayPut cols) g.0 r.all (record { of = g.2.of; small = g.3; some = some }) r.may;
      }

  -- rows put back into the slots that they came from
  pub record Filled (ss : List (List (List ℕ))) (rs : List Row) : Type 0 where
    pub leaves : List Leaf
    pub slots : map slots_of leaves ≡ ss
    pub rows : all_rows leaves ≡ rs

  no_more : (x : List ℕ) (xs : List (List ℕ)) → [] ≢ x ∷ xs
  no_more x xs e = let w : 0 ≡ suc (length xs) = ap length e in absurd (omega arith)

  abbrev first_or : List ℕ → List (List ℕ) → List ℕ
  first_or d [] = d
  first_or d (x ∷ xs) = x

  abbrev rest_of : List (List ℕ) → List (List ℕ)
  rest_of [] = []
  rest_of (x ∷ xs) = xs

  -- one leaf and the rows behind its own
  record OneFilled (s : List (List ℕ)) (xs : List (List ℕ)) (rs : List Row) : Type 0 where
    leaf : Leaf
    behind : List Row
    slots : slots_of leaf ≡ s
    rows : rows_in leaf ++ behind ≡ rs
    bytes : map row_bytes behind ≡ xs

  one_filled : (s : List (List ℕ)) (xs : List (List ℕ)) (rs : List Row) → map row_bytes rs ≡ full s ++ xs → OneFilled s xs rs
  one_filled [] xs rs e = record { leaf = []; behind = rs; slots = refl; rows = refl; bytes = e }
  one_filled ([] ∷ s) xs rs e =
      let o : OneFilled s xs rs = one_filled s xs rs e in record { leaf = None ∷ o.leaf; behind = o.behind; slots = ap (λ ys. [] ∷ ys) o.slots; rows = o.rows; bytes = o.bytes }
  one_filled ((b ∷ bs) ∷ s) xs [] e = absurd (no_more (b ∷ bs) (full s ++ xs) e)
  one_filled ((b ∷ bs) ∷ s) xs (r ∷ rs) e =
      let o : OneFilled s xs rs = one_filled s xs rs (ap rest_of e) in
      let here : row_bytes r ≡ b ∷ bs = ap (first_or []) e in
      record { leaf = Some r ∷ o.leaf; behind = o.behind; slots = λ i. here i ∷ o.slots i; rows = ap (λ qs. r ∷ qs) o.rows; bytes = o.bytes }

  filled : (ss : List (List (List ℕ))) (rs : List Row) → map row_bytes rs ≡ all_cells ss → Filled ss rs
  filled [] [] e = record { leaves = []; slots = refl; rows = refl }
  filled [] (r ∷ rs) e = absurd (no_more (row_bytes r) (map row_bytes rs) (sym e))
  filled (s ∷ ss) rs e =
      let o : OneFilled s (all_cells ss) rs = one_filled s (all_cells ss) rs e in
      let f : Filled ss o.behind = filled ss o.behind o.bytes in
      record { leaves = o.leaf ∷ f.leaves; slots = λ i. o.slots i ∷ f.slots i; rows = ap (λ qs. rows_in o.leaf ++ qs) f.rows ∙ o.rows }

  -- leaves of the same slots are the same
  cell_one : (c d : Option Row) → All (MayPut cols) (rows_in (c ∷ [])) → All (MayPut cols) (rows_in (d ∷ [])) → cell c ≡ cell d → c ≡ d
  cell_one None None a b e = refl
  cell_one None (Some r) a b e = absurd (bytes_of_some r (All-head (MayPut cols) r [] b).some (sym e))
  cell_one (Some r) None a b e = absurd (bytes_of_some r (All-head (MayPut cols) r [] a).some e)
  cell_one (Some r) (Some s) a b e =
      ap (λ (x : Row). Some x) (one_row cols (row_bytes r) r s (record { of = (All-head (MayPut cols) r [] a).of; spelled = refl }) (record { of = (All-head (MayPut cols) s [] b).of; spelled = e }))

  cons_rows : (c : Option Row) (cs : Leaf) → rows_in (c ∷ cs) ≡ rows_in (c ∷ []) ++ rows_in cs
  cons_rows None cs = refl
  cons_rows (Some r) cs = refl

  leaf_one : (l m : Leaf) → All (MayPut cols) (rows_in l) → All (MayPut cols) (rows_in m) → slots_of l ≡ slots_of m → l ≡ m
  leaf_one [] [] a b e = refl
  leaf_one [] (c ∷ cs) a b e = absurd (no_more (cell c) (slots_of cs) e)
  leaf_one (c ∷ cs) [] a b e = absurd (no_more (cell c) (slots_of cs) (sym e))
  leaf_one (c ∷ cs) (d ∷ ds) a b e =
      let x : All (MayPut cols) (rows_in (c ∷ []) ++ rows_in cs) = subst (All (MayPut cols)) (cons_rows c cs) a in
      let y : All (MayPut cols) (rows_in (d ∷ []) ++ rows_in ds) = subst (All (MayPut cols)) (cons_rows d ds) b in
      let here : c ≡ d = cell_one c d (all_front (rows_in (c ∷ [])) (rows_in cs) x) (all_front (rows_in (d ∷ [])) (rows_in ds) y) (ap (first_or []) e) in
      let rest : cs ≡ ds = leaf_one cs ds (all_back (rows_in (c ∷ [])) (rows_in cs) x) (all_back (rows_in (d ∷ [])) (rows_in ds) y) (ap rest_of e) in
      λ i. here i ∷ rest i

  abbrev first_slots : List (List (List ℕ)) → List (List ℕ)
  first_slots [] = []
  first_slots (s ∷ ss) = s

  abbrev other_slots : List (List (List ℕ)) → List (List (List ℕ))
  other_slots [] = []
  other_slots (s ∷ ss) = ss

  pub leaves_one : (ls ms : List Leaf) → All (MayPut cols) (all_rows ls) → All (MayPut cols) (all_rows ms) → map slots_of ls ≡ map slots_of ms → ls ≡ ms
  leaves_one [] [] a b e = refl
  leaves_one [] (m ∷ ms) a b e = let w : 0 ≡ suc (length (map slots_of ms)) = ap length e in absurd (omega arith)
  leaves_one (l ∷ ls) [] a b e = let w : suc (length (map slots_of ls)) ≡ 0 = ap length e in absurd (omega arith)
  leaves_one (l ∷ ls) (m ∷ ms) a b e =
      let here : l ≡ m = leaf_one l m (all_front (rows_in l) (all_rows ls) a) (all_front (rows_in m) (all_rows ms) b) (ap first_slots e) in
      let rest : ls ≡ ms = leaves_one ls ms (all_back (rows_in l) (all_rows ls) a) (all_back (rows_in m) (all_rows ms) b) (ap other_slots e) in
      λ i. here i ∷ rest i

  -- THE LEAVES OF A HEAP

  pub record LeavesOf (at : SlotsAt) (root : PageId) (done : List Visit) (rows : Rows) : Type 0 where
    pub leaves : List Leaf
    pub slots : map at (leaves_in done) ≡ map slots_of leaves
    pub may : All (MayPut cols) (all_rows leaves)
    pub keys : ByKeys cols (all_rows leaves) rows
    pub has : HasLeaves cols at root leaves

  -- pages that are a table have leaves
  pub leaves_of : (at : SlotsAt) (owns : PageId → Bool) (root : PageId) (rows : Rows) → (t : RowsAt cols at owns root rows) → LeavesOf at root t.0 rows
  leaves_of at owns root rows t =
      let ss : List (List (List ℕ)) = map at (leaves_in t.0) in
      let r : RowsOf (all_cells ss) rows = rows_gathered (all_cells ss) rows (no_empty ss) (subst (λ xs. Gathers cols xs rows) (cells-leaves at t.0) t.1.gathers) in
      let f : Filled ss r.all = filled ss r.all r.bytes in
      let may : All (MayPut cols) (all_rows f.leaves) = subst (All (MayPut cols)) (sym f.rows) r.may in
      record {
        leaves = f.leaves;
        slots = sym f.slots;
        may = may;
        keys = subst (λ rs. ByKeys cols rs rows) (sym f.rows) r.keys;
        has = record { done = t.0; walk = t.1.walk; slots = leaf_slots-map at t.0 ∙ sym f.slots; rows = may };
      }

  -- and only one list of them
  pub has_leaves_one : (at : SlotsAt) (root : PageId) (ls ms : List Leaf) → HasLeaves cols at root ls → HasLeaves cols at root ms → ls ≡ ms
  has_leaves_one at root ls ms a b =
      leaves_one ls ms a.rows b.rows (sym a.slots ∙ ap (leaf_slots at) (walks-one heap_kids at (first root ∷ []) a.done b.done a.walk.walks b.walk.walks) ∙ b.slots)
