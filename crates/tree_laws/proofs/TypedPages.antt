-- The slots of one page as a typed page: rows of a leaf, and the entries of another page, in key order.
use Rattle.std.proofs.Common.{◌≡◌, ◌≢◌, ◌+◌, ◌⊎◌, inl, inr, ℕ, Bool, true, false, cond, List, [], ◌∷◌, ◌++◌, take, drop, map, refl, ap, sym, ◌∙◌, subst, Result, Ok, Err}
use Rattle.std.specs.Prelude.{Option, None, Some}
use Rattle.std.specs.List.{flat_map, list_all}
use Rattle.std.specs.Ordering.{eq_by_cmp}
use Rattle.page_base.specs.declared.column.Column.{Column}
use Rattle.page_base.specs.declared.numbers.PageId.{PageId}
use Rattle.page_base.specs.declared.value.Value.{Value}
use Rattle.page_base.specs.Order.{key_cmp}
use Rattle.plain_model.specs.Tables.{Rows as Map}
use Rattle.row_fmt.specs.Rows.{IsRow, row_bytes, bit_fields}
use Rattle.row_fmt.specs.Reading.{row_at}
use Rattle.row_fmt.proofs.RowLemmas.{row_again}
use Rattle.table_walk.specs.Addresses.{page_at}
use Rattle.table_walk.specs.Leaves.{Leaf, cell, rows_in, ByKeys}
use Rattle.table_walk.specs.Tables.{Gathers, MayPut, full}
use Rattle.table_walk.proofs.RowsLemmas.{ties, itself}
use Rattle.tree_laws.specs.declared.child.Child.{Child}
use Rattle.tree_laws.specs.Keys.{Key, key_columns, whole}
use Rattle.tree_laws.specs.Kids.{is_upto, placed, sorted, least_at, child_of, child_at, with_child, named, level_of}
use Rattle.tree_laws.specs.Order.{Mark, keys_in, with_row_key, own, has_least, is_none_or, are_part, marks_of as child_marks, headless as child_headless}
use Rattle.tree_laws.specs.Puts.{placed_entry, in_key_order}
use Rattle.tree_laws.specs.Reads.{IsIn, AreIn}
use Rattle.tree_laws.specs.Sheets.{Entry, Sheet}
use Rattle.tree_laws.specs.Sheets.Sheet.{Rows, Inner}
use Rattle.tree_laws.specs.Trees.{headless, marks_of}
use Rattle.tree_laws.proofs.LeafOrder.{keys_of}
use Rattle.tree_laws.proofs.Lists.{Each, and_both, and_is, each_of, of_each}
use Rattle.tree_laws.proofs.Sound.{HasLeast, ArePart}
use Rattle.tree_laws.proofs.TreeStays.{bytes_some}

abbrev Rs : Type 0
Rs = List (List Value)

-- WHAT STANDS IN A SLOT

abbrev pub typed_row : List Column → List ℕ → Option (List Value)
typed_row cols [] = None
typed_row cols (b ∷ bs) = whole (row_at cols (b ∷ bs))

abbrev pub entry_of : Child → Entry
entry_of c = record { least = c.least; page = c.page }

abbrev pub entry_or_none : Option Child → Option Entry
entry_or_none None = None
entry_or_none (Some c) = Some (entry_of c)

abbrev pub typed_entry : List Column → List ℕ → Option Entry
typed_entry keys [] = None
typed_entry keys (b ∷ bs) = entry_or_none (child_at keys 0 (b ∷ bs))

-- a page of rows, or of entries
abbrev pub typed : List Column → Bool → List (List ℕ) → Sheet
typed cols true slots = Rows (map (typed_row cols) slots)
typed cols false slots = Inner (level_of slots) (map (typed_entry (key_columns cols)) (drop 1 slots))

-- ROWS

pub keys_full : (cols : List Column) (xs : List (List ℕ)) → keys_in cols (full xs) ≡ keys_of cols (map (typed_row cols) xs)
keys_full cols [] = refl
keys_full cols ([] ∷ xs) = keys_full cols xs
keys_full cols ((b ∷ bs) ∷ xs) = by (whole (row_at cols (b ∷ bs))) (keys_full cols xs)
  where
    by : (o : Option (List Value)) → keys_in cols (full xs) ≡ keys_of cols (map (typed_row cols) xs) → with_row_key cols o (keys_in cols (full xs)) ≡ keys_of cols (o ∷ map (typed_row cols) xs)
    by None rec = rec
    by (Some r) rec = ap (λ (ks : List Key). with_row_key cols (Some r) ks) rec

pub rows_full : (cols : List Column) (xs : List (List ℕ)) → rows_in (map (typed_row cols) (full xs)) ≡ rows_in (map (typed_row cols) xs)
rows_full cols [] = refl
rows_full cols ([] ∷ xs) = rows_full cols xs
rows_full cols ((b ∷ bs) ∷ xs) = by (whole (row_at cols (b ∷ bs))) (rows_full cols xs)
  where
    by : (o : Option (List Value)) → rows_in (map (typed_row cols) (full xs)) ≡ rows_in (map (typed_row cols) xs) → rows_in (o ∷ map (typed_row cols) (full xs)) ≡ rows_in (o ∷ map (typed_row cols) xs)
    by None rec = rec
    by (Some r) rec = ap (λ (rs : Rs). r ∷ rs) rec

pub typed-append : (cols : List Column) (xs ys : List (List ℕ)) → rows_in (map (typed_row cols) (xs ++ ys)) ≡ rows_in (map (typed_row cols) xs) ++ rows_in (map (typed_row cols) ys)
typed-append cols [] ys = refl
typed-append cols (x ∷ xs) ys = by (typed_row cols x) (typed-append cols xs ys)
  where
    by : (o : Option (List Value)) → rows_in (map (typed_row cols) (xs ++ ys)) ≡ rows_in (map (typed_row cols) xs) ++ rows_in (map (typed_row cols) ys)
        → rows_in (o ∷ map (typed_row cols) (xs ++ ys)) ≡ rows_in (o ∷ map (typed_row cols) xs) ++ rows_in (map (typed_row cols) ys)
    by None rec = rec
    by (Some r) rec = ap (λ (rs : Rs). r ∷ rs) rec

-- a cell with the row that it spells, one that may be put
pub record IsCell (cols : List Column) (x : List ℕ) : Type 0 where
  pub row : List Value
  pub is : IsRow cols x row
  pub may : MayPut cols row

no_bytes : row_bytes [] ≡ []
unfolding row_bytes bit_fields
no_bytes = refl

-- the row of a cell is read
pub cell_row : (cols : List Column) (x : List ℕ) (c : IsCell cols x) → typed_row cols x ≡ Some c.row
cell_row cols [] c = absurd (bytes_some c.row c.may.some (sym c.is.spelled))
cell_row cols (b ∷ bs) c = ap whole (row_again cols (b ∷ bs) c.row c.is)

-- cells that gather are such, and their rows by their keys are those of the table
pub record AreCells (cols : List Column) (xs : List (List ℕ)) (rows : Map) : Type 0 where
  pub each : Each (IsCell cols) xs
  pub by_keys : ByKeys cols (rows_in (map (typed_row cols) xs)) rows

pub gathered : (cols : List Column) (xs : List (List ℕ)) (rows : Map) → Each (λ x. x ≢ []) xs → Gathers cols xs rows → AreCells cols xs rows
gathered cols [] rows n g = record { each = tt; by_keys = g }
gathered cols (x ∷ xs) rows n g =
    let r : AreCells cols xs g.1 = gathered cols xs g.1 n.1 g.4 in
    let some : g.0 ≢ [] = λ e. n.0 (g.2.spelled ∙ ap row_bytes e ∙ no_bytes) in
    let c : IsCell cols x = record { row = g.0; is = g.2; may = record { of = g.2.of; small = g.3; some = some } } in
    record {
      each = (c, r.each);
      by_keys = subst (λ (o : Option (List Value)). ByKeys cols (rows_in (o ∷ map (typed_row cols) xs)) rows) (sym (cell_row cols x c)) (g.1, r.by_keys, g.5, g.6);
    }

pub full_some : (xs : List (List ℕ)) → Each (λ x. x ≢ []) (full xs)
full_some [] = tt
full_some ([] ∷ xs) = full_some xs
full_some ((b ∷ bs) ∷ xs) = ((λ e. cc), full_some xs)

-- a leaf of such cells: its slots are the cells of its rows, each of which may be put
pub leaf_slots : (cols : List Column) (xs : List (List ℕ)) → Each (IsCell cols) (full xs) → xs ≡ map cell (map (typed_row cols) xs)
leaf_slots cols [] e = refl
leaf_slots cols ([] ∷ xs) e = ap (λ (l : List (List ℕ)). [] ∷ l) (leaf_slots cols xs e)
leaf_slots cols ((b ∷ bs) ∷ xs) e =
    let here : b ∷ bs ≡ cell (typed_row cols (b ∷ bs)) = e.0.is.spelled ∙ sym (ap cell (cell_row cols (b ∷ bs) e.0)) in
    let rest = leaf_slots cols xs e.1 in
    λ i. here i ∷ rest i

pub leaf_may : (cols : List Column) (xs : List (List ℕ)) → Each (IsCell cols) (full xs) → Each (MayPut cols) (rows_in (map (typed_row cols) xs))
leaf_may cols [] e = tt
leaf_may cols ([] ∷ xs) e = leaf_may cols xs e
leaf_may cols ((b ∷ bs) ∷ xs) e =
    subst (λ (o : Option (List Value)). Each (MayPut cols) (rows_in (o ∷ map (typed_row cols) xs))) (sym (cell_row cols (b ∷ bs) e.0)) (e.0.may, leaf_may cols xs e.1)

-- the other way round: rows in cells
pub full_cells : (cols : List Column) (leaf : Leaf) → Each (MayPut cols) (rows_in leaf) → full (map cell leaf) ≡ map row_bytes (rows_in leaf)
full_cells cols [] e = refl
full_cells cols (None ∷ cs) e = full_cells cols cs e
full_cells cols (Some r ∷ cs) e = one (row_bytes r) (bytes_some r e.0.some) (full_cells cols cs e.1)
  where
    one : (x : List ℕ) → x ≢ [] → full (map cell cs) ≡ map row_bytes (rows_in cs) → full (x ∷ map cell cs) ≡ x ∷ map row_bytes (rows_in cs)
    one [] some rec = absurd (some refl)
    one (b ∷ bs) some rec = ap (λ (l : List (List ℕ)). (b ∷ bs) ∷ l) rec

pub gathers_rows : (cols : List Column) (rs : Rs) (m : Map) → Each (MayPut cols) rs → ByKeys cols rs m → Gathers cols (map row_bytes rs) m
gathers_rows cols [] m e a = a
gathers_rows cols (r ∷ rs) m e a = (r, a.0, record { of = e.0.of; spelled = refl }, e.0.small, gathers_rows cols rs a.0 e.1 a.1, a.2, a.3)

pub typed_cells : (cols : List Column) (leaf : Leaf) → Each (MayPut cols) (rows_in leaf) → map (typed_row cols) (map cell leaf) ≡ leaf
typed_cells cols [] e = refl
typed_cells cols (None ∷ cs) e = ap (λ (l : Leaf). None ∷ l) (typed_cells cols cs e)
typed_cells cols (Some r ∷ cs) e =
    let one : typed_row cols (row_bytes r) ≡ Some r = cell_row cols (row_bytes r) (record { row = r; is = record { of = e.0.of; spelled = refl }; may = e.0 }) in
    let rest = typed_cells cols cs e.1 in
    λ i. one i ∷ rest i

-- ENTRIES

placed_is : (c : Child) (cs : List Child) → map entry_of (placed c cs) ≡ placed_entry (entry_of c) (map entry_of cs)
placed_is c [] = refl
placed_is c (d ∷ ds) = by (is_upto c.least d.least) (placed_is c ds)
  where
    by : (b : Bool) → map entry_of (placed c ds) ≡ placed_entry (entry_of c) (map entry_of ds) → map entry_of (cond b (c ∷ d ∷ ds) (d ∷ placed c ds)) ≡ cond b (entry_of c ∷ entry_of d ∷ map entry_of ds) (entry_of d ∷ placed_entry (entry_of c) (map entry_of ds))
    by true rec = refl
    by false rec = ap (λ (l : List Entry). entry_of d ∷ l) rec

-- the children that slots of entries name
pub record AreNamed (keys : List Column) (i : ℕ) (xs : List (List ℕ)) (es : List (Option Entry)) : Type 0 where
  pub cs : List Child
  pub are : named keys i xs ≡ Ok cs
  pub order : map entry_of (sorted cs) ≡ in_key_order es

pub are_named : (keys : List Column) (i : ℕ) (xs : List (List ℕ)) (es : List (Option Entry)) → AreIn keys xs es → AreNamed keys i xs es
are_named keys i [] [] a = record { cs = []; are = refl; order = refl }
are_named keys i [] (e ∷ es) a = absurd a
are_named keys i (x ∷ xs) [] a = absurd a
are_named keys i (x ∷ xs) (None ∷ es) a =
    let r : AreNamed keys (i + 1) xs es = are_named keys (i + 1) xs es a.1 in
    record { cs = r.cs; are = ap (λ (z : List ℕ). named keys i (z ∷ xs)) a.0 ∙ r.are; order = r.order }
are_named keys i ([] ∷ xs) (Some e ∷ es) a = absurd (a.0.0 refl)
are_named keys i ((b ∷ bs) ∷ xs) (Some e ∷ es) a =
    let r : AreNamed keys (i + 1) xs es = are_named keys (i + 1) xs es a.1 in
    let c : Child = record { least = e.least; page = e.page; slot = i } in
    let here : child_at keys i (b ∷ bs) ≡ Some c = λ j. child_of i (a.0.1 j) (a.0.2 j) in
    record {
      cs = c ∷ r.cs;
      are = λ j. with_child i (here j) (r.are j);
      order = placed_is c (sorted r.cs) ∙ ap (placed_entry e) r.order;
    }

-- and the entries in slots that name children
read_in : (keys : List Column) (i : ℕ) (x : List ℕ) (c : Child) → x ≢ [] → child_at keys i x ≡ Some c → IsIn keys x (typed_entry keys x)
read_in keys i [] c some is = absurd (some refl)
read_in keys i (b ∷ bs) c some is = by (page_at (take 5 (b ∷ bs))) (least_at keys (drop 5 (b ∷ bs))) refl refl is
  where
    by : (p : Option PageId) (l : Option (Option Key)) → page_at (take 5 (b ∷ bs)) ≡ p → least_at keys (drop 5 (b ∷ bs)) ≡ l → child_of i p l ≡ Some c → IsIn keys (b ∷ bs) (entry_or_none (child_of 0 (page_at (take 5 (b ∷ bs))) (least_at keys (drop 5 (b ∷ bs)))))
    by None None e f g = absurd (let w : None ≡ Some c = g in cc)
    by None (Some l) e f g = absurd (let w : None ≡ Some c = g in cc)
    by (Some p) None e f g = absurd (let w : None ≡ Some c = g in cc)
    by (Some p) (Some l) e f g = subst (λ (o : Option Child). IsIn keys (b ∷ bs) (entry_or_none o)) (λ j. child_of 0 (sym e j) (sym f j)) (some, e, f)

pub read_entries : (keys : List Column) (i : ℕ) (xs : List (List ℕ)) (cs : List Child) → named keys i xs ≡ Ok cs → AreIn keys xs (map (typed_entry keys) xs)
read_entries keys i [] cs is = tt
read_entries keys i ([] ∷ xs) cs is = (refl, read_entries keys (i + 1) xs cs is)
read_entries keys i ((b ∷ bs) ∷ xs) cs is = by (child_at keys i (b ∷ bs)) (named keys (i + 1) xs) refl refl is (λ ds e. read_entries keys (i + 1) xs ds e)
  where
    by : (o : Option Child) (r : Result (List Child) ℕ) → child_at keys i (b ∷ bs) ≡ o → named keys (i + 1) xs ≡ r → with_child i o r ≡ Ok cs → ((ds : List Child) → named keys (i + 1) xs ≡ Ok ds → AreIn keys xs (map (typed_entry keys) xs))
        → AreIn keys ((b ∷ bs) ∷ xs) (map (typed_entry keys) ((b ∷ bs) ∷ xs))
    by None r e f g rec = absurd (let w : ◌≡◌ {A = Result (List Child) ℕ} (Err i) (Ok cs) = g in cc)
    by (Some c) (Err k) e f g rec = absurd (let w : ◌≡◌ {A = Result (List Child) ℕ} (Err k) (Ok cs) = g in cc)
    by (Some c) (Ok ds) e f g rec = (read_in keys i (b ∷ bs) c (λ w. cc) e, rec ds f)

-- MARKS AND LEAST KEYS

marks_each : (w u : PageId → List Mark) (cs : List Child) → Each (λ c. w c.page ≡ u c.page) cs → flat_map (child_marks w) cs ≡ flat_map (marks_of u) (map entry_of cs)
marks_each w u [] e = refl
marks_each w u (c ∷ cs) e = let rest = marks_each w u cs e.1 in λ i. (own c.least ++ e.0 i) ++ rest i

pub marks_headless : (w u : PageId → List Mark) (cs : List Child) → Each (λ c. w c.page ≡ u c.page) cs → flat_map (child_marks w) (child_headless cs) ≡ flat_map (marks_of u) (headless (map entry_of cs))
marks_headless w u [] e = refl
marks_headless w u (c ∷ cs) e = let rest = marks_each w u cs e.1 in λ i. e.0 i ++ rest i

none_or : (least o : Option Key) → is_none_or least o ≡ true → (o ≡ None) ⊎ (o ≡ least)
none_or least None e = inl refl
none_or None (Some k) e = absurd (let w : false ≡ true = e in cc)
none_or (Some l) (Some k) e = inr (ap Some (sym (ties l k e)))

or_none : (least o : Option Key) → (o ≡ None) ⊎ (o ≡ least) → is_none_or least o ≡ true
or_none least None h = refl
or_none None (Some k) (inl e) = absurd (cc)
or_none None (Some k) (inr e) = absurd (cc)
or_none (Some l) (Some k) (inl e) = absurd (cc)
or_none (Some l) (Some k) (inr e) = let same : k ≡ l = cc in ap (λ (z : Key). eq_by_cmp key_cmp l z) same ∙ itself l

have : (cs : List Child) → Each (λ c. has_least c ≡ true) cs → Each HasLeast (map entry_of cs)
have [] e = tt
have (c ∷ cs) e = (e.0, have cs e.1)

have_back : (cs : List Child) → Each HasLeast (map entry_of cs) → Each (λ c. has_least c ≡ true) cs
have_back [] e = tt
have_back (c ∷ cs) e = (e.0, have_back cs e.1)

pub part_of : (least : Option Key) (cs : List Child) → are_part least cs ≡ true → ArePart least (map entry_of cs)
part_of least [] e = tt
part_of least (c ∷ cs) e = let b = and_both (is_none_or least c.least) (list_all has_least cs) e in (none_or least c.least b.0, have cs (each_of has_least cs b.1))

pub of_part : (least : Option Key) (cs : List Child) → ArePart least (map entry_of cs) → are_part least cs ≡ true
of_part least [] e = refl
of_part least (c ∷ cs) e = and_is (is_none_or least c.least) (list_all has_least cs) (or_none least c.least e.0) (of_each has_least cs (have_back cs e.1))
