-- A root is told later: the row of a new table gives way to one with another root.
use Rattle.std.proofs.Common.{refl, ◌≡◌, ◌≢◌, ℕ, zero, suc, ◌+◌, ◌<◌, ◌||◌, List, [], ◌∷◌, ◌++◌, length, map, get_or, ap, sym, ◌∙◌, subst, arith, Bool, true, false, cond, inl, inr, append_assoc}
use Rattle.std.specs.Prelude.{pos, Some, None}
use Rattle.std.specs.FinMap as finite
use Rattle.std.specs.FinMap.{find, get-from_entries}
use Rattle.std.specs.List.{flat_map, AllByRecursion}
use Rattle.std.specs.Ordering.{is_eq}
use Rattle.std.specs.Str.{bytes_eq}
use Rattle.std.specs.declared.cmp.Ordering.TheVariants.{Less}
use Rattle.std.proofs.lemmas.Bool.{cases_Bool}
use Rattle.std.proofs.lemmas.List.{get_or_past, map-append}
use Rattle.std.proofs.lemmas.Slice.Eq.{bytes_eq-Decides}
use Rattle.page_base.specs.declared.column.Column.{Column}
use Rattle.page_base.specs.declared.numbers.PageId.{PageId}
use Rattle.page_base.specs.declared.value.Value.{Value}
use Rattle.page_base.specs.declared.value.Value.TheVariants.{Null, Int, Big, Text}
use Rattle.page_base.specs.Order.{key_cmp}
use Rattle.page_base.proofs.Ordered.{key_cmp_total}
use Rattle.page_fmt.specs.Edits.{slot_at}
use Rattle.page_fmt.specs.Seen.{SlotsAt}
use Rattle.plain_model.specs.Tables.{Rows, Tables, key_of}
use Rattle.row_fmt.specs.Rows.{row_bytes}
use Rattle.row_fmt.proofs.RowLemmas.{one_row}
use Rattle.row_fmt.proofs.SizeLemmas.{int_size, text_size, values_size-cons, row_size}
use Rattle.sys_cat.specs.declared.desc.TableDesc.{TableDesc}
use Rattle.sys_cat.specs.Changing.{has_name, row_key, AreKeyed}
use Rattle.sys_cat.specs.Lists.{IsDesc, AreTables}
use Rattle.sys_cat.specs.Rows.{table_0, zero_root, table_row, column_row, column_rows, rows_of}
use Rattle.sys_cat.proofs.ChangeLemmas.{neither}
use Rattle.sys_cat.proofs.OrderLemmas.{Entry, entry, table_key, column_key, later_columns, all_append, keys_in, sorted_tables, is_made, gathered_keyed}
use Rattle.sys_cat.proofs.PutLemmas.{good, rows_put}
use Rattle.table_walk.specs.declared.plan.Edit.{Edit}
use Rattle.table_walk.specs.declared.plan.Spot.{Spot}
use Rattle.table_walk.specs.declared.visit.Visit.{Visit}
use Rattle.table_walk.specs.Differences.{edit_at}
use Rattle.table_walk.specs.Filling.{IsLike, IsLeafOf}
use Rattle.table_walk.specs.Plans.{place, put_all, also, is_claimed, AreWithin, Carries}
use Rattle.table_walk.specs.Tables.{is_leaf, MayPut, Gathers, cells, cells_of, full}
use Rattle.table_walk.proofs.FillLemmas.{filled_in}
use Rattle.table_walk.proofs.GatherLemmas.{OneOf, gathers_out}
use Rattle.table_walk.proofs.LeafLemmas.{put_put}
use Rattle.table_walk.proofs.RowsLemmas.{Key, same_key, no_Some, ties, itself, turned, get_put, insert_swap}
use Rattle.page_tables.specs.Bases.{IsBase}
use Rattle.page_tables.specs.Creating.{IsNew}
use Rattle.page_tables.specs.Layout.{shape, first}
use Rattle.page_tables.specs.Owners.{owns}
use Rattle.page_tables.specs.Rooting.{rooted, telling, IsOnRows}
use Rattle.page_tables.specs.Writes.{AreClaimable}
use Rattle.page_tables.proofs.LayoutLemmas.{by_keys}
use Rattle.page_tables.proofs.OwnerLemmas.{claim_of}
use Rattle.page_tables.proofs.OwnLemmas.{zero_small}

-- ---- a new table's own row isn't there

-- keys of two names differ
abbrev first_text : List Value → List ℕ
first_text [] = []
first_text (Text t ∷ vs) = t
first_text (Null ∷ vs) = []
first_text (Int n ∷ vs) = []
first_text (Big n ∷ vs) = []

other_key : (name other : List ℕ) (m n : ℕ) → bytes_eq other name ≡ false → same_key (row_key name m) (row_key other n) ≡ false
other_key name other m n differ = elim (cases_Bool (same_key (row_key name m) (row_key other n))) [
  | inl t ↦ absurd (let w : true ≡ false = sym ((bytes_eq-Decides other name).1 (sym (ap first_text (ties (row_key name m) (row_key other n) t)))) ∙ differ in cc)
  | inr f ↦ f
]

abbrev Apart : List Value → Entry → Type 0
Apart key x = same_key key x.0 ≡ false

columns_apart : (name other : List ℕ) (m ord : ℕ) (cols : List Column) → bytes_eq other name ≡ false → AllByRecursion (Apart (row_key name m)) (map entry (column_rows other ord cols))
columns_apart name other m ord [] differ = tt
columns_apart name other m ord (c ∷ cs) differ = (ap (same_key (row_key name m)) (column_key other ord c) ∙ other_key name other m ord differ, columns_apart name other m (ord + 1) cs differ)

rows_apart : (name : List ℕ) (m : ℕ) (d : TableDesc) → bytes_eq d.name name ≡ false → AllByRecursion (Apart (row_key name m)) (map entry (rows_of d))
rows_apart name m d differ = (ap (same_key (row_key name m)) (table_key d) ∙ other_key name d.name m 0 differ, columns_apart name d.name m 1 d.cols differ)

tables_apart : (name : List ℕ) (m : ℕ) (ds : List TableDesc) → has_name ds name ≡ false → AllByRecursion (Apart (row_key name m)) (map entry (flat_map rows_of ds))
tables_apart name m [] none = tt
tables_apart name m (d ∷ ds) none =
    let parts = neither (bytes_eq d.name name) (has_name ds name) none in
    subst (AllByRecursion (Apart (row_key name m))) (sym (map-append entry (rows_of d) (flat_map rows_of ds)))
    (all_append (Apart (row_key name m)) (map entry (rows_of d)) (map entry (flat_map rows_of ds)) (rows_apart name m d parts.0) (tables_apart name m ds parts.1))

nothing_found : (key : List Value) (es : List Entry) → AllByRecursion (Apart key) es → find key_cmp key es ≡ None
nothing_found key [] a = refl
nothing_found key (e ∷ es) a = ap (λ b. cond b (Some e.1) (find key_cmp key es)) a.0 ∙ nothing_found key es a.1

pub lacks_key : (rows : Rows) (ds : List TableDesc) (name : List ℕ) (m : ℕ) → AreTables (finite.values rows) ds → AreKeyed rows → has_name ds name ≡ false → finite.get rows (row_key name m) ≡ None
lacks_key rows ds name m t keyed none =
    ap (λ (r : Rows). finite.get r (row_key name m)) (is_made rows (flat_map rows_of ds) keyed t.spelled (sorted_tables ds t.descs.names))
    ∙ get-from_entries key_cmp_total (map entry (flat_map rows_of ds)) (row_key name m)
    ∙ nothing_found (row_key name m) (map entry (flat_map rows_of ds)) (tables_apart name m ds none)

-- ---- a slot of a page of rows is a cell

record IsCell (x : List ℕ) (xs : List (List ℕ)) : Type 0 where
  front : List (List ℕ)
  back : List (List ℕ)
  is : xs ≡ front ++ x ∷ back

cell_behind : (x : List ℕ) (more xs : List (List ℕ)) → IsCell x xs → IsCell x (more ++ xs)
cell_behind x more xs c = record { front = more ++ c.front; back = c.back; is = ap (λ ys. more ++ ys) c.is ∙ sym (append_assoc more c.front (x ∷ c.back)) }

cell_before : (x : List ℕ) (xs more : List (List ℕ)) → IsCell x xs → IsCell x (xs ++ more)
cell_before x xs more c = record { front = c.front; back = c.back ++ more; is = ap (λ ys. ys ++ more) c.is ∙ append_assoc c.front (x ∷ c.back) more }

full_cell : (s : List (List ℕ)) (j : ℕ) (x : List ℕ) → x ≢ [] → get_or s j [] ≡ x → IsCell x (full s)
full_cell [] j x some is = absurd (some (sym is))
full_cell ([] ∷ s) zero x some is = absurd (some (sym is))
full_cell ((b ∷ bs) ∷ s) zero x some is = record { front = []; back = full s; is = λ i. is i ∷ full s }
full_cell ([] ∷ s) (suc j) x some is = full_cell s j x some is
full_cell ((b ∷ bs) ∷ s) (suc j) x some is = cell_behind x ((b ∷ bs) ∷ []) (full s) (full_cell s j x some is)

leaf_cell : (at : SlotsAt) (done : List Visit) (k : ℕ) (d : Visit) (p : PageId) (j : ℕ) (x : List ℕ) → x ≢ [] → k < length done → (get_or done k d).page ≡ p → is_leaf (get_or done k d) ≡ true → slot_at (at p) j ≡ x → IsCell x (cells at done)
leaf_cell at [] k d p j x some lt here leaf is = absurd (omega arith)
leaf_cell at (v ∷ vs) zero d p j x some lt here leaf is =
    cell_before x (cells_of at v) (cells at vs) (subst (λ b. IsCell x (cond b (full (at v.page)) [])) (sym leaf) (full_cell (at v.page) j x some (ap (λ q. slot_at (at q) j) here ∙ is)))
leaf_cell at (v ∷ vs) (suc k) d p j x some lt here leaf is = cell_behind x (cells_of at v) (cells at vs) (leaf_cell at vs k d p j x some (omega arith) here leaf is)

-- a cell that spells a row is that row's
gathered_row : (cols : List Column) (xs : List (List ℕ)) (rows : Rows) (row : List Value) → Gathers cols xs rows → IsCell (row_bytes row) xs → MayPut cols row → finite.get rows (key_of cols row) ≡ Some row
gathered_row cols xs rows row g c may =
    let o : OneOf cols c.front (row_bytes row) c.back rows = gathers_out cols c.front (row_bytes row) c.back rows (subst (λ ys. Gathers cols ys rows) c.is g) in
    let same : o.row ≡ row = one_row cols (row_bytes row) o.row row o.is (record { of = may.of; spelled = refl }) in
    ap (λ (r : Rows). finite.get r (key_of cols row)) (o.all ∙ (λ i. finite.insert o.rest (key_of cols (same i)) (same i)))
    ∙ get_put o.rest (key_of cols row) row (key_of cols row) ∙ ap (λ b. cond b (Some row) (finite.get o.rest (key_of cols row))) (itself (key_of cols row))

-- ---- the rows that are put

put_later : (rs : List (List Value)) (m : Rows) (k v : Key) → AllByRecursion (λ (r : List Value). same_key (key_of table_0 r) k ≡ false) rs → finite.insert (put_all table_0 rs m) k v ≡ put_all table_0 rs (finite.insert m k v)
put_later [] m k v a = refl
put_later (r ∷ rs) m k v a = put_later rs (finite.insert m (key_of table_0 r) r) k v a.1 ∙ ap (put_all table_0 rs) (insert_swap m (key_of table_0 r) k r v a.0)

columns_later : (name : List ℕ) (ord : ℕ) (cols : List Column) (k : Key) → k ≡ row_key name 0 → AllByRecursion (λ (x : Key). key_cmp (row_key name 0) x ≡ Less) (keys_in (column_rows name ord cols)) → AllByRecursion (λ (r : List Value). same_key (key_of table_0 r) k ≡ false) (column_rows name ord cols)
columns_later name ord [] k is a = tt
columns_later name ord (c ∷ cs) k is a = (
  turned (key_of table_0 (column_row name ord c)) k ∙ ap (λ (q : Key). same_key q (key_of table_0 (column_row name ord c))) is ∙ ap is_eq a.0,
  columns_later name (ord + 1) cs k is a.1,
)

module _ (d : TableDesc) (root : PageId) where
  abbrev e : TableDesc
  e = rooted d root

  key_e : key_of table_0 (table_row (rooted d root)) ≡ row_key d.name 0
  key_e = table_key (rooted d root)

  pub same_put : (m : Rows) → finite.insert (put_all table_0 (rows_of d) m) (key_of table_0 (table_row (rooted d root))) (table_row (rooted d root)) ≡ put_all table_0 (rows_of (rooted d root)) m
  same_put m =
      put_later (column_rows d.name 1 d.cols) (finite.insert m (key_of table_0 (table_row d)) (table_row d)) (key_of table_0 (table_row (rooted d root))) (table_row (rooted d root))
      (columns_later d.name 1 d.cols (key_of table_0 (table_row (rooted d root))) key_e (later_columns d.name 0 1 d.cols (omega arith)))
      ∙ ap (put_all table_0 (column_rows d.name 1 d.cols))
      ((λ i. finite.insert (finite.insert m ((table_key d ∙ sym key_e) i) (table_row d)) (key_of table_0 (table_row (rooted d root))) (table_row (rooted d root)))
      ∙ put_put m (key_of table_0 (table_row (rooted d root))) (table_row d) (table_row (rooted d root)))

  size_of : (f : TableDesc) → length (row_bytes (table_row f)) ≡ 1 + (2 + length f.name + (4 + (2 + (4 + (4 + 4)))))
  size_of f = omega (
    arith,
    row_size (table_row f),
    values_size-cons (Text f.name) (Int (pos 0) ∷ Text [] ∷ Int (pos f.number.0) ∷ Int (pos f.root.file) ∷ Int (pos f.root.page) ∷ []),
    values_size-cons (Int (pos 0)) (Text [] ∷ Int (pos f.number.0) ∷ Int (pos f.root.file) ∷ Int (pos f.root.page) ∷ []),
    values_size-cons (Text []) (Int (pos f.number.0) ∷ Int (pos f.root.file) ∷ Int (pos f.root.page) ∷ []),
    values_size-cons (Int (pos f.number.0)) (Int (pos f.root.file) ∷ Int (pos f.root.page) ∷ []),
    values_size-cons (Int (pos f.root.file)) (Int (pos f.root.page) ∷ []),
    values_size-cons (Int (pos f.root.page)) [],
    text_size f.name,
    int_size (pos 0),
    text_size [],
    int_size (pos f.number.0),
    int_size (pos f.root.file),
    int_size (pos f.root.page),
  )

  may : (f : TableDesc) → IsDesc f → MayPut table_0 (table_row f)
  may f h = rows_put f h.head h.named (good f.cols h.sound) 0 (table_row f) (omega arith)

  pub like : IsDesc d → IsDesc (rooted d root) → IsLike table_0 (table_row d) (table_row (rooted d root))
  like h g = record {
    of = (may d h).of;
    other_of = (may (rooted d root) g).of;
    small = (may (rooted d root) g).small;
    key = key_e ∙ sym (table_key d);
    size = size_of (rooted d root) ∙ sym (size_of d);
    some = omega (arith, size_of d);
  }

-- ---- the plan

within_mid : (claimed : ℕ → PageId) (n : ℕ) (mine : PageId → Bool) (before : List Edit) (x : Edit) (later : List Edit) → AreWithin claimed n mine (before ++ x ∷ later) → also mine claimed n (place claimed x.spot) ≡ true
within_mid claimed n mine [] x later w = w.0
within_mid claimed n mine (y ∷ before) x later w = within_mid claimed n mine before x later w.1

module _ (counts : List ℕ) (at : SlotsAt) (ds : List TableDesc) (tables : Tables) (d : TableDesc) (root : PageId) (claimed : ℕ → PageId) (n : ℕ) (before later : List Edit) (spot : Spot) (slot : ℕ) (b : IsBase counts at ds tables) (new : IsNew ds d) (desc : IsDesc (rooted d root)) (free : AreClaimable counts at claimed n)
    (on : IsOnRows claimed at (telling before spot slot d later) (place claimed spot)) (plan : Carries shape table_0 (first zero_root) claimed n at (owns counts at 0) (telling before spot slot d later) (put_all table_0 (rows_of d) b.zero_rows)) where
  abbrev p : PageId
  p = place claimed spot

  some : row_bytes (table_row (rooted d root)) ≢ []
  some e = absurd (omega (arith, size_of d root (rooted d root), ap length e))

  keyed : AreKeyed b.zero_rows
  keyed = gathered_keyed _ b.zero_rows b.zero_pages.1.gathers

  -- the slot doesn't have the row yet
  changes : slot_at (at (place claimed spot)) slot ≢ row_bytes (table_row (rooted d root))
  changes is = elim (cases_Bool (is_claimed claimed n (place claimed spot))) [
    | inl t ↦
        let i = claim_of counts 0 claimed zero_small n (place claimed spot) t in
        let blank : at (place claimed spot) ≡ [] = ap at (sym i.2) ∙ b.blank (claimed i.0) (free.there i.0 i.1) (free.free i.0 i.1) in
        some (sym is ∙ ap (λ s. slot_at s slot) blank ∙ get_or_past [] slot [] (omega arith))
    | inr f ↦
        let own : owns counts at 0 (place claimed spot) ≡ true = or_first (owns counts at 0 (place claimed spot)) (is_claimed claimed n (place claimed spot)) f (within_mid claimed n (owns counts at 0) before (edit_at spot (slot, row_bytes (table_row d))) later plan.within) in
        let leaf : IsLeafOf b.zero_pages.0 (place claimed spot) = on.was b.zero_pages.0 b.zero_pages.1.walk ((b.zero_pages.1.owned (place claimed spot)).0 own) in
        let there = gathered_row table_0 (cells at b.zero_pages.0) b.zero_rows (table_row (rooted d root)) b.zero_pages.1.gathers
        (leaf_cell at b.zero_pages.0 leaf.0 leaf.1 (place claimed spot) slot (row_bytes (table_row (rooted d root))) some leaf.2 (ap (λ (v : Visit). v.page) leaf.3 ∙ leaf.4.0) (ap is_leaf leaf.3 ∙ leaf.4.1) is) (may d root (rooted d root) desc) in
        no_Some (table_row (rooted d root)) (sym there ∙ ap (finite.get b.zero_rows) (key_e d root) ∙ lacks_key b.zero_rows ds d.name 0 b.descs keyed new.name)
  ]
    where
      or_first : (x y : Bool) → y ≡ false → (x || y) ≡ true → x ≡ true
      or_first true y e h = refl
      or_first false y e h = sym e ∙ h

  pub told_later : Carries shape table_0 (first zero_root) claimed n at (owns counts at 0) (telling before spot slot (rooted d root) later) (put_all table_0 (rows_of (rooted d root)) b.zero_rows)
  told_later = subst (Carries shape table_0 (first zero_root) claimed n at (owns counts at 0) (telling before spot slot (rooted d root) later)) (same_put d root b.zero_rows)
      (filled_in shape table_0 (first zero_root) claimed n at (owns counts at 0) before later spot slot (table_row d) (table_row (rooted d root)) (put_all table_0 (rows_of d) b.zero_rows) by_keys (like d root new.desc desc) on.once changes on.is plan)
