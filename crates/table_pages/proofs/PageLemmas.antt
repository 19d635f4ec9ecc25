-- What stands on a page that holds a table, and on a blank one.
use Rattle.std.proofs.Common.{◌≡◌, ◌≢◌, ℕ, zero, suc, ◌+◌, ◌-◌, ◌<◌, ◌≤◌, Bool, true, false, cond, ◌==◌, inl, inr, List, [], ◌∷◌, length, refl, ap, sym, ◌∙◌, arith, eqb-true}
use Rattle.std.specs.Prelude.{Option, Some, None}
use Rattle.std.specs.FinMap as finite
use Rattle.std.proofs.lemmas.Bool.{and_parts, cases_lt}
use Rattle.std.proofs.lemmas.List.{get_or_past}
use Rattle.page_base.specs.declared.column.Column.{Column}
use Rattle.page_base.specs.declared.value.Value.{Value}
use Rattle.page_base.proofs.Ordered.{key_cmp_total}
use Rattle.page_fmt.specs.Spelling.{row_bytes, LastIsFull}
use Rattle.page_fmt.specs.Content.{content, IsPage}
use Rattle.page_fmt.specs.Edits.{slot_at}
use Rattle.plain_model.specs.Tables.{Rows, Table, key_of}
use Rattle.table_pages.specs.Gathered.{Item, Skip, Bad, Has, joined, collect}
use Rattle.table_pages.specs.Rows.{row_of}
use Rattle.table_pages.specs.Headers.{header_of}
use Rattle.table_pages.specs.Layout.{keyed, row_item, row_at, rows_in, are_empty, is_bare, with_rows, with_header, with_front, table_item}
use Rattle.table_pages.proofs.CollectLemmas.{has_joined, same_Some, collect_at, collect_lacks, collect_good, collect_front, collect_tail, collect_none}
use Rattle.table_pages.proofs.OrderLemmas.{keys_exact}

-- A PAGE WITH A TABLE

-- slot 0 says this name and these columns, and the other slots are these rows
pub record IsTable (page : ℕ → List ℕ) (name : List ℕ) (t : Table) : Type 0 where
  pub full : page 0 ≢ []
  pub header : header_of (page 0) ≡ Some (name, t.cols)
  pub rows : rows_in t.cols page ≡ Some t.rows

abbrev TableItem : Type 0
TableItem = Item (List ℕ) Table

skip_or_bad : (b : Bool) (name : List ℕ) (t : Table) → ◌≡◌ {A = TableItem} (cond b Skip Bad) (Has name t) → ⊥
skip_or_bad true name t e = cc
skip_or_bad false name t e = cc

full_bytes : (b : ℕ) (bs : List ℕ) → b ∷ bs ≢ []
full_bytes b bs e = cc

has_is : (n name : List ℕ) (u t : Table) → ◌≡◌ {A = TableItem} (Has n u) (Has name t) → (n ≡ name) × (u ≡ t)
has_is n name u t e = (cc, cc)

-- the table that was found on a page
pub table_is : (page : ℕ → List ℕ) (name : List ℕ) (t : Table) → table_item page ≡ Has name t → IsTable page name t
unfolding table_item
table_is page name t e = by_front (page 0) refl e
  where
    by_rows : (s n : List ℕ) (cols : List Column) (o : Option Rows) → page 0 ≡ s → s ≢ [] → header_of s ≡ Some (n, cols) → rows_in cols page ≡ o → with_rows n cols o ≡ Has name t → IsTable page name t
    by_rows s n cols None at full h r e = absurd (let wrong : ◌≡◌ {A = TableItem} Bad (Has name t) = e in cc)
    by_rows s n cols (Some rows) at full h r e =
        let parts = has_is n name (record { cols = cols; rows = rows }) t e in
        let same_cols : cols ≡ t.cols = ap (λ (u : Table). u.cols) parts.1 in
        record {
          full = λ f. full (sym at ∙ f);
          header = ap header_of at ∙ h ∙ (λ i. Some (parts.0 i, same_cols i));
          rows = ap (λ (cs : List Column). rows_in cs page) (sym same_cols) ∙ r ∙ ap (λ (u : Table). Some u.rows) parts.1;
        }

    by_header : (s : List ℕ) (o : Option (List ℕ × List Column)) → page 0 ≡ s → s ≢ [] → header_of s ≡ o → with_header o page ≡ Has name t → IsTable page name t
    by_header s None at full h e = absurd (let wrong : ◌≡◌ {A = TableItem} Bad (Has name t) = e in cc)
    by_header s (Some h) at full is e = by_rows s h.0 h.1 (rows_in h.1 page) at full is refl e

    by_front : (s : List ℕ) → page 0 ≡ s → with_front s page ≡ Has name t → IsTable page name t
    by_front [] at e = absurd (skip_or_bad (is_bare page) name t e)
    by_front (b ∷ bs) at e = by_header (b ∷ bs) (header_of (b ∷ bs)) at (full_bytes b bs) refl e

-- the table that slots say
pub table_of : (page : ℕ → List ℕ) (name : List ℕ) (cols : List Column) (rows : Rows) → page 0 ≢ [] → header_of (page 0) ≡ Some (name, cols) → rows_in cols page ≡ Some rows →
    table_item page ≡ Has name (record { cols = cols; rows = rows })
unfolding table_item
table_of page name cols rows full h r = by_front (page 0) full h ∙ ap (with_rows name cols) r
  where
    by_front : (s : List ℕ) → s ≢ [] → header_of s ≡ Some (name, cols) → with_front s page ≡ with_rows name cols (rows_in cols page)
    by_front [] full h = absurd (full refl)
    by_front (b ∷ bs) full h = ap (λ (o : Option (List ℕ × List Column)). with_header o page) h

-- A BLANK PAGE

abbrev skip : TableItem
skip = Skip

-- a page that is passed over is blank
pub skip_is : (page : ℕ → List ℕ) → table_item page ≡ Skip → (page 0 ≡ []) × (is_bare page ≡ true)
unfolding table_item
skip_is page e = by_front (page 0) refl e
  where
    by_rows : (n : List ℕ) (cols : List Column) (o : Option Rows) → with_rows n cols o ≡ skip → ⊥
    by_rows n cols None e = let wrong : ◌≡◌ {A = TableItem} Bad Skip = e in cc
    by_rows n cols (Some rows) e = let wrong : ◌≡◌ {A = TableItem} (Has n (record { cols = cols; rows = rows })) Skip = e in cc

    by_header : (o : Option (List ℕ × List Column)) → with_header o page ≡ skip → ⊥
    by_header None e = let wrong : ◌≡◌ {A = TableItem} Bad Skip = e in cc
    by_header (Some h) e = by_rows h.0 h.1 (rows_in h.1 page) e

    by_bare : (b : Bool) → is_bare page ≡ b → cond b Skip Bad ≡ skip → is_bare page ≡ true
    by_bare true is e = is
    by_bare false is e = absurd (let wrong : ◌≡◌ {A = TableItem} Bad Skip = e in cc)

    by_front : (s : List ℕ) → page 0 ≡ s → with_front s page ≡ skip → (page 0 ≡ []) × (is_bare page ≡ true)
    by_front [] at e = (at, by_bare (is_bare page) refl e)
    by_front (b ∷ bs) at e = absurd (by_header (header_of (b ∷ bs)) e)

no_length : (xs : List ℕ) → length xs ≡ 0 → xs ≡ []
no_length [] e = refl
no_length (x ∷ xs) e = absurd (omega arith)

empty_slots : (page : ℕ → List ℕ) (n j : ℕ) → are_empty page n ≡ true → j < n → page (j + 1) ≡ []
empty_slots page zero j e lt = absurd (omega arith)
empty_slots page (suc n) j e lt =
    let parts = and_parts (length (page (n + 1)) == 0) (are_empty page n) e in
    elim (cases_lt j n) [
      | inl low ↦ empty_slots page n j parts.1 low
      | inr high ↦ let at : j ≡ n = omega arith in ap (λ (k : ℕ). page (k + 1)) at ∙ no_length (page (n + 1)) (eqb-true (length (page (n + 1))) 0 parts.0)
    ]

-- a page without rows
pub bare_slots : (page : ℕ → List ℕ) (j : ℕ) → is_bare page ≡ true → 0 < j → j < 4048 → page j ≡ []
unfolding is_bare
bare_slots page j e pos lt = let at : (j - 1) + 1 ≡ j = omega arith in ap page (sym at) ∙ empty_slots page 4047 (j - 1) e (omega arith)

-- a page of which all slots are empty is blank
pub bare_skips : (page : ℕ → List ℕ) → ((j : ℕ) → page j ≡ []) → table_item page ≡ Skip
unfolding table_item is_bare
bare_skips page none = ap (λ (s : List ℕ). with_front s page) (none 0) ∙ ap (λ (b : Bool). cond b Skip Bad) (all_empty 4047)
  where
    all_empty : (n : ℕ) → are_empty page n ≡ true
    all_empty zero = refl
    all_empty (suc n) = rw (none (n + 1)) (all_empty n)

-- empty slots hold no rows
pub bare_rows : (cols : List Column) (page : ℕ → List ℕ) → ((j : ℕ) → 0 < j → j < 4048 → page j ≡ []) → rows_in cols page ≡ Some finite.empty
unfolding rows_in
bare_rows cols page h = collect_none key_cmp_total keys_exact (row_at cols page) 4047 (λ i lt. ap (row_item cols) (h (i + 1) (omega arith) (omega arith)))

-- THE SLOTS OF A PAGE

some_bytes : (xs : List (List ℕ)) → LastIsFull xs → 0 < length xs → 0 < row_bytes xs
some_bytes [] h lt = absurd (omega arith)
some_bytes ([] ∷ []) h lt = absurd (h refl)
some_bytes ((b ∷ bs) ∷ []) h lt = omega arith
some_bytes (x ∷ y ∷ ys) h lt = let low = some_bytes (y ∷ ys) h (omega arith) in omega arith

-- a page has fewer than 4,048 slots
pub few_slots : (image : List ℕ) → IsPage image → length (content image) < 4048
few_slots image page = let small = page.fits.small in elim (cases_lt 0 (length (content image))) [
  | inl some ↦ let low = some_bytes (content image) page.fits.last some in omega arith
  | inr none ↦ omega arith
]

-- a slot past the last one
pub slot_past : (image : List ℕ) (i : ℕ) → length (content image) ≤ i → slot_at (content image) i ≡ []
slot_past image i le = get_or_past (content image) i [] le

-- THE ROWS OF A PAGE

abbrev RowItem : Type 0
RowItem = Item (List Value) (List Value)

-- an empty slot
pub row_skip : (cols : List Column) (bytes : List ℕ) → bytes ≡ [] → row_item cols bytes ≡ Skip
row_skip cols bytes e = ap (row_item cols) e

-- a slot that is a row
pub row_has : (cols : List Column) (bytes : List ℕ) (row : List Value) → bytes ≢ [] → row_of cols bytes ≡ Some row → row_item cols bytes ≡ Has (key_of cols row) row
row_has cols [] row full e = absurd (full refl)
row_has cols (b ∷ bs) row full e = ap (keyed cols) e

-- what a slot is that isn't bad: empty, or a row
pub data IsSlot (cols : List Column) (bytes : List ℕ) : Type 0 where
  Empty : bytes ≡ [] → IsSlot cols bytes
  Row : (row : List Value) → bytes ≢ [] → row_of cols bytes ≡ Some row → IsSlot cols bytes

-- a slot that isn't bad
pub slot_is : (cols : List Column) (bytes : List ℕ) → row_item cols bytes ≢ Bad → IsSlot cols bytes
slot_is cols [] good = Empty refl
slot_is cols (b ∷ bs) good = by (row_of cols (b ∷ bs)) refl
  where
    by : (o : Option (List Value)) → row_of cols (b ∷ bs) ≡ o → IsSlot cols (b ∷ bs)
    by None e = absurd (good (ap (keyed cols) e))
    by (Some row) e = Row row (full_bytes b bs) e

-- a slot that holds an entry is a row of its key
pub has_row : (cols : List Column) (bytes : List ℕ) (key row : List Value) → row_item cols bytes ≡ Has key row → (bytes ≢ []) × (row_of cols bytes ≡ Some row) × (key_of cols row ≡ key)
has_row cols [] key row e = absurd (let wrong : ◌≡◌ {A = RowItem} Skip (Has key row) = e in cc)
has_row cols (b ∷ bs) key row e = by (row_of cols (b ∷ bs)) refl e
  where
    same : (k v key row : List Value) → ◌≡◌ {A = RowItem} (Has k v) (Has key row) → (k ≡ key) × (v ≡ row)
    same k v key row e = (cc, cc)

    by : (o : Option (List Value)) → row_of cols (b ∷ bs) ≡ o → keyed cols o ≡ Has key row → (b ∷ bs ≢ []) × (row_of cols (b ∷ bs) ≡ Some row) × (key_of cols row ≡ key)
    by None is e = absurd (let wrong : ◌≡◌ {A = RowItem} Bad (Has key row) = e in cc)
    by (Some v) is e = let p = same (key_of cols v) v key row e in (full_bytes b bs, is ∙ ap Some p.1, ap (key_of cols) (sym p.1) ∙ p.0)

module _ (cols : List Column) (page : ℕ → List ℕ) (all : Rows) (whole : rows_in cols page ≡ Some all) where
  whole_is : collect (row_at cols page) 4047 ≡ Some all
  unfolding rows_in
  whole_is = whole

  at_slot : (i : ℕ) → 0 < i → row_at cols page (i - 1) ≡ row_item cols (page i)
  at_slot i pos = let at : (i - 1) + 1 ≡ i = omega arith in ap (λ (k : ℕ). row_item cols (page k)) at

  -- each slot is empty or a row
  pub page_slot : (i : ℕ) → 0 < i → i < 4048 → IsSlot cols (page i)
  page_slot i pos lt = slot_is cols (page i) (λ bad. collect_good key_cmp_total keys_exact (row_at cols page) 4047 (i - 1) all whole_is (omega arith) (at_slot i pos ∙ bad))

  -- a row of a slot is in the map
  pub row_there : (i : ℕ) (row : List Value) → 0 < i → i < 4048 → page i ≢ [] → row_of cols (page i) ≡ Some row → finite.get all (key_of cols row) ≡ Some row
  row_there i row pos lt full e = collect_at key_cmp_total keys_exact (row_at cols page) 4047 (i - 1) all (key_of cols row) row whole_is (omega arith) (at_slot i pos ∙ row_has cols (page i) row full e)

  -- a key that no slot has
  pub row_lacks : (key : List Value) → ((i : ℕ) (row : List Value) → 0 < i → i < 4048 → page i ≢ [] → row_of cols (page i) ≡ Some row → key_of cols row ≢ key) → finite.get all key ≡ None
  row_lacks key none = collect_lacks key_cmp_total keys_exact (row_at cols page) 4047 all key whole_is (λ i row lt e.
      let h = has_row cols (page (i + 1)) key row e in
      none (i + 1) row (omega arith) (omega arith) h.0 h.1 h.2)

  -- one slot more: it is empty, or its row is put
  pub data Front (i : ℕ) (m : Rows) : Type 0 where
    Passes : page i ≡ [] → collect (row_at cols page) i ≡ Some m → Front i m
    Puts : (row : List Value) → page i ≢ [] → row_of cols (page i) ≡ Some row → collect (row_at cols page) i ≡ Some (finite.insert m (key_of cols row) row) → Front i m

  -- the rows up to one slot more
  pub front_more : (i : ℕ) (m : Rows) → 0 < i → i < 4048 → collect (row_at cols page) (i - 1) ≡ Some m → Front i m
  front_more i m pos lt so_far =
      let up : suc (i - 1) ≡ i = omega arith in
      let one : collect (row_at cols page) i ≡ joined (row_item cols (page i)) (Some m) = ap (collect (row_at cols page)) (sym up) ∙ (λ t. joined (at_slot i pos t) (so_far t)) in
      elim (page_slot i pos lt) [
        | Empty e ↦ Passes e (one ∙ ap (λ (item : RowItem). joined item (Some m)) (row_skip cols (page i) e))
        | Row row full e ↦
            let is : collect (row_at cols page) i ≡ joined (Has (key_of cols row) row) (Some m) = one ∙ ap (λ (item : RowItem). joined item (Some m)) (row_has cols (page i) row full e) in
            let c = collect_front key_cmp_total keys_exact (row_at cols page) 4047 i all whole_is (omega arith) in
            let j = has_joined key_cmp_total keys_exact (key_of cols row) row m c.0 (sym is ∙ c.1) in
            Puts row full e (c.1 ∙ ap Some j.is)
      ]

  -- past the last slot
  pub front_all : (n i : ℕ) (m : Rows) → ((j : ℕ) → n ≤ j → page j ≡ []) → n < 4048 → n ≤ i → 0 < i → collect (row_at cols page) (i - 1) ≡ Some m → m ≡ all
  front_all n i m past few le pos so_far =
      let last : ℕ = n - 1 in
      let up : last + (i - 1 - last) ≡ i - 1 = omega arith in
      let most : last + (4047 - last) ≡ 4047 = omega arith in
      let empty : (j : ℕ) → last ≤ j → row_at cols page j ≡ Skip = λ j h. row_skip cols (page (j + 1)) (past (j + 1) (omega arith)) in
      let front = collect_tail key_cmp_total keys_exact (row_at cols page) last (i - 1 - last) empty in
      let back = collect_tail key_cmp_total keys_exact (row_at cols page) last (4047 - last) empty in
      same_Some m all (sym so_far ∙ ap (collect (row_at cols page)) (sym up) ∙ front ∙ sym back ∙ ap (collect (row_at cols page)) most ∙ whole_is)
