-- The table that a page holds, as the calls that read a page find it.
use Rattle.std.proofs.Common.{◌≡◌, ◌≢◌, ℕ, ◌+◌, ◌-◌, ◌<◌, ◌≤◌, Bool, true, false, inl, inr, IsTrue, List, [], ◌∷◌, length, map, refl, ap, sym, ◌∙◌, subst, arith}
use Rattle.std.specs.Prelude.{◌↔◌, Some, Ok}
use Rattle.std.specs.Option.{is_some}
use Rattle.std.specs.FinMap as finite
use Rattle.std.proofs.lemmas.Bool.{cases_lt}
use Rattle.page_base.specs.declared.column.Column.{Column}
use Rattle.page_base.specs.declared.value.Value.{Value}
use Rattle.page_base.proofs.FormatLemmas.{read_is}
use Rattle.page_fmt.specs.Content.{content, IsPage}
use Rattle.page_fmt.specs.Edits.{slot_at}
use Rattle.plain_model.specs.Tables.{Table, key_of, with_row}
use Rattle.table_pages.specs.Gathered.{collect}
use Rattle.row_fmt.specs.Rows.{FitsColumns}
use Rattle.page_base.specs.Order.{key_cmp}
use Rattle.std.proofs.lemmas.List.{nil_from_length}
use Rattle.std.specs.List.{AllByRecursion}
use Rattle.std.specs.Ordering.{match_ordering}
use Rattle.std.specs.declared.cmp.Ordering.{Ordering}
use Rattle.std.specs.declared.cmp.Ordering.TheVariants.{Less, Equal, Greater}
use Rattle.page_base.proofs.Ordered.{key_cmp_total}
use Rattle.table_pages.proofs.StoredLemmas.{Entries}
use Rattle.table_pages.specs.Rows.{row_of, HoldsFitting}
use Rattle.table_pages.specs.Headers.{name_at, columns_at}
use Rattle.table_pages.specs.Reading.{Stops}
use Rattle.table_pages.specs.Layout.{row_at}
use Rattle.table_pages.specs.Carried.{Holds}
use Rattle.table_pages.proofs.HeaderLemmas.{IsHeader, header_is}
use Rattle.table_pages.proofs.PageLemmas.{table_is, few_slots, slot_past, Passes, Puts, front_more, front_all}

pub held_header : (image held : List ℕ) (t : Table) → Holds image held t → IsHeader (slot_at (content image) 0) held t.cols
held_header image held t h = header_is (slot_at (content image) 0) held t.cols (table_is (slot_at (content image)) held t h).header

-- the name that was read is the table's, and its columns follow
pub held_name : (image reader held name after : List ℕ) (t : Table) → Holds image held t → reader ≡ slot_at (content image) 0 → name_at reader ≡ Ok (name, after) → (name ≡ held) × (columns_at after ≡ Ok (t.cols, []))
held_name image reader held name after t h at read =
    let i = held_header image held t h in
    let same = read_is name held after i.rest (sym read ∙ ap name_at at ∙ i.named) in
    (same.0, ap columns_at same.1 ∙ i.columns)

-- the name of a page that holds a table is read
pub held_stops : (image reader held : List ℕ) (t : Table) → Holds image held t → reader ≡ slot_at (content image) 0 → Stops (name_at reader) → ⊥
held_stops image reader held t h at stops = let i = held_header image held t h in subst Stops (ap name_at at ∙ i.named) stops

-- ALL ROWS

-- the slots before slot i are read
pub record IsRead (image : List ℕ) (t : Table) (i : ℕ) (table : Table) : Type 0 where
  pub cols : table.cols ≡ t.cols
  pub rows : collect (row_at t.cols (slot_at (content image))) (i - 1) ≡ Some table.rows

-- no slot is read yet
pub read_none : (image : List ℕ) (t : Table) (cols : List Column) → cols ≡ t.cols → IsRead image t 1 (record { cols = cols; rows = finite.empty })
read_none image t cols e = record { cols = e; rows = refl }

-- one slot more is read
pub read_more : (image bytes held : List ℕ) (i : ℕ) (t old new : Table) → Holds image held t → 0 < i → i < 4048 → bytes ≡ slot_at (content image) i →
    (bytes ≡ [] → new ≡ old) → ((row : List Value) → bytes ≢ [] → row_of old.cols bytes ≡ Some row → new ≡ with_row row old) → IsRead image t i old → IsRead image t (i + 1) new
read_more image bytes held i t old new h pos lt at passes puts so_far =
    let page : ℕ → List ℕ = slot_at (content image) in
    let whole = (table_is page held t h).rows in
    let down : (i + 1) - 1 ≡ i = omega arith in
    elim (front_more t.cols page t.rows whole i old.rows pos lt so_far.rows) [
      | Passes e is ↦
          let same = passes (at ∙ e) in
          record {
            cols = ap (λ (u : Table). u.cols) same ∙ so_far.cols;
            rows = ap (collect (row_at t.cols page)) down ∙ is ∙ ap (λ (u : Table). Some u.rows) (sym same);
          }
      | Puts row full e is ↦
          let row_is : row_of old.cols bytes ≡ Some row = (λ k. row_of (so_far.cols k) (at k)) ∙ e in
          let put = puts row (λ f. full (sym at ∙ f)) row_is in
          record {
            cols = ap (λ (u : Table). u.cols) put ∙ so_far.cols;
            rows = ap (collect (row_at t.cols page)) down ∙ is ∙ ap (λ (cs : List Column). Some (finite.insert old.rows (key_of cs row) row)) (sym so_far.cols) ∙ ap (λ (u : Table). Some u.rows) (sym put);
          }
    ]

-- all slots are read
pub read_all : (image held : List ℕ) (i : ℕ) (t table : Table) → Holds image held t → IsPage image → 0 < i → length (content image) ≤ i → IsRead image t i table → table ≡ t
read_all image held i t table h page pos le so_far =
    let slots : ℕ → List ℕ = slot_at (content image) in
    let rows = front_all t.cols slots t.rows (table_is slots held t h).rows (length (content image)) i table.rows (slot_past image) (few_slots image page) le pos so_far.rows in
    λ k. record { cols = so_far.cols k; rows = rows k }

-- WHAT THE COLUMNS MAY HOLD

-- a table without rows
pub fitting_none : (cols : List Column) → HoldsFitting (record { cols = cols; rows = finite.empty })
fitting_none cols = subst (λ (es : Entries). AllByRecursion (FitsColumns cols) (map (λ (e : List Value × List Value). e.1) es)) (sym none) tt
  where
    none : finite.entries (finite.empty {X = List Value} {R = key_cmp}) ≡ []
    none = nil_from_length _ (sym (finite.len-entries finite.empty) ∙ finite.len-empty key_cmp (List Value))

-- a value more among others
put_each : (P : List Value → Type 0) (k v : List Value) (es : Entries) → P v → AllByRecursion P (map (λ (e : List Value × List Value). e.1) es) → AllByRecursion P (map (λ (e : List Value × List Value). e.1) (finite.put key_cmp k v es))
put_each P k v [] here each = (here, tt)
put_each P k v (e ∷ es) here each = by (key_cmp k e.0) (put_each P k v es here each.1)
  where
    by : (o : Ordering) → AllByRecursion P (map (λ (e : List Value × List Value). e.1) (finite.put key_cmp k v es)) → AllByRecursion P (map (λ (e : List Value × List Value). e.1) (match_ordering o ((k, v) ∷ e ∷ es) ((e.0, v) ∷ es) (e ∷ finite.put key_cmp k v es)))
    by Less more = (here, each)
    by Equal more = (here, each.1)
    by Greater more = (each.0, more)

-- one row more
pub fitting_more : (t : Table) (row : List Value) → FitsColumns t.cols row → HoldsFitting t → HoldsFitting (with_row row t)
fitting_more t row fits h =
    subst (λ (es : Entries). AllByRecursion (FitsColumns t.cols) (map (λ (e : List Value × List Value). e.1) es)) (sym (finite.entries-insert key_cmp_total t.rows (key_of t.cols row) row))
    (put_each (FitsColumns t.cols) (key_of t.cols row) row (finite.entries t.rows) fits h)
