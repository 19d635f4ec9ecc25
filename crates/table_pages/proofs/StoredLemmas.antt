-- A stored table, seen as a table of the plain machine.
use Rattle.std.proofs.Common.{◌≡◌, ℕ, List, ap, sym, ◌∙◌, map, length, subst, [], ◌∷◌, ◌++◌, append_assoc}
use Rattle.std.proofs.lemmas.List.{length-map}
use Rattle.std.specs.FinMap as finite
use Rattle.std.specs.FinMap.{get-empty}
use Rattle.std.specs.Prelude.{Some, None}
use Rattle.table_pages.proofs.KeyedLemmas.{table_of_itself, keyed_put}
use Rattle.table_pages.proofs.OrderLemmas.{keys_exact}
use Rattle.std.specs.BTreeMap.{insert_entry}
use Rattle.std.specs.List.Sorted.{IsStrictlySortedBy}
use Rattle.page_base.specs.declared.column.Column.{Column}
use Rattle.page_base.specs.declared.value.Value.{Value}
use Rattle.page_base.specs.Order.{key_cmp}
use Rattle.page_base.proofs.Ordered.{key_cmp_total}
use Rattle.page_base.proofs.MapLemmas.{entries-from_entries, from_entries-insert_entry}
use Rattle.plain_model.specs.Tables.{Table, IsTable, IsKeyed, with_row, key_of, rows_of}

-- rows beside their keys
abbrev pub Entries : Type 0
Entries = List (List Value × List Value)

-- the table that they are
abbrev pub stored : List Column → Entries → Table
stored cols es = record { cols = cols; rows = finite.from_entries es }

-- a row that is put into the one is put into the other
pub stored-put : (cols : List Column) (es fs : Entries) (t : Table) (key row : List Value) → stored cols es ≡ t → key ≡ key_of t.cols row →
    IsStrictlySortedBy key_cmp (map (λ e. e.0) es) → IsStrictlySortedBy key_cmp (map (λ e. e.0) fs) → fs ≡ insert_entry key_cmp es key row → stored cols fs ≡ with_row row t
stored-put cols es fs t key row is k old new f =
    subst (λ (t : Table). key ≡ key_of t.cols row → stored cols fs ≡ with_row row t) is
    (λ (k : key ≡ key_of cols row). ap (λ rows. let r : Table = record { cols = cols; rows = rows } in r) (from_entries-insert_entry key_cmp_total es fs key row old new f) ∙ ap (λ (key : List Value). with_key key) k) k
  where
    with_key : List Value → Table
    with_key key = record { cols = cols; rows = finite.insert (finite.from_entries es) key row }

-- the rows of the one are those of the other
pub stored-rows : (cols : List Column) (es : Entries) (t : Table) → stored cols es ≡ t → IsStrictlySortedBy key_cmp (map (λ e. e.0) es) → map (λ e. e.1) es ≡ rows_of t
stored-rows cols es t is sorted = ap (map (λ e. e.1)) (sym (entries-from_entries key_cmp_total es sorted)) ∙ ap rows_of is

-- there are as many
pub stored-len : (cols : List Column) (es : Entries) (t : Table) (n : ℕ) → stored cols es ≡ t → IsStrictlySortedBy key_cmp (map (λ e. e.0) es) → n ≡ length es → n ≡ length (rows_of t)
stored-len cols es t n is sorted e = e ∙ sym (length-map es (λ e. e.1)) ∙ ap length (stored-rows cols es t is sorted)

-- a table without rows has each by its own key
pub stored-none : (cols : List Column) (es : Entries) → es ≡ [] → IsKeyed (stored cols es)
stored-none cols es is = subst (λ (es : Entries). IsKeyed (stored cols es)) (sym is) (record { at = λ key row f. let no : None ≡ Some row = sym (get-empty key_cmp key) ∙ f in cc })

-- what was put stands by its own key
pub stored-keyed : (cols : List Column) (fs : Entries) (t : Table) (row : List Value) → stored cols fs ≡ with_row row t → IsKeyed t → IsKeyed (stored cols fs)
stored-keyed cols fs t row is h = subst IsKeyed (sym is) (keyed_put keys_exact row t h)

-- the columns and the rows in order are the table
pub stored-table : (cols : List Column) (es : Entries) (t : Table) (rows : List (List Value)) → stored cols es ≡ t → IsKeyed (stored cols es) → IsStrictlySortedBy key_cmp (map (λ e. e.0) es) → rows ≡ map (λ e. e.1) es → IsTable cols rows t
stored-table cols es t rows is keyed sorted gives =
    let whole = table_of_itself t (subst IsKeyed is keyed) in
    record {
      columns = sym (ap (λ (t : Table). t.cols) is);
      values = sym (gives ∙ stored-rows cols es t is sorted);
      keys = subst (λ (cs : List Column). finite.keys t.rows ≡ map (key_of cs) rows) (sym (ap (λ (t : Table). t.cols) is))
          (subst (λ (rs : List (List Value)). finite.keys t.rows ≡ map (key_of t.cols) rs) (sym (gives ∙ stored-rows cols es t is sorted)) whole.keys);
    }
