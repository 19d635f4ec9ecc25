-- The rows of tables in order of names stand in order of their keys, so they are one map.
use Rattle.std.proofs.Common.{◌≡◌, ◌<◌, ◌+◌, ℕ, List, [], ◌∷◌, ◌++◌, map, refl, sym, ap, subst, ◌∙◌, arith}
use Rattle.std.specs.Prelude.{pos, ◌<ℤ◌}
use Rattle.std.specs.FinMap as finite
use Rattle.std.specs.FinMap.{put, same_entries_map, entries-insert, len-entries, len-empty}
use Rattle.std.specs.List.{flat_map, AllByRecursion}
use Rattle.std.specs.List.Sorted.{IsStrictlySortedBy}
use Rattle.std.specs.Ordering.{nat_cmp, int_cmp, match_ordering}
use Rattle.std.specs.Cmp.{tied_itself, int_cmp_is}
use Rattle.std.specs.Cmp.Lexicographic.{slice_cmp, nat_list_cmp_total}
use Rattle.std.specs.declared.cmp.Ordering.{Ordering}
use Rattle.std.specs.declared.cmp.Ordering.TheVariants.{Less, Equal, Greater}
use Rattle.std.proofs.lemmas.List.{map-append, nil_from_length}
use Rattle.page_base.specs.declared.column.Column.{Column}
use Rattle.page_base.specs.declared.value.Value.{Value}
use Rattle.page_base.specs.Order.{key_cmp}
use Rattle.page_base.proofs.Ordered.{key_cmp_total}
use Rattle.page_base.proofs.MapLemmas.{entries-from_entries}
use Rattle.plain_model.specs.Tables.{Rows, key_of}
use Rattle.table_walk.specs.Tables.{Gathers}
use Rattle.table_walk.proofs.OrderLemmas.{keys_exact}
use Rattle.sys_cat.specs.declared.desc.TableDesc.{TableDesc}
use Rattle.sys_cat.specs.Rows.{table_0, row_of, table_row, column_row, column_rows, rows_of, type_number, type_length, key_number}
use Rattle.sys_cat.specs.Changing.{row_key, AreKeyed}

abbrev pub name_cmp : List ℕ → List ℕ → Ordering
name_cmp = slice_cmp nat_cmp

abbrev pub Entry : Type 0
Entry = List Value × List Value

-- a row with its key
abbrev pub entry : List Value → Entry
entry row = (key_of table_0 row, row)

abbrev pub made : List Entry → Rows
made es = finite.from_entries es

pub key_is : (name : List ℕ) (ord : ℕ) (text : List ℕ) (a b c : ℕ) → key_of table_0 (row_of name ord text a b c) ≡ row_key name ord
unfolding table_0
key_is name ord text a b c = refl

pub table_key : (d : TableDesc) → key_of table_0 (table_row d) ≡ row_key d.name 0
table_key d = key_is d.name 0 [] d.number.0 d.root.file d.root.page

pub column_key : (name : List ℕ) (ord : ℕ) (c : Column) → key_of table_0 (column_row name ord c) ≡ row_key name ord
column_key name ord c = key_is name ord c.name (type_number c.kind) (type_length c.kind) (key_number c)

-- ---- the order of keys

pub name_itself : (name : List ℕ) → name_cmp name name ≡ Equal
name_itself name = tied_itself nat_list_cmp_total name

pub less_name : (s t : List ℕ) (m n : ℕ) → name_cmp s t ≡ Less → key_cmp (row_key s m) (row_key t n) ≡ Less
less_name s t m n e = rw e refl

pub less_ord : (s : List ℕ) (m n : ℕ) → m < n → key_cmp (row_key s m) (row_key s n) ≡ Less
less_ord s m n lt =
    let below : pos m <ℤ pos n = grind (arith) in
    let numbers : int_cmp (pos m) (pos n) ≡ Less = sym (int_cmp_is (pos m) (pos n) Less below) in
    rw (name_itself s, numbers) refl

-- ---- lists of keys

pub all_append : {X : Type 0} (P : X → Type 0) (xs ys : List X) → AllByRecursion P xs → AllByRecursion P ys → AllByRecursion P (xs ++ ys)
all_append P [] ys a b = b
all_append P (x ∷ xs) ys a b = (a.0, all_append P xs ys a.1 b)

pub all_map : {X : Type 0} (P Q : X → Type 0) (xs : List X) → ((x : X) → P x → Q x) → AllByRecursion P xs → AllByRecursion Q xs
all_map P Q [] f a = tt
all_map P Q (x ∷ xs) f a = (f x a.0, all_map P Q xs f a.1)

abbrev pub keys_in : List (List Value) → List (List Value)
keys_in rows = map (key_of table_0) rows

-- the keys of later columns
pub later_columns : (name : List ℕ) (i ord : ℕ) (cols : List Column) → i < ord → AllByRecursion (λ k. key_cmp (row_key name i) k ≡ Less) (keys_in (column_rows name ord cols))
later_columns name i ord [] lt = tt
later_columns name i ord (c ∷ cs) lt = (ap (key_cmp (row_key name i)) (column_key name ord c) ∙ less_ord name i ord lt, later_columns name i (ord + 1) cs (omega arith))

-- all keys of a name are below these
abbrev pub IsAbove : List ℕ → List Value → Type 0
IsAbove name k = (o : ℕ) → key_cmp (row_key name o) k ≡ Less

above_columns : (name other : List ℕ) (ord : ℕ) (cols : List Column) → name_cmp name other ≡ Less → AllByRecursion (IsAbove name) (keys_in (column_rows other ord cols))
above_columns name other ord [] e = tt
above_columns name other ord (c ∷ cs) e = (λ o. ap (key_cmp (row_key name o)) (column_key other ord c) ∙ less_name name other o ord e, above_columns name other (ord + 1) cs e)

pub above_rows : (name : List ℕ) (d : TableDesc) → name_cmp name d.name ≡ Less → AllByRecursion (IsAbove name) (keys_in (rows_of d))
above_rows name d e = (λ o. ap (key_cmp (row_key name o)) (table_key d) ∙ less_name name d.name o 0 e, above_columns name d.name 1 d.cols e)

pub above_tables : (name : List ℕ) (ds : List TableDesc) → AllByRecursion (λ y. name_cmp name y ≡ Less) (map (λ d. d.name) ds) → AllByRecursion (IsAbove name) (keys_in (flat_map rows_of ds))
above_tables name [] a = tt
above_tables name (d ∷ ds) a =
    subst (AllByRecursion (IsAbove name)) (sym (map-append (key_of table_0) (rows_of d) (flat_map rows_of ds)))
    (all_append (IsAbove name) (keys_in (rows_of d)) (keys_in (flat_map rows_of ds)) (above_rows name d a.0) (above_tables name ds a.1))

-- keys that ascend, before others that do
sorted_columns : (name : List ℕ) (ord : ℕ) (cols : List Column) (later : List (List Value)) → AllByRecursion (IsAbove name) later → IsStrictlySortedBy key_cmp later → IsStrictlySortedBy key_cmp (keys_in (column_rows name ord cols) ++ later)
unfolding IsStrictlySortedBy
sorted_columns name ord [] later above sorted = sorted
sorted_columns name ord (c ∷ cs) later above sorted =
    let here : AllByRecursion (λ k. key_cmp (row_key name ord) k ≡ Less) (keys_in (column_rows name (ord + 1) cs) ++ later) =
    all_append (λ k. key_cmp (row_key name ord) k ≡ Less) (keys_in (column_rows name (ord + 1) cs)) later (later_columns name ord (ord + 1) cs (omega arith)) (all_map (IsAbove name) (λ k. key_cmp (row_key name ord) k ≡ Less) later (λ k f. f ord) above) in
    (subst (λ (key : List Value). AllByRecursion (λ k. key_cmp key k ≡ Less) (keys_in (column_rows name (ord + 1) cs) ++ later)) (sym (column_key name ord c)) here, sorted_columns name (ord + 1) cs later above sorted)

sorted_rows : (d : TableDesc) (later : List (List Value)) → AllByRecursion (IsAbove d.name) later → IsStrictlySortedBy key_cmp later → IsStrictlySortedBy key_cmp (keys_in (rows_of d) ++ later)
unfolding IsStrictlySortedBy
sorted_rows d later above sorted =
    let here : AllByRecursion (λ k. key_cmp (row_key d.name 0) k ≡ Less) (keys_in (column_rows d.name 1 d.cols) ++ later) =
    all_append (λ k. key_cmp (row_key d.name 0) k ≡ Less) (keys_in (column_rows d.name 1 d.cols)) later (later_columns d.name 0 1 d.cols (omega arith)) (all_map (IsAbove d.name) (λ k. key_cmp (row_key d.name 0) k ≡ Less) later (λ k f. f 0) above) in
    (subst (λ (key : List Value). AllByRecursion (λ k. key_cmp key k ≡ Less) (keys_in (column_rows d.name 1 d.cols) ++ later)) (sym (table_key d)) here, sorted_columns d.name 1 d.cols later above sorted)

pub sorted_tables : (ds : List TableDesc) → IsStrictlySortedBy name_cmp (map (λ d. d.name) ds) → IsStrictlySortedBy key_cmp (keys_in (flat_map rows_of ds))
unfolding IsStrictlySortedBy
sorted_tables [] h = tt
sorted_tables (d ∷ ds) h =
    subst (IsStrictlySortedBy key_cmp) (sym (map-append (key_of table_0) (rows_of d) (flat_map rows_of ds)))
    (sorted_rows d (keys_in (flat_map rows_of ds)) (above_tables d.name ds h.0) (sorted_tables ds h.1))

-- ---- the map that rows are

pub keys_entries : (rows : List (List Value)) → map (λ (e : Entry). e.0) (map entry rows) ≡ keys_in rows
keys_entries [] = refl
keys_entries (r ∷ rows) = ap (λ (ks : List (List Value)). key_of table_0 r ∷ ks) (keys_entries rows)

values_entries : (rows : List (List Value)) → map (λ (e : Entry). e.1) (map entry rows) ≡ rows
values_entries [] = refl
values_entries (r ∷ rows) = ap (λ (rs : List (List Value)). r ∷ rs) (values_entries rows)

pub made_entries : (rows : List (List Value)) → IsStrictlySortedBy key_cmp (keys_in rows) → finite.entries (made (map entry rows)) ≡ map entry rows
made_entries rows sorted = entries-from_entries key_cmp_total (map entry rows) (subst (IsStrictlySortedBy key_cmp) (sym (keys_entries rows)) sorted)

pub made_values : (rows : List (List Value)) → IsStrictlySortedBy key_cmp (keys_in rows) → finite.values (made (map entry rows)) ≡ rows
made_values rows sorted = ap (map (λ (e : Entry). e.1)) (made_entries rows sorted) ∙ values_entries rows

paired : (es : List Entry) → map (λ (e : Entry). e.0) es ≡ keys_in (map (λ (e : Entry). e.1) es) → es ≡ map entry (map (λ (e : Entry). e.1) es)
paired [] h = refl
paired (e ∷ es) h =
    let here : e.0 ≡ key_of table_0 e.1 = cc in
    let later : map (λ (e : Entry). e.0) es ≡ keys_in (map (λ (e : Entry). e.1) es) = cc in
    λ i. (here i, e.1) ∷ paired es later i

-- rows that stand by their keys are the map of their entries
pub is_made : (rows : Rows) (list : List (List Value)) → AreKeyed rows → finite.values rows ≡ list → IsStrictlySortedBy key_cmp (keys_in list) → rows ≡ made (map entry list)
is_made rows list keyed values sorted =
    same_entries_map rows (made (map entry list)) (paired (finite.entries rows) keyed ∙ ap (map entry) values ∙ sym (made_entries list sorted))

-- ---- rows that are gathered from pages

put_keyed : (k v : List Value) (es : List Entry) → k ≡ key_of table_0 v → AllByRecursion (λ (e : Entry). e.0 ≡ key_of table_0 e.1) es → AllByRecursion (λ (e : Entry). e.0 ≡ key_of table_0 e.1) (put key_cmp k v es)
put_keyed k v [] is a = (is, tt)
put_keyed k v (e ∷ es) is a = chosen (put_keyed k v es is a.1) (key_cmp k e.0) refl
  where
    chosen : AllByRecursion (λ (x : Entry). x.0 ≡ key_of table_0 x.1) (put key_cmp k v es) → (o : Ordering) → key_cmp k e.0 ≡ o → AllByRecursion (λ (x : Entry). x.0 ≡ key_of table_0 x.1) (match_ordering o ((k, v) ∷ e ∷ es) ((e.0, v) ∷ es) (e ∷ put key_cmp k v es))
    chosen later Less at = (is, a)
    chosen later Equal at = (sym (keys_exact k e.0 at) ∙ is, a.1)
    chosen later Greater at = (a.0, later)

apart_keyed : (es : List Entry) → AllByRecursion (λ (e : Entry). e.0 ≡ key_of table_0 e.1) es → map (λ (e : Entry). e.0) es ≡ keys_in (map (λ (e : Entry). e.1) es)
apart_keyed [] a = refl
apart_keyed (e ∷ es) a = λ i. a.0 i ∷ apart_keyed es a.1 i

gathered : (cells : List (List ℕ)) (rows : Rows) → Gathers table_0 cells rows → AllByRecursion (λ (e : Entry). e.0 ≡ key_of table_0 e.1) (finite.entries rows)
gathered [] rows g = subst (AllByRecursion (λ (e : Entry). e.0 ≡ key_of table_0 e.1)) (sym (ap finite.entries g ∙ nil_from_length _ (sym (len-entries finite.empty) ∙ len-empty key_cmp (List Value)))) tt
gathered (x ∷ cells) rows g =
    let row : List Value = g.0 in
    let rest : Rows = g.1 in
    let is : rows ≡ finite.insert rest (key_of table_0 row) row = g.6 in
    subst (AllByRecursion (λ (e : Entry). e.0 ≡ key_of table_0 e.1)) (sym (ap finite.entries is ∙ entries-insert key_cmp_total rest (key_of table_0 row) row))
    (put_keyed (key_of table_0 row) row (finite.entries rest) refl (gathered cells rest g.4))

pub gathered_keyed : (cells : List (List ℕ)) (rows : Rows) → Gathers table_0 cells rows → AreKeyed rows
gathered_keyed cells rows g = apart_keyed (finite.entries rows) (gathered cells rows g)
