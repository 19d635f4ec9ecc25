-- A table's rows put into table 0, and cut from it.
use Rattle.std.proofs.Common.{◌≡◌, ◌<◌, ◌≤◌, ◌+◌, ◌==◌, ℕ, zero, suc, Bool, true, false, cond, not, ◌||◌, List, [], ◌∷◌, ◌++◌, length, map, get_or, refl, sym, ap, subst, ◌∙◌, arith, append_assoc, nat_eq}
use Rattle.std.specs.Prelude.{Some, None}
use Rattle.std.specs.FinMap as finite
use Rattle.std.specs.FinMap.{find, same_map, get-insert, get-remove, get-from_entries}
use Rattle.std.specs.List.{flat_map, Any, AllByRecursion, IsDistinct}
use Rattle.std.specs.List.Sorted.{IsStrictlySortedBy}
use Rattle.std.specs.Ordering.{is_eq, is_lt, eq_by_cmp, ordering_reverse}
use Rattle.std.specs.Cmp.{tied_itself}
use Rattle.std.specs.Cmp.Lexicographic.{nat_list_cmp_total}
use Rattle.std.specs.Str.{bytes_eq}
use Rattle.std.specs.declared.cmp.Ordering.{Ordering}
use Rattle.std.specs.declared.cmp.Ordering.TheVariants.{Less, Equal, Greater}
use Rattle.std.proofs.lemmas.Bool.Decides.{nat_tests}
use Rattle.std.proofs.lemmas.List.{map-append}
use Rattle.std.proofs.lemmas.Map.Text.{is_eq-slice_cmp}
use Rattle.page_base.specs.declared.column.Column.{Column}
use Rattle.page_base.specs.declared.value.Value.{Value}
use Rattle.page_base.specs.Order.{key_cmp}
use Rattle.page_base.proofs.Ordered.{key_cmp_total}
use Rattle.plain_model.specs.Tables.{Rows, key_of}
use Rattle.table_walk.proofs.OrderLemmas.{keys_exact}
use Rattle.table_walk.specs.Plans.{cut_all, put_all}
use Rattle.sys_cat.specs.declared.desc.TableDesc.{TableDesc}
use Rattle.sys_cat.specs.Rows.{table_0, table_row, column_row, column_rows, rows_of}
use Rattle.sys_cat.specs.Lists.{IsDesc, AreDescs, AreTables, has_number}
use Rattle.sys_cat.specs.Changing.{has_name, with_desc, without_desc, row_key, column_keys, keys_of, AreKeyed}
use Rattle.sys_cat.proofs.OrderLemmas.{name_cmp, Entry, entry, made, table_key, column_key, name_itself, less_name, less_ord, all_append, all_map, keys_in, later_columns, IsAbove, above_tables, sorted_tables, made_values, is_made}

-- ---- one entry more

equal_is : (o : Ordering) → is_eq o ≡ true → o ≡ Equal
equal_is Less e = absurd cc
equal_is Equal e = refl
equal_is Greater e = absurd cc

module _ (q k : List Value) (v : List Value) where
  -- an entry behind lesser ones
  find_between : (xs later : List Entry) → AllByRecursion (λ (x : Entry). key_cmp x.0 k ≡ Less) xs → find key_cmp q (xs ++ (k, v) ∷ later) ≡ cond (eq_by_cmp key_cmp q k) (Some v) (find key_cmp q (xs ++ later))
  find_between [] later a = refl
  find_between (x ∷ xs) later a = turned (find_between xs later a.1) (eq_by_cmp key_cmp q x.0) (eq_by_cmp key_cmp q k) refl refl
    where
      apart : eq_by_cmp key_cmp q x.0 ≡ true → eq_by_cmp key_cmp q k ≡ true → ⊥
      apart e f =
          let one : q ≡ x.0 = keys_exact q x.0 (equal_is (key_cmp q x.0) e) in
          let two : q ≡ k = keys_exact q k (equal_is (key_cmp q k) f) in
          let wrong : Less ≡ Equal = sym a.0 ∙ (λ i. key_cmp (sym one i) (sym two i)) ∙ tied_itself key_cmp_total q in
          cc

      turned : find key_cmp q (xs ++ (k, v) ∷ later) ≡ cond (eq_by_cmp key_cmp q k) (Some v) (find key_cmp q (xs ++ later)) → (b c : Bool) → eq_by_cmp key_cmp q x.0 ≡ b → eq_by_cmp key_cmp q k ≡ c → cond b (Some x.1) (find key_cmp q (xs ++ (k, v) ∷ later)) ≡ cond c (Some v) (cond b (Some x.1) (find key_cmp q (xs ++ later)))
      turned rest true true e f = absurd (apart e f)
      turned rest true false e f = refl
      turned rest false c e f = rest ∙ ap (λ (b : Bool). cond b (Some v) (find key_cmp q (xs ++ later))) f

pub made_more : (xs later : List Entry) (k v : List Value) → AllByRecursion (λ (x : Entry). key_cmp x.0 k ≡ Less) xs → finite.insert (made (xs ++ later)) k v ≡ made (xs ++ (k, v) ∷ later)
made_more xs later k v a = same_map key_cmp_total keys_exact _ _ (λ q.
    get-insert key_cmp_total (made (xs ++ later)) k v q
    ∙ ap (cond (eq_by_cmp key_cmp q k) (Some v)) (get-from_entries key_cmp_total (xs ++ later) q)
    ∙ sym (find_between q k v xs later a)
    ∙ sym (get-from_entries key_cmp_total (xs ++ (k, v) ∷ later) q))

-- rows in order of their keys, behind entries with lesser keys
abbrev Climbs : List Entry → List (List Value) → Type 0
Climbs xs [] = Unit {0}
Climbs xs (r ∷ rs) = AllByRecursion (λ (x : Entry). key_cmp x.0 (key_of table_0 r) ≡ Less) xs × Climbs (xs ++ entry r ∷ []) rs

put_rows : (rs : List (List Value)) (xs later : List Entry) → Climbs xs rs → put_all table_0 rs (made (xs ++ later)) ≡ made (xs ++ (map entry rs ++ later))
put_rows [] xs later c = refl
put_rows (r ∷ rs) xs later c =
    ap (put_all table_0 rs) (made_more xs later (key_of table_0 r) r c.0 ∙ ap made (sym (append_assoc xs (entry r ∷ []) later)))
    ∙ put_rows rs (xs ++ entry r ∷ []) later c.1
    ∙ ap made (append_assoc xs (entry r ∷ []) (map entry rs ++ later))

-- an entry below the rows of a name from an ordinal on
abbrev IsUnder : List ℕ → ℕ → Entry → Type 0
IsUnder name ord x = (o : ℕ) → ord ≤ o → key_cmp x.0 (row_key name o) ≡ Less

one_under : (name : List ℕ) (ord : ℕ) (row : List Value) → key_of table_0 row ≡ row_key name ord → IsUnder name (ord + 1) (entry row)
one_under name ord row key = λ o le. ap (λ (k : List Value). key_cmp k (row_key name o)) key ∙ less_ord name ord o (omega arith)

climb_one : (name : List ℕ) (ord : ℕ) (row : List Value) (xs : List Entry) → key_of table_0 row ≡ row_key name ord → AllByRecursion (IsUnder name ord) xs → AllByRecursion (λ (x : Entry). key_cmp x.0 (key_of table_0 row) ≡ Less) xs × AllByRecursion (IsUnder name (ord + 1)) (xs ++ entry row ∷ [])
climb_one name ord row xs key under = (
  all_map (IsUnder name ord) (λ (x : Entry). key_cmp x.0 (key_of table_0 row) ≡ Less) xs (λ x u. ap (key_cmp x.0) key ∙ u ord (omega arith)) under,
  all_append (IsUnder name (ord + 1)) xs (entry row ∷ []) (all_map (IsUnder name ord) (IsUnder name (ord + 1)) xs (λ x u o le. u o (omega arith)) under) (one_under name ord row key, tt),
)

climb_columns : (name : List ℕ) (ord : ℕ) (cols : List Column) (xs : List Entry) → AllByRecursion (IsUnder name ord) xs → Climbs xs (column_rows name ord cols)
climb_columns name ord [] xs under = tt
climb_columns name ord (c ∷ cs) xs under =
    let one = climb_one name ord (column_row name ord c) xs (column_key name ord c) under in
    (one.0, climb_columns name (ord + 1) cs (xs ++ entry (column_row name ord c) ∷ []) one.1)

climb_rows : (d : TableDesc) (xs : List Entry) → AllByRecursion (IsUnder d.name 0) xs → Climbs xs (rows_of d)
climb_rows d xs under =
    let one = climb_one d.name 0 (table_row d) xs (table_key d) under in
    (one.0, climb_columns d.name 1 d.cols (xs ++ entry (table_row d) ∷ []) one.1)

-- ---- one table more

abbrev entries_of : List TableDesc → List Entry
entries_of ds = map entry (flat_map rows_of ds)

under_columns : (name other : List ℕ) (ord : ℕ) (cols : List Column) → name_cmp other name ≡ Less → AllByRecursion (IsUnder name 0) (map entry (column_rows other ord cols))
under_columns name other ord [] e = tt
under_columns name other ord (c ∷ cs) e = (λ o le. ap (λ (k : List Value). key_cmp k (row_key name o)) (column_key other ord c) ∙ less_name other name ord o e, under_columns name other (ord + 1) cs e)

under_rows : (name : List ℕ) (d : TableDesc) → name_cmp d.name name ≡ Less → AllByRecursion (IsUnder name 0) (map entry (rows_of d))
under_rows name d e = (λ o le. ap (λ (k : List Value). key_cmp k (row_key name o)) (table_key d) ∙ less_name d.name name 0 o e, under_columns name d.name 1 d.cols e)

less_is : (o : Ordering) → is_lt o ≡ true → o ≡ Less
less_is Less e = refl
less_is Equal e = absurd cc
less_is Greater e = absurd cc

put_table : (d : TableDesc) (ds : List TableDesc) (xs : List Entry) → AllByRecursion (IsUnder d.name 0) xs → put_all table_0 (rows_of d) (made (xs ++ entries_of ds)) ≡ made (xs ++ entries_of (with_desc ds d))
put_table d [] xs under = put_rows (rows_of d) xs [] (climb_rows d xs under) ∙ ap (λ (es : List Entry). made (xs ++ es)) (sym (map-append entry (rows_of d) []))
put_table d (e ∷ es) xs under = chosen (put_table d es (xs ++ map entry (rows_of e))) (is_lt (name_cmp e.name d.name)) refl
  where
    chosen : (AllByRecursion (IsUnder d.name 0) (xs ++ map entry (rows_of e)) → put_all table_0 (rows_of d) (made ((xs ++ map entry (rows_of e)) ++ entries_of es)) ≡ made ((xs ++ map entry (rows_of e)) ++ entries_of (with_desc es d))) → (b : Bool) → is_lt (name_cmp e.name d.name) ≡ b → put_all table_0 (rows_of d) (made (xs ++ entries_of (e ∷ es))) ≡ made (xs ++ entries_of (cond b (e ∷ with_desc es d) (d ∷ e ∷ es)))
    chosen later true less =
        let below : AllByRecursion (IsUnder d.name 0) (xs ++ map entry (rows_of e)) =
        all_append (IsUnder d.name 0) xs (map entry (rows_of e)) under (under_rows d.name e (less_is (name_cmp e.name d.name) less)) in
        ap (λ (fs : List Entry). put_all table_0 (rows_of d) (made (xs ++ fs))) (map-append entry (rows_of e) (flat_map rows_of es))
        ∙ ap (λ (fs : List Entry). put_all table_0 (rows_of d) (made fs)) (sym (append_assoc xs (map entry (rows_of e)) (entries_of es)))
        ∙ later below
        ∙ ap made (append_assoc xs (map entry (rows_of e)) (entries_of (with_desc es d)))
        ∙ ap (λ (fs : List Entry). made (xs ++ fs)) (sym (map-append entry (rows_of e) (flat_map rows_of (with_desc es d))))
    chosen later false more =
        put_rows (rows_of d) xs (entries_of (e ∷ es)) (climb_rows d xs under) ∙ ap (λ (fs : List Entry). made (xs ++ fs)) (sym (map-append entry (rows_of d) (flat_map rows_of (e ∷ es))))

-- ---- the list of tables with one more

pub neither : (a b : Bool) → (a || b) ≡ false → (a ≡ false) × (b ≡ false)
neither true b e = absurd cc
neither false b e = (refl, e)

all_with : (P : TableDesc → Type 0) (ds : List TableDesc) (d : TableDesc) → AllByRecursion P ds → P d → AllByRecursion P (with_desc ds d)
all_with P [] d a p = (p, tt)
all_with P (e ∷ es) d a p = chosen (all_with P es d a.1 p) (is_lt (name_cmp e.name d.name))
  where
    chosen : AllByRecursion P (with_desc es d) → (b : Bool) → AllByRecursion P (cond b (e ∷ with_desc es d) (d ∷ e ∷ es))
    chosen later true = (a.0, later)
    chosen later false = (p, a)

all_told : {X : Type 0} (f : TableDesc → X) (P : X → Type 0) (ds : List TableDesc) → AllByRecursion P (map f ds) → AllByRecursion (λ d. P (f d)) ds
all_told f P [] a = tt
all_told f P (d ∷ ds) a = (a.0, all_told f P ds a.1)

all_of : {X : Type 0} (f : TableDesc → X) (P : X → Type 0) (ds : List TableDesc) → AllByRecursion (λ d. P (f d)) ds → AllByRecursion P (map f ds)
all_of f P [] a = tt
all_of f P (d ∷ ds) a = (a.0, all_of f P ds a.1)

abbrev name_of : TableDesc → List ℕ
name_of d = d.name

abbrev number_of : TableDesc → ℕ
number_of d = d.number.0

greater_is : (o : Ordering) → is_eq o ≡ false → is_lt o ≡ false → o ≡ Greater
greater_is Less e f = absurd cc
greater_is Equal e f = absurd cc
greater_is Greater e f = refl

-- of two names that differ, one is below the other
other_way : (s t : List ℕ) → bytes_eq s t ≡ false → is_lt (name_cmp s t) ≡ false → name_cmp t s ≡ Less
other_way s t differ more = nat_list_cmp_total.antisymm t s ∙ ap ordering_reverse (greater_is (name_cmp s t) (is_eq-slice_cmp s t ∙ differ) more)

sorted_with : (ds : List TableDesc) (d : TableDesc) → IsStrictlySortedBy name_cmp (map name_of ds) → has_name ds d.name ≡ false → IsStrictlySortedBy name_cmp (map name_of (with_desc ds d))
unfolding IsStrictlySortedBy
sorted_with [] d h lacks_it = (tt, tt)
sorted_with (e ∷ es) d h lacks_it =
    let parts = neither (bytes_eq e.name d.name) (has_name es d.name) lacks_it in chosen parts.0 (sorted_with es d h.1 parts.1) (is_lt (name_cmp e.name d.name)) refl
  where
    chosen : bytes_eq e.name d.name ≡ false → IsStrictlySortedBy name_cmp (map name_of (with_desc es d)) → (b : Bool) → is_lt (name_cmp e.name d.name) ≡ b → IsStrictlySortedBy name_cmp (map name_of (cond b (e ∷ with_desc es d) (d ∷ e ∷ es)))
    chosen differ rest true less =
        let below : AllByRecursion (λ x. name_cmp e.name x.name ≡ Less) (with_desc es d) =
        all_with (λ x. name_cmp e.name x.name ≡ Less) es d (all_told name_of (λ y. name_cmp e.name y ≡ Less) es h.0) (less_is (name_cmp e.name d.name) less) in
        (all_of name_of (λ y. name_cmp e.name y ≡ Less) (with_desc es d) below, rest)
    chosen differ rest false more =
        let below : name_cmp d.name e.name ≡ Less = other_way e.name d.name differ more in
        ((below, all_map (λ y. name_cmp e.name y ≡ Less) (λ y. name_cmp d.name y ≡ Less) (map name_of es) (λ y l. nat_list_cmp_total.trans d.name e.name y below l) h.0), h)

other_number : (a b : ℕ) → (a == b) ≡ false → nat_eq b a ≡ false
other_number a b e = grind (arith, nat_tests)

none_same : (ds : List TableDesc) (n : ℕ) → has_number ds n ≡ false → AllByRecursion (λ y. nat_eq n y ≡ false) (map number_of ds)
none_same [] n h = tt
none_same (e ∷ es) n h = let parts = neither (e.number.0 == n) (has_number es n) h in (other_number e.number.0 n parts.0, none_same es n parts.1)

distinct_with : (ds : List TableDesc) (d : TableDesc) → IsDistinct nat_eq (map number_of ds) → has_number ds d.number.0 ≡ false → IsDistinct nat_eq (map number_of (with_desc ds d))
unfolding IsDistinct
distinct_with [] d h lacks_it = (tt, tt)
distinct_with (e ∷ es) d h lacks_it =
    let parts = neither (e.number.0 == d.number.0) (has_number es d.number.0) lacks_it in chosen parts.0 (distinct_with es d h.1 parts.1) (is_lt (name_cmp e.name d.name))
  where
    chosen : (e.number.0 == d.number.0) ≡ false → IsDistinct nat_eq (map number_of (with_desc es d)) → (b : Bool) → IsDistinct nat_eq (map number_of (cond b (e ∷ with_desc es d) (d ∷ e ∷ es)))
    chosen differ rest true =
        let others : AllByRecursion (λ x. nat_eq e.number.0 x.number.0 ≡ false) (with_desc es d) =
        all_with (λ x. nat_eq e.number.0 x.number.0 ≡ false) es d (all_told number_of (λ y. nat_eq e.number.0 y ≡ false) es h.0) differ in
        (all_of number_of (λ y. nat_eq e.number.0 y ≡ false) (with_desc es d) others, rest)
    chosen differ rest false = (none_same (e ∷ es) d.number.0 lacks_it, h)

pub tables_put : (rows : Rows) (ds : List TableDesc) (d : TableDesc) → AreTables (finite.values rows) ds → AreKeyed rows → IsDesc d → has_name ds d.name ≡ false → has_number ds d.number.0 ≡ false → AreTables (finite.values (put_all table_0 (rows_of d) rows)) (with_desc ds d)
tables_put rows ds d t keyed desc name number =
    let descs : AreDescs (with_desc ds d) = record { each = all_with IsDesc ds d t.descs.each desc; names = sorted_with ds d t.descs.names name; numbers = distinct_with ds d t.descs.numbers number } in
    let old : rows ≡ made (entries_of ds) = is_made rows (flat_map rows_of ds) keyed t.spelled (sorted_tables ds t.descs.names) in
    let new : put_all table_0 (rows_of d) rows ≡ made (entries_of (with_desc ds d)) = ap (put_all table_0 (rows_of d)) old ∙ put_table d ds [] tt in
    record { spelled = ap finite.values new ∙ made_values (flat_map rows_of (with_desc ds d)) (sorted_tables (with_desc ds d) descs.names); descs = descs }

-- ---- one entry less

not_equal : (o : Ordering) → o ≡ Less → is_eq (ordering_reverse o) ≡ false
not_equal Less e = refl
not_equal Equal e = absurd cc
not_equal Greater e = absurd cc

absent : (k : List Value) (es : List Entry) → AllByRecursion (λ (x : Entry). is_eq (key_cmp k x.0) ≡ false) es → find key_cmp k es ≡ None
absent k [] a = refl
absent k (x ∷ es) a = ap (λ (b : Bool). cond b (Some x.1) (find key_cmp k es)) a.0 ∙ absent k es a.1

pub made_less : (xs later : List Entry) (k v : List Value) → AllByRecursion (λ (x : Entry). key_cmp x.0 k ≡ Less) xs → AllByRecursion (λ (x : Entry). key_cmp k x.0 ≡ Less) later → finite.remove (made (xs ++ (k, v) ∷ later)) k ≡ made (xs ++ later)
made_less xs later k v a b = same_map key_cmp_total keys_exact _ _ (λ q.
    get-remove key_cmp_total (made (xs ++ (k, v) ∷ later)) k q
    ∙ ap (cond (eq_by_cmp key_cmp q k) None) (get-from_entries key_cmp_total (xs ++ (k, v) ∷ later) q ∙ find_between q k v xs later a)
    ∙ gone q (eq_by_cmp key_cmp q k) refl
    ∙ sym (get-from_entries key_cmp_total (xs ++ later) q))
  where
    lacks_it : find key_cmp k (xs ++ later) ≡ None
    lacks_it = absent k (xs ++ later) (all_append (λ (x : Entry). is_eq (key_cmp k x.0) ≡ false) xs later
        (all_map (λ (x : Entry). key_cmp x.0 k ≡ Less) (λ (x : Entry). is_eq (key_cmp k x.0) ≡ false) xs (λ x l. ap is_eq (key_cmp_total.antisymm k x.0) ∙ not_equal (key_cmp x.0 k) l) a)
        (all_map (λ (x : Entry). key_cmp k x.0 ≡ Less) (λ (x : Entry). is_eq (key_cmp k x.0) ≡ false) later (λ x l. ap is_eq l) b))

    gone : (q : List Value) (t : Bool) → eq_by_cmp key_cmp q k ≡ t → cond t None (cond t (Some v) (find key_cmp q (xs ++ later))) ≡ find key_cmp q (xs ++ later)
    gone q true e = sym lacks_it ∙ ap (λ (j : List Value). find key_cmp j (xs ++ later)) (sym (keys_exact q k (equal_is (key_cmp q k) e)))
    gone q false e = refl

-- rows between lesser entries and greater ones
abbrev Falls : List Entry → List Entry → List (List Value) → Type 0
Falls xs later [] = Unit {0}
Falls xs later (r ∷ rs) = (AllByRecursion (λ (x : Entry). key_cmp x.0 (key_of table_0 r) ≡ Less) xs × AllByRecursion (λ (x : Entry). key_cmp (key_of table_0 r) x.0 ≡ Less) (map entry rs ++ later)) × Falls xs later rs

cut_rows : (rs : List (List Value)) (xs later : List Entry) → Falls xs later rs → cut_all (keys_in rs) (made (xs ++ (map entry rs ++ later))) ≡ made (xs ++ later)
cut_rows [] xs later f = refl
cut_rows (r ∷ rs) xs later f = ap (cut_all (keys_in rs)) (made_less xs (map entry rs ++ later) (key_of table_0 r) r f.0.0 f.0.1) ∙ cut_rows rs xs later f.1

-- an entry above all rows of a name
abbrev IsOver : List ℕ → Entry → Type 0
IsOver name x = IsAbove name x.0

by_keys : (P : List Value → Type 0) (rows : List (List Value)) → AllByRecursion P (keys_in rows) → AllByRecursion (λ (x : Entry). P x.0) (map entry rows)
by_keys P [] a = tt
by_keys P (r ∷ rows) a = (a.0, by_keys P rows a.1)

fall_one : (name : List ℕ) (ord : ℕ) (row : List Value) (cols : List Column) (xs later : List Entry) → key_of table_0 row ≡ row_key name ord → AllByRecursion (IsUnder name 0) xs → AllByRecursion (IsOver name) later
    → AllByRecursion (λ (x : Entry). key_cmp x.0 (key_of table_0 row) ≡ Less) xs × AllByRecursion (λ (x : Entry). key_cmp (key_of table_0 row) x.0 ≡ Less) (map entry (column_rows name (ord + 1) cols) ++ later)
fall_one name ord row cols xs later key under over =
    let low : AllByRecursion (λ (x : Entry). key_cmp x.0 (row_key name ord) ≡ Less) xs = all_map (IsUnder name 0) (λ (x : Entry). key_cmp x.0 (row_key name ord) ≡ Less) xs (λ x u. u ord (omega arith)) under in
    let high : AllByRecursion (λ (x : Entry). key_cmp (row_key name ord) x.0 ≡ Less) (map entry (column_rows name (ord + 1) cols) ++ later) =
    all_append (λ (x : Entry). key_cmp (row_key name ord) x.0 ≡ Less) (map entry (column_rows name (ord + 1) cols)) later
    (by_keys (λ k. key_cmp (row_key name ord) k ≡ Less) (column_rows name (ord + 1) cols) (later_columns name ord (ord + 1) cols (omega arith)))
    (all_map (IsOver name) (λ (x : Entry). key_cmp (row_key name ord) x.0 ≡ Less) later (λ x u. u ord) over) in (
      subst (λ (k : List Value). AllByRecursion (λ (x : Entry). key_cmp x.0 k ≡ Less) xs) (sym key) low,
      subst (λ (k : List Value). AllByRecursion (λ (x : Entry). key_cmp k x.0 ≡ Less) (map entry (column_rows name (ord + 1) cols) ++ later)) (sym key) high,
    )

fall_columns : (name : List ℕ) (ord : ℕ) (cols : List Column) (xs later : List Entry) → AllByRecursion (IsUnder name 0) xs → AllByRecursion (IsOver name) later → Falls xs later (column_rows name ord cols)
fall_columns name ord [] xs later under over = tt
fall_columns name ord (c ∷ cs) xs later under over = (fall_one name ord (column_row name ord c) cs xs later (column_key name ord c) under over, fall_columns name (ord + 1) cs xs later under over)

fall_rows : (d : TableDesc) (xs later : List Entry) → AllByRecursion (IsUnder d.name 0) xs → AllByRecursion (IsOver d.name) later → Falls xs later (rows_of d)
fall_rows d xs later under over = (fall_one d.name 0 (table_row d) d.cols xs later (table_key d) under over, fall_columns d.name 1 d.cols xs later under over)

column_keys_are : (name : List ℕ) (ord : ℕ) (cols : List Column) → column_keys name ord cols ≡ keys_in (column_rows name ord cols)
column_keys_are name ord [] = refl
column_keys_are name ord (c ∷ cs) = λ i. sym (column_key name ord c) i ∷ column_keys_are name (ord + 1) cs i

keys_are : (d : TableDesc) → keys_of d ≡ keys_in (rows_of d)
keys_are d = λ i. sym (table_key d) i ∷ column_keys_are d.name 1 d.cols i

-- ---- the list of tables with one less

kept_one : (e : TableDesc) (es : List TableDesc) (name : List ℕ) → bytes_eq e.name name ≡ false → without_desc (e ∷ es) name ≡ e ∷ without_desc es name
kept_one e es name differ = ap (λ (b : Bool). cond (not b) (e ∷ without_desc es name) (without_desc es name)) differ

cut_one : (e : TableDesc) (es : List TableDesc) (name : List ℕ) → bytes_eq e.name name ≡ true → without_desc (e ∷ es) name ≡ without_desc es name
cut_one e es name same = ap (λ (b : Bool). cond (not b) (e ∷ without_desc es name) (without_desc es name)) same

below_differs : (s t : List ℕ) → name_cmp s t ≡ Less → bytes_eq s t ≡ false
below_differs s t less = sym (is_eq-slice_cmp s t) ∙ ap is_eq less

above_differs : (s t : List ℕ) → name_cmp t s ≡ Less → bytes_eq s t ≡ false
above_differs s t less = sym (is_eq-slice_cmp s t) ∙ ap is_eq (nat_list_cmp_total.antisymm s t) ∙ not_equal (name_cmp t s) less

itself_same : (s : List ℕ) → bytes_eq s s ≡ true
itself_same s = sym (is_eq-slice_cmp s s) ∙ ap is_eq (name_itself s)

nothing_cut : (ds : List TableDesc) (name : List ℕ) → AllByRecursion (λ y. name_cmp name y ≡ Less) (map name_of ds) → without_desc ds name ≡ ds
nothing_cut [] name a = refl
nothing_cut (d ∷ ds) name a = kept_one d ds name (above_differs d.name name a.0) ∙ ap (λ (es : List TableDesc). d ∷ es) (nothing_cut ds name a.1)

at_name : (P : List ℕ → Type 0) (ds : List TableDesc) (k : ℕ) (d : TableDesc) → AllByRecursion P (map name_of ds) → k < length ds → get_or ds k d ≡ d → P d.name
at_name P [] k d a lt at = absurd (omega arith)
at_name P (e ∷ es) zero d a lt at = subst (λ (x : TableDesc). P x.name) at a.0
at_name P (e ∷ es) (suc k) d a lt at = at_name P es k d a.1 (omega arith) at

cut_table : (d : TableDesc) (ds : List TableDesc) (k : ℕ) (xs : List Entry) → IsStrictlySortedBy name_cmp (map name_of ds) → k < length ds → get_or ds k d ≡ d → AllByRecursion (IsUnder d.name 0) xs
    → cut_all (keys_of d) (made (xs ++ entries_of ds)) ≡ made (xs ++ entries_of (without_desc ds d.name))
unfolding IsStrictlySortedBy
cut_table d [] k xs sorted lt at under = absurd (omega arith)
cut_table d (e ∷ es) zero xs sorted lt at under =
    let above : AllByRecursion (λ y. name_cmp d.name y ≡ Less) (map name_of es) = subst (λ (x : TableDesc). AllByRecursion (λ y. name_cmp x.name y ≡ Less) (map name_of es)) at sorted.0 in
    let same : bytes_eq e.name d.name ≡ true = ap (λ (x : TableDesc). bytes_eq x.name d.name) at ∙ itself_same d.name in
    let rest : without_desc (e ∷ es) d.name ≡ es = cut_one e es d.name same ∙ nothing_cut es d.name above in
    let over : AllByRecursion (IsOver d.name) (entries_of es) = by_keys (IsAbove d.name) (flat_map rows_of es) (above_tables d.name es above) in
    ap (λ (x : TableDesc). cut_all (keys_of d) (made (xs ++ entries_of (x ∷ es)))) at
    ∙ ap (λ (fs : List Entry). cut_all (keys_of d) (made (xs ++ fs))) (map-append entry (rows_of d) (flat_map rows_of es))
    ∙ ap (λ (ks : List (List Value)). cut_all ks (made (xs ++ (map entry (rows_of d) ++ entries_of es)))) (keys_are d)
    ∙ cut_rows (rows_of d) xs (entries_of es) (fall_rows d xs (entries_of es) under over)
    ∙ ap (λ (fs : List TableDesc). made (xs ++ entries_of fs)) (sym rest)
cut_table d (e ∷ es) (suc k) xs sorted lt at under =
    let less : name_cmp e.name d.name ≡ Less = at_name (λ y. name_cmp e.name y ≡ Less) es k d sorted.0 (omega arith) at in
    let rest : without_desc (e ∷ es) d.name ≡ e ∷ without_desc es d.name = kept_one e es d.name (below_differs e.name d.name less) in
    let below : AllByRecursion (IsUnder d.name 0) (xs ++ map entry (rows_of e)) = all_append (IsUnder d.name 0) xs (map entry (rows_of e)) under (under_rows d.name e less) in
    ap (λ (fs : List Entry). cut_all (keys_of d) (made (xs ++ fs))) (map-append entry (rows_of e) (flat_map rows_of es))
    ∙ ap (λ (fs : List Entry). cut_all (keys_of d) (made fs)) (sym (append_assoc xs (map entry (rows_of e)) (entries_of es)))
    ∙ cut_table d es k (xs ++ map entry (rows_of e)) sorted.1 (omega arith) at below
    ∙ ap made (append_assoc xs (map entry (rows_of e)) (entries_of (without_desc es d.name)))
    ∙ ap (λ (fs : List Entry). made (xs ++ fs)) (sym (map-append entry (rows_of e) (flat_map rows_of (without_desc es d.name))))
    ∙ ap (λ (fs : List TableDesc). made (xs ++ entries_of fs)) (sym rest)

all_without : (P : TableDesc → Type 0) (ds : List TableDesc) (name : List ℕ) → AllByRecursion P ds → AllByRecursion P (without_desc ds name)
all_without P [] name a = tt
all_without P (d ∷ ds) name a = chosen (all_without P ds name a.1) (bytes_eq d.name name)
  where
    chosen : AllByRecursion P (without_desc ds name) → (b : Bool) → AllByRecursion P (cond (not b) (d ∷ without_desc ds name) (without_desc ds name))
    chosen later true = later
    chosen later false = (a.0, later)

sorted_without : (ds : List TableDesc) (name : List ℕ) → IsStrictlySortedBy name_cmp (map name_of ds) → IsStrictlySortedBy name_cmp (map name_of (without_desc ds name))
unfolding IsStrictlySortedBy
sorted_without [] name h = tt
sorted_without (d ∷ ds) name h = chosen (sorted_without ds name h.1) (bytes_eq d.name name)
  where
    chosen : IsStrictlySortedBy name_cmp (map name_of (without_desc ds name)) → (b : Bool) → IsStrictlySortedBy name_cmp (map name_of (cond (not b) (d ∷ without_desc ds name) (without_desc ds name)))
    chosen later true = later
    chosen later false = (
      all_of name_of (λ y. name_cmp d.name y ≡ Less) (without_desc ds name) (all_without (λ x. name_cmp d.name x.name ≡ Less) ds name (all_told name_of (λ y. name_cmp d.name y ≡ Less) ds h.0)),
      later,
    )

distinct_without : (ds : List TableDesc) (name : List ℕ) → IsDistinct nat_eq (map number_of ds) → IsDistinct nat_eq (map number_of (without_desc ds name))
unfolding IsDistinct
distinct_without [] name h = tt
distinct_without (d ∷ ds) name h = chosen (distinct_without ds name h.1) (bytes_eq d.name name)
  where
    chosen : IsDistinct nat_eq (map number_of (without_desc ds name)) → (b : Bool) → IsDistinct nat_eq (map number_of (cond (not b) (d ∷ without_desc ds name) (without_desc ds name)))
    chosen later true = later
    chosen later false = (
      all_of number_of (λ y. nat_eq d.number.0 y ≡ false) (without_desc ds name) (all_without (λ x. nat_eq d.number.0 x.number.0 ≡ false) ds name (all_told number_of (λ y. nat_eq d.number.0 y ≡ false) ds h.0)),
      later,
    )

pub tables_cut : (rows : Rows) (ds : List TableDesc) (d : TableDesc) → AreTables (finite.values rows) ds → AreKeyed rows → Any (λ e. e ≡ d) ds → AreTables (finite.values (cut_all (keys_of d) rows)) (without_desc ds d.name)
tables_cut rows ds d t keyed has_it =
    let descs : AreDescs (without_desc ds d.name) = record { each = all_without IsDesc ds d.name t.descs.each; names = sorted_without ds d.name t.descs.names; numbers = distinct_without ds d.name t.descs.numbers } in
    let at : get_or ds has_it.0 d ≡ d = place ds has_it.0 has_it.1 has_it.3 has_it.2 has_it.4 in
    let old : rows ≡ made (entries_of ds) = is_made rows (flat_map rows_of ds) keyed t.spelled (sorted_tables ds t.descs.names) in
    let new : cut_all (keys_of d) rows ≡ made (entries_of (without_desc ds d.name)) = ap (cut_all (keys_of d)) old ∙ cut_table d ds has_it.0 [] t.descs.names has_it.2 at tt in
    record { spelled = ap finite.values new ∙ made_values (flat_map rows_of (without_desc ds d.name)) (sorted_tables (without_desc ds d.name) descs.names); descs = descs }
  where
    place : (es : List TableDesc) (k : ℕ) (x : TableDesc) → get_or es k x ≡ x → k < length es → x ≡ d → get_or es k d ≡ d
    place es k x at lt is = ap (get_or es k) (sym is) ∙ at ∙ is
