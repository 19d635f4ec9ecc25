-- The key of a row is spelled by its key columns, and read again by them.
use Rattle.std.proofs.Common.{◌≡◌, ◌≢◌, ◌≤◌, ◌+◌, ◌==◌, ℕ, zero, suc, Bool, true, false, cond, List, [], ◌∷◌, ◌++◌, length, take, drop, map, refl, ap, sym, ◌∙◌, subst, arith, length-append}
use Rattle.std.specs.Prelude.{Some, nat_le, replicate, min}
use Rattle.std.specs.List.{concat, flat_map, range_with_len, AllByRecursion}
use Rattle.std.proofs.lemmas.Bool.{ne_eqb}
use Rattle.std.proofs.lemmas.Bool.Decides.{nat_tests}
use Rattle.std.proofs.lemmas.List.{length-map}
use Rattle.std.proofs.lemmas.List.Folds.{concat-append}
use Rattle.std.specs.Int.{w32, w64, cast_unsigned}
use Rattle.page_base.specs.declared.column.Column.{Column}
use Rattle.page_base.specs.declared.value.Value.{Value}
use Rattle.page_base.specs.declared.value.Value.TheVariants.{Null, Int, Big, Text}
use Rattle.byte_fields.proofs.Numbers.{length-number}
use Rattle.byte_fields.specs.Numbers.{number}
use Rattle.plain_model.specs.Tables.{key_of, key_cell, key_size}
use Rattle.row_fmt.specs.Rows.{MayStand, FitsColumns, InRange, IsRow, is_null, bits_number, bit_fields, null_bytes, value_field}
use Rattle.row_fmt.specs.Keys.{Part, placed, column_parts, key_parts, key_values, key_bytes, KeysStand}
use Rattle.row_fmt.proofs.RowLemmas.{row_again, row_was_spelled}
use Rattle.table_walk.specs.Tables.{MayPut}
use Rattle.tree_laws.specs.Keys.{key_column, key_columns, whole, no_nulls, key_at}
use Rattle.tree_laws.specs.Reads.{HasKey, IsKey}
use Rattle.tree_laws.specs.Sheets.{spelled_key}
use Rattle.tree_laws.proofs.Lists.{Each, each-map}

-- PLACES

-- parts of which no two have one place
abbrev Differ : {X : Type 0} → List (Part X) → Type 0
Differ [] = Unit {0}
Differ (p ∷ ps) = Each (λ q. q.0 ≢ p.0) ps × Differ ps

placed_differ : {X : Type 0} (p : Part X) (ps : List (Part X)) → Differ (placed p ps) → Each (λ q. q.0 ≢ p.0) ps × Differ ps
placed_differ p [] d = (tt, tt)
placed_differ {X = X} p (q ∷ ps) d = by (nat_le p.0 q.0) d (placed_differ p ps)
  where
    apart : (ps : List (Part X)) → Each (λ r. r.0 ≢ q.0) (placed p ps) → (p.0 ≢ q.0) × Each (λ r. r.0 ≢ q.0) ps
    apart [] h = (h.0, tt)
    apart (r ∷ ps) h = one (nat_le p.0 r.0) h (apart ps)
      where
        one : (b : Bool) → Each (λ r. r.0 ≢ q.0) (cond b (p ∷ r ∷ ps) (r ∷ placed p ps)) → (Each (λ r. r.0 ≢ q.0) (placed p ps) → (p.0 ≢ q.0) × Each (λ r. r.0 ≢ q.0) ps) → (p.0 ≢ q.0) × Each (λ r. r.0 ≢ q.0) (r ∷ ps)
        one true h rec = (h.0, h.1)
        one false h rec = let a = rec h.1 in (a.0, (h.0, a.1))

    by : (b : Bool) → Differ (cond b (p ∷ q ∷ ps) (q ∷ placed p ps)) → (Differ (placed p ps) → Each (λ q. q.0 ≢ p.0) ps × Differ ps) → Each (λ q. q.0 ≢ p.0) (q ∷ ps) × Differ (q ∷ ps)
    by true d rec = (d.0, d.1)
    by false d rec =
        let a = apart ps d.0 in
        let r = rec d.1 in
        (((λ e. a.0 (sym e)), r.0), (a.1, r.1))

each_placed : {X : Type 0} (P : Part X → Type 0) (p : Part X) (ps : List (Part X)) → P p → Each P ps → Each P (placed p ps)
each_placed P p [] h e = (h, tt)
each_placed P p (q ∷ ps) h e = by (nat_le p.0 q.0) (each_placed P p ps h e.1)
  where
    by : (b : Bool) → Each P (placed p ps) → Each P (cond b (p ∷ q ∷ ps) (q ∷ placed p ps))
    by true rec = (h, e)
    by false rec = (e.0, rec)

nonzero : (n : ℕ) → (n == 0) ≡ false → n ≢ 0
nonzero n h e = absurd (grind (arith, nat_tests))

no_zero : (cols : List Column) → Each (λ q. q.0 ≢ 0) (column_parts cols)
no_zero [] = tt
no_zero (c ∷ cs) = by (c.key == 0) refl (no_zero cs)
  where
    by : (b : Bool) → (c.key == 0) ≡ b → Each (λ q. q.0 ≢ 0) (column_parts cs) → Each (λ q. q.0 ≢ 0) (cond b (column_parts cs) (placed (c.key, c) (column_parts cs)))
    by true e rec = rec
    by false e rec = each_placed (λ q. q.0 ≢ 0) (c.key, c) (column_parts cs) (nonzero c.key e) rec

-- places one after the other differ
ranged : {X : Type 0} (ps : List (Part X)) (a n : ℕ) → map (λ p. p.0) ps ≡ range_with_len a n → Each (λ p. a ≤ p.0) ps × Differ ps
ranged [] a n e = (tt, tt)
ranged (p ∷ ps) a zero e = absurd (cc)
ranged {X = X} (p ∷ ps) a (suc n) e =
    let here : p.0 ≡ a = cc in
    let rest : map (λ (q : Part X). q.0) ps ≡ range_with_len (a + 1) n = cc in
    let r = ranged ps (a + 1) n rest in (
      (omega (arith, here), each-map (λ q. a + 1 ≤ q.0) (λ q. a ≤ q.0) ps (λ q h. omega (arith, h)) r.0),
      (each-map (λ q. a + 1 ≤ q.0) (λ q. q.0 ≢ p.0) ps (λ q h same. absurd (omega (arith, h, same, here))) r.0, r.1),
    )

-- COLUMNS AND VALUES, PLACE BY PLACE

-- a column as one that is never NULL
abbrev still : Column → Column
still c = record c { nullable = false }

record IsPair (cols : List Column) (row : List Value) (c : Part Column) (v : Part Value) : Type 0 where
  place : c.0 ≡ v.0
  column : key_column cols c.0 ≡ still c.1 ∷ []
  value : key_cell cols row c.0 ≡ v.1
  stands : MayStand (still c.1) v.1
  range : InRange v.1
  there : is_null v.1 ≡ false

abbrev Pairs : List Column → List Value → List (Part Column) → List (Part Value) → Type 0
Pairs cols row [] [] = Unit {0}
Pairs cols row [] (v ∷ vs) = ⊥
Pairs cols row (c ∷ cs) [] = ⊥
Pairs cols row (c ∷ cs) (v ∷ vs) = IsPair cols row c v × Pairs cols row cs vs

placed_pairs : (cols : List Column) (row : List Value) (c : Part Column) (v : Part Value) (cs : List (Part Column)) (vs : List (Part Value)) → IsPair cols row c v → Pairs cols row cs vs → Pairs cols row (placed c cs) (placed v vs)
placed_pairs cols row c v [] [] h m = (h, tt)
placed_pairs cols row c v [] (w ∷ vs) h m = absurd m
placed_pairs cols row c v (d ∷ cs) [] h m = absurd m
placed_pairs cols row c v (d ∷ cs) (w ∷ vs) h m = by (nat_le c.0 d.0) (nat_le v.0 w.0) (λ i. nat_le (h.place i) (m.0.place i)) (placed_pairs cols row c v cs vs h m.1)
  where
    by : (a b : Bool) → a ≡ b → Pairs cols row (placed c cs) (placed v vs) → Pairs cols row (cond a (c ∷ d ∷ cs) (d ∷ placed c cs)) (cond b (v ∷ w ∷ vs) (w ∷ placed v vs))
    by true true e rec = (h, m)
    by true false e rec = absurd (let wrong : true ≡ false = e in cc)
    by false true e rec = absurd (let wrong : false ≡ true = e in cc)
    by false false e rec = (m.0, rec)

-- one column more in front, at another place
pairs_more : (c : Column) (cols : List Column) (v : Value) (row : List Value) (cs : List (Part Column)) (vs : List (Part Value)) → Each (λ q. q.0 ≢ c.key) cs → Pairs cols row cs vs → Pairs (c ∷ cols) (v ∷ row) cs vs
pairs_more c cols v row [] [] ne m = tt
pairs_more c cols v row [] (w ∷ vs) ne m = absurd m
pairs_more c cols v row (d ∷ cs) [] ne m = absurd m
pairs_more c cols v row (d ∷ cs) (w ∷ vs) ne m =
    let no : (c.key == d.0) ≡ false = ne_eqb c.key d.0 (λ e. ne.0 (sym e)) in (
      record {
        place = m.0.place;
        column = ap (λ (b : Bool). cond b (still c ∷ []) (key_column cols d.0)) no ∙ m.0.column;
        value = ap (λ (b : Bool). cond b v (key_cell cols row d.0)) no ∙ m.0.value;
        stands = m.0.stands;
        range = m.0.range;
        there = m.0.there;
      },
      pairs_more c cols v row cs vs ne.1 m.1,
    )

self : (n : ℕ) → (n == n) ≡ true
self n = grind (arith, nat_tests)

stands_still : (c : Column) (v : Value) → c.nullable ≡ false → MayStand c v → MayStand (still c) v × (is_null v ≡ false)
stands_still c Null e h = absurd (let wrong : true ≡ false = sym h ∙ e in cc)
stands_still c (Int n) e h = (h, refl)
stands_still c (Big n) e h = (h, refl)
stands_still c (Text bytes) e h = (h, refl)

pairs : (cols : List Column) (row : List Value) → FitsColumns cols row → AllByRecursion InRange row → KeysStand cols → Differ (column_parts cols) → Pairs cols row (column_parts cols) (key_parts cols row)
pairs [] [] fits range keys d = tt
pairs [] (v ∷ row) fits range keys d = absurd fits
pairs (c ∷ cs) [] fits range keys d = absurd fits
pairs (c ∷ cs) (v ∷ row) fits range keys d = by (c.key == 0) refl d (pairs cs row fits.1 range.1 keys.1)
  where
    zero_is : (n : ℕ) → (n == 0) ≡ true → n ≡ 0
    zero_is n e = grind (arith, nat_tests)

    by : (b : Bool) → (c.key == 0) ≡ b → Differ (cond b (column_parts cs) (placed (c.key, c) (column_parts cs))) → (Differ (column_parts cs) → Pairs cs row (column_parts cs) (key_parts cs row))
        → Pairs (c ∷ cs) (v ∷ row) (cond b (column_parts cs) (placed (c.key, c) (column_parts cs))) (cond b (key_parts cs row) (placed (c.key, v) (key_parts cs row)))
    by true e d rec =
        let none : c.key ≡ 0 = zero_is c.key e in
        pairs_more c cs v row (column_parts cs) (key_parts cs row) (each-map (λ q. q.0 ≢ 0) (λ q. q.0 ≢ c.key) (column_parts cs) (λ q h same. h (same ∙ none)) (no_zero cs)) (rec d)
    by false e d rec =
        let p = placed_differ (c.key, c) (column_parts cs) d in
        let s = stands_still c v (keys.0 (nonzero c.key e)) fits.0 in
        placed_pairs (c ∷ cs) (v ∷ row) (c.key, c) (c.key, v) (column_parts cs) (key_parts cs row) (record {
          place = refl;
          column = ap (λ (b : Bool). cond b (still c ∷ []) (key_column cs c.key)) (self c.key);
          value = ap (λ (b : Bool). cond b v (key_cell cs row c.key)) (self c.key);
          stands = s.0;
          range = range.0;
          there = s.1;
        }) (pairs_more c cs v row (column_parts cs) (key_parts cs row) p.0 (rec p.1))

abbrev columns_in : List (Part Column) → List Column
columns_in cs = map (λ (c : Part Column). still c.1) cs

abbrev values_in : List (Part Value) → List Value
values_in vs = map (λ (v : Part Value). v.1) vs

abbrev places_in : List (Part Column) → List ℕ
places_in cs = map (λ (c : Part Column). c.0) cs

columns_are : (cols : List Column) (row : List Value) (cs : List (Part Column)) (vs : List (Part Value)) → Pairs cols row cs vs → flat_map (key_column cols) (places_in cs) ≡ columns_in cs
columns_are cols row [] vs m = refl
columns_are cols row (c ∷ cs) [] m = absurd m
columns_are cols row (c ∷ cs) (v ∷ vs) m = let rest = columns_are cols row cs vs m.1 in λ i. m.0.column i ++ rest i

values_are : (cols : List Column) (row : List Value) (cs : List (Part Column)) (vs : List (Part Value)) → Pairs cols row cs vs → map (key_cell cols row) (places_in cs) ≡ values_in vs
values_are cols row [] [] m = refl
values_are cols row [] (v ∷ vs) m = absurd m
values_are cols row (c ∷ cs) [] m = absurd m
values_are cols row (c ∷ cs) (v ∷ vs) m = let rest = values_are cols row cs vs m.1 in λ i. m.0.value i ∷ rest i

record AreKeys (cs : List (Part Column)) (vs : List (Part Value)) : Type 0 where
  fits : FitsColumns (columns_in cs) (values_in vs)
  range : AllByRecursion InRange (values_in vs)
  there : Each (λ b. b ≡ false) (map is_null (values_in vs))
  same : length (values_in vs) ≡ length (columns_in cs)

are_keys : (cols : List Column) (row : List Value) (cs : List (Part Column)) (vs : List (Part Value)) → Pairs cols row cs vs → AreKeys cs vs
are_keys cols row [] [] m = record { fits = tt; range = tt; there = tt; same = refl }
are_keys cols row [] (v ∷ vs) m = absurd m
are_keys cols row (c ∷ cs) [] m = absurd m
are_keys cols row (c ∷ cs) (v ∷ vs) m =
    let a : AreKeys cs vs = are_keys cols row cs vs m.1 in
    record { fits = (m.0.stands, a.fits); range = (m.0.range, a.range); there = (m.0.there, a.there); same = ap suc a.same }

-- BYTES

no_bits : (bits : List Bool) → Each (λ b. b ≡ false) bits → bits_number bits ≡ 0
no_bits [] h = refl
no_bits (b ∷ bits) h = let z : cond {A = ℕ} b 1 0 ≡ 0 = ap (λ (x : Bool). cond {A = ℕ} x 1 0) h.0 in omega (arith, z, no_bits bits h.1)

each_take : {X : Type 0} (P : X → Type 0) (n : ℕ) (xs : List X) → Each P xs → Each P (take n xs) × Each P (drop n xs)
each_take P zero xs h = (tt, h)
each_take P (suc n) [] h = (tt, tt)
each_take P (suc n) (x ∷ xs) h = let r = each_take P n xs h.1 in ((h.0, r.0), r.1)

no_null_bytes : (n : ℕ) (bits : List Bool) → Each (λ b. b ≡ false) bits → concat (bit_fields n bits) ≡ replicate n 0
unfolding bit_fields
no_null_bytes zero bits h = refl
no_null_bytes (suc n) bits h =
    let r = each_take (λ b. b ≡ false) 8 bits h in
    let z = no_bits (take 8 bits) r.0 in
    let rest = no_null_bytes n (drop 8 bits) r.1 in
    λ i. z i ∷ rest i

some_field : (v : Value) → is_null v ≡ false → 1 ≤ length (concat (value_field v))
some_field Null h = absurd (let wrong : true ≡ false = h in cc)
some_field (Int n) h = omega (arith, length-append (number 4 (cast_unsigned w32 n)) [], length-number 4 (cast_unsigned w32 n))
some_field (Big n) h = omega (arith, length-append (number 8 (cast_unsigned w64 n)) [], length-number 8 (cast_unsigned w64 n))
some_field (Text bytes) h = omega (arith, length-append (number 2 (length bytes) ++ bytes) [], length-append (number 2 (length bytes)) bytes, length-number 2 (length bytes))

some_bytes : (key : List Value) → 1 ≤ length key → Each (λ b. b ≡ false) (map is_null key) → 1 ≤ length (concat (flat_map value_field key))
some_bytes [] one h = absurd (omega (arith, one))
some_bytes (v ∷ key) one h =
    let split : concat (value_field v ++ flat_map value_field key) ≡ concat (value_field v) ++ concat (flat_map value_field key) = concat-append (value_field v) (flat_map value_field key) in
    omega (arith, ap length split, length-append (concat (value_field v)) (concat (flat_map value_field key)), some_field v h.0)

-- THE KEY OF A ROW

module _ (cols : List Column) (h : HasKey cols) (row : List Value) (may : MayPut cols row) where
  abbrev Cs : List (Part Column)
  Cs = column_parts cols

  abbrev Vs : List (Part Value)
  Vs = key_parts cols row

  are : Pairs cols row (column_parts cols) (key_parts cols row)
  are = pairs cols row may.of.fits may.of.range h.stand (ranged (column_parts cols) 1 (key_size cols) h.places).1

  k : AreKeys (column_parts cols) (key_parts cols row)
  k = are_keys cols row (column_parts cols) (key_parts cols row) are

  pub key_is_values : key_of cols row ≡ key_values cols row
  key_is_values = ap (map (key_cell cols row)) (sym h.places) ∙ values_are cols row (column_parts cols) (key_parts cols row) are

  columns_is : key_columns cols ≡ columns_in (column_parts cols)
  columns_is =
      let few : min (key_size cols) 255 ≡ key_size cols = omega (arith, h.few) in
      ap (λ (n : ℕ). flat_map (key_column cols) (range_with_len 1 n)) few ∙ ap (flat_map (key_column cols)) (sym h.places) ∙ columns_are cols row (column_parts cols) (key_parts cols row) are

  bytes_is : spelled_key (Some (key_of cols row)) ≡ key_bytes cols row
  unfolding key_bytes
  bytes_is = ap (λ (key : List Value). concat (flat_map value_field key)) key_is_values

  read_again : key_at (columns_in (column_parts cols)) (concat (flat_map value_field (values_in (key_parts cols row)))) ≡ Some (values_in (key_parts cols row))
  read_again =
      let key : List Value = values_in (key_parts cols row) in
      let keys : List Column = columns_in (column_parts cols) in
      let nulls : no_nulls (length keys) ≡ concat (bit_fields (null_bytes (length key)) (map is_null key)) = ap (λ (n : ℕ). replicate (null_bytes n) 0) (sym k.same) ∙ sym (no_null_bytes (null_bytes (length key)) (map is_null key) k.there) in
      let r : IsRow keys (no_nulls (length keys) ++ concat (flat_map value_field key)) key =
      row_was_spelled keys (no_nulls (length keys) ++ concat (flat_map value_field key)) key k.fits k.range (ap (λ (z : List ℕ). z ++ concat (flat_map value_field key)) nulls) in
      ap whole (row_again keys (no_nulls (length keys) ++ concat (flat_map value_field key)) key r)

  one_value : 1 ≤ length (values_in (key_parts cols row))
  one_value =
      let places : length (places_in (column_parts cols)) ≡ length (range_with_len 1 (key_size cols)) = ap length h.places in
      omega (arith, k.same, length-map (column_parts cols) (λ (c : Part Column). still c.1), length-map (column_parts cols) (λ (c : Part Column). c.0), places, length_range 1 (key_size cols), h.some)
    where
      length_range : (a n : ℕ) → length (range_with_len a n) ≡ n
      length_range a zero = refl
      length_range a (suc n) = ap suc (length_range (a + 1) n)

  -- the key of a row that may be put is one that may be spelled
  pub is_key : IsKey cols (key_of cols row)
  is_key = record {
    reads = subst (λ (key : List Value). key_at (key_columns cols) (concat (flat_map value_field key)) ≡ Some key) (sym key_is_values)
        (subst (λ (keys : List Column). key_at keys (concat (flat_map value_field (values_in (key_parts cols row)))) ≡ Some (values_in (key_parts cols row))) (sym columns_is) read_again);
    some = λ none.
        let long : 1 ≤ length (concat (flat_map value_field (values_in (key_parts cols row)))) = some_bytes (values_in (key_parts cols row)) one_value k.there in
        let gone : length (concat (flat_map value_field (values_in (key_parts cols row)))) ≡ 0 = sym (ap (λ (key : List Value). length (concat (flat_map value_field key))) key_is_values) ∙ ap length none in
        absurd (omega (arith, long, gone));
    short = omega (arith, ap length bytes_is, may.small.key);
  }
