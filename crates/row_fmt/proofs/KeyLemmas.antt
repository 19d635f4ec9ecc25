-- The bytes of a key are those of one key: its columns aren't NULL, so each value is read where the one before ends.
use Rattle.std.proofs.Common.{◌≡◌, ◌≢◌, ℕ, ◌==◌, Bool, true, false, cond, List, [], ◌∷◌, ◌++◌, map, refl, sym, ap, ◌∙◌, arith}
use Rattle.std.specs.Prelude.{⊤, nat_le}
use Rattle.std.specs.List.{AllByRecursion}
use Rattle.std.proofs.lemmas.Bool.Decides.{nat_tests}
use Rattle.page_base.specs.declared.column.Column.{Column}
use Rattle.page_base.specs.declared.value.Value.{Value}
use Rattle.page_base.specs.declared.value.Value.TheVariants.{Null, Int, Big, Text}
use Rattle.page_base.proofs.FormatLemmas.{read_is}
use Rattle.row_fmt.specs.Rows.{MayStand, FitsColumns, InRange, IsRowOf, is_null}
use Rattle.row_fmt.specs.Keys.{Part, placed, column_parts, key_parts, key_values, key_bytes, KeysStand}
use Rattle.row_fmt.specs.Reading.{values_at}
use Rattle.row_fmt.proofs.BitLemmas.{AllowsNulls}
use Rattle.row_fmt.proofs.RowLemmas.{StandsIn, AreCells, IsFormat-values}

-- a value that may stand in a key column
record IsKeyValue (c : Part Column) (v : Part Value) : Type 0 where
  place : c.0 ≡ v.0
  stands : StandsIn c.1 v.1
  there : is_null v.1 ≡ false

-- key columns and their values, place by place
abbrev Matches : List (Part Column) → List (Part Value) → Type 0
Matches [] [] = ⊤
Matches [] (v ∷ parts) = ⊥
Matches (c ∷ columns) [] = ⊥
Matches (c ∷ columns) (v ∷ parts) = IsKeyValue c v × Matches columns parts

placed_matches : (c : Part Column) (v : Part Value) (columns : List (Part Column)) (parts : List (Part Value)) → IsKeyValue c v → Matches columns parts → Matches (placed c columns) (placed v parts)
placed_matches c v [] [] here m = (here, tt)
placed_matches c v [] (w ∷ parts) here m = absurd m
placed_matches c v (d ∷ columns) [] here m = absurd m
placed_matches c v (d ∷ columns) (w ∷ parts) here m = chosen (nat_le c.0 d.0) (nat_le v.0 w.0) (λ i. nat_le (here.place i) (m.0.place i)) (placed_matches c v columns parts here m.1)
  where
    chosen : (a b : Bool) → a ≡ b → Matches (placed c columns) (placed v parts) → Matches (cond a (c ∷ d ∷ columns) (d ∷ placed c columns)) (cond b (v ∷ w ∷ parts) (w ∷ placed v parts))
    chosen true true e later = (here, m)
    chosen true false e later = absurd (let wrong : true ≡ false = e in cc)
    chosen false true e later = absurd (let wrong : false ≡ true = e in cc)
    chosen false false e later = (m.0, later)

not_null : (column : Column) (v : Value) → column.nullable ≡ false → MayStand column v → is_null v ≡ false
not_null column Null e h = absurd (let wrong : true ≡ false = sym h ∙ e in cc)
not_null column (Int n) e h = refl
not_null column (Big n) e h = refl
not_null column (Text bytes) e h = refl

nonzero : (n : ℕ) → (n == 0) ≡ false → n ≢ 0
nonzero n h e = absurd (grind (arith, nat_tests))

key_matches : (columns : List Column) (row : List Value) → FitsColumns columns row → AllByRecursion InRange row → KeysStand columns → Matches (column_parts columns) (key_parts columns row)
key_matches [] [] fits range keys = tt
key_matches [] (v ∷ row) fits range keys = absurd fits
key_matches (c ∷ columns) [] fits range keys = absurd fits
key_matches (c ∷ columns) (v ∷ row) fits range keys = chosen (c.key == 0) refl (key_matches columns row fits.1 range.1 keys.1)
  where
    chosen : (b : Bool) → (c.key == 0) ≡ b → Matches (column_parts columns) (key_parts columns row) → Matches (cond b (column_parts columns) (placed (c.key, c) (column_parts columns))) (cond b (key_parts columns row) (placed (c.key, v) (key_parts columns row)))
    chosen true e later = later
    chosen false e later =
        placed_matches (c.key, c) (c.key, v) (column_parts columns) (key_parts columns row) (record { place = refl; stands = (fits.0, range.0); there = not_null c v (keys.0 (nonzero c.key e)) fits.0 }) later

-- the columns and values without their places
abbrev of_columns : List (Part Column) → List Column
of_columns columns = map (λ (c : Part Column). c.1) columns

abbrev of_values : List (Part Value) → List Value
of_values parts = map (λ (v : Part Value). v.1) parts

-- none is NULL
abbrev none : List (Part Column) → List Bool
none columns = map (λ (c : Part Column). false) columns

none_allowed : (columns : List (Part Column)) → AllowsNulls (of_columns columns) (none columns)
none_allowed [] = tt
none_allowed (c ∷ columns) = (tt, none_allowed columns)

are_cells : (columns : List (Part Column)) (parts : List (Part Value)) → Matches columns parts → AreCells (of_columns columns) (of_values parts) × (map is_null (of_values parts) ≡ none columns)
are_cells [] [] m = (tt, refl)
are_cells [] (v ∷ parts) m = absurd m
are_cells (c ∷ columns) [] m = absurd m
are_cells (c ∷ columns) (v ∷ parts) m = let later = are_cells columns parts m.1 in ((m.0.stands, later.0), (λ i. m.0.there i ∷ later.1 i))

-- two rows of these columns whose keys have the same bytes have the same key
pub one_key : (columns : List Column) (row other : List Value) → KeysStand columns → IsRowOf columns row → IsRowOf columns other → key_bytes columns row ≡ key_bytes columns other → key_values columns row ≡ key_values columns other
unfolding key_bytes
one_key columns row other keys r o e =
    let parts = column_parts columns in
    let format = IsFormat-values (of_columns parts) (none parts) (none_allowed parts) in
    let mine = format.again (key_values columns row) [] (are_cells parts (key_parts columns row) (key_matches columns row r.fits r.range keys)) in
    let theirs = format.again (key_values columns other) [] (are_cells parts (key_parts columns other) (key_matches columns other o.fits o.range keys)) in
    let same = ap (λ (bs : List ℕ). values_at (of_columns parts) (none parts) (bs ++ [])) e in
    (read_is (key_values columns row) (key_values columns other) [] [] (sym mine ∙ same ∙ theirs)).0
