-- A row is a format: which values are NULL, and then a field for each that isn't.
use Rattle.std.proofs.Common.{◌↔◌, ◌≡◌, ◌≢◌, ℕ, suc, ◌-◌, ◌*◌, ◌≤◌, Bool, true, false, IsTrue, List, [], ◌∷◌, ◌++◌, length, map, refl, sym, ap, ◌∙◌, arith}
use Rattle.std.specs.Prelude.{⊤, Ok, Err}
use Rattle.std.specs.List.{concat, flat_map, AllByRecursion}
use Rattle.std.proofs.lemmas.List.{append-nil, length-map}
use Rattle.std.proofs.lemmas.List.Folds.{concat-append}
use Rattle.page_base.specs.declared.column.Column.{Column}
use Rattle.page_base.specs.declared.value.Value.{Value}
use Rattle.page_base.specs.declared.value.Value.TheVariants.{Null, Int, Big, Text}
use Rattle.page_base.specs.Places.{IsFault}
use Rattle.page_base.specs.Reading.{Read, ◌>>=◌, left}
use Rattle.page_base.proofs.FormatLemmas.{IsBytes, IsFormat, format_of_field, format_of_sequence, format_of_end, shrinks, fault_of_err, fault_of_rest, ok, read_is}
use Rattle.row_fmt.specs.Rows.{MayStand, FitsColumns, InRange, IsRowOf, IsRow, is_null, bit_fields, null_bytes, value_field, row_fields, row_bytes}
use Rattle.row_fmt.specs.Reading.{cell_at, value_at, nulls_at, values_at, row_at}
use Rattle.row_fmt.proofs.BitLemmas.{Allows, AllowsNulls, IsFormat-nulls, length-allowed}
use Rattle.row_fmt.proofs.FieldLemmas.{IsCell, field_of, IsField-value}

-- the same format, with its values and fields told otherwise
module _ {X : Type 0} (Fits Same : X → Type 0) (fields told : X → List (List ℕ)) (read : List ℕ → Read X) where
  record IsAlike : Type 0 where
    format : IsFormat Fits fields read
    there : (x : X) → Fits x → Same x
    back : (x : X) → Same x → Fits x
    are : (x : X) → Fits x → told x ≡ fields x

  alike : IsAlike → IsFormat Same told read
  alike a = record {
    some = a.format.some;
    some_fits = a.there a.format.some a.format.some_fits;
    takes = λ bytes x rest h e.
        let t = a.format.takes bytes x rest h e in
        (a.there x t.0, t.1 ∙ ap (λ (fs : List (List ℕ)). concat fs ++ rest) (sym (a.are x t.0)));
    again = λ x rest fits. ap (λ (fs : List (List ℕ)). read (concat fs ++ rest)) (a.are x (a.back x fits)) ∙ a.format.again x rest (a.back x fits);
    begins = λ bytes rest h e.
        let b = a.format.begins bytes rest h e in
        record { value = b.value; fits = a.there b.value b.fits; done = b.done; later = b.later; first = a.are b.value b.fits ∙ b.first; spelled = b.spelled };
    reaches = λ x done later tail h fits e. a.format.reaches x done later tail h (a.back x fits) (sym (a.are x (a.back x fits)) ∙ e);
  }

-- ---- what stands in a column

abbrev pub StandsIn : Column → Value → Type 0
StandsIn column value = MayStand column value × InRange value

stands : (column : Column) (v : Value) → IsCell column.kind v → StandsIn column v × (is_null v ≡ false)
stands column Null h = absurd h.0
stands column (Int n) h = (h, refl)
stands column (Big n) h = (h, refl)
stands column (Text bytes) h = (h, refl)

is_cell : (column : Column) (v : Value) → StandsIn column v × (is_null v ≡ false) → IsCell column.kind v
is_cell column Null h = absurd (let wrong : true ≡ false = h.1 in cc)
is_cell column (Int n) h = h.0
is_cell column (Big n) h = h.0
is_cell column (Text bytes) h = h.0

one_field : (column : Column) (v : Value) → IsCell column.kind v → value_field v ≡ field_of v ∷ []
one_field column Null h = absurd h.0
one_field column (Int n) h = refl
one_field column (Big n) h = refl
one_field column (Text bytes) h = refl

only_null : (column : Column) (v : Value) → StandsIn column v × (is_null v ≡ true) → v ≡ Null
only_null column Null h = refl
only_null column (Int n) h = absurd (let wrong : false ≡ true = h.1 in cc)
only_null column (Big n) h = absurd (let wrong : false ≡ true = h.1 in cc)
only_null column (Text bytes) h = absurd (let wrong : false ≡ true = h.1 in cc)

IsFormat-cell : (null : Bool) (column : Column) → Allows column null → IsFormat (λ v. StandsIn column v × (is_null v ≡ null)) value_field (cell_at null column.kind)
IsFormat-cell true column h = format_of_end (λ v. StandsIn column v × (is_null v ≡ true)) value_field Null (record { fits = ((h, tt), refl); only = only_null column; none = refl })
IsFormat-cell false column h = alike (IsCell column.kind) (λ v. StandsIn column v × (is_null v ≡ false)) (λ v. field_of v ∷ []) value_field (value_at column.kind) (record {
  format = format_of_field (IsCell column.kind) field_of (value_at column.kind) (IsField-value column.kind);
  there = stands column;
  back = is_cell column;
  are = one_field column;
})

-- ---- what stands in all columns

-- each value may stand in its column, and is one that a program can hold
abbrev pub AreCells : List Column → List Value → Type 0
AreCells [] [] = ⊤
AreCells [] (v ∷ row) = ⊥
AreCells (column ∷ columns) [] = ⊥
AreCells (column ∷ columns) (v ∷ row) = StandsIn column v × AreCells columns row

abbrev HasNulls : List Column → List Bool → List Value → Type 0
HasNulls columns nulls row = AreCells columns row × (map is_null row ≡ nulls)

abbrev first_of : List Value → Value
first_of [] = Null
first_of (v ∷ row) = v

abbrev rest_of : List Value → List Value
rest_of [] = []
rest_of (v ∷ row) = row

no_row : (row : List Value) → HasNulls [] [] row → row ≡ []
no_row [] h = refl
no_row (v ∷ row) h = absurd h.0

module _ (column : Column) (columns : List Column) (null : Bool) (nulls : List Bool) where
  abbrev Whole : List Value → Type 0
  Whole = HasNulls (column ∷ columns) (null ∷ nulls)

  first_stands : (row : List Value) → Whole row → StandsIn column (first_of row) × (is_null (first_of row) ≡ null)
  first_stands [] h = absurd h.0
  first_stands (v ∷ row) h = let same : is_null v ≡ null = cc in (h.0.0, same)

  rest_stands : (row : List Value) → Whole row → HasNulls columns nulls (rest_of row)
  rest_stands [] h = absurd h.0
  rest_stands (v ∷ row) h = let same : map is_null row ≡ nulls = cc in (h.0.1, same)

  in_two : (row : List Value) → Whole row → flat_map value_field row ≡ value_field (first_of row) ++ flat_map value_field (rest_of row)
  in_two [] h = absurd h.0
  in_two (v ∷ row) h = refl

  only_row : (v : Value) (row others : List Value) → Whole others → first_of others ≡ v → rest_of others ≡ row → others ≡ v ∷ row
  only_row v row [] h first rest = absurd h.0
  only_row v row (w ∷ others) h first rest = λ i. first i ∷ rest i

  module _ (v : Value) (v_stands : StandsIn column v × (is_null v ≡ null)) where
    row_end : (row : List Value) → HasNulls columns nulls row → IsFormat (λ others. (Whole others × (first_of others ≡ v)) × (rest_of others ≡ row)) (λ others. []) (λ bytes. Ok (v ∷ row, bytes))
    row_end row h = format_of_end (λ others. (Whole others × (first_of others ≡ v)) × (rest_of others ≡ row)) (λ others. []) (v ∷ row) (record {
      fits = ((((v_stands.0, h.0), (λ i. v_stands.1 i ∷ h.1 i)), refl), refl);
      only = λ others o. only_row v row others o.0.0 o.0.1 o.1;
      none = refl;
    })

pub IsFormat-values : (columns : List Column) (nulls : List Bool) → AllowsNulls columns nulls → IsFormat (HasNulls columns nulls) (flat_map value_field) (values_at columns nulls)
unfolding values_at
IsFormat-values [] [] h = format_of_end (HasNulls [] []) (flat_map value_field) [] (record { fits = (tt, refl); only = no_row; none = refl })
IsFormat-values [] (null ∷ nulls) h = absurd h
IsFormat-values (column ∷ columns) [] h = absurd h
IsFormat-values (column ∷ columns) (null ∷ nulls) h =
    format_of_sequence (λ v. StandsIn column v × (is_null v ≡ null)) value_field (cell_at null column.kind) (HasNulls (column ∷ columns) (null ∷ nulls)) (flat_map value_field) first_of (λ row. flat_map value_field (rest_of row))
    (λ v bytes. values_at columns nulls bytes >>= λ values. Ok (v ∷ values.0, values.1)) (record {
      first = IsFormat-cell null column h.0;
      second = λ v v_stands. format_of_sequence (HasNulls columns nulls) (flat_map value_field) (values_at columns nulls) (λ row. HasNulls (column ∷ columns) (null ∷ nulls) row × (first_of row ≡ v)) (λ row. flat_map value_field (rest_of row)) rest_of (λ row. [])
          (λ row bytes. Ok (v ∷ row, bytes)) (record {
            first = IsFormat-values columns nulls h.1;
            second = row_end column columns null nulls v v_stands;
            fits = λ row w. rest_stands column columns null nulls row w.0;
            are = λ row w. sym (append-nil (flat_map value_field (rest_of row)));
          });
      fits = first_stands column columns null nulls;
      are = in_two column columns null nulls;
    })

-- ---- a row

allows_row : (columns : List Column) (row : List Value) → AreCells columns row → AllowsNulls columns (map is_null row)
allows_row [] [] h = tt
allows_row [] (v ∷ row) h = absurd h
allows_row (c ∷ columns) [] h = absurd h
allows_row (c ∷ columns) (v ∷ row) h = (here v h.0.0, allows_row columns row h.1)
  where
    here : (v : Value) → MayStand c v → Allows c (is_null v)
    here Null h = h
    here (Int n) h = tt
    here (Big n) h = tt
    here (Text bytes) h = tt

pub length-row : (columns : List Column) (row : List Value) → AreCells columns row → length row ≡ length columns
length-row columns row h = sym (length-map row is_null) ∙ length-allowed columns (map is_null row) (allows_row columns row h)

pub length-fits : (columns : List Column) (row : List Value) → FitsColumns columns row → length row ≡ length columns
length-fits [] [] h = refl
length-fits [] (v ∷ row) h = absurd h
length-fits (c ∷ columns) [] h = absurd h
length-fits (c ∷ columns) (v ∷ row) h = ap suc (length-fits columns row h.1)

pub enough_bytes : (n : ℕ) → n ≤ 8 * null_bytes n
enough_bytes n = omega arith

IsFormat-cells : (columns : List Column) → IsFormat (AreCells columns) row_fields (row_at columns)
unfolding row_at
IsFormat-cells columns =
    let n : ℕ = null_bytes (length columns) in
    format_of_sequence (AllowsNulls columns) (bit_fields n) (nulls_at n columns) (AreCells columns) row_fields (map is_null) (flat_map value_field) (λ nulls bytes. values_at columns nulls bytes) (record {
      first = IsFormat-nulls n columns (enough_bytes (length columns));
      second = λ nulls fits. IsFormat-values columns nulls fits;
      fits = allows_row columns;
      are = λ row h. ap (λ (m : ℕ). bit_fields (null_bytes m) (map is_null row) ++ flat_map value_field row) (length-row columns row h);
    })

-- the same row, its columns and its ranges told apart
cells_row : (columns : List Column) (row : List Value) → AreCells columns row → FitsColumns columns row × AllByRecursion InRange row
cells_row [] [] h = (tt, tt)
cells_row [] (v ∷ row) h = absurd h
cells_row (c ∷ columns) [] h = absurd h
cells_row (c ∷ columns) (v ∷ row) h = let later = cells_row columns row h.1 in ((h.0.0, later.0), (h.0.1, later.1))

row_cells : (columns : List Column) (row : List Value) → FitsColumns columns row → AllByRecursion InRange row → AreCells columns row
row_cells [] [] fits range = tt
row_cells [] (v ∷ row) fits range = absurd fits
row_cells (c ∷ columns) [] fits range = absurd fits
row_cells (c ∷ columns) (v ∷ row) fits range = ((fits.0, range.0), row_cells columns row fits.1 range.1)

pub IsFormat-row : (columns : List Column) → IsFormat (IsRowOf columns) row_fields (row_at columns)
IsFormat-row columns = alike (AreCells columns) (IsRowOf columns) row_fields row_fields (row_at columns) (record {
  format = IsFormat-cells columns;
  there = λ row h. let parts = cells_row columns row h in record { fits = parts.0; range = parts.1 };
  back = λ row h. row_cells columns row h.fits h.range;
  are = λ row h. refl;
})

-- ---- bytes that are one row, and bytes that are none

unfolded : (row : List Value) → row_bytes row ≡ concat (row_fields row)
unfolding row_bytes
unfolded row = refl

-- bytes that are a row are read as that row
pub row_again : (columns : List Column) (bytes : List ℕ) (row : List Value) → IsRow columns bytes row → row_at columns bytes ≡ ok row []
row_again columns bytes row r =
    ap (row_at columns) (r.spelled ∙ unfolded row ∙ sym (append-nil (concat (row_fields row)))) ∙ (IsFormat-row columns).again row [] r.of

-- bytes are one row of these columns at most
pub one_row : (columns : List Column) (bytes : List ℕ) (row other : List Value) → IsRow columns bytes row → IsRow columns bytes other → row ≡ other
one_row columns bytes row other r o = (read_is row other [] [] (sym (row_again columns bytes row r) ∙ row_again columns bytes other o)).0

-- a row that was spelled
pub row_was_spelled : (columns : List Column) (bytes : List ℕ) (row : List Value) → FitsColumns columns row → AllByRecursion InRange row → bytes ≡ concat (bit_fields (null_bytes (length row)) (map is_null row)) ++ concat (flat_map value_field row) → IsRow columns bytes row
row_was_spelled columns bytes row fits range e = record {
  of = record { fits = fits; range = range };
  spelled = e ∙ sym (concat-append (bit_fields (null_bytes (length row)) (map is_null row)) (flat_map value_field row)) ∙ sym (unfolded row);
}

module _ (columns : List Column) (bytes : List ℕ) (h : IsBytes bytes) where
  pub row_was_read : (row : List Value) (rest : List ℕ) → row_at columns bytes ≡ Ok (row, rest) → rest ≡ [] → IsRow columns bytes row
  row_was_read row rest e empty =
      let t = (IsFormat-row columns).takes bytes row rest h e in
      record { of = t.0; spelled = t.1 ∙ ap (λ (bs : List ℕ). concat (row_fields row) ++ bs) empty ∙ append-nil (concat (row_fields row)) ∙ sym (unfolded row) }

  pub only_one : (row other : List Value) (rest : List ℕ) → row_at columns bytes ≡ Ok (row, rest) → IsRow columns bytes other → row ≡ other
  only_one row other rest e r = (read_is row other rest [] (sym e ∙ row_again columns bytes other r)).0

  pub left_within : (read : Read (List Value)) → row_at columns bytes ≡ read → length (left read) ≤ length bytes
  left_within read e = omega (arith, shrinks (IsRowOf columns) row_fields (row_at columns) (IsFormat-row columns) bytes h, ap (λ (r : Read (List Value)). length (left r)) e)

  pub fault_in_row : (stopped : List ℕ) → row_at columns bytes ≡ Err stopped → IsFault (IsRowOf columns) row_fields bytes (length bytes - length stopped)
  fault_in_row stopped e = fault_of_err (IsRowOf columns) row_fields (row_at columns) (IsFormat-row columns) bytes h stopped e

  pub fault_behind_row : (row : List Value) (rest : List ℕ) → row_at columns bytes ≡ Ok (row, rest) → rest ≢ [] → IsFault (IsRowOf columns) row_fields bytes (length bytes - length rest)
  fault_behind_row row rest e ne = fault_of_rest (IsRowOf columns) row_fields (row_at columns) (IsFormat-row columns) bytes h row rest e ne

  -- bytes with a fault are no row
  pub no_row_there : (at : ℕ) → IsFault (IsRowOf columns) row_fields bytes at → (row : List Value) → IsRow columns bytes row → ⊥
  no_row_there at f row r = f.none row r.of (r.spelled ∙ unfolded row)

-- whether the reader has come to its end
pub ended : {P : Type 0} (r : Bool) → (IsTrue r ↔ P) → r ≡ true → P
ended r h e = h.0 e

pub not_ended : {P : Type 0} (r : Bool) → (IsTrue r ↔ P) → r ≡ false → P → ⊥
not_ended r h e p = let wrong : true ≡ false = sym (h.1 p) ∙ e in cc
