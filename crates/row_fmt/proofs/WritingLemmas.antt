-- One more byte for NULLs, and one more value, are written.
use Rattle.std.proofs.Common.{◌≡◌, ℕ, zero, suc, ◌+◌, ◌*◌, ◌<◌, Bool, List, [], ◌∷◌, ◌++◌, length, map, take, drop, get_or, refl, sym, ap, subst, ◌∙◌, arith, append_assoc, add-one}
use Rattle.std.specs.List.{concat, flat_map, AllByRecursion}
use Rattle.std.proofs.lemmas.List.{append-nil, drop-drop, take-map, drop-map, take_more}
use Rattle.std.proofs.lemmas.List.Folds.{concat-append}
use Rattle.std.proofs.lemmas.List.Concat.{flat_map-append}
use Rattle.page_base.specs.declared.column.Column.{Column}
use Rattle.page_base.specs.declared.value.Value.{Value}
use Rattle.row_fmt.specs.Rows.{MayStand, FitsColumns, InRange, is_null, bits_number, bit_fields, value_field}

bits_further : (i : ℕ) (bits : List Bool) → drop (8 * i) (drop 8 bits) ≡ drop (8 * suc i) bits
bits_further i bits = let sum : 8 + 8 * i ≡ 8 * suc i = omega arith in drop-drop (8 * i) 8 bits ∙ ap (λ (k : ℕ). drop k bits) sum

bit_fields-more : (i : ℕ) (bits : List Bool) → concat (bit_fields (suc i) bits) ≡ concat (bit_fields i bits) ++ bits_number (take 8 (drop (8 * i) bits)) ∷ []
unfolding bit_fields
bit_fields-more zero bits = refl
bit_fields-more (suc i) bits =
    ap (λ (bs : List ℕ). bits_number (take 8 bits) ∷ bs) (bit_fields-more i (drop 8 bits) ∙ ap (λ (ds : List Bool). concat (bit_fields i (drop 8 bits)) ++ bits_number (take 8 ds) ∷ []) (bits_further i bits))

pub nulls_written : (row : List Value) (i byte : ℕ) (before old new : List ℕ) → byte ≡ bits_number (map is_null (take 8 (drop (8 * i) row))) → old ≡ before ++ concat (bit_fields i (map is_null row)) → new ≡ old ++ byte ∷ []
    → new ≡ before ++ concat (bit_fields (i + 1) (map is_null row))
nulls_written row i byte before old new byte_is written now =
    let bits : map is_null (take 8 (drop (8 * i) row)) ≡ take 8 (drop (8 * i) (map is_null row)) =
    sym (take-map is_null 8 (drop (8 * i) row)) ∙ ap (take 8) (sym (drop-map is_null (8 * i) row)) in
    now ∙ (λ j. written j ++ (byte_is ∙ ap bits_number bits) j ∷ [])
    ∙ append_assoc before (concat (bit_fields i (map is_null row))) (bits_number (take 8 (drop (8 * i) (map is_null row))) ∷ [])
    ∙ ap (λ (bs : List ℕ). before ++ bs) (sym (bit_fields-more i (map is_null row)))
    ∙ ap (λ (m : ℕ). before ++ concat (bit_fields m (map is_null row))) (sym (add-one i))

pub no_nulls_written : (bits : List Bool) (before : List ℕ) → before ≡ before ++ concat (bit_fields 0 bits)
unfolding bit_fields
no_nulls_written bits before = sym (append-nil before)

-- what stands in a column of a row that fits
pub fits_at : (columns : List Column) (row : List Value) (i : ℕ) (column : Column) (v : Value) → FitsColumns columns row → i < length columns → column ≡ get_or columns i column → v ≡ get_or row i v → MayStand column v
fits_at [] row i column v h lt is v_is = absurd (omega arith)
fits_at (c ∷ columns) [] i column v h lt is v_is = absurd h
fits_at (c ∷ columns) (w ∷ row) zero column v h lt is v_is = let here : MayStand column w = subst (λ (d : Column). MayStand d w) (sym is) h.0 in subst (MayStand column) (sym v_is) here
fits_at (c ∷ columns) (w ∷ row) (suc i) column v h lt is v_is = fits_at columns row i column v h.1 (omega arith) is v_is

more_in_range : (row : List Value) (v : Value) → AllByRecursion InRange row → InRange v → AllByRecursion InRange (row ++ v ∷ [])
more_in_range [] v h range = (range, tt)
more_in_range (w ∷ row) v h range = (h.0, more_in_range row v h.1 range)

pub value_written : (row : List Value) (i : ℕ) (v : Value) (before old new : List ℕ) → i < length row → v ≡ get_or row i v →
    old ≡ before ++ concat (flat_map value_field (take i row)) → AllByRecursion InRange (take i row) → new ≡ old ++ concat (value_field v) → InRange v
    → (new ≡ before ++ concat (flat_map value_field (take (i + 1) row))) × AllByRecursion InRange (take (i + 1) row)
value_written row i v before old new lt_row v_is written so_far now range =
    let longer : take (i + 1) row ≡ take i row ++ v ∷ [] = take_more row i v lt_row ∙ ap (λ (x : Value). take i row ++ x ∷ []) (sym v_is) in
    let fields : flat_map value_field (take (i + 1) row) ≡ flat_map value_field (take i row) ++ value_field v =
    ap (flat_map value_field) longer ∙ flat_map-append value_field (take i row) (v ∷ []) ∙ ap (λ (fs : List (List ℕ)). flat_map value_field (take i row) ++ fs) (append-nil (value_field v)) in (
      now ∙ ap (λ (bs : List ℕ). bs ++ concat (value_field v)) written ∙ append_assoc before (concat (flat_map value_field (take i row))) (concat (value_field v))
          ∙ ap (λ (bs : List ℕ). before ++ bs) (sym (concat-append (flat_map value_field (take i row)) (value_field v)) ∙ ap concat (sym fields)),
      subst (AllByRecursion InRange) (sym longer) (more_in_range (take i row) v so_far range),
    )
