-- What is read as a row is the one row that the bytes spell.
use Rattle.std.proofs.Common.{◌≡◌, ◌≢◌, ℕ, ◌+◌, ◌<◌, ◌≤◌, List, [], ◌∷◌, length, get_or, refl, ap, sym, ◌∙◌, subst, arith}
use Rattle.std.specs.Prelude.{Option, Some, None, Ok, Err, Result}
use Rattle.std.proofs.lemmas.Option.{same_Some, none-some}
use Rattle.page_base.specs.declared.column.Column.{Column}
use Rattle.page_base.specs.declared.value.Value.{Value}
use Rattle.page_base.specs.Reading.{Read}
use Rattle.page_fmt.specs.Content.{content, IsPage}
use Rattle.page_fmt.specs.Edits.{slot_at}
use Rattle.page_fmt.proofs.SlotLemmas.{row_bytes-slot}
use Rattle.row_fmt.specs.declared.refusal.RowRefusal.{RowRefusal}
use Rattle.row_fmt.specs.Rows.{IsRow, FitsColumns, null_bytes, row_bytes}
use Rattle.row_fmt.specs.Reading.{row_at}
use Rattle.row_fmt.proofs.RowLemmas.{row_again, row_was_read, length-fits}
use Rattle.row_fmt.proofs.SizeLemmas.{row_size}
use Rattle.table_pages.specs.Headers.{whole}
use Rattle.table_pages.specs.Rows.{row_of}

-- what spells a row is read as it
pub row_is_read : (cols : List Column) (bytes : List ℕ) (row : List Value) → IsRow cols bytes row → row_of cols bytes ≡ Some row
unfolding row_of
row_is_read cols bytes row r = ap whole (row_again cols bytes row r)

-- what was read as a row is spelled so
pub row_is_spelled : (cols : List Column) (bytes : List ℕ) (row : List Value) → ((i : ℕ) → get_or bytes i 0 < 256) → row_of cols bytes ≡ Some row → IsRow cols bytes row
unfolding row_of
row_is_spelled cols bytes row small e = by (row_at cols bytes) refl e
  where
    by : (read : Read (List Value)) → row_at cols bytes ≡ read → whole read ≡ Some row → IsRow cols bytes row
    by (Ok (x, [])) is e = subst (IsRow cols bytes) (same_Some x row e) (row_was_read cols bytes small x [] is refl)
    by (Ok (x, b ∷ rest)) is e = absurd (none-some row e)
    by (Err rest) is e = absurd (none-some row e)

-- the bytes of a row that some columns may hold are not none
pub row_full : (cols : List Column) (row : List Value) → FitsColumns cols row → 0 < length cols → row_bytes row ≢ []
row_full cols row fits some none =
    let size = row_size row in
    let long = length-fits cols row fits in
    let zero : length (row_bytes row) ≡ 0 = ap length none in
    let pos : 0 < null_bytes (length row) = omega arith in
    absurd (omega arith)

-- a slot is no longer than its page
pub slot_short : (image : List ℕ) (i : ℕ) → IsPage image → length (slot_at (content image) i) < 4294967295
slot_short image i page = let small = page.fits.small in let sum = row_bytes-slot (content image) i in omega arith
