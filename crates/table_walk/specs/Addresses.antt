-- The addresses that slots hold: which page one names, and which names none.
use Rattle.std.specs.Prelude.{Bool, ◌<◌, ◌≡◌, ◌==◌, ◌&&◌, Option, None, Some, if◌then◌else◌, ℕ, List, length, slice_index, drop}
use Rattle.page_base.specs.declared.numbers.PageId.{PageId}
use Rattle.byte_fields.specs.Numbers.{number_in}
-- the bytes of an address are those of the field, wherever one stands
pub use Rattle.byte_fields.specs.Fields.{address}

-- the number in the last four of five bytes
abbrev pub page_number : List ℕ → ℕ
page_number x = number_in 4 (drop 1 x)

-- page 0 of file 0 is never named
abbrev pub target : ℕ → ℕ → Option PageId
target file page = if file == 0 && page == 0 then None else Some (record { file = file; page = page })

-- the page that these bytes name, if they are an address
abbrev pub page_at : List ℕ → Option PageId
page_at x = if length x == 5 then target (slice_index x 0) (page_number x) else None

-- five zeros name none
abbrev pub names_none : List ℕ → Bool
names_none x = length x == 5 && slice_index x 0 == 0 && page_number x == 0

-- this page may be named: it isn't page 0 of file 0, and its number has 32 bits
pub record IsTarget (p : PageId) : Type 0 where
  pub real : ¬ ((p.file ≡ 0) × (p.page ≡ 0))
  pub small : p.page < 4294967296
