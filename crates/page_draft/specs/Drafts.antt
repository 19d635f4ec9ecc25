-- Drafted pages: what their slots are to hold, and the edits that make them of what was read.
use Rattle.std.specs.Prelude.{Bool, true, false, not, nat_le, nat_lt, ◌==◌, ◌&&◌, if◌then◌else◌, Option, None, Some, ℕ, zero, suc, ◌+◌, ◌-◌, List, [], ◌∷◌, ◌++◌, length, map, slice_index_or}
use Rattle.std.specs.Str.{bytes_eq}
use Rattle.page_base.specs.declared.numbers.PageId.{PageId}
use Rattle.page_fmt.specs.Seen.{Looked, look}
use Rattle.table_walk.specs.declared.plan.Edit.{Edit}
use Rattle.table_walk.specs.declared.plan.Spot.{Spot}
use Rattle.table_walk.specs.declared.plan.Spot.TheVariants.{Old, New}
use Rattle.table_walk.specs.Plans.{named}
use Rattle.page_draft.specs.declared.page.Cell.{Cell}

-- a page, whether it holds rows, and what its slots are to hold
pub record Drafted : Type 0 where
  pub spot : Spot
  pub rows : Bool
  pub cells : List Cell

-- how many bytes a slot takes beside those of its cell: two, and those of an address
abbrev pub extra : Option ℕ → ℕ
extra None = 2
extra (Some i) = 7

-- whether a cell fits into so much room
abbrev pub is_within : Cell → ℕ → Bool
is_within c left = nat_le (extra c.names) left && nat_le (length c.bytes) (left - extra c.names)

-- whether all cells do, one after the other
abbrev pub fits_in : ℕ → List Cell → Bool
fits_in left [] = true
fits_in left (c ∷ cs) = if is_within c left then fits_in (left - extra c.names - length c.bytes) cs else false

-- whether a slot isn't empty
abbrev pub fills : Option ℕ → List ℕ → Bool
fills None bytes = not (length bytes == 0)
fills (Some i) bytes = true

abbrev pub is_full : Cell → Bool
is_full c = fills c.names c.bytes

-- whether the last one isn't, where there is one
abbrev pub ends_full : List Cell → Bool
ends_full [] = true
ends_full (c ∷ []) = is_full c
ends_full (c ∷ d ∷ cs) = ends_full (d ∷ cs)

-- the bytes of a slot, once pages are claimed
abbrev pub cell_of : (ℕ → PageId) → Cell → List ℕ
cell_of claimed c = named claimed c.names ++ c.bytes

abbrev pub slots_of : (ℕ → PageId) → List Cell → List (List ℕ)
slots_of claimed cells = map (cell_of claimed) cells

-- the cell of a slot, an empty one past the last
abbrev pub empty : Cell
empty = record { names = None; bytes = [] }

abbrev pub cell_at : List Cell → ℕ → Cell
cell_at cells i = slice_index_or cells i empty

-- what was read of a page; a page that will be claimed is blank
abbrev pub old_of : List Looked → Spot → List (List ℕ)
old_of seen (Old p) = look seen p
old_of seen (New i) = []

-- whether a slot changes, and grows or doesn't; one that names a claimed page always does
abbrev pub turns : Bool → Bool → Bool
turns grows longer = if longer then grows else not grows

abbrev pub is_due : Bool → List ℕ → Option ℕ → List ℕ → Bool
is_due grows x None bytes = if bytes_eq x bytes then false else turns grows (nat_lt (length x) (length bytes))
is_due grows x (Some i) bytes = turns grows (nat_lt (length x) (5 + length bytes))

-- the edit of a slot
abbrev pub edit_of : Drafted → ℕ → Edit
edit_of d i = record { spot = d.spot; slot = i; names = (cell_at d.cells i).names; bytes = (cell_at d.cells i).bytes; of_row = d.rows }

-- those of n slots, the first of this place, that change so
abbrev pub dues : Bool → Drafted → List (List ℕ) → ℕ → ℕ → List Edit
dues grows d old i zero = []
dues grows d old i (suc n) =
    if is_due grows (slice_index_or old i []) (cell_at d.cells i).names (cell_at d.cells i).bytes then edit_of d i ∷ dues grows d old (i + 1) n else dues grows d old (i + 1) n

-- those of a page, those that don't grow first
abbrev pub page_edits : Drafted → List (List ℕ) → List Edit
page_edits d old = dues false d old 0 (length old + length d.cells) ++ dues true d old 0 (length old + length d.cells)

-- those of pages, page by page
abbrev pub edits_in : List Looked → List Drafted → List Edit
edits_in seen [] = []
edits_in seen (d ∷ ds) = page_edits d (old_of seen d.spot) ++ edits_in seen ds
