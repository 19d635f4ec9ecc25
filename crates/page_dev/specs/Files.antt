-- A list of page files, seen as one store of pages.
use Rattle.std.specs.Prelude.{◌≡◌, ℕ, ◌+◌, Bool, true, ◌&&◌, List, [], ◌∷◌, map, slice_index, slice_set, Result, OnOk}
use Rattle.page_base.specs.Pages.{Pages, with_page, image_at}
use Rattle.page_base.specs.declared.numbers.PageId.{PageId}

-- what the files show: whether all tell, and for each file its pages, how many there are, its count of faults, and how
-- many reads and writes it was asked for
pub record Files : Type 0 where
  pub tells : Bool
  pub content : Pages (List ℕ)
  pub counts : List ℕ
  pub failures : List ℕ
  pub calls : List ℕ

-- whether all are true
abbrev pub all_true : List Bool → Bool
all_true [] = true
all_true (b ∷ bs) = b && all_true bs

-- what these files show
abbrev pub files_of : {F : Type 0} → (F → Bool) → (F → List (List ℕ)) → (F → ℕ) → (F → ℕ) → (F → ℕ) → List F → Files
files_of tells content count failures calls files = record { tells = all_true (map tells files); content = map content files; counts = map count files; failures = map failures files; calls = map calls files }

-- one call more on this file, and none on the others
abbrev pub called : List ℕ → ℕ → List ℕ
called calls file = slice_set calls file (slice_index calls file + 1)

-- page p was written: it has the bytes, or any where the write failed, and no other page changed
pub record Writes {T E : Type 0} (p : PageId) (bytes : List ℕ) (old new : Pages (List ℕ)) (result : Result T E) : Type 0 where
  pub left : List ℕ
  pub is : new ≡ with_page old p left
  pub here : image_at new p ≡ left
  pub ok : OnOk result (left ≡ bytes)
