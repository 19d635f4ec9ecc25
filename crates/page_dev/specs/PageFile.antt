-- The pages of one file, and what a write of a page leaves.
use Rattle.std.specs.Prelude.{◌≡◌, ℕ, zero, suc, List, [], ◌∷◌, take, drop, replicate, length, All, slice_set, slice_index_or, Result, OnOk}
use Rattle.page_base.specs.Pages.{blank}

-- the pages' bytes; a page that was never written is zeros
abbrev pub FilePages : Type 0
FilePages = List (List ℕ)

-- each page has 8,192 bytes
abbrev pub AreImages : FilePages → Type 0
AreImages pages = All (λ page. length page ≡ 8192) pages

-- the bytes of page n
abbrev pub file_page : FilePages → ℕ → List ℕ
file_page pages n = slice_index_or pages n blank

-- so many pages that were never written
abbrev pub new_pages : ℕ → FilePages
new_pages n = replicate n blank

-- so many pages from the front of some bytes
abbrev pub pages_of : ℕ → List ℕ → FilePages
pages_of zero bytes = []
pages_of (suc n) bytes = take 8192 bytes ∷ pages_of n (drop 8192 bytes)

-- page n was written: it has the bytes, or any where the write failed, and no other page changed
pub record WritesPage {T E : Type 0} (n : ℕ) (bytes : List ℕ) (old new : FilePages) (result : Result T E) : Type 0 where
  pub left : List ℕ
  pub is : new ≡ slice_set old n left
  pub ok : OnOk result (left ≡ bytes)
