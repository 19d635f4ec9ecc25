-- What stands at each page of some files: a list for each file, with a value for each of its pages.
use Rattle.std.specs.Prelude.{Bool, ◌==◌, ◌&&◌, if◌then◌else◌, ℕ, ◌<◌, List, [], map, length, slice_index_or, slice_set, replicate}
use Rattle.page_base.specs.declared.numbers.PageId.{PageId}

abbrev pub Pages : Type 0 → Type 0
Pages X = List (List X)

-- the file has this page
abbrev pub HasPage : {X : Type 0} → Pages X → PageId → Type 0
HasPage pages p = p.page < length (slice_index_or pages p.file [])

-- a page of 8,192 zeros
unfoldable pub blank : List ℕ
blank = replicate 8192 0

-- what stands at a page, or d
unfoldable pub page_or : {X : Type 0} → Pages X → PageId → X → X
page_or pages p d = slice_index_or (slice_index_or pages p.file []) p.page d

unfoldable pub with_page : {X : Type 0} → Pages X → PageId → X → Pages X
with_page pages p x = slice_set pages p.file (slice_set (slice_index_or pages p.file []) p.page x)

-- the bytes of a page
abbrev pub image_at : Pages (List ℕ) → PageId → List ℕ
image_at pages p = page_or pages p blank

-- how many pages each file has
abbrev pub shape : {X : Type 0} → Pages X → List ℕ
shape pages = map length pages

-- the same value at each page of files of so many pages
abbrev pub filled : {X : Type 0} → List ℕ → X → Pages X
filled counts x = map (λ n. replicate n x) counts

abbrev pub is_page : PageId → PageId → Bool
is_page p q = p.file == q.file && p.page == q.page

-- the same images but for one page
abbrev pub set_at : {X : Type 0} → (PageId → X) → PageId → X → PageId → X
set_at images p x q = if is_page p q then x else images q
