-- Maps of several files: pages that are there, and maps without a page.
use Rattle.std.proofs.Common.{◌≡◌, ℕ, ◌*◌, ◌/◌, Bool, true, false, slice_set, ◌<◌, ◌+◌, ◌∷◌, zero, suc, List, [], length, get_or, refl, ap, sym, ◌∙◌, subst, arith}
use Rattle.std.proofs.lemmas.List.{length-replicate, get_or_default}
use Rattle.std.proofs.Math.ListN.{get_or-map}
use Rattle.page_base.specs.declared.numbers.PageId.{PageId}
use Rattle.page_base.specs.Pages.{Pages, HasPage, page_or, with_page, shape, filled}
use Rattle.page_base.proofs.PagesLemmas.{file_there}
use Rattle.sparse_set.specs.Groups.{groups_in, marked_in}
use Rattle.sparse_set.proofs.WordLemmas.{same_at}
use Rattle.sparse_set.specs.Sparse.{Sparse, HasSparse, is_copied, size_on_disk}

-- a page within its file's count has a place in the map
pub has_place : (set : Sparse) (p : PageId) → set.files.counts ≡ shape set.map → HasSparse set p → HasPage set.map p
has_place set p same h = subst (λ n. p.page < n) (ap (λ ns. get_or ns p.file 0) same ∙ get_or-map length set.map p.file []) h

file_of_filled : {X : Type 0} (counts : List ℕ) (file page : ℕ) (x : X) → get_or (get_or (filled counts x) file []) page x ≡ x
file_of_filled [] file page x = refl
file_of_filled (n ∷ ns) zero page x = same_at n page x
file_of_filled (n ∷ ns) (suc file) page x = file_of_filled ns file page x

-- every page of these files is the same
pub page_or-filled : {X : Type 0} (counts : List ℕ) (p : PageId) (x : X) → page_or (filled counts x) p x ≡ x
unfolding page_or
page_or-filled counts p x = file_of_filled counts p.file p.page x

pub shape-filled : {X : Type 0} (counts : List ℕ) (x : X) → shape (filled counts x) ≡ counts
shape-filled [] x = refl
shape-filled (n ∷ ns) x = λ i. length-replicate n x i ∷ shape-filled ns x i

-- a file's marks tell of its pages
pub copied_are : (set : Sparse) (file : ℕ) (marks : List Bool) → get_or set.map file [] ≡ marks → marked_in marks ≡ (λ page. is_copied set (record { file = file; page = page }))
unfolding page_or marked_in
copied_are set file marks e = λ i page. get_or (sym e i) page false

-- the groups of a file's marks give its size
pub size_is : (set : Sparse) (file n : ℕ) (marks : List Bool) → set.files.counts ≡ shape set.map → get_or set.map file [] ≡ marks → n ≡ groups_in (marked_in marks) ((length marks + 7) / 8) → n * 65536 ≡ size_on_disk set file
size_is set file n marks h e is =
    let count : length marks ≡ get_or set.files.counts file 0 = sym (ap (λ ns. get_or ns file 0) h ∙ get_or-map length set.map file [] ∙ ap length e) in
    let same : n ≡ groups_in (λ page. is_copied set (record { file = file; page = page })) ((get_or set.files.counts file 0 + 7) / 8) =
    is ∙ ap (λ k. groups_in (marked_in marks) ((k + 7) / 8)) count ∙ ap (λ f. groups_in f ((get_or set.files.counts file 0 + 7) / 8)) (copied_are set file marks e) in
    omega (arith, same)

-- a mark in one file's list is a mark of its page
pub row_marked : (maps : Pages Bool) (p : PageId) (row new : List Bool) → HasPage maps p → row ≡ get_or maps p.file row → new ≡ slice_set row p.page true → slice_set maps p.file new ≡ with_page maps p true
unfolding with_page
row_marked maps p row new there at is =
    ap (slice_set maps p.file) (is ∙ ap (λ r. slice_set r p.page true) (at ∙ get_or_default maps p.file row [] (file_there maps p there)))
