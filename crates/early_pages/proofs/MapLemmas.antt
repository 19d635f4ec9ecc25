-- Pages that are there, pages that are all alike, and pages that no file has.
use Rattle.std.proofs.Common.{◌≡◌, ℕ, ◌<◌, ◌≤◌, inl, inr, zero, suc, List, [], ◌∷◌, length, replicate, get_or, refl, sym, subst}
use Rattle.std.proofs.lemmas.Bool.{cases_lt}
use Rattle.std.proofs.lemmas.List.{get_or_past, get_or-replicate, length-replicate}
use Rattle.std.proofs.Math.ListN.{get_or-map}
use Rattle.page_base.specs.declared.numbers.PageId.{PageId}
use Rattle.page_base.specs.Pages.{Pages, HasPage, page_or, shape, filled}

-- a page within the count of its file is there
pub has_page : {X : Type 0} (pages : Pages X) (p : PageId) → p.page < get_or (shape pages) p.file 0 → HasPage pages p
has_page pages p h = subst (λ n. p.page < n) (get_or-map length pages p.file []) h

-- a page that isn't there
pub page_past : {X : Type 0} (pages : Pages X) (p : PageId) (d : X) → ¬ HasPage pages p → page_or pages p d ≡ d
unfolding page_or
page_past pages p d no_page =
    elim (cases_lt p.page (length (get_or pages p.file []))) [
      | inl lt ↦ absurd (no_page lt)
      | inr past ↦ get_or_past (get_or pages p.file []) p.page d past
    ]

same_in_file : {X : Type 0} (n i : ℕ) (x : X) → get_or (replicate n x) i x ≡ x
same_in_file n i x =
    elim (cases_lt i n) [
      | inl lt ↦ get_or-replicate n i x x lt
      | inr past ↦ get_or_past (replicate n x) i x (subst (λ k. k ≤ i) (sym (length-replicate n x)) past)
    ]

file_of_filled : {X : Type 0} (counts : List ℕ) (file page : ℕ) (x : X) → get_or (get_or (filled counts x) file []) page x ≡ x
file_of_filled [] file page x = refl
file_of_filled (n ∷ ns) zero page x = same_in_file n page x
file_of_filled (n ∷ ns) (suc file) page x = file_of_filled ns file page x

-- every page of these files is the same
pub page_or-filled : {X : Type 0} (counts : List ℕ) (p : PageId) (x : X) → page_or (filled counts x) p x ≡ x
unfolding page_or
page_or-filled counts p x = file_of_filled counts p.file p.page x

pub shape-filled : {X : Type 0} (counts : List ℕ) (x : X) → shape (filled counts x) ≡ counts
shape-filled [] x = refl
shape-filled (n ∷ ns) x = λ i. length-replicate n x i ∷ shape-filled ns x i
