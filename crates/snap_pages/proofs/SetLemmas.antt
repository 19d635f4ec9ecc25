-- One snapshot's sparse files in their place among all.
use Rattle.std.proofs.Common.{get_or-set_same, get_or-set_other, ◌≡◌, ◌<◌, ℕ, inl, inr, IsTrue, List, length, true, false, get_or, refl, ap, sym, ◌∙◌, subst, Result, arith}
use Rattle.std.specs.Prelude.{OnOk}
use Rattle.std.proofs.lemmas.Bool.{false≢true}
use Rattle.std.proofs.lemmas.List.{get_or_default}
use Rattle.std.proofs.lemmas.Result.{on_ok_weaker}
use Rattle.page_base.specs.declared.numbers.PageId.{PageId}
use Rattle.page_base.specs.declared.numbers.SnapNo.{SnapNo}
use Rattle.page_base.proofs.PagesLemmas.{cases_page, page_or-with_page_other}
use Rattle.sparse_set.specs.Sparse.{Sparse, no_set, is_copied, sparse_page, marked, Copies, Reads}
use Rattle.snap_pages.specs.Shown.{Shown, IsOpen, IsWhole, img, set_of, with_set}
use Rattle.snap_pages.specs.Views.{view, IsKept, KeepsViews, WritesView}
use Rattle.snap_pages.specs.Dues.{NoneNewDue}
use Rattle.snap_pages.specs.Steps.{ChangesSet}
use Rattle.snap_pages.proofs.SeenLemmas.{seen_copied}
use Rattle.snap_pages.proofs.ViewLemmas.{copy_keeps, read_keeps, mark_keeps, write_views}
use Rattle.snap_pages.proofs.DueLemmas.{none_new}

module _ (v : Shown) (s : SnapNo) (whole : IsWhole v) (there : IsOpen v s) where
  has_set : s.0 < length v.sets
  has_set = let many = whole.many in omega arith

  pub set_here : (new : Sparse) → set_of (with_set v s new) s ≡ new
  set_here new = get_or-set_same v.sets s.0 new no_set has_set

  pub changes_set : (new : Sparse) → ChangesSet s v (with_set v s new)
  changes_set new = record {
    is = ap (with_set v s) (sym (set_here new));
    others = λ k ne. get_or-set_other v.sets s.0 k.0 new no_set (λ e. ne (λ i. record { 0 = e i }));
    pool = refl;
    cat = refl;
  }

  -- x are the snapshot's sparse files
  module _ (x : Sparse) (at : x ≡ get_or v.sets s.0 x) where
    pub the_set : x ≡ set_of v s
    the_set = at ∙ get_or_default v.sets s.0 x no_set has_set

    copies_them : {T E : Type 0} (p : PageId) (bytes : List ℕ) (new : Sparse) (result : Result T E) → Copies p bytes x new result → Copies p bytes (set_of v s) (set_of (with_set v s new) s) result
    copies_them p bytes new result c =
        subst (λ y. Copies p bytes y (set_of (with_set v s new) s) result) the_set (subst (λ y. Copies p bytes x y result) (sym (set_here new)) c)

    pub set_copied : {T E : Type 0} (p : PageId) (bytes : List ℕ) (new : Sparse) (result : Result T E) → is_copied (set_of v s) p ≡ false → Copies p bytes x new result → KeepsViews v (with_set v s new)
    set_copied p bytes new result lacks c = copy_keeps v (with_set v s new) s (changes_set new) p bytes result lacks (copies_them p bytes new result c)

    pub set_written : {T E : Type 0} (p : PageId) (bytes : List ℕ) (new : Sparse) (result : Result T E) → is_copied (set_of v s) p ≡ true → Copies p bytes x new result → WritesView s p bytes v (with_set v s new) result
    set_written p bytes new result named c = write_views v (with_set v s new) s (changes_set new) p bytes result named (copies_them p bytes new result c)

    pub set_read : {T E : Type 0} (p : PageId) (into : List ℕ) (new : Sparse) (result : Result T E) → Reads p into x new result → KeepsViews v (with_set v s new)
    set_read p into new result r =
        read_keeps v (with_set v s new) s (changes_set new) p into result
        (subst (λ y. Reads p into y (set_of (with_set v s new) s) result) the_set (subst (λ y. Reads p into x y result) (sym (set_here new)) r))

    -- what was read is what readers see
    pub read_is_seen : {T E : Type 0} (p : PageId) (into : List ℕ) (new : Sparse) (result : Result T E) → is_copied (set_of v s) p ≡ true → Reads p into x new result → IsTrue (set_of v s).files.tells → OnOk result (into ≡ view v s p)
    read_is_seen p into new result named r told =
        on_ok_weaker result (λ is. is ∙ ap (λ y. sparse_page y p) the_set ∙ seen_copied (img v) (set_of v s) p named) (r.read (ap (λ (y : Sparse). y.files.tells) the_set ∙ told))

    pub set_marked : (p : PageId) (new : Sparse) → new ≡ marked x p → is_copied (marked x p) p ≡ true → (IsKept v s → sparse_page (set_of v s) p ≡ img v p) → KeepsViews v (with_set v s new)
    set_marked p new is now copied =
        mark_keeps v (with_set v s new) s (changes_set new) p
        (set_here new ∙ is ∙ ap (λ y. marked y p) the_set) (subst (λ y. is_copied (marked y p) p ≡ true) the_set now) copied

    pub mark_dues : (p : PageId) (new : Sparse) → new ≡ marked x p → is_copied (marked x p) p ≡ true → (q : PageId) → NoneNewDue v (with_set v s new) q
    mark_dues p new is now q =
        none_new v (with_set v s new) s q (changes_set new)
        (λ lacks. elim (cases_page q p) [
          | inl e ↦ absurd (false≢true (sym lacks ∙ ap (λ y. is_copied y q) (set_here new ∙ is) ∙ ap (is_copied (marked x p)) e ∙ now))
          | inr ne ↦ sym (ap (λ y. is_copied y q) (set_here new ∙ is ∙ ap (λ y. marked y p) the_set) ∙ page_or-with_page_other (set_of v s).map p q true false ne) ∙ lacks
        ])
