-- What callers join: the effects of calls one after the other, and that pushes go upward.
use Rattle.std.proofs.Common.{◌≡◌, ◌≢◌, ◌<◌, inl, inr, true, List, ◌∙◌, sym, arith, subst, refl}
use Rattle.std.proofs.lemmas.Bool.{cases_eq, cases_lt}
use Rattle.page_base.specs.declared.numbers.PageId.{PageId}
use Rattle.page_base.specs.declared.numbers.SnapNo.{SnapNo}
use Rattle.sparse_set.specs.Sparse.{Sparse, is_copied}
use Rattle.snap_cat.specs.Catalog.{Catalog, snap_at}
use Rattle.snap_cat.specs.declared.snapshot.SnapState.TheVariants.{Suspect}
use Rattle.snap_pages.specs.Shown.{Shown, set_of}
use Rattle.snap_pages.specs.Views.{KeepsViews}
use Rattle.snap_pages.specs.Dues.{IsDue, IsPushed, IsFirstDue, NoneNewDue}
use Rattle.snap_pages.specs.Steps.{SameSnaps}

-- views that two calls keep, one after the other
pub keeps_on : (a b c : Shown) → KeepsViews a b → KeepsViews b c → KeepsViews a c
keeps_on a b c first then = record { each = λ s kept. let h = then.each s kept in let g = first.each s h.0 in (g.0, h.1 ∙ g.1) }

pub keeps_none : (a : Shown) → KeepsViews a a
keeps_none a = record { each = λ s kept. (kept, refl) }

pub dues_on : (a b c : Shown) (p : PageId) → NoneNewDue a b p → NoneNewDue b c p → NoneNewDue a c p
dues_on a b c p first then = record { each = λ s due. first.each s (then.each s due) }

-- after a push the next one goes to a later snapshot
pub next_is_later : (a b : Shown) (p : PageId) (s t : SnapNo) → IsFirstDue a p s → NoneNewDue a b p → ¬ IsDue b p s → IsFirstDue b p t → s.0 < t.0
next_is_later a b p s t first none done next =
    let due : IsDue a p t = none.each t next.due in
    elim (cases_lt s.0 t.0) [
      | inl lt ↦ lt
      | inr ge ↦ elim (cases_eq t.0 s.0) [
        | inl e ↦ absurd (done (subst (λ (k : SnapNo). IsDue b p k) (λ i. record { 0 = e i }) next.due))
        | inr ne ↦ absurd (first.first t (omega arith) due)
      ]
    ]

-- a page that no snapshot lacks is none that one lacks later, where the snapshots stay
pub pushed_on : (a b : Shown) (p : PageId) → SameSnaps a b → IsPushed a p → IsPushed b p
pushed_on a b p same pushed s sound =
    subst (λ (x : List Sparse). is_copied (set_of (record a { sets = x }) s) p ≡ true) (sym same.sets)
    (pushed s (subst (λ (c : Catalog). (snap_at c s).state ≢ Suspect) same.cat sound))
