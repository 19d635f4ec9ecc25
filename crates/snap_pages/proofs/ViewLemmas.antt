-- What keeps the views of snapshots.
use Rattle.std.proofs.Common.{◌≡◌, ◌≢◌, inl, inr, IsTrue, List, ℕ, ap, sym, ◌∙◌, subst, true, false, Result}
use Rattle.std.proofs.lemmas.Bool.{cases_eq}
use Rattle.std.proofs.lemmas.Result.{on_ok_weaker}
use Rattle.page_base.specs.declared.numbers.PageId.{PageId}
use Rattle.page_base.specs.declared.numbers.SnapNo.{SnapNo}
use Rattle.page_base.specs.Pages.{set_at}
use Rattle.buf_pool.specs.Pool.{Pooled, img as pool_img}
use Rattle.sparse_set.specs.Sparse.{Sparse, is_copied, sparse_page, marked, Copies, Reads}
use Rattle.snap_cat.specs.Catalog.{Catalog, snap_at}
use Rattle.snap_cat.specs.declared.snapshot.SnapState.TheVariants.{Suspect}
use Rattle.snap_pages.specs.Shown.{Shown, img, set_of, state_of}
use Rattle.snap_pages.specs.Views.{seen, view, IsKept, KeepsViews, WritesView}
use Rattle.snap_pages.specs.Dues.{IsPushed}
use Rattle.snap_pages.specs.Steps.{SameSnaps, ChangesSet}
use Rattle.snap_pages.proofs.SeenLemmas.{copied_alike, written_alike, written_set, marked_alike, read_alike, changed_alike}

-- ONLY THE SOURCE'S PAGES CHANGE

-- a snapshot that is kept was kept
kept_before : (old new : Shown) (s : SnapNo) → SameSnaps old new → new.pool.files.tells ≡ old.pool.files.tells → IsKept new s → IsKept old s
kept_before old new s same tells kept = record {
  sound = subst (λ (c : Catalog). (snap_at c s).state ≢ Suspect) same.cat kept.sound;
  tells = subst (λ (x : List Sparse). IsTrue (set_of (record old { sets = x }) s).files.tells) same.sets kept.tells;
  source = sym tells ∙ kept.source;
}

-- every page shows what it showed, where the source tells
pub same_images : (old new : Shown) → SameSnaps old new → new.pool.files.tells ≡ old.pool.files.tells → (IsTrue old.pool.files.tells → img new ≡ img old) → KeepsViews old new
same_images old new same tells images = record {
  each = λ s kept.
      let before : IsKept old s = kept_before old new s same tells kept in
      (before, λ i. seen (images before.source i) (set_of (record old { sets = same.sets i }) s));
}

-- a page that every snapshot has shows something else
pub keeps_image : (old new : Shown) (p : PageId) (image : List ℕ) → IsPushed old p → img new ≡ set_at (img old) p image → SameSnaps old new → new.pool.files.tells ≡ old.pool.files.tells → KeepsViews old new
keeps_image old new p image pushed images same tells = record {
  each = λ s kept.
      let before : IsKept old s = kept_before old new s same tells kept in (
        before,
        (λ i. seen (images i) (set_of (record old { sets = same.sets i }) s)) ∙ (λ i q. changed_alike (img old) (set_of old s) p image (pushed s before.sound) q i),
      );
}

-- ONE SNAPSHOT'S SPARSE FILES CHANGE

module _ (old new : Shown) (s : SnapNo) (only : ChangesSet s old new) where
  sound_before : (k : SnapNo) → state_of new k ≢ Suspect → state_of old k ≢ Suspect
  sound_before k sound = subst (λ (c : Catalog). (snap_at c k).state ≢ Suspect) only.cat sound

  source_before : IsTrue new.pool.files.tells → IsTrue old.pool.files.tells
  source_before told = subst (λ (x : Pooled). IsTrue x.files.tells) only.pool told

  -- the others stay
  pub others_keep : (k : SnapNo) → k ≢ s → IsKept new k → IsKept old k × (view new k ≡ view old k)
  others_keep k ne kept = (
    record { sound = sound_before k kept.sound; tells = subst (λ (x : Sparse). IsTrue x.files.tells) (only.others k ne) kept.tells; source = source_before kept.source },
    λ i. seen (pool_img (only.pool i)) (only.others k ne i),
  )

  pub its_before : (set_of new s).files.tells ≡ (set_of old s).files.tells → IsKept new s → IsKept old s
  its_before tells kept = record { sound = sound_before s kept.sound; tells = sym tells ∙ kept.tells; source = source_before kept.source }

  -- and its own shows the same where it tells
  pub keeps_set : (set_of new s).files.tells ≡ (set_of old s).files.tells → (IsKept old s → (q : PageId) → seen (img old) (set_of new s) q ≡ seen (img old) (set_of old s) q) → KeepsViews old new
  keeps_set tells same = record {
    each = λ k kept. elim (cases_eq k.0 s.0) [
      | inl e ↦
          let is : s ≡ k = λ i. record { 0 = sym e i } in
          subst (λ (j : SnapNo). IsKept new j → IsKept old j × (view new j ≡ view old j)) is
          (λ mine. let before : IsKept old s = its_before tells mine in (before, (λ i. seen (pool_img (only.pool i)) (set_of new s)) ∙ (λ i q. same before q i))) kept
      | inr ne ↦ others_keep k (λ same. ne (ap (λ (j : SnapNo). j.0) same)) kept
    ];
  }

  pub copy_keeps : {T E : Type 0} (p : PageId) (bytes : List ℕ) (result : Result T E) → is_copied (set_of old s) p ≡ false → Copies p bytes (set_of old s) (set_of new s) result → KeepsViews old new
  copy_keeps p bytes result lacks c =
      keeps_set c.uses.tells (λ kept. let w = c.written kept.tells in copied_alike (img old) (set_of old s) (set_of new s) p w.left lacks c.uses.map w.is)

  pub read_keeps : {T E : Type 0} (p : PageId) (into : List ℕ) (result : Result T E) → Reads p into (set_of old s) (set_of new s) result → KeepsViews old new
  read_keeps p into result r =
      keeps_set r.uses.tells (λ kept. read_alike (img old) (set_of old s) (set_of new s) r.uses.map (r.content kept.tells))

  pub mark_keeps : (p : PageId) → set_of new s ≡ marked (set_of old s) p → is_copied (marked (set_of old s) p) p ≡ true → (IsKept old s → sparse_page (set_of old s) p ≡ img old p) → KeepsViews old new
  mark_keeps p is now copied =
      keeps_set (ap (λ (x : Sparse). x.files.tells) is)
      (λ kept q. ap (λ (x : Sparse). seen (img old) x q) is ∙ marked_alike (img old) (set_of old s) p now (copied kept) q)

  pub write_views : {T E : Type 0} (p : PageId) (bytes : List ℕ) (result : Result T E) → is_copied (set_of old s) p ≡ true → Copies p bytes (set_of old s) (set_of new s) result → WritesView s p bytes old new result
  write_views p bytes result named c = record {
    others = others_keep;
    its = its_before c.uses.tells;
    elsewhere = λ kept q ne.
        let w = c.written (its_before c.uses.tells kept).tells in
        (λ i. seen (pool_img (only.pool i)) (set_of new s) q) ∙ written_alike (img old) (set_of old s) (set_of new s) p q w.left c.uses.map w.is ne;
    written = λ kept.
        let w = c.written (its_before c.uses.tells kept).tells in
        on_ok_weaker result
        (λ is. (λ i. seen (pool_img (only.pool i)) (set_of new s)) ∙ written_set (img old) (set_of old s) (set_of new s) p w.left named c.uses.map w.is w.here ∙ ap (set_at (view old s) p) is) w.ok;
  }
