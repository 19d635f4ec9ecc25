-- A record is healed in four steps: its page is read, mended, written, and the record dropped.
use Rattle.std.proofs.Common.{◌≡◌, ℕ, ◌+◌, ◌≤◌, IsTrue, List, [], ◌∷◌, ◌++◌, Result, Ok, Err, ap, sym, ◌∙◌, subst}
use Rattle.std.specs.Prelude.{OnErr}
use Rattle.page_base.specs.declared.numbers.PageId.{PageId}
use Rattle.page_base.specs.declared.numbers.SnapNo.{SnapNo}
use Rattle.page_base.specs.Pages.{set_at}
use Rattle.page_dev.specs.Files.{called}
use Rattle.page_fmt.specs.Content.{content, IsPage}
use Rattle.page_fmt.specs.Spelling.{used}
use Rattle.page_fmt.specs.Edits.{edited}
use Rattle.rec_log.specs.Records.{Record}
use Rattle.buf_pool.specs.Pool.{Pooled, without_pin, pins as pool_pins}
use Rattle.buf_pool.specs.Steps.{SameShown}
use Rattle.sparse_set.specs.Sparse.{Sparse, sparse_page}
use Rattle.snap_cat.specs.Catalog.{Catalog, snap_at, with_owed}
use Rattle.snap_pages.specs.Shown.{Shown, set_of, owes_of}
use Rattle.snap_pages.specs.Slots.{slots_of}
use Rattle.snap_pages.specs.Views.{view, IsKept, KeepsViews}
use Rattle.snap_pages.specs.Owed.{AreOwed, DropsOwed}
use Rattle.snap_pages.proofs.SourceLemmas.{slots_edited}
use Rattle.undo_pass.specs.Heals.{OthersStay, IsHealed, IsUnhealed, Mends}
use Rattle.undo_pass.specs.Mending.{ReadsOnce}
use Rattle.undo_pass.proofs.StayLemmas.{stay_on}

-- the record was dropped from what was there before, which has the same catalog and pool
drops_same : (s : SnapNo) (old mid new : Shown) → mid.cat ≡ old.cat → mid.pool ≡ old.pool → DropsOwed s mid new → DropsOwed s old new
drops_same s old mid new cat pool d = record {
  front = d.front;
  last = d.last;
  was = ap (λ (c : Catalog). (snap_at c s).owed.recs) (sym cat) ∙ d.was;
  cat = d.cat ∙ ap (λ (c : Catalog). with_owed c s (record { recs = d.front; spare = (snap_at c s).owed.spare + 1 })) cat;
  now = d.now;
  pinned = d.pinned ∙ ap (λ (x : Pooled). without_pin (pool_pins x) d.last.page) pool;
}

-- what the write and the drop leave, as far as this snapshot goes
pub record Written (s : SnapNo) (p : PageId) (bytes : List ℕ) (old new : Shown) : Type 0 where
  pub pool : new.pool ≡ old.pool
  pub cat : new.cat ≡ old.cat
  pub its : IsKept new s → view new s ≡ set_at (view old s) p bytes
  pub calls : (set_of new s).files.calls ≡ called (set_of old s).files.calls p.file
  pub stay : OthersStay s old new

pub record Dropped (s : SnapNo) (old new : Shown) : Type 0 where
  pub drops : DropsOwed s old new
  pub owed : AreOwed new s
  pub shown : SameShown old.pool new.pool
  pub views : KeepsViews old new
  pub sets : new.sets ≡ old.sets
  pub stay : OthersStay s old new

-- the page that was read
pub record Reading (s : SnapNo) (p : PageId) (old : Shown) (bytes : List ℕ) : Type 0 where
  pub page : IsPage bytes
  pub are : IsTrue (set_of old s).files.tells → bytes ≡ sparse_page (set_of old s) p
  pub seen : IsTrue (set_of old s).files.tells → bytes ≡ view old s p

module _ (s : SnapNo) (old read written new : Shown) (bytes mended : List ℕ) where
  pub healed : (p : PageId)
      → ((front : List Record) (r : Record) → owes_of old s ≡ front ++ r ∷ [] → p ≡ r.page)
      → ReadsOnce s p old read
      → Reading s p old bytes
      → ((front : List Record) (r : Record) → owes_of read s ≡ front ++ r ∷ [] → Mends r bytes mended)
      → Written s p mended read written
      → Dropped s written new
      → IsHealed s old new
  healed p page reads is mends writes drop = record {
    drops = drops;
    owed = drop.owed;
    healed = λ kept.
        let w = drop.views.each s kept in
        let o = reads.views.each s (writes.stay.its w.0) in
        let b : bytes ≡ view old s r.page = is.seen o.0.tells ∙ ap (view old s) at in
        ap slots_of (w.1 ∙ writes.its w.0 ∙ (λ i. set_at (o.1 i) (at i) mended))
        ∙ slots_edited (view old s) r.page mended r.slot r.before (mend.mended ∙ ap (λ (x : List ℕ). edited (content x) r.slot r.before) b);
    fits = λ told.
        let b : bytes ≡ sparse_page (set_of old s) r.page = is.are told ∙ ap (sparse_page (set_of old s)) at in
        (subst IsPage b is.page, subst (λ (x : List ℕ). used (edited (content x) r.slot r.before) ≤ 8192) b mend.room);
    calls =
        ap (λ (x : List Sparse). (set_of (record written { sets = x }) s).files.calls) drop.sets
        ∙ writes.calls ∙ ap (λ x. called x p.file) reads.calls ∙ ap (λ (q : PageId). called (called (set_of old s).files.calls q.file) q.file) at;
    shown = subst (λ (x : Pooled). SameShown x new.pool) (writes.pool ∙ reads.pool) drop.shown;
    stay = stay_on s old written new (stay_on s old read written reads.stay writes.stay) drop.stay;
  }
    where
      drops : DropsOwed s old new
      drops = drops_same s old written new (writes.cat ∙ reads.cat) (writes.pool ∙ reads.pool) drop.drops

      r : Record
      r = drops.last

      at : p ≡ r.page
      at = page drops.front r drops.was

      mend : Mends r bytes mended
      mend = mends drops.front r (ap (λ (c : Catalog). (snap_at c s).owed.recs) reads.cat ∙ drops.was)

pub unhealed_written : (s : SnapNo) (p : PageId) (old read new : Shown) → ReadsOnce s p old read → new.pool ≡ read.pool → new.cat ≡ read.cat → OthersStay s read new → IsUnhealed s old new
unhealed_written s p old read new reads pool cat stay = record { pool = pool ∙ reads.pool; cat = cat ∙ reads.cat; stay = stay_on s old read new reads.stay stay }

pub on_err : {T E A : Type 0} (result : Result T E) → A → OnErr result A
on_err (Ok x) a = tt
on_err (Err e) a = a
