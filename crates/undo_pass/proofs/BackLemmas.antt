-- A slot is set to what stood there before, and the page's pin is taken back.
use Rattle.std.proofs.Common.{◌≡◌, ℕ, ◌-◌, ◌<◌, ◌≤◌, ◌⊎◌, inl, inr, Result, Ok, Err, ap, sym, ◌∙◌, subst, arith}
use Rattle.std.specs.Prelude.{OnOk, OnErr, IfErr}
use Rattle.page_base.specs.declared.numbers.PageId.{PageId}
use Rattle.page_base.specs.Pages.{set_at}
use Rattle.page_fmt.specs.declared.edits.NoRoom.{NoRoom}
use Rattle.page_fmt.specs.Spelling.{used}
use Rattle.page_fmt.specs.Content.{content, IsPage}
use Rattle.page_fmt.specs.Edits.{edited, LacksRoom}
use Rattle.rec_log.specs.Records.{Record}
use Rattle.buf_pool.specs.Pool.{without_pin}
use Rattle.buf_pool.specs.Steps.{SameHolds, SameShown}
use Rattle.snap_pages.specs.Shown.{Shown, img, pins}
use Rattle.snap_pages.specs.Slots.{slots_of, SetsSlot}
use Rattle.snap_pages.specs.Views.{KeepsViews}
use Rattle.snap_pages.specs.Steps.{SameSnaps, SamePlaces}
use Rattle.snap_pages.proofs.CallerLemmas.{keeps_on}
use Rattle.undo_pass.specs.Backs.{TakesBack}

-- the slot was set, or it had no room and nothing changed
pub record Changed {T : Type 0} (r : Record) (old new : Shown) (result : Result T NoRoom) : Type 0 where
  pub slots : OnOk result (SetsSlot old new r.page r.slot r.before)
  pub err : OnErr result (new ≡ old)
  pub room : OnOk result (used (edited (content (img old r.page)) r.slot r.before) ≤ 8192)
  pub lacks : IfErr result (λ e. LacksRoom (content (img old r.page)) (edited (content (img old r.page)) r.slot r.before) e.need e.free)
  pub only : img new ≡ set_at (img old) r.page (img new r.page)
  pub page : IsPage (img new r.page)
  pub holds : SameHolds old.pool new.pool
  pub snaps : SameSnaps old new
  pub places : SamePlaces old new
  pub views : KeepsViews old new

pub record Unpinned (p : PageId) (old new : Shown) : Type 0 where
  pub pinned : pins new ≡ without_pin (pins old) p
  pub shown : SameShown old.pool new.pool
  pub snaps : SameSnaps old new
  pub places : SamePlaces old new
  pub views : KeepsViews old new

by_room : {T : Type 0} {A B D : Type 0} {F : NoRoom → Type 0} (result : Result T NoRoom) → OnOk result A → OnErr result B → OnOk result D → IfErr result F → (A × D) ⊎ (B × (e : NoRoom) × F e)
by_room (Ok x) a b d f = inl (a, d)
by_room (Err e) a b d f = inr (b, e, f)

too_long : (old new need free : ℕ) → need ≡ new - old → free ≡ 8192 - old → free < need → 8192 < new
too_long old new need free grows left lacks = omega arith

module _ {T : Type 0} (r : Record) (old mid new : Shown) (result : Result T NoRoom) (changed : Changed r old mid result) (un : Unpinned r.page mid new) where
  pub takes_back : TakesBack r old new
  takes_back = record {
    fits = λ fits. elim cases [
      | inl x ↦ ap slots_of un.shown.images ∙ x.0
      | inr y ↦ (let long = over y.2 in absurd (omega (arith, long, fits)))
    ];
    full = λ full. elim cases [
      | inl x ↦ (let fits = x.1 in absurd (omega (arith, full, fits)))
      | inr y ↦ un.shown.images ∙ ap img y.0
    ];
    only = un.shown.images ∙ changed.only ∙ (λ i. set_at (img old) r.page (sym un.shown.images i r.page));
    page = subst IsPage (λ i. sym un.shown.images i r.page) changed.page;
    pinned = un.pinned ∙ ap (λ (f : PageId → ℕ). without_pin f r.page) changed.holds.pinned;
    order = un.shown.order ∙ changed.holds.order;
    files = un.shown.files ∙ changed.holds.files;
    frames = un.shown.frames ∙ changed.holds.frames;
    snaps = record { cat = un.snaps.cat ∙ changed.snaps.cat; sets = un.snaps.sets ∙ changed.snaps.sets };
    places = record { counts = un.places.counts ∙ changed.places.counts; count = un.places.count ∙ changed.places.count; places = un.places.places ∙ changed.places.places };
    views = keeps_on old mid new changed.views un.views;
  }
    where
      cases : (SetsSlot old mid r.page r.slot r.before × (used (edited (content (img old r.page)) r.slot r.before) ≤ 8192)) ⊎ ((mid ≡ old) × (e : NoRoom) × LacksRoom (content (img old r.page)) (edited (content (img old r.page)) r.slot r.before) e.need e.free)
      cases = by_room result changed.slots changed.err changed.room changed.lacks

      over : {need free : ℕ} → LacksRoom (content (img old r.page)) (edited (content (img old r.page)) r.slot r.before) need free → 8192 < used (edited (content (img old r.page)) r.slot r.before)
      over {need} {free} l = too_long (used (content (img old r.page))) (used (edited (content (img old r.page)) r.slot r.before)) need free l.grows l.left l.lacks
