-- What is shown stays, call by call, while a page is gathered.
use Rattle.std.proofs.Common.{◌≡◌, ◌≢◌, ◌<◌, ◌≤◌, List, Result, Ok, Err, ap, sym, ◌∙◌, subst, arith}
use Rattle.std.specs.Prelude.{OnErr}
use Rattle.page_base.specs.declared.numbers.PageId.{PageId}
use Rattle.page_base.specs.declared.numbers.SnapNo.{SnapNo}
use Rattle.page_dev.specs.Files.{Files}
use Rattle.page_dev.specs.Faults.{total}
use Rattle.buf_pool.specs.Pool.{Pooled, img as pool_img}
use Rattle.buf_pool.specs.Steps.{Stays, PinsOnce, SameShown}
use Rattle.sparse_set.specs.Sparse.{Sparse}
use Rattle.snap_cat.specs.Catalog.{Catalog, snap_at}
use Rattle.snap_cat.specs.declared.snapshot.SnapState.TheVariants.{Suspect}
use Rattle.snap_pages.specs.Shown.{Shown, pins, set_of, IsPinned}
use Rattle.snap_pages.specs.Views.{KeepsViews}
use Rattle.snap_pages.specs.Dues.{NoneNewDue}
use Rattle.snap_pages.specs.Steps.{SameSnaps, SamePlaces, ChangesSet}
use Rattle.snap_pages.proofs.CallerLemmas.{keeps_on, dues_on}
use Rattle.snap_pages.proofs.DueLemmas.{none_new_stays}
use Rattle.revert_pass.specs.Gathers.{ShowsSame}

module _ (s : SnapNo) (old new : Shown) (places : SamePlaces old new) (views : KeepsViews old new) where
  -- no snapshot was called
  module _ (snaps : SameSnaps old new) where
    set_same : (k : SnapNo) → set_of new k ≡ set_of old k
    set_same k = ap (λ (x : List Sparse). set_of (record old { sets = x }) k) snaps.sets

    none_due : (q : PageId) → NoneNewDue old new q
    none_due q = none_new_stays old new q snaps.sets (λ k sound. subst (λ (c : Catalog). (snap_at c k).state ≢ Suspect) snaps.cat sound)

    pub show_stays : Stays old.pool new.pool → ShowsSame s old new
    show_stays stays = record {
      images = stays.images;
      held = stays.held;
      tells = stays.tells;
      frames = stays.frames;
      later = stays.later;
      cat = snaps.cat;
      sets = λ k ne. set_same k;
      map = ap (λ (x : Sparse). x.map) (set_same s);
      places = places;
      views = views;
      dues = none_due;
    }

    pub show_once : (p : PageId) → PinsOnce p old.pool new.pool → ShowsSame s old new
    show_once p once = record {
      images = once.images;
      held = once.held;
      tells = once.tells;
      frames = once.frames;
      later = once.later;
      cat = snaps.cat;
      sets = λ k ne. set_same k;
      map = ap (λ (x : Sparse). x.map) (set_same s);
      places = places;
      views = views;
      dues = none_due;
    }

    pub show_unpinned : SameShown old.pool new.pool → ShowsSame s old new
    show_unpinned shown = record {
      images = λ _. shown.images;
      held = λ q _ i. shown.images i q;
      tells = ap (λ (f : Files). f.tells) shown.files;
      frames = shown.frames;
      later = subst (λ (f : Files). total old.pool.files.failures ≤ total f.failures) (sym shown.files) (omega arith);
      cat = snaps.cat;
      sets = λ k ne. set_same k;
      map = ap (λ (x : Sparse). x.map) (set_same s);
      places = places;
      views = views;
      dues = none_due;
    }

  -- its sparse file was read
  pub show_read : ChangesSet s old new → (set_of new s).map ≡ (set_of old s).map → ((q : PageId) → NoneNewDue old new q) → ShowsSame s old new
  show_read only map dues = record {
    images = λ _. ap pool_img only.pool;
    held = λ q _ i. pool_img (only.pool i) q;
    tells = ap (λ (x : Pooled). x.files.tells) only.pool;
    frames = ap (λ (x : Pooled). x.frames) only.pool;
    later = subst (λ (x : Pooled). total old.pool.files.failures ≤ total x.files.failures) (sym only.pool) (omega arith);
    cat = only.cat;
    sets = only.others;
    map = map;
    places = places;
    views = views;
    dues = dues;
  }

-- one after the other, where no pin was taken back
pub show_on : (s : SnapNo) (a b c : Shown) → ((q : PageId) → IsPinned a q → IsPinned b q) → ShowsSame s a b → ShowsSame s b c → ShowsSame s a c
show_on s a b c pinned one two = record {
  images = λ told. two.images (one.tells ∙ told) ∙ one.images told;
  held = λ q h. two.held q (pinned q h) ∙ one.held q h;
  tells = two.tells ∙ one.tells;
  frames = two.frames ∙ one.frames;
  later = (let l = one.later in let m = two.later in omega arith);
  cat = two.cat ∙ one.cat;
  sets = λ k ne. two.sets k ne ∙ one.sets k ne;
  map = two.map ∙ one.map;
  places = record { counts = two.places.counts ∙ one.places.counts; count = two.places.count ∙ one.places.count; places = two.places.places ∙ one.places.places };
  views = keeps_on a b c one.views two.views;
  dues = λ q. dues_on a b c q (one.dues q) (two.dues q);
}

pub pinned_same : (a b : Shown) → pins b ≡ pins a → (q : PageId) → IsPinned a q → IsPinned b q
pinned_same a b is q h = subst (λ n. 0 < n) (sym (λ i. is i q)) h

pub on_err : {T E A : Type 0} (result : Result T E) → A → OnErr result A
on_err (Ok x) a = tt
on_err (Err e) a = a
