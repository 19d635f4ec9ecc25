-- A page of a snapshot is gathered: the source's page is pinned, and the sparse page's bytes are kept.
use Rattle.std.specs.Prelude.{◌≡◌, ◌≢◌, ◌⊎◌, ◌≤◌, ⊤, ℕ, IsTrue, List, [], ◌∷◌, ◌++◌, None, Some}
use Rattle.page_base.specs.declared.numbers.PageId.{PageId}
use Rattle.page_base.specs.declared.numbers.SnapNo.{SnapNo}
use Rattle.page_dev.specs.Faults.{Rose, total}
use Rattle.page_dev.specs.Files.{called}
use Rattle.page_fmt.specs.Content.{IsPage}
use Rattle.page_fmt.specs.Faults.{fault_of}
use Rattle.buf_pool.specs.Pool.{IsPooled, frame_of}
use Rattle.buf_pool.specs.Refusing.{Refuses}
use Rattle.buf_pool.specs.Calls.{read_calls, RefusedCalls}
use Rattle.buf_pool.specs.declared.refusal.FetchRefusal.{FetchRefusal}
use Rattle.buf_pool.specs.declared.refusal.FetchRefusal.TheVariants.{Damaged}
use Rattle.sparse_set.specs.Sparse.{sparse_page, faults}
use Rattle.snap_pages.specs.Shown.{Shown, img, set_of, IsPinned}
use Rattle.snap_pages.specs.Views.{KeepsViews}
use Rattle.snap_pages.specs.Dues.{NoneNewDue}
use Rattle.snap_pages.specs.Steps.{SamePlaces}
use Rattle.revert_pass.specs.declared.refusal.RevertRefusal.{RevertRefusal}
use Rattle.revert_pass.specs.declared.refusal.RevertRefusal.TheVariants.{Fetch, Sparse, Memory}
use Rattle.revert_pass.specs.Got.{Got}

-- what stays, refused or not: what every page and every snapshot shows, the catalog and the maps
pub record ShowsSame (s : SnapNo) (old new : Shown) : Type 0 where
  pub images : IsTrue old.pool.files.tells → img new ≡ img old
  pub held : (q : PageId) → IsPinned old q → img new q ≡ img old q
  pub tells : new.pool.files.tells ≡ old.pool.files.tells
  pub frames : new.pool.frames ≡ old.pool.frames
  pub later : total old.pool.files.failures ≤ total new.pool.files.failures
  pub cat : new.cat ≡ old.cat
  pub sets : (k : SnapNo) → k ≢ s → set_of new k ≡ set_of old k
  pub map : (set_of new s).map ≡ (set_of old s).map
  pub places : SamePlaces old new
  pub views : KeepsViews old new
  pub dues : (q : PageId) → NoneNewDue old new q

-- one image more is kept, of a page that wasn't; it is the sparse page where its file tells
pub record Adds (s : SnapNo) (p : PageId) (old : Shown) (got more : Got) : Type 0 where
  pub image : List ℕ
  pub page : IsPage image
  pub is : more ≡ got ++ (p, image) ∷ []
  pub are : IsTrue (set_of old s).files.tells → image ≡ sparse_page (set_of old s) p

-- the page's sparse file was called once
abbrev pub IsOneCall : SnapNo → PageId → Shown → Shown → Type 0
IsOneCall s p old new = (set_of new s).files.calls ≡ called (set_of old s).files.calls p.file

-- the source's files were called for one fetch of the page: not at all where it is in memory
pub record IsOneFetch (p : PageId) (old new : Shown) : Type 0 where
  pub pooled : IsPooled old.pool p → new.pool.files.calls ≡ old.pool.files.calls
  pub read : frame_of old.pool p ≡ None → new.pool.files.calls ≡ read_calls old.pool p

-- the bytes that were read of the sparse page, by one call, are no page; they are the sparse page's where its file tells
pub record IsSparseDamage (s : SnapNo) (p : PageId) (old new : Shown) (at : ℕ) : Type 0 where
  pub once : IsOneCall s p old new
  pub bytes : List ℕ
  pub are : IsTrue (set_of old s).files.tells → bytes ≡ sparse_page (set_of old s) p
  pub fault : fault_of bytes ≡ Some at

-- why the copy isn't read
abbrev pub CopyRefused : SnapNo → PageId → Shown → Shown → RevertRefusal → Type 0
CopyRefused s p old new (Fetch e) = (at : ℕ) × (e ≡ Damaged at) × IsSparseDamage s p old new at
CopyRefused s p old new Sparse = Rose (faults (set_of old s)) (faults (set_of new s)) × IsOneCall s p old new
CopyRefused s p old new Memory = ⊥

-- the pool refused the page by its cause, and no sparse file was called
pub record IsUnfetched (p : PageId) (old new : Shown) (e : FetchRefusal) : Type 0 where
  pub cause : Refuses old.pool new.pool p e
  pub calls : RefusedCalls old.pool new.pool p e
  pub sets : new.sets ≡ old.sets

-- the page was fetched, and then the copy's bytes were no page
pub record IsBadCopy (s : SnapNo) (p : PageId) (old new : Shown) (e : FetchRefusal) : Type 0 where
  pub at : ℕ
  pub is : e ≡ Damaged at
  pub fetched : IsOneFetch p old new
  pub damage : IsSparseDamage s p old new at

-- or the copy wasn't read
pub record IsUnread (s : SnapNo) (p : PageId) (old new : Shown) : Type 0 where
  pub rose : Rose (faults (set_of old s)) (faults (set_of new s))
  pub once : IsOneCall s p old new
  pub fetched : IsOneFetch p old new

-- why a page isn't gathered: the pool's refusals by their causes, a fault of the sparse file, bytes that are no page
abbrev pub GatherRefused : SnapNo → PageId → Shown → Shown → RevertRefusal → Type 0
GatherRefused s p old new (Fetch e) = IsUnfetched p old new e ⊎ IsBadCopy s p old new e
GatherRefused s p old new Sparse = IsUnread s p old new
GatherRefused s p old new Memory = ⊤
