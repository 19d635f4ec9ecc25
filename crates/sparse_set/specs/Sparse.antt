-- One snapshot's sparse files: a map from page to image, with the set of the pages that were copied.
use Rattle.std.specs.Prelude.{◌≡◌, ℕ, ◌+◌, ◌*◌, ◌/◌, ◌<◌, Bool, true, false, List, [], IsTrue, slice_index, Result, OnOk}
use Rattle.page_base.specs.declared.numbers.PageId.{PageId}
use Rattle.page_base.specs.Pages.{Pages, page_or, with_page, image_at, filled}
use Rattle.page_dev.specs.Files.{Files, Writes, called}
use Rattle.page_dev.specs.Faults.{HasCause, HasCauseAt, total}
use Rattle.sparse_set.specs.Groups.{groups_in}

pub record Sparse : Type 0 where
  pub files : Files
  pub map : Pages Bool

-- the files have this page
abbrev pub HasSparse : Sparse → PageId → Type 0
HasSparse set p = p.page < slice_index set.files.counts p.file

-- whether the map has the page
abbrev pub is_copied : Sparse → PageId → Bool
is_copied set p = page_or set.map p false

-- the page of the sparse file, where the files tell
abbrev pub sparse_page : Sparse → PageId → List ℕ
sparse_page set p = image_at set.files.content p

-- how many faults the sparse files met, all in all
abbrev pub faults : Sparse → ℕ
faults set = total set.files.failures

-- a set of no files
abbrev pub no_set : Sparse
no_set = record { files = record { tells = false; content = []; counts = []; failures = []; calls = [] }; map = [] }

-- these files, with no page in the map
abbrev pub unmarked : Files → Sparse
unmarked files = record { files = files; map = filled files.counts false }

-- one page more in the map
abbrev pub marked : Sparse → PageId → Sparse
marked set p = record set { map = with_page set.map p true }

-- no page is in the map
abbrev pub IsEmptyMap : Sparse → Type 0
IsEmptyMap set = (p : PageId) → is_copied set p ≡ false

-- the map stands, page p's file was called once and no other, and its count of faults alone may rise, as it does where
-- the call failed
pub record UsesFiles {T E : Type 0} (p : PageId) (old new : Sparse) (result : Result T E) : Type 0 where
  pub map : new.map ≡ old.map
  pub tells : new.files.tells ≡ old.files.tells
  pub counts : new.files.counts ≡ old.files.counts
  pub calls : new.files.calls ≡ called old.files.calls p.file
  pub cause_at : HasCauseAt p.file old.files.failures new.files.failures result
  pub cause : HasCause (faults old) (faults new) result

-- the page was written to its file: it has the bytes, or any where the write failed, and no other page changed
pub record Copies {T E : Type 0} (p : PageId) (bytes : List ℕ) (old new : Sparse) (result : Result T E) : Type 0 where
  pub uses : UsesFiles p old new result
  pub written : IsTrue old.files.tells → Writes p bytes old.files.content new.files.content result

-- the page was read from its file, and no page changed
pub record Reads {T E : Type 0} (p : PageId) (into : List ℕ) (old new : Sparse) (result : Result T E) : Type 0 where
  pub uses : UsesFiles p old new result
  pub content : IsTrue old.files.tells → new.files.content ≡ old.files.content
  pub read : IsTrue old.files.tells → OnOk result (into ≡ sparse_page old p)

-- how many bytes a sparse file takes on disk: 65,536 for each aligned group of eight pages that holds a copied page
abbrev pub size_on_disk : Sparse → ℕ → ℕ
size_on_disk set file = 65536 * groups_in (λ page. is_copied set (record { file = file; page = page })) ((slice_index set.files.counts file + 7) / 8)
