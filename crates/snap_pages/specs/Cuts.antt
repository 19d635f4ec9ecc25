-- Snapshots by the numbers of their cuts, which stay theirs when places shift.
use Rattle.std.specs.Prelude.{◌≡◌, ◌≢◌, ℕ, ◌==◌, Bool, false, List, [], length, Option, Some, option_map, is_some}
use Rattle.std.specs.Option.{option_map_or}
use Rattle.page_base.specs.declared.numbers.PageId.{PageId}
use Rattle.page_base.specs.declared.numbers.SnapNo.{SnapNo}
use Rattle.page_base.specs.Pages.{blank}
use Rattle.rec_log.specs.Records.{Record}
use Rattle.sparse_set.specs.Sparse.{Sparse, is_copied, sparse_page}
use Rattle.snap_cat.specs.Catalog.{Snap, Catalog, snap_at}
use Rattle.snap_pages.specs.Shown.{Shown, catalog, count, set_of}
use Rattle.snap_pages.specs.Places.{first_from}
use Rattle.snap_pages.specs.Dues.{is_sound}

-- the place of the snapshot of a cut in a catalog, if there is one
unfoldable pub place_in : Catalog → ℕ → Option SnapNo
place_in cat c = first_from (λ (s : SnapNo). (snap_at cat s).cut == c) 0 (length cat.snaps)

-- the place of the snapshot of a cut
abbrev pub place_of : Shown → ℕ → Option SnapNo
place_of v = place_in (catalog v)

-- the snapshot of a cut, with its sparse files
abbrev pub snap_by : Shown → ℕ → Option (Snap × Sparse)
snap_by v c = option_map (λ (s : SnapNo). (snap_at (catalog v) s, set_of v s)) (place_of v c)

-- whether there is a snapshot of this cut
abbrev pub is_open_by : Shown → ℕ → Bool
is_open_by v c = is_some (snap_by v c)

-- whether it has the page in its map
abbrev pub marked_by : Shown → ℕ → PageId → Bool
marked_by v c p = option_map_or (λ (e : Snap × Sparse). is_copied e.1 p) (snap_by v c) false

-- the page of its sparse file, where that tells
abbrev pub sparse_by : Shown → ℕ → PageId → List ℕ
sparse_by v c p = option_map_or (λ (e : Snap × Sparse). sparse_page e.1 p) (snap_by v c) blank

-- whether there is one that isn't suspect
abbrev pub is_sound_by : Shown → ℕ → Bool
is_sound_by v c = option_map_or (λ (e : Snap × Sparse). is_sound e.0.state) (snap_by v c) false

-- the records that it owes
abbrev pub owed_by : Shown → ℕ → List Record
owed_by v c = option_map_or (λ (e : Snap × Sparse). e.0.owed.recs) (snap_by v c) []

-- the snapshot of each other cut is the same, and of this one there was none
pub record ComesBy (c : ℕ) (old new : Shown) : Type 0 where
  pub others : (d : ℕ) → d ≢ c → snap_by new d ≡ snap_by old d
  pub absent : is_open_by old c ≡ false
  pub place : place_of new c ≡ Some (record { 0 = count old })

-- the snapshot of each other cut is the same, and of this one there is none
pub record GoesBy (c : ℕ) (old new : Shown) : Type 0 where
  pub others : (d : ℕ) → d ≢ c → snap_by new d ≡ snap_by old d
  pub gone : is_open_by new c ≡ false
