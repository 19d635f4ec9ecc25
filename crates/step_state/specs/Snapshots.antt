-- What a session holds of snapshots, by the numbers of their cuts.
use Rattle.std.specs.Prelude.{ℕ, ◌≡◌, ◌⊎◌, ◌<◌, true, false, List, [], Option, Some, None, option_map}
use Rattle.page_base.specs.declared.numbers.PageId.{PageId}
use Rattle.page_base.specs.declared.numbers.SnapNo.{SnapNo}
use Rattle.latch_book.specs.declared.latch.LatchMode.TheVariants.{Ex}
use Rattle.sparse_set.specs.Sparse.{Sparse}
use Rattle.snap_cat.specs.Catalog.{Snap}
use Rattle.snap_pages.specs.Shown.{Shown, catalog, img}
use Rattle.snap_pages.specs.Views.{IsKept}
use Rattle.snap_pages.specs.Cuts.{place_of, snap_by, is_open_by, marked_by, sparse_by, is_sound_by, owed_by}
use Rattle.step_words.specs.declared.point.Point.{Point}
use Rattle.step_words.specs.declared.point.Point.TheVariants.{Fetch, Take, Say}
use Rattle.step_words.specs.Seats.{Seated, latch_at}

-- the name of the snapshot of a cut, if there is one
abbrev pub name_by : Shown → ℕ → Option (List ℕ)
name_by v c = option_map (λ (e : Snap × Sparse). e.0.name) (snap_by v c)

-- the page that a session is about to bring in or to take in
abbrev pub page_read : Point → Option PageId
page_read (Fetch p) = Some p
page_read (Take p rows) = Some p
page_read point = None

-- the page on which a session holds the latch in EX
abbrev pub HoldsEx : Seated → PageId → Type 0
HoldsEx x p = latch_at x.hold ≡ Some (record { page = p; mode = Ex })

-- the snapshot of this cut is kept: it isn't suspect, and all files tell
abbrev pub IsKeptBy : Shown → ℕ → Type 0
IsKeptBy v c = (s : SnapNo) × (place_of v c ≡ Some s) × IsKept v s

pub record IsBeside (v : Shown) (x : Seated) : Type 0 where
  -- who reads a snapshot that it has looked at knows whether the page was copied, or the snapshot is suspect
  pub reads : (c : ℕ) (p : PageId) → x.sitting.within ≡ Some c → page_read x.sitting.point ≡ Some p →
      (x.sitting.found ≡ true → marked_by v c p ≡ true) × (x.sitting.found ≡ false → (marked_by v c p ≡ false) ⊎ (is_sound_by v c ≡ false))
  -- between copy and mark the snapshot lacks the page, if it is still there and not suspect, and its file has the page's image
  pub marks : (c : ℕ) (p : PageId) → x.copied ≡ Some c → HoldsEx x p → is_sound_by v c ≡ true → marked_by v c p ≡ false
  pub copies : (c : ℕ) (p : PageId) → x.copied ≡ Some c → HoldsEx x p → IsKeptBy v c → sparse_by v c p ≡ img v p
  -- once it answers, a snapshot in its making that is to be used owes nothing
  pub paid : (c : ℕ) → x.making ≡ Some c → x.sitting.point ≡ Say → x.sitting.waiting ≡ None → is_sound_by v c ≡ true → owed_by v c ≡ []
  -- the snapshots that it names were cut, and the one that is its database is there under its name
  pub copied : (c : ℕ) → x.copied ≡ Some c → c < (catalog v).next_cut
  pub made : (c : ℕ) → x.making ≡ Some c → (c < (catalog v).next_cut) × (is_open_by v c ≡ true)
  pub named : (c : ℕ) → x.sitting.within ≡ Some c → (c < (catalog v).next_cut) × (name_by v c ≡ Some x.sitting.current)
