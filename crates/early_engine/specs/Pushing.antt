-- Snapshots to which a page is pushed, and those that turn suspect by it.
use Rattle.std.specs.Prelude.{ℕ, ◌≡◌, ◌≢◌, ◌+◌, ◌≤◌, ◌⊎◌, Bool, true, false, if◌then◌else◌, List, ◌++◌, length, map, sum_by}
use Rattle.std.specs.List.{AllByRecursion}
use Rattle.page_base.specs.declared.numbers.SnapNo.{SnapNo}
use Rattle.page_dev.specs.Faults.{Rose}
use Rattle.plain_model.specs.declared.event.Event.{Event}
use Rattle.plain_model.specs.declared.event.Event.TheVariants.{Turned}
use Rattle.plain_model.specs.State as plain
use Rattle.plain_model.specs.State.{Plain}
use Rattle.plain_model.specs.Legal.{LegalFrom, end_from}
use Rattle.early_pages.specs.declared.state.SnapState.{SnapState}
use Rattle.early_pages.specs.declared.state.SnapState.TheVariants.{Making, Online, Suspect}
use Rattle.early_pages.specs.Sparse.{faults}
use Rattle.early_pages.specs.Catalog.{Snap, snap_at}
use Rattle.early_pages.specs.Shown.{Shown, img, counts, count, IsOpen, set_of, state_of}
use Rattle.early_pages.specs.Shown as shown
use Rattle.early_pages.specs.Views.{KeepsViews}
use Rattle.early_engine.specs.Entering.{Kept}

abbrev pub is_suspect : SnapState → Bool
is_suspect Making = false
is_suspect Online = false
is_suspect Suspect = true

-- a snapshot as the plain machine has it
abbrev pub plainly : Snap → plain.Snap
plainly s = record { name = s.name; files = s.files; cut = s.cut; suspect = is_suspect s.state }

-- the snapshots as the plain machine has them
abbrev pub snaps_of : Shown → List plain.Snap
snaps_of v = map plainly (shown.catalog v).snaps

abbrev pub weight : Snap → ℕ
weight s = if is_suspect s.state then 0 else 1

-- how many of the snapshots aren't suspect
unfoldable pub sound : Shown → ℕ
sound v = sum_by weight (shown.catalog v).snaps

-- a snapshot's name
abbrev pub name_of : Shown → SnapNo → List ℕ
name_of v s = (snap_at (shown.catalog v) s).name

-- how many faults a snapshot's files met
abbrev pub faults_of : Shown → SnapNo → ℕ
faults_of v s = faults (set_of v s)

-- a snapshot is as it was, or turned suspect as its files' count of faults rose
abbrev pub StaysOrTurns : SnapState → SnapState → ℕ → ℕ → Type 0
StaysOrTurns old new before now = (new ≡ old) ⊎ ((old ≢ Suspect) × (new ≡ Suspect) × Rose before now)

-- what a push, or a read of its files, leaves of a snapshot
pub record Alike (old new : Snap) : Type 0 where
  pub name : new.name ≡ old.name
  pub files : new.files ≡ old.files
  pub cut : new.cut ≡ old.cut
  pub tells : new.set.files.tells ≡ old.set.files.tells
  pub later : faults old.set ≤ faults new.set
  pub state : StaysOrTurns old.state new.state (faults old.set) (faults new.set)

-- the snapshots are as they were, but for faults of their files and those that turned suspect; source pages may differ
pub record Leaves (old new : Shown) : Type 0 where
  pub counts : counts new ≡ counts old
  pub count : count new ≡ count old
  pub next_cut : (shown.catalog new).next_cut ≡ (shown.catalog old).next_cut
  pub each : (s : SnapNo) → Alike (snap_at (shown.catalog old) s) (snap_at (shown.catalog new) s)
  pub views : KeepsViews old new

-- what pushes, or reads of sparse pages, leave of the source and the snapshots
pub record Pushes (old new : Shown) : Type 0 where
  pub img : img new ≡ img old
  pub counts : counts new ≡ counts old
  pub count : count new ≡ count old
  pub next_cut : (shown.catalog new).next_cut ≡ (shown.catalog old).next_cut
  pub each : (s : SnapNo) → Alike (snap_at (shown.catalog old) s) (snap_at (shown.catalog new) s)
  pub views : KeepsViews old new

-- a snapshot of this name turned suspect, whose files' count of faults rose
pub record IsTurn (old new : Shown) (event : Event) : Type 0 where
  pub snap : SnapNo
  pub there : IsOpen old snap
  pub is : event ≡ Turned (name_of old snap)
  pub lost : state_of new snap ≡ Suspect
  pub rose : Rose (faults_of old snap) (faults_of new snap)

-- The events that came are turns of snapshots, and lead every machine that has the old snapshots to the new ones.
pub record Turns (kept kept' : Kept) (old new : Shown) : Type 0 where
  pub events : List Event
  pub more : kept'.events ≡ kept.events ++ events
  pub each : AllByRecursion (IsTurn old new) events
  pub legal : (st : Plain) → st.snaps ≡ snaps_of old → LegalFrom st events
  pub leads : (st : Plain) → st.snaps ≡ snaps_of old → end_from st events ≡ record st { snaps = snaps_of new; moment = st.moment + length events }
  pub room : kept'.room + length events ≡ kept.room
  pub fewer : length events + sound new ≡ sound old
