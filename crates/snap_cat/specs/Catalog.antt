-- The snapshots in order of their cuts, and the number of the next cut.
use Rattle.std.specs.Prelude.{◌≡◌, ◌≢◌, ℕ, ◌+◌, ◌<◌, ◌≤◌, nat_lt, if◌then◌else◌, List, [], ◌∷◌, ◌++◌, length, remove, slice_index_or, slice_set}
use Rattle.page_base.specs.declared.numbers.SnapNo.{SnapNo}
use Rattle.rec_log.specs.Records.{WorkOf}
use Rattle.snap_cat.specs.declared.snapshot.SnapState.{SnapState}
use Rattle.snap_cat.specs.declared.snapshot.SnapState.TheVariants.{Making, Suspect}

-- a snapshot: its name, its sparse files' names, the number of its cut, its state, and the records that are still to be
-- taken back from its pages
pub record Snap : Type 0 where
  pub name : List ℕ
  pub files : List (List ℕ)
  pub cut : ℕ
  pub state : SnapState
  pub owed : WorkOf

-- the same snapshot, which owes these
abbrev pub owing : Snap → WorkOf → Snap
owing snap owed = record snap { owed = owed }

pub record Catalog : Type 0 where
  pub snaps : List Snap
  pub next_cut : ℕ

-- what stands for a snapshot that isn't there; it counts as suspect
abbrev pub no_snap : Snap
no_snap = record { name = []; files = []; cut = 0; state = Suspect; owed = record { recs = []; spare = 0 } }

-- the snapshot at a place
abbrev pub snap_at : Catalog → SnapNo → Snap
snap_at cat s = slice_index_or cat.snaps s.0 no_snap

-- there is a snapshot at this place
abbrev pub HasSnap : Catalog → SnapNo → Type 0
HasSnap cat s = s.0 < length cat.snaps

-- at most eight snapshots, in order of their cuts, all below the next one, and with different names
pub record IsCatalog (cat : Catalog) : Type 0 where
  pub few : length cat.snaps ≤ 8
  pub ordered : (j k : SnapNo) → j.0 < k.0 → HasSnap cat k → (snap_at cat j).cut < (snap_at cat k).cut
  pub below : (k : SnapNo) → HasSnap cat k → (snap_at cat k).cut < cat.next_cut
  pub apart : (j k : SnapNo) → j.0 < k.0 → HasSnap cat k → (snap_at cat j).name ≢ (snap_at cat k).name

-- no snapshot has this name
abbrev pub LacksName : Catalog → List ℕ → Type 0
LacksName cat name = (k : SnapNo) → HasSnap cat k → (snap_at cat k).name ≢ name

-- a snapshot of this name
pub record IsNamed (cat : Catalog) (name : List ℕ) (s : SnapNo) : Type 0 where
  pub there : HasSnap cat s
  pub named : (snap_at cat s).name ≡ name

-- no snapshot
abbrev pub empty : ℕ → Catalog
empty next_cut = record { snaps = []; next_cut = next_cut }

-- one snapshot more, in the making, with the next cut number, which rises by one
abbrev pub with_new : Catalog → List ℕ → List (List ℕ) → WorkOf → Catalog
with_new cat name files owed = record { snaps = cat.snaps ++ record { name = name; files = files; cut = cat.next_cut; state = Making; owed = owed } ∷ []; next_cut = cat.next_cut + 1 }

-- one snapshot more, of an opened catalog: with a cut and a state of its own, and owing nothing
abbrev pub with_opened : Catalog → List ℕ → List (List ℕ) → ℕ → SnapState → Catalog
with_opened cat name files cut state = record cat { snaps = cat.snaps ++ record { name = name; files = files; cut = cut; state = state; owed = record { recs = []; spare = 0 } } ∷ [] }

-- a snapshot's cut, of all that are there, is behind those of the others
abbrev pub IsBehind : Catalog → ℕ → Type 0
IsBehind cat cut = (k : SnapNo) → HasSnap cat k → (snap_at cat k).cut < cut

-- without one snapshot; the later ones close up
abbrev pub without : Catalog → SnapNo → Catalog
without cat s = record cat { snaps = remove cat.snaps s.0 }

-- the place that a snapshot had before the one at `gone` was taken out
abbrev pub former : SnapNo → SnapNo → SnapNo
former gone k = record { 0 = if nat_lt k.0 gone.0 then k.0 else k.0 + 1 }

-- only this snapshot's state differs
abbrev pub with_state : Catalog → SnapNo → SnapState → Catalog
with_state cat s state = record cat { snaps = slice_set cat.snaps s.0 (record (snap_at cat s) { state = state }) }

-- only the records that this snapshot owes differ
abbrev pub with_owed : Catalog → SnapNo → WorkOf → Catalog
with_owed cat s owed = record cat { snaps = slice_set cat.snaps s.0 (owing (snap_at cat s) owed) }
