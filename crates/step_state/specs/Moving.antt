-- What steps have in common that change no page of the source: a session has another seat, and all see what they saw.
use Rattle.std.specs.Prelude.{ℕ, ◌≡◌, ◌≢◌, ◌⊎◌, ◌+◌, ◌≤◌, true, false, IsTrue, List, [], ◌∷◌, ◌++◌, length, map, Option, Some}
use Rattle.page_base.specs.declared.numbers.Mode.{Mode}
use Rattle.page_base.specs.declared.numbers.PageId.{PageId}
use Rattle.page_base.specs.declared.numbers.SnapNo.{SnapNo}
use Rattle.lock_book.specs.Locks.{IsLockBook}
use Rattle.plain_model.specs.declared.event.Event.TheVariants.{Turned}
use Rattle.plain_model.specs.Legal.{Legal, MayCome}
use Rattle.plain_model.specs.State.{Session, session, committed, copy}
use Rattle.page_tables.specs.Owners.{is_there}
use Rattle.page_dev.specs.Faults.{Rose}
use Rattle.sparse_set.specs.Sparse.{is_copied, faults}
use Rattle.snap_cat.specs.Catalog.{IsCatalog, snap_at, with_state}
use Rattle.snap_cat.specs.declared.snapshot.SnapState.TheVariants.{Suspect}
use Rattle.snap_pages.specs.Shown.{Shown, catalog, counts, img, pins, set_of, state_of, owes_of, cut_of, IsOpen}
use Rattle.snap_pages.specs.Steps.{SamePlaces}
use Rattle.snap_pages.specs.Views.{KeepsViews}
use Rattle.step_state.specs.Steps.{GoesOn}
use Rattle.step_words.specs.Seats.{Seated, with_seat}
use Rattle.step_state.specs.State.{State, IsSession, machine}
use Rattle.step_state.specs.Holding.{lock_at}
use Rattle.step_state.specs.Whole.{seat_pins, snaps_pins, snap_told}

-- session k has this seat, and nothing is said and no lock changes
pub record MovesSeat (e s : State) (k : ℕ) (x : Seated) : Type 0 where
  pub is : IsSession e k
  pub seats : s.seats ≡ with_seat e.seats k x
  pub locks : s.locks ≡ e.locks
  pub events : s.events ≡ e.events
  pub fixed : s.fixed ≡ e.fixed

-- The source's pages are as they were, and so is each view that is still promised. Snapshots are the same but that some may
-- have turned suspect; maps may gain pages.
pub record StaysShown (old new : Shown) : Type 0 where
  pub tells : new.pool.files.tells ≡ old.pool.files.tells
  pub images : IsTrue old.pool.files.tells → img new ≡ img old
  pub places : SamePlaces old new
  pub views : KeepsViews old new
  pub names : (n : SnapNo) → (snap_at (catalog new) n).name ≡ (snap_at (catalog old) n).name
  pub cuts : (n : SnapNo) → cut_of new n ≡ cut_of old n
  pub owed : (n : SnapNo) → owes_of new n ≡ owes_of old n
  pub states : (n : SnapNo) → (state_of new n ≡ state_of old n) ⊎ (state_of new n ≡ Suspect)
  pub next : (catalog new).next_cut ≡ (catalog old).next_cut
  pub ordered : IsCatalog (catalog old) → IsCatalog (catalog new)
  pub due : (p : PageId) → snaps_pins (catalog new).snaps p ≡ snaps_pins (catalog old).snaps p
  pub many : length new.sets ≡ length old.sets
  pub alike : (n : SnapNo) → (set_of new n).files.counts ≡ (set_of old n).files.counts
  pub grows : (n : SnapNo) (p : PageId) → is_copied (set_of old n) p ≡ true → is_copied (set_of new n) p ≡ true
  pub comes : (n : SnapNo) (p : PageId) → is_copied (set_of new n) p ≡ true → is_copied (set_of old n) p ≡ false → is_there (counts old) p ≡ true

-- the plain machine has session k so now, and all other sessions, the tables that are committed and all copies as before
pub record MovesMachine (e s : State) (k : ℕ) (m : Session) : Type 0 where
  pub others : (j : ℕ) → 1 ≤ j → j ≢ k → session (machine s) j ≡ session (machine e) j
  pub own : session (machine s) k ≡ m
  pub scripts : (machine s).scripts ≡ (machine e).scripts
  pub restores : (who : ℕ) (snap : List ℕ) → (machine s).restoring ≡ Some (who, snap) → (machine e).restoring ≡ Some (who, snap)
  pub later : (machine e).moment ≤ (machine s).moment
  pub snaps : (machine e).snaps ≡ map snap_told (catalog e.pages).snaps → (machine s).snaps ≡ map snap_told (catalog s.pages).snaps
  pub cut : (machine s).next_cut ≡ (machine e).next_cut
  pub source : committed (machine s) ≡ committed (machine e)
  pub copies : (name : List ℕ) → copy (machine s) name ≡ copy (machine e) name
  pub history : GoesOn e.events s.events
  pub legal : Legal e.fixed.opening e.fixed.scripts e.events → Legal e.fixed.opening e.fixed.scripts s.events

-- session k has this seat, these locks, and is this in the plain machine
pub record MovesOn (e s : State) (k : ℕ) (x : Seated) (held : ℕ → Option Mode) (m : Session) : Type 0 where
  pub is : IsSession e k
  pub seats : s.seats ≡ with_seat e.seats k x
  pub fixed : s.fixed ≡ e.fixed
  pub locked : lock_at s k ≡ held
  pub others : (j : ℕ) → j ≢ k → lock_at s j ≡ lock_at e j
  pub book : IsLockBook s.locks
  pub machine : MovesMachine e s k m

-- the pins go with what the session holds
abbrev pub MovesPins : Shown → Shown → Seated → Seated → Type 0
MovesPins old new x y = (p : PageId) → pins new p + seat_pins x p ≡ pins old p + seat_pins y p

-- A snapshot turns suspect, since a call on its sparse files failed. These may have lost pages that no view shows by now; its
-- map is the same, and so are the source's pages and all other snapshots.
pub record TurnsSuspect (old new : Shown) (n : SnapNo) : Type 0 where
  pub opened : IsOpen old n
  pub rose : Rose (faults (set_of old n)) (faults (set_of new n))
  pub pool : new.pool ≡ old.pool
  pub cat : catalog new ≡ with_state (catalog old) n Suspect
  pub many : length new.sets ≡ length old.sets
  pub others : (m : SnapNo) → m ≢ n → set_of new m ≡ set_of old m
  pub map : (set_of new n).map ≡ (set_of old n).map
  pub counts : (set_of new n).files.counts ≡ (set_of old n).files.counts
  pub places : SamePlaces old new
  pub views : KeepsViews old new

-- which is said in the history, and no more
pub record SaysTurned (e s : State) (n : SnapNo) : Type 0 where
  pub comes : MayCome (machine e) (Turned (snap_at (catalog e.pages) n).name)
  pub events : s.events ≡ e.events ++ Turned (snap_at (catalog e.pages) n).name ∷ []
  pub locks : s.locks ≡ e.locks
  pub fixed : s.fixed ≡ e.fixed
