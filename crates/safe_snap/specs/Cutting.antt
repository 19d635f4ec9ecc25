-- The step that cuts a snapshot: it sees the pages as they stand, and owes all records that are open.
use Rattle.std.specs.Prelude.{ℕ, ◌≡◌, ◌<◌, List, [], ◌∷◌, ◌++◌, Some, None}
use Rattle.plain_model.specs.declared.event.Event.TheVariants.{CutAt}
use Rattle.plain_model.specs.Legal.{MayCome, new_names}
use Rattle.plain_model.specs.State.{stmt_of}
use Rattle.buf_pool.specs.Steps.{SameShown}
use Rattle.rec_log.specs.Records.{Record, WorkOf}
use Rattle.sparse_set.specs.Sparse.{Sparse, IsEmptyMap}
use Rattle.snap_cat.specs.Catalog.{LacksName, with_new}
use Rattle.snap_pages.specs.Cuts.{ComesBy}
use Rattle.snap_pages.specs.Owed.{with_pins_of}
use Rattle.snap_pages.specs.Shown.{catalog, count, counts, pins}
use Rattle.snap_pages.specs.Views.{CutsView}
use Rattle.open_work.specs.Open.{all}
use Rattle.step_words.specs.declared.point.Point.{Point}
use Rattle.step_words.specs.declared.point.Point.TheVariants.{Cut, Heal, Say}
use Rattle.step_words.specs.Seats.{Seated, with_seat}
use Rattle.step_state.specs.State.{State, IsSession, sess, seat, works, many, machine}

-- the session goes on to take back what the snapshot owes, or answers where it owes nothing
abbrev pub point_after : List Record → Point
point_after [] = Say
point_after (r ∷ rs) = Heal

abbrev pub seat_after : Seated → List Record → ℕ → Seated
seat_after x owed c = record x { sitting = record x.sitting { point = point_after owed }; making = Some c }

pub record DoesCut (e s : State) (k : ℕ) : Type 0 where
  pub is : IsSession e k
  pub at : (seat e k).sitting.point ≡ Cut
  pub snap : List ℕ
  -- the plain machine may cut it, and nobody reverts the source
  pub comes : MayCome (machine e) (CutAt (sess k) snap)
  pub calm : (machine e).restoring ≡ None
  pub few : count e.pages < 8
  pub lacks : LacksName (catalog e.pages) snap
  -- the new snapshot's files are new, and it owes all open records
  pub set : Sparse
  pub empty : IsEmptyMap set
  pub alike : set.files.counts ≡ counts e.pages
  pub owed : WorkOf
  pub owes : owed.recs ≡ all (many e) (works e)
  pub added : catalog s.pages ≡ with_new (catalog e.pages) snap (new_names (stmt_of (machine e) k)) owed
  pub sets : s.pages.sets ≡ e.pages.sets ++ set ∷ []
  pub pinned : pins s.pages ≡ with_pins_of owed.recs (pins e.pages)
  pub shown : SameShown e.pages.pool s.pages.pool
  pub cuts : ComesBy (catalog e.pages).next_cut e.pages s.pages
  pub views : CutsView e.pages s.pages
  pub seats : s.seats ≡ with_seat e.seats k (seat_after (seat e k) owed.recs (catalog e.pages).next_cut)
  pub latches : s.latches ≡ e.latches
  pub locks : s.locks ≡ e.locks
  pub events : s.events ≡ e.events ++ CutAt (sess k) snap ∷ []
  pub fixed : s.fixed ≡ e.fixed
