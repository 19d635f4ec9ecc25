-- What holds of one session, whatever the files tell.
use Rattle.std.specs.Prelude.{ℕ, ◌≡◌, ◌≢◌, ◌⊎◌, ◌-◌, ◌≤◌, Bool, true, false, List, [], Option, Some, None, slice_index_or, unwrap_or}
use Rattle.page_base.specs.declared.numbers.Mode.{Mode}
use Rattle.page_base.specs.declared.numbers.PageId.{PageId}
use Rattle.latch_book.specs.declared.latch.Latch.{Latch}
use Rattle.latch_book.specs.Latches.{latch_of}
use Rattle.plain_model.specs.State.{Session, session, master}
use Rattle.snap_pages.specs.Shown.{Shown, counts}
use Rattle.page_tables.specs.Owners.{is_there}
use Rattle.step_words.specs.Sittings.{stmt_at}
use Rattle.step_words.specs.declared.point.Point.{Point}
use Rattle.step_words.specs.declared.point.Point.TheVariants.{Latch as Latching, Look, Fetch, Take, Change, Commit, Start, Leave, Gone}
use Rattle.step_words.specs.declared.stage.DbKind.TheVariants.{Source}
use Rattle.step_words.specs.declared.stage.Stage.TheVariants.{Claim as Claiming, Edit as Editing}
use Rattle.step_words.specs.Courses.{Course}
use Rattle.step_words.specs.Seats.{Seated, latch_at, Free}
use Rattle.step_state.specs.State.{State, sess, seat, machine}
use Rattle.step_state.specs.Holding.{lock_at, HasLocks}
use Rattle.step_state.specs.Posed.{IsPosed}
use Rattle.step_state.specs.Snapshots.{IsBeside, name_by}

-- the page that a point names
abbrev pub page_at : Point → Option PageId
page_at (Latching p ex) = Some p
page_at (Look p) = Some p
page_at (Fetch p) = Some p
page_at (Take p rows) = Some p
page_at (Change p) = Some p
page_at point = None

abbrev pub is_gone : Point → Bool
is_gone Gone = true
is_gone point = false

-- at these points no statement has begun
abbrev pub is_between : Point → Bool
is_between Start = true
is_between Leave = true
is_between Gone = true
is_between point = false

-- a session by itself: its seat, the latch and the locks that it holds, over files of so many pages
pub record IsSeated (files : List ℕ) (x : Seated) (latch : Option Latch) (held : ℕ → Option Mode) : Type 0 where
  pub latched : latch ≡ latch_at x.hold
  pub posed : IsPosed files x
  pub there : (p : PageId) → page_at x.sitting.point ≡ Some p → is_there files p ≡ true
  -- who holds a table holds the table of tables, and only who holds that has records
  pub rooted : (n : ℕ) → held 0 ≡ None → held n ≡ None
  pub nowhere : held 0 ≡ None → x.work.recs ≡ []
  pub holding : (c : Course) → x.sitting.course ≡ Some c → c.at ≡ Source → HasLocks held c
  -- claims and edits are the source's, and so is what a statement commits
  pub writing : (c : Course) → x.sitting.course ≡ Some c → (c.stage ≡ Claiming) ⊎ (c.stage ≡ Editing) → c.at ≡ Source
  pub committing : x.sitting.point ≡ Commit → (c : Course) → x.sitting.course ≡ Some c → c.at ≡ Source

-- the name of the snapshot that it makes
abbrev pub making_in : Shown → Option ℕ → Option (List ℕ)
making_in v None = None
making_in v (Some c) = name_by v c

-- the plain machine has the session where its seat has it
pub record IsInStep (v : Shown) (x : Seated) (m : Session) (moment : ℕ) : Type 0 where
  pub said : m.said ≡ x.sitting.said
  pub current : m.current ≡ x.sitting.current
  pub depth : m.depth ≡ x.sitting.depth
  pub level : m.level ≡ x.sitting.level
  pub idle : m.depth ≡ 0 → m.work ≡ []
  pub making : m.making ≡ making_in v x.making
  pub gone : m.gone ≡ is_gone x.sitting.point
  -- between statements, and once it has none left, nothing was said since its last reply
  pub rested : (is_between x.sitting.point ≡ true) ⊎ (stmt_at x.sitting ≡ None) → (m.first ≡ None) × (m.since ≤ moment)
  pub begun : is_between x.sitting.point ≡ false → (m.since ≤ x.began) × (x.began ≤ unwrap_or m.first moment)

-- while somebody reverts the source to a snapshot, a session stands aside: it holds nothing, and is in neither database
pub record IsAside (x : Seated) (held : ℕ → Option Mode) (source snap : List ℕ) : Type 0 where
  pub records : x.work.recs ≡ []
  pub locks : (n : ℕ) → held n ≡ None
  pub latch : x.hold ≡ Free
  pub away : (x.sitting.current ≢ source) × (x.sitting.within ≡ None)
  pub making : x.making ≡ None

-- who is in no snapshot is in the source, or in no database
abbrev pub IsPlaced : Seated → List ℕ → Type 0
IsPlaced x source = x.sitting.within ≡ None → (x.sitting.current ≡ master) ⊎ (x.sitting.current ≡ source)

pub record IsSafeSession (e : State) (k : ℕ) : Type 0 where
  pub seated : IsSeated (counts e.pages) (seat e k) (latch_of e.latches (sess k)) (lock_at e k)
  pub beside : IsBeside e.pages (seat e k)
  pub placed : IsPlaced (seat e k) e.fixed.opening.source
  pub script : (seat e k).sitting.script ≡ slice_index_or (machine e).scripts (k - 1) []
  pub in_step : IsInStep e.pages (seat e k) (session (machine e) k) (machine e).moment
  pub aside : (who : ℕ) (snap : List ℕ) → (machine e).restoring ≡ Some (who, snap) → IsAside (seat e k) (lock_at e k) e.fixed.opening.source snap
