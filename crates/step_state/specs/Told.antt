-- What holds of one session, and of the whole engine, where all files tell what they hold.
use Rattle.std.specs.Prelude.{ℕ, ◌≡◌, ◌≢◌, ◌⊎◌, ◌+◌, ◌%◌, ◌<◌, Bool, true, false, IsTrue, List, [], ◌∷◌, ◌++◌, length, slice_index_or, Option, Some, None}
use Rattle.std.specs.List.{AllByRecursion, Any}
use Rattle.page_base.specs.declared.numbers.Mode.{Mode}
use Rattle.page_base.specs.declared.numbers.Mode.TheVariants.{X}
use Rattle.page_base.specs.declared.numbers.PageId.{PageId}
use Rattle.page_base.specs.declared.numbers.SnapNo.{SnapNo}
use Rattle.page_base.specs.Slots.{Slots}
use Rattle.page_fmt.specs.Content.{content, IsPage}
use Rattle.page_fmt.specs.Seen.{Looked}
use Rattle.alloc_pages.specs.Owners.{page_owner}
use Rattle.plain_model.specs.declared.event.LockName.{LockName}
use Rattle.plain_model.specs.declared.reply.Message.{Message}
use Rattle.plain_model.specs.declared.reply.TheConstants.Message.{NO_ROOM, LOG_FAILED}
use Rattle.plain_model.specs.declared.reply.Reply.TheVariants.{Msg}
use Rattle.plain_model.specs.declared.stmt.Stmt.{Stmt}
use Rattle.plain_model.specs.Free.{is_success}
use Rattle.plain_model.specs.Legal.{Legal}
use Rattle.plain_model.specs.Meaning.{shape, change_and_reply}
use Rattle.plain_model.specs.State.{Plain, Session, session, committed, see, copy}
use Rattle.plain_model.specs.Statements.{table_named}
use Rattle.plain_model.specs.Tables.{Tables}
use Rattle.plain_steps.specs.Events.{is_write}
use Rattle.plain_steps.specs.Modes.{mode_in}
use Rattle.rec_log.specs.Records.{Record}
use Rattle.rec_log.specs.Undone.{undone}
use Rattle.sparse_set.specs.Sparse.{is_copied, sparse_page}
use Rattle.snap_cat.specs.Catalog.{snap_at}
use Rattle.snap_pages.specs.Cuts.{place_of}
use Rattle.snap_pages.specs.Shown.{Shown, catalog, counts, img, set_of, owes_of, IsOpen}
use Rattle.snap_pages.specs.Slots.{slots_of}
use Rattle.snap_pages.specs.Views.{IsKept, view}
use Rattle.sys_cat.specs.declared.desc.TableDesc.{TableDesc}
use Rattle.page_tables.specs.Bases.{IsBase}
use Rattle.page_tables.specs.Mine.{AreSpread}
use Rattle.page_tables.specs.Owners.{is_there}
use Rattle.page_tables.specs.Sheets.{sheets}
use Rattle.open_tables.specs.Back.{Back, FitsBack}
use Rattle.step_words.specs.declared.point.Point.TheVariants.{Take}
use Rattle.step_words.specs.declared.stage.DbKind.TheVariants.{Source, Snap}
use Rattle.step_words.specs.declared.stage.Stage.TheVariants.{End}
use Rattle.step_words.specs.Courses.{Course, is_planned}
use Rattle.step_words.specs.Sittings.{stmt_at, undoes_all}
use Rattle.step_words.specs.Seats.{Seated, Gathered}
use Rattle.step_state.specs.State.{State, seat, machine, settled_of, alone_of, before_of}
use Rattle.step_state.specs.Holding.{holds_all, writes, lock_at, lock_named}
use Rattle.step_state.specs.Plans.{IsPlanned}

-- pages of this owner that were read stand so
abbrev pub AreSeen : List ℕ → Slots → ℕ → List Looked → Type 0
AreSeen files s owner looked = AllByRecursion (λ (l : Looked). (is_there files l.page ≡ true) × (page_owner s l.page ≡ owner) × (sheets s l.page ≡ l.slots)) looked

-- what a statement on the source has read: of table 0, and of its own table, which is described and has its name
pub record SeesSource (files : List ℕ) (ds : List TableDesc) (s : Slots) (c : Course) : Type 0 where
  pub base : AreSeen files s 1 c.base
  pub table : (d : TableDesc) → c.desc ≡ Some d → Any (λ e. e ≡ d) ds × (d.name ≡ table_named c.stmt) × AreSeen files s (d.number.0 + 1) c.seen
  pub none : c.desc ≡ None → c.seen ≡ []

-- each record's change stands, and what stood before fits again, once those behind it are taken back
abbrev pub GoBack : List Record → Slots → Type 0
GoBack [] s = Unit {0}
GoBack (r ∷ rs) s = GoBack rs s × (undone rs s r.page r.slot ≡ r.after) × FitsBack (undone rs s) r

-- a record of an allocation page leaves its slot as long as it was
abbrev pub AreSized : List Record → Type 0
AreSized records = AllByRecursion (λ (r : Record). r.page.page % 1280 ≡ 0 → length r.before ≡ length r.after) records

-- the allocation pages tell of their pages, whichever of the last records are taken back
abbrev pub SpreadBack : List ℕ → List Record → Slots → Type 0
SpreadBack files [] s = AreSpread files (sheets s)
SpreadBack files (r ∷ rs) s = SpreadBack files rs s × AreSpread files (sheets (undone (r ∷ rs) s))

-- no page is there twice
abbrev pub DifferAll : List PageId → Type 0
DifferAll pages = (i j : ℕ) (d : PageId) → i < j → j < length pages → slice_index_or pages i d ≢ slice_index_or pages j d

-- a table is held in X, or all are
abbrev pub IsHeld : List TableDesc → (ℕ → Option Mode) → List ℕ → Type 0
IsHeld ds held name = (holds_all held ≡ true) ⊎ Any (λ d. (d.name ≡ name) × (held d.number.0 ≡ Some X)) ds

-- a write that succeeds by its meaning, over a table that is held
pub record IsSuccess (ds : List TableDesc) (held : ℕ → Option Mode) (tables : Tables) (stmt : Stmt) : Type 0 where
  pub shaped : shape stmt tables ≡ None
  pub success : is_success (change_and_reply stmt tables).1 ≡ true
  pub kept : IsHeld ds held (table_named stmt)

-- Of a session and the source: `own` are the pages with its own open changes alone, `before` those before its present
-- statement, `tables` what the plain machine says that it sees.
pub record IsToldSource (files : List ℕ) (ds : List TableDesc) (x : Seated) (held : ℕ → Option Mode) (m : Session) (own before : Slots) (tables : Tables) : Type 0 where
  -- locks by name are those by number
  pub agree : (name : LockName) → mode_in m.locks name ≡ lock_named held ds name
  -- unless it undoes its transaction, it sees these tables
  pub sees : undoes_all x.sitting.point (stmt_at x.sitting) ≡ false → IsBase files (sheets before) ds tables
  pub spread : AreSpread files (sheets own)
  pub seen : (c : Course) → x.sitting.course ≡ Some c → c.at ≡ Source → SeesSource files ds own c
  pub planned : (c : Course) → x.sitting.course ≡ Some c → c.at ≡ Source → is_planned c.stage ≡ true → IsPlanned files ds held own tables c
  -- the pages that it has claimed differ
  pub apart : (c : Course) → x.sitting.course ≡ Some c → DifferAll c.taken
  -- a reply that waits though the statement would succeed
  pub waits : (stmt : Stmt) (m : Message) → stmt_at x.sitting ≡ Some stmt → x.sitting.waiting ≡ Some (Msg m) → (m.number ≡ NO_ROOM) ⊎ (m.number ≡ LOG_FAILED) → is_write stmt ≡ true → IsSuccess ds held tables stmt
  -- its records can be taken back, and lie on pages of its own unless it holds all
  pub goes : GoBack x.work.recs own
  pub sized : AreSized x.work.recs
  pub unwound : SpreadBack files x.work.recs own
  pub back : holds_all held ≡ false → Back (writes held) x.work.recs own

-- of a session and the snapshot that is its database
pub record IsToldReading (v : Shown) (m : Plain) (x : Seated) : Type 0 where
  -- what its statement has read is of the snapshot's view
  pub seen : (cut : ℕ) (s : SnapNo) (c : Course) → x.sitting.within ≡ Some cut → place_of v cut ≡ Some s → IsKept v s → x.sitting.course ≡ Some c → c.at ≡ Snap → AllByRecursion (λ (l : Looked). content (view v s l.page) ≡ l.slots) (c.base ++ c.seen)
  pub image : (cut : ℕ) (s : SnapNo) (p : PageId) (rows : Bool) → x.sitting.within ≡ Some cut → place_of v cut ≡ Some s → IsKept v s → x.sitting.point ≡ Take p rows → x.sitting.found ≡ true → x.image ≡ view v s p
  -- and its reply is by the snapshot's copy
  pub reply : (cut : ℕ) (s : SnapNo) (c : Course) → x.sitting.within ≡ Some cut → place_of v cut ≡ Some s → IsKept v s → x.sitting.course ≡ Some c → c.at ≡ Snap → c.stage ≡ End → c.reply ≡ Some (change_and_reply c.stmt (copy m x.sitting.current)).1

pub record IsTold (e : State) (ds : List TableDesc) (k : ℕ) : Type 0 where
  pub source : IsToldSource (counts e.pages) ds (seat e k) (lock_at e k) (session (machine e) k) (alone_of e k) (before_of e k) (see (machine e) k)
  pub reading : IsToldReading e.pages (machine e) (seat e k)

pub record IsToldWhole (e : State) (ds : List TableDesc) : Type 0 where
  pub tells : IsTrue e.pages.pool.files.tells
  pub legal : Legal e.fixed.opening e.fixed.scripts e.events
  -- each page of the source is a page of the format, and each page in a snapshot's map
  pub images : (p : PageId) → is_there (counts e.pages) p ≡ true → IsPage (img e.pages p)
  pub mapped : (s : SnapNo) (p : PageId) → IsOpen e.pages s → IsKept e.pages s → is_copied (set_of e.pages s) p ≡ true → IsPage (sparse_page (set_of e.pages s) p)
  -- a snapshot's view, with what it owes taken back, is the tables as they were committed at its cut
  pub copies : (s : SnapNo) → IsOpen e.pages s → IsKept e.pages s → (es : List TableDesc) × IsBase (counts e.pages) (sheets (undone (owes_of e.pages s) (slots_of (view e.pages s)))) es (copy (machine e) (snap_at (catalog e.pages) s).name)
  pub owing : (s : SnapNo) → IsOpen e.pages s → IsKept e.pages s → GoBack (owes_of e.pages s) (slots_of (view e.pages s))
  -- all open changes taken back, the pages are the tables as they are committed
  pub source : IsBase (counts e.pages) (sheets (settled_of e)) ds (committed (machine e))
  -- a page gathered for a revert is the snapshot's
  pub gathered : (who : ℕ) (snap : List ℕ) → (machine e).restoring ≡ Some (who, snap) → IsKept e.pages (record { 0 = 0 }) → AllByRecursion (λ (g : Gathered). g.image ≡ sparse_page (set_of e.pages (record { 0 = 0 })) g.page) (seat e who).gathered
