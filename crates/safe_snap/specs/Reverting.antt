-- The steps that revert the source to a snapshot: its copied pages are gathered one by one, and swapped in at one moment.
use Rattle.std.specs.Prelude.{ℕ, ◌≡◌, true, false, IsTrue, List, [], ◌∷◌, ◌++◌, map, Some}
use Rattle.page_base.specs.declared.numbers.PageId.{PageId}
use Rattle.page_base.specs.declared.numbers.SnapNo.{SnapNo}
use Rattle.page_fmt.specs.Content.{IsPage}
use Rattle.buf_pool.specs.Pool.{with_pin}
use Rattle.page_tables.specs.Owners.{is_there}
use Rattle.plain_model.specs.declared.reply.Reply.TheVariants.{Ok, Msg}
use Rattle.plain_model.specs.declared.reply.TheConstants.Message.{REVERT_FAILED}
use Rattle.plain_model.specs.Messages.{plain}
use Rattle.page_dev.specs.Faults.{Rose}
use Rattle.snap_cat.specs.Catalog.{with_state}
use Rattle.snap_cat.specs.declared.snapshot.SnapState.TheVariants.{Suspect}
use Rattle.snap_pages.specs.Steps.{SamePlaces}
use Rattle.snap_pages.specs.Views.{KeepsViews}
use Rattle.plain_model.specs.declared.stmt.Stmt.TheVariants.{Restore}
use Rattle.sparse_set.specs.Sparse.{is_copied, sparse_page, faults}
use Rattle.snap_pages.specs.Shown.{Shown, catalog, counts, img, pins, set_of}
use Rattle.revert_pass.specs.Gathers.{ShowsSame}
use Rattle.revert_pass.specs.Got.{Got, has, swapped, ungathered, LeavesRest}
use Rattle.step_words.specs.declared.point.Point.TheVariants.{Gather, Swap, Say}
use Rattle.step_words.specs.Sittings.{stmt_at}
use Rattle.step_words.specs.Seats.{Seated, Gathered, with_seat}
use Rattle.step_state.specs.State.{State, IsSession, seat, machine}
use Rattle.step_state.specs.Moving.{MovesSeat, SaysTurned}
use Rattle.safe_say.specs.Answering.{Answers}

-- the only snapshot stands at the first place
abbrev pub only : SnapNo
only = record { 0 = 0 }

-- the pages that a seat has gathered, with their images
abbrev pub got_of : Seated → Got
got_of x = map (λ (g : Gathered). (g.page, g.image)) x.gathered

-- no page that the snapshot has is left to gather
abbrev pub HasAll : Shown → Seated → Type 0
HasAll v x = (p : PageId) → is_there (counts v) p ≡ true → is_copied (set_of v only) p ≡ true → has (got_of x) p ≡ true

abbrev pub seat_gathered : Seated → PageId → List ℕ → Seated
seat_gathered x p image = record x { gathered = x.gathered ++ record { page = p; image = image } ∷ [] }

-- the first page of which the snapshot has a copy and the session none yet: the source's page is pinned, the copy is kept
pub record DoesGather (e s : State) (k : ℕ) : Type 0 where
  pub at : (seat e k).sitting.point ≡ Gather
  pub page : PageId
  pub there : is_there (counts e.pages) page ≡ true
  pub copied : is_copied (set_of e.pages only) page ≡ true
  pub lacks : has (got_of (seat e k)) page ≡ false
  pub image : List ℕ
  pub whole : IsPage image
  pub are : IsTrue (set_of e.pages only).files.tells → image ≡ sparse_page (set_of e.pages only) page
  pub same : ShowsSame only e.pages s.pages
  pub pinned : pins s.pages ≡ with_pin (pins e.pages) page
  pub moves : MovesSeat e s k (seat_gathered (seat e k) page image)
  pub latches : s.latches ≡ e.latches

-- a copy can't be read: the snapshot turns suspect, the gathered pages' pins are given back, and the refusal waits to be said
abbrev pub seat_ungathered : Seated → Seated
seat_ungathered x = record x { sitting = record x.sitting { point = Say; waiting = Some (Msg (plain REVERT_FAILED)) }; gathered = [] }

pub record DoesLoseGather (e s : State) (k : ℕ) : Type 0 where
  pub is : IsSession e k
  pub at : (seat e k).sitting.point ≡ Gather
  pub rose : Rose (faults (set_of e.pages only)) (faults (set_of s.pages only))
  pub cat : catalog s.pages ≡ with_state (catalog e.pages) only Suspect
  pub says : SaysTurned e s only
  pub tells : s.pages.pool.files.tells ≡ e.pages.pool.files.tells
  pub images : IsTrue e.pages.pool.files.tells → img s.pages ≡ img e.pages
  pub places : SamePlaces e.pages s.pages
  pub views : KeepsViews e.pages s.pages
  pub unpinned : pins s.pages ≡ ungathered (got_of (seat e k)) (pins e.pages)
  pub seats : s.seats ≡ with_seat e.seats k (seat_ungathered (seat e k))
  pub latches : s.latches ≡ e.latches

-- Once all are gathered the session swaps. That is the beginning of the swap, and no step of its own.
pub record DoesTurnToSwap (e s : State) (k : ℕ) : Type 0 where
  pub at : (seat e k).sitting.point ≡ Gather
  pub all : HasAll e.pages (seat e k)
  pub moves : MovesSeat e s k (record (seat e k) { sitting = record (seat e k).sitting { point = Swap } })
  pub pages : s.pages ≡ e.pages
  pub latches : s.latches ≡ e.latches

-- the copies are the source's pages now, the pins of the gathered pages go, and the statement is answered
pub record DoesSwap (e s : State) (k : ℕ) : Type 0 where
  pub at : (seat e k).sitting.point ≡ Swap
  pub all : HasAll e.pages (seat e k)
  pub source : List ℕ
  pub snap : List ℕ
  pub has_stmt : stmt_at (seat e k).sitting ≡ Some (Restore source snap)
  pub reverts : (machine e).restoring ≡ Some (k, snap)
  pub images : img s.pages ≡ swapped (got_of (seat e k)) (img e.pages)
  pub unpinned : pins s.pages ≡ ungathered (got_of (seat e k)) (pins e.pages)
  pub rest : LeavesRest e.pages s.pages
  pub answers : Answers e s k (record (seat e k) { gathered = [] }) (Some (Restore source snap)) Ok
  pub latches : s.latches ≡ e.latches
