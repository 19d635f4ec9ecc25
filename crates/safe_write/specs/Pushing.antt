-- The steps that push a page to a snapshot before it changes: a copy to its sparse file, and a mark in its map.
use Rattle.std.specs.Prelude.{ℕ, ◌≡◌, Bool, true, IsTrue, Option, Some, None}
use Rattle.page_base.specs.declared.numbers.PageId.{PageId}
use Rattle.page_base.specs.declared.numbers.SnapNo.{SnapNo}
use Rattle.page_base.specs.Pages.{with_page}
use Rattle.latch_book.specs.declared.latch.LatchMode.TheVariants.{Ex}
use Rattle.page_tables.specs.Owners.{is_there}
use Rattle.sparse_set.specs.Sparse.{is_copied, sparse_page, marked}
use Rattle.snap_pages.specs.Cuts.{place_of}
use Rattle.snap_pages.specs.Dues.{IsFirstDue}
use Rattle.snap_pages.specs.Shown.{Shown, counts, img, set_of, cut_of, IsOpen}
use Rattle.snap_pages.specs.Steps.{SamePlaces, ChangesSet}
use Rattle.snap_pages.specs.Views.{KeepsViews}
use Rattle.step_words.specs.declared.point.Point.TheVariants.{Change, Claim, Undo, Heal}
use Rattle.step_words.specs.Seats.{Seated, Latched, Fetched}
use Rattle.step_state.specs.State.{State, IsSession, seat}
use Rattle.step_state.specs.Moving.{MovesSeat, TurnsSuspect, SaysTurned}

-- who pushes a page holds its latch in EX: to change it, to claim on it, to set back what it changed, or to heal a copy of it
pub data Pushes (x : Seated) (p : PageId) : Type 0 where
  ToChange : x.sitting.point ≡ Change p → x.hold ≡ Fetched p Ex → Pushes x p
  ToClaim : (owner : ℕ) → x.sitting.point ≡ Claim owner → x.hold ≡ Fetched p Ex → Pushes x p
  ToUndo : (all : Bool) → x.sitting.point ≡ Undo all → x.hold ≡ Latched p Ex → Pushes x p
  ToHeal : x.sitting.point ≡ Heal → x.hold ≡ Latched p Ex → Pushes x p

-- a seat that is the same but for the copy that waits for its mark
abbrev pub seat_copied : Seated → Option ℕ → Seated
seat_copied x copied = record x { copied = copied }

-- the page is copied to the lowest snapshot to which it is due, which now waits for the mark
pub record DoesCopy (e s : State) (k : ℕ) : Type 0 where
  pub page : PageId
  pub pushes : Pushes (seat e k) page
  pub unmarked : (seat e k).copied ≡ None
  pub place : SnapNo
  pub opened : IsOpen e.pages place
  pub due : IsFirstDue e.pages page place
  -- of its sparse files this page alone may change, and has the page's image; no map changes
  pub only : ChangesSet place e.pages s.pages
  pub map : (set_of s.pages place).map ≡ (set_of e.pages place).map
  pub counts : (set_of s.pages place).files.counts ≡ (set_of e.pages place).files.counts
  pub written : IsTrue (set_of e.pages place).files.tells → (set_of s.pages place).files.content ≡ with_page (set_of e.pages place).files.content page (img e.pages page)
  pub copied : IsTrue (set_of s.pages place).files.tells → sparse_page (set_of s.pages place) page ≡ img s.pages page
  pub places : SamePlaces e.pages s.pages
  pub views : KeepsViews e.pages s.pages
  pub moves : MovesSeat e s k (seat_copied (seat e k) (Some (cut_of e.pages place)))
  pub latches : s.latches ≡ e.latches

-- the page is marked in the map of the snapshot of this cut, wherever it stands by now; where it is gone nothing is
pub data Marks (old new : Shown) (cut : ℕ) (p : PageId) : Type 0 where
  Marked : (n : SnapNo) → place_of old cut ≡ Some n → set_of new n ≡ marked (set_of old n) p → is_copied (set_of new n) p ≡ true → ChangesSet n old new → SamePlaces old new → KeepsViews old new → Marks old new cut p
  Gone : place_of old cut ≡ None → new ≡ old → Marks old new cut p

pub record DoesMark (e s : State) (k : ℕ) : Type 0 where
  pub page : PageId
  pub pushes : Pushes (seat e k) page
  pub there : is_there (counts e.pages) page ≡ true
  pub cut : ℕ
  pub copied : (seat e k).copied ≡ Some cut
  pub marks : Marks e.pages s.pages cut page
  pub moves : MovesSeat e s k (seat_copied (seat e k) None)
  pub latches : s.latches ≡ e.latches

-- the copy fails: the snapshot turns suspect, and no mark comes
pub record DoesLoseCopy (e s : State) (k : ℕ) : Type 0 where
  pub is : IsSession e k
  pub page : PageId
  pub pushes : Pushes (seat e k) page
  pub unmarked : (seat e k).copied ≡ None
  pub place : SnapNo
  pub due : IsFirstDue e.pages page place
  pub turns : TurnsSuspect e.pages s.pages place
  pub says : SaysTurned e s place
  pub seats : s.seats ≡ e.seats
  pub latches : s.latches ≡ e.latches
