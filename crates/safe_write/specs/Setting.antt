-- What steps have in common that write one slot of a page: the page changes, the session gives back its latch and goes on.
use Rattle.std.specs.Prelude.{ℕ, ◌≡◌, None}
use Rattle.page_base.specs.declared.numbers.PageId.{PageId}
use Rattle.page_base.specs.Pages.{set_at}
use Rattle.page_base.specs.Slots.{Slots}
use Rattle.page_fmt.specs.Content.{IsPage}
use Rattle.latch_book.specs.Latches.{without_latch}
use Rattle.rec_log.specs.Records.{Record}
use Rattle.snap_pages.specs.Dues.{IsPushed}
use Rattle.snap_pages.specs.Shown.{img}
use Rattle.snap_pages.specs.Steps.{SameSnaps, SamePlaces}
use Rattle.snap_pages.specs.Views.{KeepsViews}
use Rattle.page_tables.specs.Writes.{Write}
use Rattle.step_words.specs.Seats.{Seated, with_seat}
use Rattle.step_state.specs.State.{State, IsSession, sess, seat}
use Rattle.step_state.specs.Snapshots.{HoldsEx}

-- the record of a write
abbrev pub record_of : Slots → Write → Record
record_of s w = record { page = w.page; slot = w.slot; before = s w.page w.slot; after = w.bytes }

-- session k changes this page, of which it holds the latch in EX, and then has this seat
pub record SetsPage (e s : State) (k : ℕ) (page : PageId) (x : Seated) : Type 0 where
  pub is : IsSession e k
  pub held : HoldsEx (seat e k) page
  -- no copy waits for its mark, and every sound snapshot has the page
  pub unmarked : (seat e k).copied ≡ None
  pub pushed : IsPushed e.pages page
  -- no other page changes, and no view of a snapshot
  pub image : img s.pages ≡ set_at (img e.pages) page (img s.pages page)
  pub whole : IsPage (img s.pages page)
  pub files : s.pages.pool.files ≡ e.pages.pool.files
  pub snaps : SameSnaps e.pages s.pages
  pub places : SamePlaces e.pages s.pages
  pub views : KeepsViews e.pages s.pages
  pub seats : s.seats ≡ with_seat e.seats k x
  pub latches : s.latches ≡ without_latch e.latches (sess k)
  pub locks : s.locks ≡ e.locks
  pub events : s.events ≡ e.events
  pub fixed : s.fixed ≡ e.fixed
