-- The step that looks where a page of a snapshot is.
use Rattle.std.specs.Prelude.{ℕ, ◌≡◌, Bool, Some}
use Rattle.page_base.specs.declared.numbers.PageId.{PageId}
use Rattle.snap_pages.specs.Cuts.{marked_by}
use Rattle.step_words.specs.declared.point.Point.TheVariants.{Look, Fetch}
use Rattle.step_words.specs.Seats.{Seated}
use Rattle.step_state.specs.State.{State, seat}
use Rattle.step_state.specs.Moving.{MovesSeat}

-- it remembers whether the snapshot's map has the page, and brings it in from there
abbrev pub seat_looked : Seated → PageId → Bool → Seated
seat_looked x p found = record x { sitting = record x.sitting { point = Fetch p; found = found } }

pub record DoesLook (e s : State) (k : ℕ) : Type 0 where
  pub page : PageId
  pub at : (seat e k).sitting.point ≡ Look page
  pub cut : ℕ
  pub within : (seat e k).sitting.within ≡ Some cut
  pub moves : MovesSeat e s k (seat_looked (seat e k) page (marked_by e.pages cut page))
  pub pages : s.pages ≡ e.pages
  pub latches : s.latches ≡ e.latches
