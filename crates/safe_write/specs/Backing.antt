-- The step that takes a session's last record back.
use Rattle.std.specs.Prelude.{ℕ, ◌≡◌, ◌+◌, ◌==◌, if◌then◌else◌, Bool, true, List, [], ◌∷◌, ◌++◌, length, Option, Some, None}
use Rattle.latch_book.specs.declared.latch.LatchMode.TheVariants.{Ex}
use Rattle.plain_model.specs.declared.stmt.Stmt.{Stmt}
use Rattle.page_fmt.specs.Content.{IsPage}
use Rattle.rec_log.specs.Records.{Record, IsRecord}
use Rattle.snap_pages.specs.Shown.{counts, img}
use Rattle.page_tables.specs.Owners.{is_there}
use Rattle.undo_pass.specs.Backs.{TakesBack}
use Rattle.step_words.specs.declared.point.Point.{Point}
use Rattle.step_words.specs.declared.point.Point.TheVariants.{Undo, Say, Leave}
use Rattle.step_words.specs.Sittings.{stmt_at}
use Rattle.step_words.specs.Seats.{Seated, Free, Latched}
use Rattle.step_state.specs.State.{State, seat}
use Rattle.safe_write.specs.Setting.{SetsPage}

-- after the last record the session answers, or ends where it has no statement left
abbrev pub end_point : Option Stmt → Point
end_point None = Leave
end_point (Some stmt) = Say

abbrev pub point_back : Bool → Seated → List Record → Point
point_back all x records = if length records == x.base then end_point (stmt_at x.sitting) else Undo all

-- the record goes, and leaves room for another
abbrev pub seat_back : Bool → Seated → List Record → Seated
seat_back all x records = record x { sitting = record x.sitting { point = point_back all x records }; work = record { recs = records; spare = x.work.spare + 1 }; hold = Free }

pub record DoesBack (e s : State) (k : ℕ) : Type 0 where
  pub all : Bool
  pub at : (seat e k).sitting.point ≡ Undo all
  pub last : Record
  pub records : List Record
  pub were : (seat e k).work.recs ≡ records ++ last ∷ []
  pub hold : (seat e k).hold ≡ Latched last.page Ex
  -- its page is there, and a page of the format: it is in memory
  pub there : is_there (counts e.pages) last.page ≡ true
  pub page : IsPage (img e.pages last.page)
  pub limits : IsRecord last
  -- the record's slot has what stood there before, and its page a pin less
  pub sets : SetsPage e s k last.page (seat_back all (seat e k) records)
  pub back : TakesBack last e.pages s.pages
