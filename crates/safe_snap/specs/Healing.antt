-- The step that takes one record back from the snapshot in its making.
use Rattle.std.specs.Prelude.{ℕ, ◌≡◌, ◌≢◌, true, List, Some, None, ◌++◌, ◌∷◌, []}
use Rattle.latch_book.specs.declared.latch.LatchMode.TheVariants.{Ex}
use Rattle.latch_book.specs.Latches.{without_latch}
use Rattle.rec_log.specs.Records.{Record}
use Rattle.page_base.specs.declared.numbers.SnapNo.{SnapNo}
use Rattle.sparse_set.specs.Sparse.{is_copied}
use Rattle.snap_cat.specs.declared.snapshot.SnapState.TheVariants.{Suspect}
use Rattle.snap_pages.specs.Cuts.{place_of}
use Rattle.snap_pages.specs.Shown.{state_of, set_of, owes_of}
use Rattle.undo_pass.specs.Heals.{IsHealed}
use Rattle.step_words.specs.declared.point.Point.TheVariants.{Heal}
use Rattle.step_words.specs.Seats.{Seated, Free, Latched, with_seat}
use Rattle.step_state.specs.State.{State, IsSession, sess, seat}
use Rattle.step_state.specs.Moving.{MovesSeat, TurnsSuspect, SaysTurned}
use Rattle.safe_snap.specs.Cutting.{point_after}

abbrev pub seat_healed : Seated → List Record → Seated
seat_healed x left = record x { sitting = record x.sitting { point = point_after left }; hold = Free }

-- the snapshot that it makes is sound, has the page of the last record that it owes, and then owes one less
pub record DoesHeal (e s : State) (k : ℕ) : Type 0 where
  pub at : (seat e k).sitting.point ≡ Heal
  pub unmarked : (seat e k).copied ≡ None
  pub cut : ℕ
  pub making : (seat e k).making ≡ Some cut
  pub place : SnapNo
  pub its : place_of e.pages cut ≡ Some place
  pub sound : state_of e.pages place ≢ Suspect
  pub healed : IsHealed place e.pages s.pages
  pub hold : (seat e k).hold ≡ Latched healed.drops.last.page Ex
  pub has : is_copied (set_of e.pages place) healed.drops.last.page ≡ true
  pub moves : MovesSeat e s k (seat_healed (seat e k) healed.drops.front)
  pub latches : s.latches ≡ without_latch e.latches (sess k)

-- the read or the write fails: the snapshot turns suspect, and the latch is given back
pub record DoesLoseHeal (e s : State) (k : ℕ) : Type 0 where
  pub is : IsSession e k
  pub at : (seat e k).sitting.point ≡ Heal
  pub unmarked : (seat e k).copied ≡ None
  pub cut : ℕ
  pub making : (seat e k).making ≡ Some cut
  pub place : SnapNo
  pub its : place_of e.pages cut ≡ Some place
  -- it holds the page of the last record that the snapshot owes
  pub front : List Record
  pub last : Record
  pub owes : owes_of e.pages place ≡ front ++ last ∷ []
  pub hold : (seat e k).hold ≡ Latched last.page Ex
  pub turns : TurnsSuspect e.pages s.pages place
  pub says : SaysTurned e s place
  pub seats : s.seats ≡ with_seat e.seats k (record (seat e k) { hold = Free })
  pub latches : s.latches ≡ without_latch e.latches (sess k)
