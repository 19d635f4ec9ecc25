-- A record taken back leaves to others what it owes them, and shows the rest.
use Rattle.std.proofs.Common.{◌≡◌, ℕ, ◌+◌, ◌-◌, ◌≤◌, Bool, true, false, cond, List, refl, ap, ◌∙◌, arith, inl, inr}
use Rattle.std.specs.Prelude.{Some, None}
use Rattle.page_base.specs.declared.numbers.PageId.{PageId}
use Rattle.page_base.specs.Pages.{is_page}
use Rattle.latch_book.specs.Latches.{latch_of}
use Rattle.rec_log.specs.Records.{Record}
use Rattle.snap_pages.specs.Owed.{count_on}
use Rattle.snap_pages.proofs.PinLemmas.{count_on_push}
use Rattle.snap_pages.specs.Shown.{counts, pins}
use Rattle.step_words.specs.Sittings.{stmt_at}
use Rattle.step_words.specs.Seats.{Seated, no_seat}
use Rattle.step_state.specs.State.{State, sess, seat}
use Rattle.step_state.specs.Holding.{lock_at}
use Rattle.step_state.specs.Snapshots.{page_read}
use Rattle.step_state.specs.Posed.{is_making}
use Rattle.step_state.specs.Own.{IsSafeSession, is_between, is_gone}
use Rattle.step_state.specs.Whole.{grip_pin, gathered_on, seat_pins, due_pins}
use Rattle.step_state.specs.Safe.{Safe}
use Rattle.step_state.specs.Steps.{Steps, Quietly}
use Rattle.step_state.proofs.SeatLemmas.{seat_pins_moved}
use Rattle.safe_write.specs.Backing.{seat_back, DoesBack}
use Rattle.safe_write.proofs.BackSeat.{by_back, seated_back}
use Rattle.safe_write.proofs.BackTold.{lock_there, own_told, others, settled_now}
use Rattle.safe_write.proofs.SetWhole.{guards, whole_kept, beside_now, in_step_now, session_now}
use Rattle.safe_write.proofs.SetTold.{whole_told}

module _ (e s : State) (k : ℕ) (safe : Safe e) (d : DoesBack e s k) where
  abbrev y : Seated
  y = seat_back d.all (seat e k) d.records

  me : IsSafeSession e k
  me = safe.sessions k d.sets.is

  less : (b : Bool) (n m : ℕ) → (cond b 1 0 ≤ n) → cond b (n - 1) n + (m + cond b 1 0) ≡ n + m
  less true n m le = omega (arith, le)
  less false n m le = omega arith

  pins_kept : (p : PageId) → pins s.pages p + seat_pins (seat e k) p ≡ pins e.pages p + seat_pins y p
  pins_kept p =
      let gone : pins s.pages p ≡ cond (is_page d.last.page p) (pins e.pages p - 1) (pins e.pages p) = λ i. d.back.pinned i p in
      let were : count_on (seat e k).work.recs p ≡ count_on d.records p + cond (is_page d.last.page p) 1 0 = ap (λ (rs : List Record). count_on rs p) d.were ∙ count_on_push d.records d.last p in
      let before : seat_pins (seat e k) p ≡ 0 + (gathered_on (seat e k).gathered p + count_on (seat e k).work.recs p) = ap (λ h. grip_pin h p + (gathered_on (seat e k).gathered p + count_on (seat e k).work.recs p)) d.hold in
      let among = seat_pins_moved e.seats k no_seat p d.sets.is.first d.sets.is.last in
      let due : pins e.pages p ≡ due_pins e p = safe.whole.pinned p in
      let enough : cond (is_page d.last.page p) 1 0 ≤ pins e.pages p = omega (arith, among, due, before, were) in
      let one = less (is_page d.last.page p) (pins e.pages p) (gathered_on (seat e k).gathered p + count_on d.records p) enough in
      (let all : pins s.pages p + seat_pins (seat e k) p ≡ pins e.pages p + (0 + (gathered_on (seat e k).gathered p + count_on d.records p)) = omega (arith, gone, were, before, one) in all)

  unread : (p : PageId) → page_read y.sitting.point ≡ Some p → ⊥
  unread p = by_back (counts e.pages) (seat e k) (latch_of e.latches (sess k)) (lock_at e k) me.seated d.all d.at d.last d.records d.were d.sets.unmarked (λ t. page_read t ≡ Some p → ⊥) (λ ne q. cc) (λ same none q. cc) (λ stmt same is q. cc)

  own_kept : IsSafeSession s k
  own_kept = session_now e s k d.last.page y safe d.sets (lock_there e s k safe d)
      (seated_back (counts e.pages) (seat e k) (latch_of e.latches (sess k)) (lock_at e k) me.seated d.all d.at d.last d.records d.were d.sets.unmarked (lock_there e s k safe d))
      me.placed
      refl
      (beside_now e s k d.last.page y safe d.sets unread refl (me.seated.posed.makes (ap is_making d.at)) refl refl refl)
      (in_step_now e s k d.last.page y safe d.sets refl refl refl refl refl refl (ap is_gone d.at)
      (by_back (counts e.pages) (seat e k) (latch_of e.latches (sess k)) (lock_at e k) me.seated d.all d.at d.last d.records d.were d.sets.unmarked (λ t. is_gone t ≡ false) (λ ne. refl) (λ same none. refl) (λ stmt same is. refl))
      (ap is_between d.at)
      (λ t. elim t [ inl q ↦ by_back (counts e.pages) (seat e k) (latch_of e.latches (sess k)) (lock_at e k) me.seated d.all d.at d.last d.records d.were d.sets.unmarked (λ t. is_between t ≡ true → stmt_at (seat e k).sitting ≡ None) (λ ne q. cc) (λ same none q. none) (λ stmt same is q. cc) q | inr none ↦ none ]))

  pub back_keeps : Steps e s k
  back_keeps = record {
    guards = guards e s k d.last.page y safe d.sets;
    own = λ is. own_kept;
    whole = whole_kept e s k d.last.page y safe d.sets refl refl refl pins_kept;
    content = λ told ds content. (ds, whole_told e s k d.last.page y safe d.sets ds content (settled_now e s k safe d ds content) refl, (λ is. own_told e s k safe d ds content), Quietly refl (others e s k safe d ds content));
  }
