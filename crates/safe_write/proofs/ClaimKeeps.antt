-- A claim leaves to others what it owes them, and shows the rest.
use Rattle.std.proofs.Common.{◌≡◌, ℕ, ◌+◌, false, cond, [], ◌∷◌, ◌++◌, refl, ap, arith, inl, inr, true}
use Rattle.std.specs.Prelude.{Some}
use Rattle.page_base.specs.declared.numbers.PageId.{PageId}
use Rattle.page_base.specs.Pages.{is_page}
use Rattle.latch_book.specs.Latches.{latch_of}
use Rattle.rec_log.specs.Records.{Record}
use Rattle.snap_pages.specs.Owed.{count_on}
use Rattle.snap_pages.proofs.PinLemmas.{count_on_push}
use Rattle.snap_pages.specs.Shown.{counts, pins}
use Rattle.alloc_pages.specs.Spots.{spot_of}
use Rattle.page_tables.specs.Writes.{claim}
use Rattle.step_words.specs.Seats.{Seated}
use Rattle.step_state.specs.State.{State, sess, seat, slots_at}
use Rattle.step_state.specs.Holding.{lock_at}
use Rattle.step_state.specs.Snapshots.{page_read}
use Rattle.step_state.specs.Posed.{is_making, IsRecordOf}
use Rattle.step_state.specs.Own.{IsSafeSession, is_between, is_gone}
use Rattle.step_state.specs.Whole.{grip_pin, gathered_on, seat_pins}
use Rattle.step_state.specs.Safe.{Safe}
use Rattle.step_state.specs.Steps.{Steps, Quietly}
use Rattle.safe_write.specs.Setting.{record_of}
use Rattle.safe_write.specs.Claiming.{seat_then, DoesClaim}
use Rattle.safe_write.proofs.ClaimSeat.{at_then, seated_then}
use Rattle.safe_write.proofs.ClaimTold.{lock_there, own_told, others, settled_now}
use Rattle.safe_write.proofs.SetWhole.{guards, whole_kept, beside_now, in_step_now, session_now}
use Rattle.safe_write.proofs.SetTold.{whole_told}

module _ (e s : State) (k : ℕ) (safe : Safe e) (d : DoesClaim e s k) where
  abbrev its_record : Record
  its_record = record_of (slots_at e) (claim d.number d.target)

  abbrev y : Seated
  y = seat_then (seat e k) d.course d.numbers d.target its_record

  me : IsSafeSession e k
  me = safe.sessions k d.sets.is

  record_is : IsRecordOf its_record (claim d.number d.target)
  record_is = record { page = refl; slot = refl; after = refl }

  pins_kept : (p : PageId) → pins s.pages p + seat_pins (seat e k) p ≡ pins e.pages p + seat_pins y p
  pins_kept p =
      let same : pins s.pages p ≡ pins e.pages p = λ i. d.holds.pinned i p in
      let before : seat_pins (seat e k) p ≡ cond (is_page d.page p) 1 0 + (gathered_on (seat e k).gathered p + count_on (seat e k).work.recs p) = ap (λ h. grip_pin h p + (gathered_on (seat e k).gathered p + count_on (seat e k).work.recs p)) d.hold in
      let more : count_on ((seat e k).work.recs ++ record_of (slots_at e) (claim d.number d.target) ∷ []) p ≡ count_on (seat e k).work.recs p + cond {A = ℕ} (is_page (spot_of d.target).page p) 1 0 = count_on_push (seat e k).work.recs (record_of (slots_at e) (claim d.number d.target)) p in
      let its : cond {A = ℕ} (is_page (spot_of d.target).page p) 1 0 ≡ cond {A = ℕ} (is_page d.page p) 1 0 = ap (λ (q : PageId). cond {A = ℕ} (is_page q p) 1 0) d.on in
      (let all : pins s.pages p + seat_pins (seat e k) p ≡ pins e.pages p + (0 + (gathered_on (seat e k).gathered p + count_on ((seat e k).work.recs ++ record_of (slots_at e) (claim d.number d.target) ∷ []) p)) = omega (arith, same, before, more, its) in all)

  unread : (p : PageId) → page_read y.sitting.point ≡ Some p → ⊥
  unread p = at_then (counts e.pages) (seat e k) (latch_of e.latches (sess k)) (lock_at e k) me.seated d.number d.at d.course d.has d.numbers d.next d.target d.may_be_named d.there its_record record_is d.sets.unmarked (λ t. page_read t ≡ Some p → ⊥) (λ q. cc) (λ q. cc) (λ f later none is q. cc) (λ n ns is q. cc)

  own_kept : IsSafeSession s k
  own_kept = session_now e s k d.page y safe d.sets (lock_there e s k safe d)
      (seated_then (counts e.pages) (seat e k) (latch_of e.latches (sess k)) (lock_at e k) me.seated d.number d.at d.course d.has d.numbers d.next d.target d.may_be_named d.there its_record record_is d.sets.unmarked (lock_there e s k safe d))
      me.placed
      refl
      (beside_now e s k d.page y safe d.sets unread refl (me.seated.posed.makes (ap is_making d.at)) refl refl refl)
      (in_step_now e s k d.page y safe d.sets refl refl refl refl refl refl (ap is_gone d.at) (at_then (counts e.pages) (seat e k) (latch_of e.latches (sess k)) (lock_at e k) me.seated d.number d.at d.course d.has d.numbers d.next d.target d.may_be_named d.there its_record record_is d.sets.unmarked (λ t. is_gone t ≡ false) refl refl (λ f later none is. refl) (λ n ns is. refl)) (ap is_between d.at)
      (λ t. elim t [ inl b ↦ absurd (at_then (counts e.pages) (seat e k) (latch_of e.latches (sess k)) (lock_at e k) me.seated d.number d.at d.course d.has d.numbers d.next d.target d.may_be_named d.there its_record record_is d.sets.unmarked (λ t. is_between t ≡ true → ⊥) (λ q. cc) (λ q. cc) (λ f later none is q. cc) (λ n ns is q. cc) b) | inr none ↦ none ]))

  pub claim_keeps : Steps e s k
  claim_keeps = record {
    guards = guards e s k d.page y safe d.sets;
    own = λ is. own_kept;
    whole = whole_kept e s k d.page y safe d.sets refl refl refl pins_kept;
    content = λ told ds content. (ds, whole_told e s k d.page y safe d.sets ds content (settled_now e s k safe d ds content) refl, (λ is. own_told e s k safe d ds content), Quietly refl (others e s k safe d ds content));
  }
