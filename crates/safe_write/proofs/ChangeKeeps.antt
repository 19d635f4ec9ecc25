-- A change leaves to others what it owes them, and shows the rest.
use Rattle.std.proofs.Common.{◌≡◌, ◌≢◌, ℕ, ◌+◌, true, false, cond, [], ◌∷◌, ◌++◌, refl, ap, sym, ◌∙◌, inr, arith, inl}
use Rattle.std.specs.Prelude.{Some, None}
use Rattle.page_base.specs.declared.numbers.PageId.{PageId}
use Rattle.page_base.specs.Pages.{is_page}
use Rattle.latch_book.specs.Latches.{latch_of}
use Rattle.snap_pages.specs.Owed.{count_on}
use Rattle.snap_pages.proofs.PinLemmas.{count_on_push}
use Rattle.snap_pages.specs.Shown.{counts, pins}
use Rattle.plain_steps.specs.Modes.{suffices}
use Rattle.plain_steps.specs.Phases.{first_mode}
use Rattle.step_words.specs.declared.stage.Stage.TheVariants.{Edit as Editing}
use Rattle.step_words.specs.Courses.{is_past_all}
use Rattle.step_words.specs.Seats.{Seated}
use Rattle.step_state.specs.State.{State, sess, seat, slots_at}
use Rattle.step_state.specs.Holding.{lock_at}
use Rattle.step_state.specs.Snapshots.{page_read}
use Rattle.step_state.specs.Posed.{is_making}
use Rattle.step_state.specs.Own.{IsSafeSession, is_between, is_gone}
use Rattle.step_state.specs.Whole.{grip_pin, gathered_on, seat_pins}
use Rattle.step_state.specs.Safe.{Safe}
use Rattle.step_state.specs.Steps.{Steps, Quietly}
use Rattle.safe_write.specs.Setting.{record_of}
use Rattle.safe_write.specs.Changing.{next_write, seat_after, DoesChange}
use Rattle.safe_write.proofs.ChangeSeat.{seated_after, by_point, editing}
use Rattle.safe_write.proofs.SetWhole.{guards, whole_kept, beside_now, in_step_now, session_now}
use Rattle.safe_write.proofs.SetTold.{whole_told}
use Rattle.safe_write.proofs.ChangeTold.{own_told, others, settled_now}

module _ (e s : State) (k : ℕ) (safe : Safe e) (d : DoesChange e s k) where
  abbrev y : Seated
  y = seat_after (seat e k) d.course d.drafts (record_of (slots_at e) (next_write d.course d.draft))

  me : IsSafeSession e k
  me = safe.sessions k d.sets.is

  at_editing : d.course.stage ≡ Editing
  at_editing = editing (counts e.pages) (seat e k) (latch_of e.latches (sess k)) (lock_at e k) me.seated d.page d.at d.course d.has d.draft d.drafts d.next (record_of (slots_at e) (next_write d.course d.draft)) d.sets.unmarked

  lock_there : lock_at e k 0 ≢ None
  lock_there none =
      let past : is_past_all d.course.stage ≡ true = ap is_past_all at_editing in
      let enough = (me.seated.holding d.course d.has (me.seated.writing d.course d.has (inr at_editing))).all past in
      (let wrong : false ≡ true = ap (λ o. suffices o (first_mode d.course.stmt)) (sym none) ∙ enough in cc)

  pins_kept : (p : PageId) → pins s.pages p + seat_pins (seat e k) p ≡ pins e.pages p + seat_pins y p
  pins_kept p =
      let same : pins s.pages p ≡ pins e.pages p = λ i. d.holds.pinned i p in
      let before : seat_pins (seat e k) p ≡ cond (is_page d.page p) 1 0 + (gathered_on (seat e k).gathered p + count_on (seat e k).work.recs p) = ap (λ h. grip_pin h p + (gathered_on (seat e k).gathered p + count_on (seat e k).work.recs p)) d.hold in
      let more : count_on ((seat e k).work.recs ++ record_of (slots_at e) (next_write d.course d.draft) ∷ []) p ≡ count_on (seat e k).work.recs p + cond {A = ℕ} (is_page (next_write d.course d.draft).page p) 1 0 = count_on_push (seat e k).work.recs (record_of (slots_at e) (next_write d.course d.draft)) p in
      let its : cond {A = ℕ} (is_page (next_write d.course d.draft).page p) 1 0 ≡ cond {A = ℕ} (is_page d.page p) 1 0 = ap (λ (q : PageId). cond {A = ℕ} (is_page q p) 1 0) d.on in
      (let all : pins s.pages p + seat_pins (seat e k) p ≡ pins e.pages p + (0 + (gathered_on (seat e k).gathered p + count_on ((seat e k).work.recs ++ record_of (slots_at e) (next_write d.course d.draft) ∷ []) p)) = omega (arith, same, before, more, its) in all)

  unread : (p : PageId) → page_read y.sitting.point ≡ Some p → ⊥
  unread p = by_point (λ t. page_read t ≡ Some p → ⊥) (seat e k).sitting d.course d.drafts (λ q. cc) (λ q. cc) (λ f later is q. cc)

  own_kept : IsSafeSession s k
  own_kept = session_now e s k d.page y safe d.sets lock_there
      (seated_after (counts e.pages) (seat e k) (latch_of e.latches (sess k)) (lock_at e k) me.seated d.page d.at d.course d.has d.draft d.drafts d.next (record_of (slots_at e) (next_write d.course d.draft)) d.sets.unmarked lock_there)
      me.placed
      refl
      (beside_now e s k d.page y safe d.sets unread refl (me.seated.posed.makes (ap is_making d.at)) refl refl refl)
      (in_step_now e s k d.page y safe d.sets refl refl refl refl refl refl (ap is_gone d.at) (by_point (λ t. is_gone t ≡ false) (seat e k).sitting d.course d.drafts refl refl (λ f later is. refl)) (ap is_between d.at)
      (λ t. elim t [ inl b ↦ absurd (by_point (λ t. is_between t ≡ true → ⊥) (seat e k).sitting d.course d.drafts (λ q. cc) (λ q. cc) (λ f later is q. cc) b) | inr none ↦ none ]))

  pub change_keeps : Steps e s k
  change_keeps = record {
    guards = guards e s k d.page y safe d.sets;
    own = λ is. own_kept;
    whole = whole_kept e s k d.page y safe d.sets refl refl refl pins_kept;
    content = λ told ds content. (ds, whole_told e s k d.page y safe d.sets ds content (settled_now e s k safe d ds content) refl, (λ is. own_told e s k safe d ds content), Quietly refl (others e s k safe d ds content));
  }
