-- An allocation page that is passed leaves to others what it owes them, and shows the rest.
use Rattle.std.proofs.Common.{◌≡◌, ℕ, ◌+◌, ◌-◌, cond, List, refl, ap, sym, subst, ◌∙◌, inl, inr, arith, map}
use Rattle.std.specs.Prelude.{Some, None}
use Rattle.std.specs.Option.{option_map_or}
use Rattle.page_base.specs.Pages.{blank}
use Rattle.snap_cat.specs.Catalog.{Snap as SnapEntry, Catalog}
use Rattle.std.proofs.lemmas.Bool.{cases_Bool}
use Rattle.page_base.specs.declared.numbers.PageId.{PageId}
use Rattle.page_base.specs.Pages.{is_page}
use Rattle.latch_book.specs.declared.latch.LatchMode.TheVariants.{Ex}
use Rattle.latch_book.specs.Latches.{Latches, latch_of, without_latch, IsLatchBook}
use Rattle.latch_book.specs.Latches as latch
use Rattle.latch_book.proofs.LatchLemmas.{latch_of-without_latch, latch_of-without_latch_same, IsLatchBook-without_latch}
use Rattle.page_base.specs.declared.numbers.SessNo.{SessNo}
use Rattle.page_dev.specs.Files.{Files}
use Rattle.plain_model.specs.State.{session, see}
use Rattle.sparse_set.specs.Sparse.{Sparse, is_copied, sparse_page}
use Rattle.snap_pages.specs.Owed.{count_on}
use Rattle.snap_pages.specs.Cuts.{marked_by, sparse_by}
use Rattle.snap_pages.specs.Shown.{counts, pins}
use Rattle.sys_cat.specs.declared.desc.TableDesc.{TableDesc}
use Rattle.step_words.specs.Seats.{Seated, Grip, Free, Fetched}
use Rattle.step_state.specs.State.{State, sess, seat, machine, alone_of, before_of}
use Rattle.step_state.specs.Holding.{lock_at}
use Rattle.step_state.specs.Posed.{FitsGrip, IsPosed}
use Rattle.step_state.specs.Own.{IsSeated, IsInStep, IsSafeSession}
use Rattle.step_state.specs.Snapshots.{IsBeside}
use Rattle.step_state.specs.Whole.{grip_pin, gathered_on, seat_pins, snap_told}
use Rattle.step_state.specs.Told.{IsToldSource, IsToldReading}
use Rattle.step_state.specs.Safe.{Safe, IsContent}
use Rattle.step_state.specs.Steps.{Steps}
use Rattle.step_state.specs.Moving.{StaysShown}
use Rattle.step_state.proofs.MoveLemmas.{stays_same, beside_stays, on_moved, source_moved, seat_moves}
use Rattle.step_state.proofs.ApartLemmas.{marked_on, seat_pins_in}
use Rattle.step_state.proofs.SnapLemmas.{sets_stay, snaps_stay}
use Rattle.safe_visit.specs.Passing.{seat_passed, DoesPass}

module _ (e s : State) (k : ℕ) (safe : Safe e) (d : DoesPass e s k) where
  abbrev y : Seated
  y = seat_passed (seat e k)

  me : IsSafeSession e k
  me = safe.sessions k d.moves.is

  abbrev files_e : List ℕ
  files_e = counts e.pages

  stays : StaysShown e.pages s.pages
  stays = stays_same e.pages s.pages (ap (λ (f : Files). f.tells) d.shown.files) (λ told. d.shown.images) d.snaps d.places d.views

  is_latcher : latch.IsSession (sess k)
  is_latcher = record { first = d.moves.is.first; last = omega (arith, d.moves.is.last, safe.whole.few) }

  none_copied : (c : ℕ) → (seat e k).copied ≡ Some c → ⊥
  none_copied c at = (let wrong : None ≡ Some c = sym d.unmarked ∙ at in cc)

  latch_gone : latch_of s.latches (sess k) ≡ None
  latch_gone = ap (λ ls. latch_of ls (sess k)) d.latches ∙ latch_of-without_latch_same e.latches (sess k) safe.whole.latches is_latcher

  posed_now : IsPosed files_e y
  posed_now = record {
    grip = subst (λ t. FitsGrip t (seat e k).sitting.found Free) (sym d.at) tt;
    course = λ c at. on_moved files_e (seat e k) y c refl refl refl refl (me.seated.posed.course c at);
    changes = me.seated.posed.changes;
    commits = me.seated.posed.commits;
    off_course = me.seated.posed.off_course;
    based = me.seated.posed.based;
    idle = me.seated.posed.idle;
    started = me.seated.posed.started;
    without = me.seated.posed.without;
    claims = me.seated.posed.claims;
    claiming = me.seated.posed.claiming;
    undoes = λ all at. let old = me.seated.posed.undoes all at in record { some = old.some; whole = old.whole; ends = old.ends };
    says = me.seated.posed.says;
    makes = me.seated.posed.makes;
    unlatched = λ some. absurd (some d.unmarked);
  }

  seated_now : IsSeated files_e y None (lock_at e k)
  seated_now = record {
    latched = refl;
    posed = posed_now;
    there = me.seated.there;
    rooted = me.seated.rooted;
    nowhere = me.seated.nowhere;
    holding = me.seated.holding;
    writing = me.seated.writing;
    committing = me.seated.committing;
  }

  beside_before : IsBeside e.pages y
  beside_before = record {
    reads = me.beside.reads;
    marks = λ c p copied ex sound. absurd (none_copied c copied);
    copies = λ c p copied ex kept. absurd (none_copied c copied);
    paid = me.beside.paid;
    copied = me.beside.copied;
    made = me.beside.made;
    named = me.beside.named;
  }

  map_same : (c : ℕ) (p : PageId) → marked_by s.pages c p ≡ marked_by e.pages c p
  map_same c p = marked_on e.pages s.pages d.places c p (λ n. ap (λ (t : Sparse). is_copied t p) (sets_stay e.pages s.pages d.snaps n))

  file_same : (c : ℕ) (p : PageId) → sparse_by s.pages c p ≡ sparse_by e.pages c p
  file_same c p = ap (λ o. option_map_or (λ (f : SnapEntry × Sparse). sparse_page f.1 p) o blank) (snaps_stay e.pages s.pages d.snaps c)

  in_step_now : IsInStep e.pages y (session (machine e) k) (machine e).moment
  in_step_now = record {
    said = me.in_step.said;
    current = me.in_step.current;
    depth = me.in_step.depth;
    level = me.in_step.level;
    idle = me.in_step.idle;
    making = me.in_step.making;
    gone = me.in_step.gone;
    rested = me.in_step.rested;
    begun = me.in_step.begun;
  }

  source_now : (ds : List TableDesc) → IsContent e ds → IsToldSource files_e ds y (lock_at e k) (session (machine e) k) (alone_of e k) (before_of e k) (see (machine e) k)
  source_now ds content = source_moved files_e ds (seat e k) y (lock_at e k) (session (machine e) k) (alone_of e k) (before_of e k) (see (machine e) k) refl refl refl refl (λ f. f) (content.1 k d.moves.is).source

  reading_now : (ds : List TableDesc) → IsContent e ds → IsToldReading e.pages (machine e) y
  reading_now ds content =
      let old = (content.1 k d.moves.is).reading in
      record { seen = old.seen; image = old.image; reply = old.reply }

  pinned_now : (p : PageId) → pins s.pages p + seat_pins (seat e k) p ≡ pins e.pages p + seat_pins y p
  pinned_now p =
      let now : pins s.pages p ≡ cond (is_page d.page p) (pins e.pages p - 1) (pins e.pages p) = λ i. d.unpinned i p in
      let held : seat_pins (seat e k) p ≡ cond (is_page d.page p) 1 0 + (gathered_on (seat e k).gathered p + count_on (seat e k).work.recs p) = ap (λ (h : Grip). grip_pin h p + (gathered_on (seat e k).gathered p + count_on (seat e k).work.recs p)) d.hold in
      let at_most = seat_pins_in e k safe.whole d.moves.is p in
      elim (cases_Bool (is_page d.page p)) [
        | inl t ↦ (let a = now ∙ ap (λ b. cond b (pins e.pages p - 1) (pins e.pages p)) t in let b = held ∙ ap (λ b. cond b 1 0 + (gathered_on (seat e k).gathered p + count_on (seat e k).work.recs p)) t in let c : seat_pins y p ≡ 0 + (gathered_on (seat e k).gathered p + count_on (seat e k).work.recs p) = refl in omega (arith, a, b, c, at_most))
        | inr f ↦ (let a = now ∙ ap (λ b. cond b (pins e.pages p - 1) (pins e.pages p)) f in let b = held ∙ ap (λ b. cond b 1 0 + (gathered_on (seat e k).gathered p + count_on (seat e k).work.recs p)) f in let c : seat_pins y p ≡ 0 + (gathered_on (seat e k).gathered p + count_on (seat e k).work.recs p) = refl in omega (arith, a, b, c))
      ]

  pub pass_keeps : Steps e s k
  pass_keeps = seat_moves e s k y safe d.moves stays (ap (λ (c : Catalog). map snap_told c.snaps) d.snaps.cat) refl refl refl refl refl
      (record { reads = λ j c p is ne within at. map_same c p; marks = λ j c p is ne copied hold. map_same c p; sparse = λ j c p is ne copied hold kept. file_same c p })
      (λ j ne. ap (λ ls. latch_of ls (sess j)) d.latches ∙ latch_of-without_latch e.latches (sess k) (sess j) (λ same. ne (ap (λ (w : SessNo). w.0) same)))
      (subst IsLatchBook (sym d.latches) (IsLatchBook-without_latch e.latches (sess k) safe.whole.latches is_latcher))
      pinned_now
      (record {
        seated = subst (λ l. IsSeated files_e y l (lock_at e k)) (sym latch_gone) seated_now;
        beside = beside_stays e.pages s.pages stays y (λ c p within at. map_same c p) (λ c p copied hold. map_same c p) (λ c p copied hold kept. file_same c p) beside_before;
        placed = me.placed;
        script = refl;
        in_step = in_step_now;
        aside = λ who snap restores. (let old = me.aside who snap restores in absurd (let wrong : Fetched d.page Ex ≡ Free = sym d.hold ∙ old.latch in cc));
      })
      (λ ds content. (source_now ds content, reading_now ds content))
