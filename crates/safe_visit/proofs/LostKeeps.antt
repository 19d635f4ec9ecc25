-- A snapshot's copy that can't be read: it turns suspect, and leaves to others what it owes them.
use Rattle.std.proofs.Common.{◌≡◌, ℕ, Bool, true, false, List, refl, ap, sym, subst, ◌∙◌, inl, inr, arith, map, ◌≢◌, ◌+◌}
use Rattle.std.specs.Prelude.{Option, Some, None, ◌⊎◌}
use Rattle.snap_cat.specs.Catalog.{Catalog, snap_at}
use Rattle.page_base.specs.declared.numbers.PageId.{PageId}
use Rattle.latch_book.specs.declared.latch.LatchMode.TheVariants.{Sh, Ex}
use Rattle.latch_book.specs.Latches as latch
use Rattle.latch_book.specs.Latches.{Latches, latch_of, IsLatchBook}
use Rattle.plain_model.specs.State.{session, see}
use Rattle.sparse_set.specs.Sparse.{Sparse, is_copied, sparse_page}
use Rattle.snap_pages.specs.Cuts.{marked_by, sparse_by}
use Rattle.page_base.specs.Pages.{Pages, page_or}
use Rattle.buf_pool.specs.Pool.{Pooled, pins as pool_pins}
use Rattle.snap_pages.specs.Shown.{counts, pins, set_of, state_of}
use Rattle.sys_cat.specs.declared.desc.TableDesc.{TableDesc}
use Rattle.step_state.proofs.TurnLemmas.{stays_turned, moves_turned, turned_file, in_step_later}
use Rattle.latch_book.proofs.LatchLemmas.{some_latch, latch_of-without_latch, latch_of-without_latch_same, IsLatchBook-without_latch}
use Rattle.latch_book.specs.declared.latch.Latch.{Latch}
use Rattle.latch_book.specs.declared.latch.LatchMode.{LatchMode}
use Rattle.step_state.specs.Going.{page_visited}
use Rattle.plain_model.specs.declared.reply.Message.{Message}
use Rattle.plain_model.specs.declared.reply.Reply.{Reply}
use Rattle.plain_model.specs.declared.reply.Reply.TheVariants.{Ok, Count, Rows, Msg}
use Rattle.plain_model.specs.declared.reply.TheConstants.Message.{SUSPECT, NO_ROOM, LOG_FAILED}
use Rattle.plain_model.specs.Messages.{plain}
use Rattle.page_base.specs.declared.numbers.SessNo.{SessNo}
use Rattle.snap_pages.specs.Owed.{count_on}
use Rattle.step_words.specs.Courses.{is_planned}
use Rattle.step_words.specs.declared.stage.Stage.TheVariants.{AskAll, ScanZero, AskTable, Scan, Plan, Claim as Claiming, Edit as Editing, End}
use Rattle.step_words.specs.declared.stage.Stage.{Stage}
use Rattle.step_words.specs.Sittings.{stmt_at, undoes_all}
use Rattle.step_words.specs.Seats.{Seated, Free, Latched, latch_at, Grip}
use Rattle.step_state.specs.State.{State, sess, seat, machine, alone_of, before_of}
use Rattle.step_state.specs.Holding.{lock_at}
use Rattle.step_state.specs.Posed.{is_making, IsPosed}
use Rattle.step_state.specs.Own.{IsSeated, IsInStep, IsSafeSession, is_gone, is_between}
use Rattle.step_state.specs.Snapshots.{IsBeside, IsKeptBy, HoldsEx}
use Rattle.step_state.specs.Whole.{snap_told, grip_pin, gathered_on, seat_pins}
use Rattle.step_state.specs.Told.{IsToldSource, IsToldReading}
use Rattle.step_state.specs.Safe.{Safe, IsContent}
use Rattle.step_state.specs.Steps.{Steps}
use Rattle.step_state.specs.Moving.{StaysShown, MovesOn}
use Rattle.step_state.proofs.MoveLemmas.{beside_stays, still, moves_on}
use Rattle.step_state.proofs.ApartLemmas.{by_place_no, marked_on, sparse_at, stays_set}
use Rattle.safe_visit.specs.Fetching.{seat_lost, DoesLoseRead, Loses, Turns, Is}

not_both : (p q : PageId) → some_latch p Sh ≡ some_latch q Ex → ⊥
not_both p q same = (let wrong : Sh ≡ Ex = ap mode_of same in cc)
  where
    mode_of : Option Latch → LatchMode
    mode_of None = Sh
    mode_of (Some l) = l.mode

suspect_is_no_room : SUSPECT ≡ NO_ROOM → ⊥
suspect_is_no_room e = (let wrong : 926 ≡ 1105 = e in absurd (omega (arith, wrong)))

suspect_is_no_log : SUSPECT ≡ LOG_FAILED → ⊥
suspect_is_no_log e = (let wrong : 926 ≡ 60027 = e in absurd (omega (arith, wrong)))

module _ (e s : State) (k : ℕ) (safe : Safe e) (d : DoesLoseRead e s k) where
  abbrev y : Seated
  y = seat_lost (seat e k)

  me : IsSafeSession e k
  me = safe.sessions k d.is

  abbrev files_e : List ℕ
  files_e = counts e.pages

  -- WHAT IT LEAVES OF THE PAGES, SAID OR NOT

  record Lost : Type 0 where
    stays : StaysShown e.pages s.pages
    moves : MovesOn e s k y (lock_at e k) (session (machine e) k)
    maps : (c : ℕ) (p : PageId) → marked_by s.pages c p ≡ marked_by e.pages c p
    files : (c : ℕ) (p : PageId) → IsKeptBy s.pages c → sparse_by s.pages c p ≡ sparse_by e.pages c p
    pinned : (p : PageId) → pins s.pages p ≡ pins e.pages p

  lost : Lost
  lost = by d.loses
    where
      by : Loses e s d.place → Lost
      by (Turns sound turns says) = record {
        stays = stays_turned e.pages s.pages d.place turns;
        moves = moves_turned e s k d.place safe turns says y d.is d.seats;
        maps = λ c p. marked_on e.pages s.pages turns.places c p (λ n. by_place_no (λ m. is_copied (set_of s.pages m) p ≡ is_copied (set_of e.pages m) p) d.place n (ap (λ (m : Pages Bool). page_or m p false) turns.map) (λ ne. ap (λ (t : Sparse). is_copied t p) (turns.others n ne)));
        files = turned_file e.pages s.pages d.place turns;
        pinned = λ p. ap (λ (x : Pooled). pool_pins x p) turns.pool;
      }
      by (Is suspect only map_same same places views events locks fixed) = record {
        stays = stays_set e.pages s.pages d.place only places views same (λ p t. map_here p ∙ t) (λ p t f. absurd (let wrong : true ≡ false = sym t ∙ map_here p ∙ f in cc));
        moves = still e s k y safe (record { is = d.is; seats = d.seats; locks = locks; events = events; fixed = fixed }) (stays_set e.pages s.pages d.place only places views same (λ p t. map_here p ∙ t) (λ p t f. absurd (let wrong : true ≡ false = sym t ∙ map_here p ∙ f in cc))) (ap (λ (c : Catalog). map snap_told c.snaps) only.cat);
        maps = λ c p. marked_on e.pages s.pages places c p (λ n. by_place_no (λ m. is_copied (set_of s.pages m) p ≡ is_copied (set_of e.pages m) p) d.place n (map_here p) (λ ne. ap (λ (t : Sparse). is_copied t p) (only.others n ne)));
        files = λ c p kept. sparse_at s.pages c kept.0 kept.1 p ∙ ap (λ (x : Sparse). sparse_page x p) (only.others kept.0 (not_it c kept)) ∙ sym (sparse_at e.pages c kept.0 ((λ i. sym places.places i c) ∙ kept.1) p);
        pinned = λ p. ap (λ (x : Pooled). pool_pins x p) only.pool;
      }
        where
          map_here : (p : PageId) → is_copied (set_of s.pages d.place) p ≡ is_copied (set_of e.pages d.place) p
          map_here p = ap (λ (m : Pages Bool). page_or m p false) map_same

          not_it : (c : ℕ) (kept : IsKeptBy s.pages c) → kept.0 ≢ d.place
          not_it c kept same = kept.2.sound (ap (state_of s.pages) same ∙ ap (λ (c : Catalog). (snap_at c d.place).state) only.cat ∙ suspect)

  -- ITS OWN PART

  unplanned : (stage : Stage) → page_visited stage ≡ Some d.page → is_planned stage ≡ false
  unplanned AskAll e = refl
  unplanned (ScanZero q) e = refl
  unplanned AskTable e = refl
  unplanned (Scan q rows) e = refl
  unplanned Plan e = refl
  unplanned Claiming e = cc
  unplanned Editing e = cc
  unplanned End e = cc

  none_made : (seat e k).making ≡ None
  none_made = me.seated.posed.makes (ap is_making d.at)

  -- who reads copies nothing
  unmarked : (seat e k).copied ≡ None
  unmarked = by (seat e k).copied refl
    where
      by : (o : Option ℕ) → (seat e k).copied ≡ o → (seat e k).copied ≡ None
      by None at = at
      by (Some c) at = absurd (let old = me.seated.posed.unlatched (λ none. (let wrong : None ≡ Some c = sym none ∙ at in cc)) in not_both d.page old.0 (sym (ap latch_at d.hold) ∙ old.1))

  posed_now : IsPosed files_e y
  posed_now = record {
    grip = refl;
    course = λ c at. cc;
    changes = λ p at. cc;
    commits = λ at. cc;
    off_course = λ t. refl;
    based = me.seated.posed.based;
    idle = me.seated.posed.idle;
    started = λ at. cc;
    without = λ t. cc;
    claims = λ c at stage. cc;
    claiming = λ owner at. cc;
    undoes = λ all at. cc;
    says = λ at none. ((me.seated.posed.course d.course d.has).fresh (unplanned d.course.stage d.visits)).3;
    makes = λ f. none_made;
    unlatched = λ some. absurd (some unmarked);
  }

  is_latcher : latch.IsSession (sess k)
  is_latcher = record { first = d.is.first; last = omega (arith, d.is.last, safe.whole.few) }

  latch_gone : latch_of s.latches (sess k) ≡ None
  latch_gone = ap (λ ls. latch_of ls (sess k)) d.latches ∙ latch_of-without_latch_same e.latches (sess k) safe.whole.latches is_latcher

  seated_now : IsSeated files_e y None (lock_at e k)
  seated_now = record {
    latched = refl;
    posed = posed_now;
    there = λ p at. cc;
    rooted = me.seated.rooted;
    nowhere = me.seated.nowhere;
    holding = λ c at source. cc;
    writing = λ c at t. cc;
    committing = λ at. cc;
  }

  no_ex : (c : ℕ) (p : PageId) → HoldsEx (seat e k) p → ⊥
  no_ex c p ex = not_both d.page p (sym (ap latch_at d.hold) ∙ ex)

  beside_before : IsBeside e.pages y
  beside_before = record {
    reads = λ c p within at. cc;
    marks = λ c p copied ex sound. cc;
    copies = λ c p copied ex kept. cc;
    paid = λ c making at none sound. cc;
    copied = me.beside.copied;
    made = me.beside.made;
    named = me.beside.named;
  }

  in_step_before : IsInStep e.pages y (session (machine e) k) (machine e).moment
  in_step_before = record {
    said = me.in_step.said;
    current = me.in_step.current;
    depth = me.in_step.depth;
    level = me.in_step.level;
    idle = me.in_step.idle;
    making = me.in_step.making;
    gone = me.in_step.gone ∙ ap is_gone d.at;
    rested = λ t. me.in_step.rested (elim t [ inl b ↦ absurd (let wrong : false ≡ true = b in cc) | inr none ↦ inr none ]);
    begun = λ f. me.in_step.begun (ap is_between d.at);
  }

  other_reply : (m : Message) → Some (Msg (plain SUSPECT)) ≡ Some (Msg m) → (m.number ≡ NO_ROOM) ⊎ (m.number ≡ LOG_FAILED) → ⊥
  other_reply m at which =
      let number : SUSPECT ≡ m.number = ap number_of at in
      elim which [
        | inl room ↦ suspect_is_no_room (number ∙ room)
        | inr log ↦ suspect_is_no_log (number ∙ log)
      ]
    where
      number_of : Option Reply → ℕ
      number_of None = 0
      number_of (Some Ok) = 0
      number_of (Some (Count n)) = 0
      number_of (Some (Rows rows)) = 0
      number_of (Some (Msg w)) = w.number

  source_now : (ds : List TableDesc) → IsContent e ds → IsToldSource files_e ds y (lock_at e k) (session (machine e) k) (alone_of e k) (before_of e k) (see (machine e) k)
  source_now ds content =
      let told = (content.1 k d.is).source in
      record {
        agree = told.agree;
        sees = λ f. told.sees (ap (λ t. undoes_all t (stmt_at (seat e k).sitting)) d.at);
        spread = told.spread;
        seen = λ c at source. cc;
        planned = λ c at source t. cc;
        apart = λ c at. cc;
        waits = λ stmt m at waits which write. absurd (other_reply m waits which);
        goes = told.goes;
        sized = told.sized;
        unwound = told.unwound;
        back = told.back;
      }

  reading_now : IsToldReading s.pages (machine s) y
  reading_now = record {
    seen = λ cut n c within place kept at. cc;
    image = λ cut n p rows within place kept at. cc;
    reply = λ cut n c within place kept at. cc;
  }

  pub lost_read_keeps : Steps e s k
  lost_read_keeps = moves_on e s k y (lock_at e k) (session (machine e) k) safe lost.moves lost.stays (λ c in_it. in_it) refl refl refl
      (record { reads = λ j c p is ne within at. lost.maps c p; marks = λ j c p is ne copied hold. lost.maps c p; sparse = λ j c p is ne copied hold kept. lost.files c p kept })
      (λ j ne. ap (λ ls. latch_of ls (sess j)) d.latches ∙ latch_of-without_latch e.latches (sess k) (sess j) (λ same. ne (ap (λ (w : SessNo). w.0) same)))
      (subst IsLatchBook (sym d.latches) (IsLatchBook-without_latch e.latches (sess k) safe.whole.latches is_latcher))
      (λ p. (let same = lost.pinned p in let its : seat_pins (seat e k) p ≡ seat_pins y p = ap (λ (h : Grip). grip_pin h p + (gathered_on (seat e k).gathered p + count_on (seat e k).work.recs p)) d.hold in omega (arith, same, its)))
      (record {
        seated = subst (λ l. IsSeated files_e y l (lock_at e k)) (sym latch_gone) seated_now;
        beside = beside_stays e.pages s.pages lost.stays y (λ c p within at. cc) (λ c p copied hold. cc) (λ c p copied hold kept. cc) beside_before;
        placed = me.placed;
        script = refl;
        in_step = in_step_later e.pages y (session (machine e) k) (machine e).moment (machine s).moment lost.moves.machine.later in_step_before;
        aside = λ who snap restores. (let old = me.aside who snap (lost.moves.machine.restores who snap restores) in absurd (let wrong : Latched d.page Sh ≡ Free = sym d.hold ∙ old.latch in cc));
      })
      (λ ds content. (source_now ds content, reading_now))
