-- A latch that is taken leaves to others what it owes them, and shows the rest.
use Rattle.std.proofs.Common.{◌≡◌, ℕ, ◌+◌, Bool, true, false, List, [], ◌∷◌, ◌++◌, refl, ap, sym, subst, ◌∙◌, inl, inr, arith, map, Option}
use Rattle.std.specs.Prelude.{Some, None}
use Rattle.page_base.specs.declared.numbers.PageId.{PageId}
use Rattle.page_base.specs.declared.numbers.SessNo.{SessNo}
use Rattle.latch_book.specs.declared.latch.LatchMode.{LatchMode}
use Rattle.latch_book.specs.Latches.{latch_of, with_latch, IsLatchBook}
use Rattle.latch_book.specs.Latches as latch
use Rattle.latch_book.proofs.LatchLemmas.{Holds-with_latch, latch_of-with_latch, IsLatchBook-with_latch}
use Rattle.plain_model.specs.State.{session, see}
use Rattle.plain_steps.specs.Modes.{suffices}
use Rattle.plain_steps.specs.Phases.{first_mode}
use Rattle.rec_log.specs.Records.{Record}
use Rattle.snap_pages.specs.Owed.{count_on}
use Rattle.snap_pages.specs.Cuts.{marked_by, sparse_by}
use Rattle.snap_pages.specs.Shown.{Shown, catalog, counts, pins}
use Rattle.sys_cat.specs.declared.desc.TableDesc.{TableDesc}
use Rattle.step_words.specs.declared.point.Point.{Point}
use Rattle.step_words.specs.declared.point.Point.TheVariants.{Start, Latch as Latching, Look, Fetch, Take, Claim, Change, Undo, Heal, Commit, Say}
use Rattle.step_words.specs.declared.stage.DbKind.TheVariants.{Source}
use Rattle.step_words.specs.declared.stage.Stage.{Stage}
use Rattle.step_words.specs.declared.stage.Stage.TheVariants.{AskAll, ScanZero, AskTable, Scan, Plan, Claim as Claiming, Edit as Editing, End}
use Rattle.step_words.specs.Courses.{Course, is_past_all}
use Rattle.step_words.specs.Sittings.{stmt_at, undoes_all}
use Rattle.step_words.specs.Seats.{latch_at, Seated, Grip, Latched}
use Rattle.step_state.specs.State.{State, sess, seat, machine, alone_of, before_of}
use Rattle.step_state.specs.Holding.{lock_at}
use Rattle.step_state.specs.Posed.{FitsGrip, lacks_course, lacks_work, is_making, IsIn, IsOnCourse, IsPosed}
use Rattle.step_state.specs.Own.{IsSeated, IsInStep, IsAside, IsSafeSession, page_at, is_gone, is_between}
use Rattle.step_state.specs.Snapshots.{IsBeside, page_read}
use Rattle.step_state.specs.Whole.{grip_pin, gathered_on, seat_pins, snap_told}
use Rattle.step_state.specs.Told.{IsToldSource, IsToldReading}
use Rattle.step_state.specs.Safe.{Safe, IsContent}
use Rattle.step_state.specs.Steps.{Steps}
use Rattle.safe_visit.specs.Latching.{page_visited, NeedsLatch, VisitsSource, VisitsSnap, Edits, Claims, Undoes, Heals, seat_latched, DoesLatch}
use Rattle.step_state.proofs.MoveLemmas.{stays_put, seat_moves}

-- whatever is so of the point before and then, each in its case
by_needs : (P : Point → Point → Type 0) (v : Shown) (x : Seated) (p : PageId) (mode : LatchMode) (next : Point) → NeedsLatch v x p mode next
    → P (Latching p false) (Fetch p) → P (Latching p false) (Look p) → P (Latching p true) (Fetch p) → ((owner : ℕ) → P (Claim owner) (Claim owner)) → ((all : Bool) → P (Undo all) (Undo all)) → P Heal Heal → P x.sitting.point next
by_needs P v x p mode next (VisitsSource c at has source visit) a b d f g h = subst (λ t. P t (Fetch p)) (sym at) a
by_needs P v x p mode next (VisitsSnap c at has snap visit) a b d f g h = subst (λ t. P t (Look p)) (sym at) b
by_needs P v x p mode next (Edits c at has edit) a b d f g h = subst (λ t. P t (Fetch p)) (sym at) d
by_needs P v x p mode next (Claims owner at every) a b d f g h = subst (λ t. P t (Claim owner)) (sym at) (f owner)
by_needs P v x p mode next (Undoes all at last) a b d f g h = subst (λ t. P t (Undo all)) (sym at) (g all)
by_needs P v x p mode next (Heals cut at making last) a b d f g h = subst (λ t. P t Heal) (sym at) h

visits_past : (stage : Stage) (p : PageId) → page_visited stage ≡ Some p → is_past_all stage ≡ true
visits_past AskAll p e = cc
visits_past (ScanZero q) p e = refl
visits_past AskTable p e = cc
visits_past (Scan q rows) p e = refl
visits_past Plan p e = cc
visits_past Claiming p e = cc
visits_past Editing p e = cc
visits_past End p e = cc

some_ends : (front : List Record) (r : Record) → front ++ r ∷ [] ≡ [] → ⊥
some_ends [] r e = cc
some_ends (x ∷ front) r e = cc

module _ (e s : State) (k : ℕ) (safe : Safe e) (d : DoesLatch e s k) where
  abbrev y : Seated
  y = seat_latched (seat e k) d.page d.mode d.next

  me : IsSafeSession e k
  me = safe.sessions k d.moves.is

  abbrev files_e : List ℕ
  files_e = counts e.pages

  is_latcher : latch.IsSession (sess k)
  is_latcher = record { first = d.moves.is.first; last = omega (arith, d.moves.is.last, safe.whole.few) }

  none_copied : (c : ℕ) → (seat e k).copied ≡ Some c → ⊥
  none_copied c at = (let old = me.seated.posed.unlatched (λ none. (let wrong : None ≡ Some c = sym none ∙ at in cc)) in let wrong = sym (ap latch_at d.free) ∙ old.1 in cc)

  nothing_copied : (seat e k).copied ≡ None
  nothing_copied = by (seat e k).copied refl
    where
      by : (o : Option ℕ) → (seat e k).copied ≡ o → (seat e k).copied ≡ None
      by None at = at
      by (Some c) at = absurd (none_copied c at)

  step : (P : Point → Point → Type 0) → P (Latching d.page false) (Fetch d.page) → P (Latching d.page false) (Look d.page) → P (Latching d.page true) (Fetch d.page) → ((owner : ℕ) → P (Claim owner) (Claim owner)) → ((all : Bool) → P (Undo all) (Undo all)) → P Heal Heal → P (seat e k).sitting.point d.next
  step P = by_needs P e.pages (seat e k) d.page d.mode d.next d.needs

  on_same : (c : Course) → IsOnCourse files_e (seat e k) c → IsOnCourse files_e y c
  on_same c on = record {
    lent = on.lent;
    tables = on.tables;
    database = on.database;
    emptied = on.emptied;
    unasked = on.unasked;
    unread = on.unread;
    fresh = on.fresh;
    numbers = on.numbers;
    taken = on.taken;
    claimed = on.claimed;
    targets = on.targets;
    there = on.there;
    within = on.within;
    room = on.room;
    ended = on.ended;
  }

  grip_now : FitsGrip d.next (seat e k).sitting.found (Latched d.page d.mode)
  grip_now = by d.mode d.next d.needs
    where
      by : (mode : LatchMode) (next : Point) → NeedsLatch e.pages (seat e k) d.page mode next → FitsGrip next (seat e k).sitting.found (Latched d.page mode)
      by mode next (VisitsSource c at has source visit) = inl refl
      by mode next (VisitsSnap c at has snap visit) = refl
      by mode next (Edits c at has edit) = inr refl
      by mode next (Claims owner at every) = tt
      by mode next (Undoes all at last) = tt
      by mode next (Heals cut at making last) = tt

  posed_now : IsPosed files_e y
  posed_now = record {
    grip = grip_now;
    course = λ c at. on_same c (me.seated.posed.course c at);
    changes = λ p at. absurd (step (λ old new. new ≡ Change p → ⊥) (λ q. cc) (λ q. cc) (λ q. cc) (λ o q. cc) (λ a q. cc) (λ q. cc) at);
    commits = λ at. absurd (step (λ old new. new ≡ Commit → ⊥) (λ q. cc) (λ q. cc) (λ q. cc) (λ o q. cc) (λ a q. cc) (λ q. cc) at);
    off_course = λ t. me.seated.posed.off_course (step (λ old new. lacks_course new ≡ true → lacks_course old ≡ true) (λ q. cc) (λ q. cc) (λ q. cc) (λ o q. cc) (λ a q. q) (λ q. q) t);
    based = me.seated.posed.based;
    idle = me.seated.posed.idle;
    started = λ at. absurd (step (λ old new. new ≡ Start → ⊥) (λ q. cc) (λ q. cc) (λ q. cc) (λ o q. cc) (λ a q. cc) (λ q. cc) at);
    without = λ t. me.seated.posed.without (step (λ old new. lacks_work new ≡ true → lacks_work old ≡ true) (λ q. cc) (λ q. cc) (λ q. cc) (λ o q. cc) (λ a q. cc) (λ q. q) t);
    claims = me.seated.posed.claims;
    claiming = λ owner at. me.seated.posed.claiming owner (step (λ old new. new ≡ Claim owner → old ≡ Claim owner) (λ q. cc) (λ q. cc) (λ q. cc) (λ o q. q) (λ a q. cc) (λ q. cc) at);
    undoes = λ all at. let old = me.seated.posed.undoes all (step (λ old new. new ≡ Undo all → old ≡ Undo all) (λ q. cc) (λ q. cc) (λ q. cc) (λ o q. cc) (λ a q. q) (λ q. cc) at) in record { some = old.some; whole = old.whole; ends = old.ends };
    says = λ at. absurd (step (λ old new. new ≡ Say → ⊥) (λ q. cc) (λ q. cc) (λ q. cc) (λ o q. cc) (λ a q. cc) (λ q. cc) at);
    makes = λ f. me.seated.posed.makes (step (λ old new. is_making new ≡ false → is_making old ≡ false) (λ q. refl) (λ q. refl) (λ q. refl) (λ o q. refl) (λ a q. refl) (λ q. q) f);
    unlatched = λ some. absurd (some nothing_copied);
  }

  seated_now : IsSeated files_e y (latch_of s.latches (sess k)) (lock_at e k)
  seated_now = record {
    latched = ap (λ ls. latch_of ls (sess k)) d.latches ∙ Holds-with_latch e.latches (sess k) d.page d.mode safe.whole.latches is_latcher;
    posed = posed_now;
    there = λ p at. me.seated.there p (step (λ old new. page_at new ≡ Some p → page_at old ≡ Some p) (λ q. q) (λ q. q) (λ q. q) (λ o q. cc) (λ a q. cc) (λ q. cc) at);
    rooted = me.seated.rooted;
    nowhere = me.seated.nowhere;
    holding = me.seated.holding;
    writing = me.seated.writing;
    committing = λ at. absurd (step (λ old new. new ≡ Commit → ⊥) (λ q. cc) (λ q. cc) (λ q. cc) (λ o q. cc) (λ a q. cc) (λ q. cc) at);
  }

  -- who brings a page in at once reads no snapshot
  in_source : (c : Course) → (seat e k).sitting.course ≡ Some c → c.at ≡ Source → (cut : ℕ) → (seat e k).sitting.within ≡ Some cut → ⊥
  in_source c has source cut at = (let none : (seat e k).sitting.within ≡ None = subst (λ a. IsIn a (seat e k).sitting.within) source (me.seated.posed.course c has).database in let wrong : None ≡ Some cut = sym none ∙ at in cc)

  unread : (cut : ℕ) (p : PageId) → (seat e k).sitting.within ≡ Some cut → page_read d.next ≡ Some p → ⊥
  unread cut p within = by d.mode d.next d.needs
    where
      by : (mode : LatchMode) (next : Point) → NeedsLatch e.pages (seat e k) d.page mode next → page_read next ≡ Some p → ⊥
      by mode next (VisitsSource c at has source visit) q = in_source c has source cut within
      by mode next (VisitsSnap c at has snap visit) q = cc
      by mode next (Edits c at has edit) q = in_source c has (me.seated.writing c has (inr edit.0)) cut within
      by mode next (Claims owner at every) q = cc
      by mode next (Undoes all at last) q = cc
      by mode next (Heals cut2 at making last) q = cc

  beside_now : IsBeside e.pages y
  beside_now = record {
    reads = λ c p within at. absurd (unread c p within at);
    marks = λ c p copied hold sound. absurd (none_copied c copied);
    copies = λ c p copied hold kept. absurd (none_copied c copied);
    copied = me.beside.copied;
    paid = λ c making at none sound. absurd (step (λ old new. new ≡ Say → ⊥) (λ q. cc) (λ q. cc) (λ q. cc) (λ o q. cc) (λ a q. cc) (λ q. cc) at);
    made = me.beside.made;
    named = me.beside.named;
  }

  in_step_now : IsInStep e.pages y (session (machine e) k) (machine e).moment
  in_step_now = record {
    said = me.in_step.said;
    current = me.in_step.current;
    depth = me.in_step.depth;
    level = me.in_step.level;
    idle = me.in_step.idle;
    making = me.in_step.making;
    gone = me.in_step.gone ∙ step (λ old new. is_gone old ≡ is_gone new) refl refl refl (λ o. refl) (λ a. refl) refl;
    rested = λ t. me.in_step.rested (elim t [ inl b ↦ absurd (step (λ old new. is_between new ≡ true → ⊥) (λ q. cc) (λ q. cc) (λ q. cc) (λ o q. cc) (λ a q. cc) (λ q. cc) b) | inr none ↦ inr none ]);
    begun = λ f. me.in_step.begun (step (λ old new. is_between new ≡ false → is_between old ≡ false) (λ q. refl) (λ q. refl) (λ q. refl) (λ o q. refl) (λ a q. refl) (λ q. refl) f);
  }

  -- NOBODY REVERTS MEANWHILE

  lock_needed : (c : Course) → (seat e k).sitting.course ≡ Some c → c.at ≡ Source → is_past_all c.stage ≡ true → ((n : ℕ) → lock_at e k n ≡ None) → ⊥
  lock_needed c has source past none =
      let enough = (me.seated.holding c has source).all past in
      (let wrong : false ≡ true = ap (λ o. suffices o (first_mode c.stmt)) (sym (none 0)) ∙ enough in cc)

  no_restore : (who : ℕ) (snap : List ℕ) → (machine e).restoring ≡ Some (who, snap) → ⊥
  no_restore who snap restores = by d.mode d.next d.needs
    where
      aside : IsAside (seat e k) (lock_at e k) e.fixed.opening.source snap
      aside = me.aside who snap restores

      in_snap : (cut : ℕ) → (seat e k).sitting.within ≡ Some cut → ⊥
      in_snap cut within = (let wrong : None ≡ Some cut = sym aside.away.1 ∙ within in cc)

      by : (mode : LatchMode) (next : Point) → NeedsLatch e.pages (seat e k) d.page mode next → ⊥
      by mode next (VisitsSource c at has source visit) = lock_needed c has source (visits_past c.stage d.page visit) aside.locks
      by mode next (VisitsSnap c at has snap visit) = (let in_it : (cut : ℕ) × ((seat e k).sitting.within ≡ Some cut) = subst (λ a. IsIn a (seat e k).sitting.within) snap (me.seated.posed.course c has).database in in_snap in_it.0 in_it.1)
      by mode next (Edits c at has edit) = lock_needed c has (me.seated.writing c has (inr edit.0)) (ap is_past_all edit.0) aside.locks
      by mode next (Claims owner at every) = (let cl = me.seated.posed.claiming owner at in lock_needed cl.0 cl.1 (me.seated.writing cl.0 cl.1 (inl cl.2)) (ap is_past_all cl.2) aside.locks)
      by mode next (Undoes all at last) = some_ends last.front last.last (sym last.are ∙ aside.records)
      by mode next (Heals cut at making last) = (let wrong : None ≡ Some cut = sym aside.making ∙ making in cc)

  source_now : (ds : List TableDesc) → IsContent e ds → IsToldSource files_e ds y (lock_at e k) (session (machine e) k) (alone_of e k) (before_of e k) (see (machine e) k)
  source_now ds content =
      let told = (content.1 k d.moves.is).source in
      record {
        agree = told.agree;
        sees = λ f. told.sees (step (λ old new. undoes_all new (stmt_at (seat e k).sitting) ≡ false → undoes_all old (stmt_at (seat e k).sitting) ≡ false) (λ q. refl) (λ q. refl) (λ q. refl) (λ o q. refl) (λ a q. q) (λ q. refl) f);
        spread = told.spread;
        seen = told.seen;
        planned = told.planned;
        apart = told.apart;
        waits = told.waits;
        goes = told.goes;
        sized = told.sized;
        unwound = told.unwound;
        back = told.back;
      }

  reading_now : (ds : List TableDesc) → IsContent e ds → IsToldReading e.pages (machine e) y
  reading_now ds content =
      let old = (content.1 k d.moves.is).reading in
      record {
        seen = old.seen;
        image = λ cut n p rows within place kept at found. absurd (step (λ was new. new ≡ Take p rows → ⊥) (λ q. cc) (λ q. cc) (λ q. cc) (λ o q. cc) (λ a q. cc) (λ q. cc) at);
        reply = old.reply;
      }

  pub latch_keeps : Steps e s k
  latch_keeps = seat_moves e s k y safe d.moves (stays_put e.pages s.pages d.pages) (ap (λ (v : Shown). map snap_told (catalog v).snaps) d.pages) refl refl refl refl refl
      (record {
        reads = λ j c p is ne within at. ap (λ (v : Shown). marked_by v c p) d.pages;
        marks = λ j c p is ne copied hold. ap (λ (v : Shown). marked_by v c p) d.pages;
        sparse = λ j c p is ne copied hold kept. ap (λ (v : Shown). sparse_by v c p) d.pages;
      })
      (λ j ne. ap (λ ls. latch_of ls (sess j)) d.latches ∙ latch_of-with_latch e.latches (sess k) (sess j) d.page d.mode (λ same. ne (ap (λ (w : SessNo). w.0) same)))
      (subst IsLatchBook (sym d.latches) (IsLatchBook-with_latch e.latches (sess k) d.page d.mode safe.whole.latches is_latcher d.granted))
      (λ p. (let same : pins s.pages p ≡ pins e.pages p = ap (λ (v : Shown). pins v p) d.pages in let free : seat_pins (seat e k) p ≡ seat_pins y p = ap (λ (h : Grip). grip_pin h p + (gathered_on (seat e k).gathered p + count_on (seat e k).work.recs p)) d.free in omega (arith, same, free)))
      (record { seated = seated_now; beside = subst (λ (v : Shown). IsBeside v y) (sym d.pages) beside_now; placed = me.placed; script = refl; in_step = in_step_now; aside = λ who snap restores. absurd (no_restore who snap restores) })
      (λ ds content. (source_now ds content, reading_now ds content))
