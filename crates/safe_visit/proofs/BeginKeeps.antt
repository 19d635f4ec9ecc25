-- A statement on tables that begins leaves to others what it owes them, and shows the rest.
use Rattle.std.proofs.Common.{◌≡◌, ℕ, ◌≤◌, length, true, false, List, ◌++◌, refl, ap, sym, subst, ◌∙◌, inl, inr, arith, map}
use Rattle.std.specs.Prelude.{◌⊎◌, Option, Some, None, unwrap_or}
use Rattle.page_base.specs.declared.numbers.PageId.{PageId}
use Rattle.latch_book.specs.Latches.{Latches, latch_of, IsLatchBook}
use Rattle.plain_model.specs.State.{session, see}
use Rattle.snap_pages.specs.Cuts.{marked_by, sparse_by}
use Rattle.snap_pages.specs.Shown.{Shown, catalog, counts, pins}
use Rattle.snap_pages.specs.Views.{view}
use Rattle.std.specs.List.{AllByRecursion}
use Rattle.page_fmt.specs.Content.{content as page_content}
use Rattle.page_fmt.specs.Seen.{Looked}
use Rattle.sys_cat.specs.declared.desc.TableDesc.{TableDesc}
use Rattle.step_words.specs.declared.point.Point.{Point}
use Rattle.step_words.specs.declared.point.Point.TheVariants.{Start, Lock, Latch, Take, Claim, Change, Undo, Commit, Say}
use Rattle.step_words.specs.declared.stage.DbKind.TheVariants.{Source}
use Rattle.step_words.specs.Courses.{Course}
use Rattle.step_words.specs.Sittings.{stmt_at, undoes_all}
use Rattle.step_words.specs.Seats.{Seated, Free}
use Rattle.step_state.specs.State.{State, sess, seat, machine, alone_of, before_of}
use Rattle.step_state.specs.Holding.{lock_at, HasLocks}
use Rattle.step_state.specs.Posed.{FitsGrip, lacks_course, lacks_work, is_making, IsIn, IsOnCourse, IsPosed}
use Rattle.step_state.specs.Own.{IsSeated, IsInStep, IsAside, IsSafeSession, page_at, is_gone, is_between}
use Rattle.step_state.specs.Snapshots.{IsBeside, page_read}
use Rattle.step_state.specs.Whole.{snap_told}
use Rattle.step_state.specs.Told.{IsToldSource, IsToldReading, SeesSource, DifferAll}
use Rattle.step_state.specs.Safe.{Safe, IsContent}
use Rattle.step_state.specs.Steps.{Steps}
use Rattle.step_state.proofs.MoveLemmas.{stays_put, seat_moves}
use Rattle.safe_visit.specs.Beginning.{BeginsIn, InSource, InSnap, seat_begun, DoesBegin}
use Rattle.step_state.specs.Going.{first_stage, course_begun, point_for}
use Rattle.step_state.proofs.MachineLemmas.{moment_is}
use Rattle.plain_model.specs.declared.stmt.Stmt.{Stmt}
use Rattle.plain_model.specs.declared.event.LockName.TheVariants.{All}
use Rattle.plain_steps.specs.Phases.{first_mode}
use Rattle.sys_cat.specs.Rows.{zero_root}
use Rattle.page_tables.specs.Owners.{is_there}
use Rattle.step_words.specs.declared.stage.DbKind.{DbKind}
use Rattle.step_words.specs.declared.stage.Stage.{Stage}
use Rattle.step_words.specs.declared.stage.Stage.TheVariants.{AskAll, ScanZero, Claim as Claiming, Edit as Editing, End}
use Rattle.step_words.specs.Courses.{is_planned}

-- whatever holds of where a statement begins: at a lock in the source, at a latch in a snapshot
by_begins : (P : Stage → Point → Type 0) (e : State) (k : ℕ) (stmt : Stmt) (kind : DbKind) → BeginsIn e k stmt kind
    → P AskAll (Lock All (record { 0 = 0 }) (first_mode stmt)) → P (ScanZero zero_root) (Latch zero_root false) → P (first_stage kind) (point_for (seat e k).sitting.depth (course_begun stmt kind))
by_begins P e k stmt kind (InSource within current early) a b = a
by_begins P e k stmt kind (InSnap cut within select sound) a b = b

module _ (e s : State) (k : ℕ) (safe : Safe e) (d : DoesBegin e s k) where
  abbrev c : Course
  c = course_begun d.stmt d.kind

  abbrev y : Seated
  y = seat_begun (seat e k) c (length e.events)

  me : IsSafeSession e k
  me = safe.sessions k d.moves.is

  abbrev files_e : List ℕ
  files_e = counts e.pages

  begins : (P : Stage → Point → Type 0) → P AskAll (Lock All (record { 0 = 0 }) (first_mode d.stmt)) → P (ScanZero zero_root) (Latch zero_root false) → P (first_stage d.kind) (point_for (seat e k).sitting.depth c)
  begins P = by_begins P e k d.stmt d.kind d.begins

  at_start : lacks_course (seat e k).sitting.point ≡ true
  at_start = ap lacks_course d.at

  none_before : (seat e k).sitting.course ≡ None
  none_before = me.seated.posed.off_course at_start

  free_hold : (seat e k).hold ≡ Free
  free_hold = subst (λ t. FitsGrip t (seat e k).sitting.found (seat e k).hold) d.at me.seated.posed.grip

  some_course : (o : Option Course) (b : Course) → Some c ≡ Some b → c ≡ b
  some_course o b at = ap pick at
    where
      pick : Option Course → Course
      pick None = c
      pick (Some x) = x

  its : (b : Course) → y.sitting.course ≡ Some b → c ≡ b
  its b at = some_course None b at

  on_course : IsOnCourse files_e y c
  on_course = record {
    lent = d.has;
    tables = d.tables;
    database = in_it d.kind d.begins;
    emptied = λ t. absurd (begins (λ stage point. is_planned stage ≡ true → ⊥) (λ q. cc) (λ q. cc) t);
    unasked = λ f. (refl, refl);
    unread = λ f. refl;
    fresh = λ f. (refl, refl, refl, me.seated.posed.started d.at);
    numbers = tt;
    taken = omega arith;
    claimed = λ t. refl;
    targets = λ i b lt. absurd (omega (arith, lt));
    there = λ i b lt. absurd (omega (arith, lt));
    within = tt;
    room = omega arith;
    ended = λ t. refl;
  }
    where
      in_it : (kind : DbKind) → BeginsIn e k d.stmt kind → IsIn kind (seat e k).sitting.within
      in_it kind (InSource within current early) = within
      in_it kind (InSnap cut within select sound) = (cut, within)

  posed_now : IsPosed files_e y
  posed_now = record {
    grip = begins (λ stage point. FitsGrip point (seat e k).sitting.found (seat e k).hold) free_hold free_hold;
    course = λ b at. subst (IsOnCourse files_e y) (its b at) on_course;
    changes = λ p at. absurd (begins (λ stage point. point ≡ Change p → ⊥) (λ q. cc) (λ q. cc) at);
    commits = λ at. absurd (begins (λ stage point. point ≡ Commit → ⊥) (λ q. cc) (λ q. cc) at);
    off_course = λ t. absurd (begins (λ stage point. lacks_course point ≡ true → ⊥) (λ q. cc) (λ q. cc) t);
    based = me.seated.posed.based;
    idle = me.seated.posed.idle;
    started = λ at. absurd (begins (λ stage point. point ≡ Start → ⊥) (λ q. cc) (λ q. cc) at);
    without = λ t. absurd (begins (λ stage point. lacks_work point ≡ true → ⊥) (λ q. cc) (λ q. cc) t);
    claims = λ b at stage. absurd (not_claiming (ap (λ (x : Course). x.stage) (its b at) ∙ stage));
    claiming = λ owner at. absurd (begins (λ stage point. point ≡ Claim owner → ⊥) (λ q. cc) (λ q. cc) at);
    undoes = λ all at. absurd (begins (λ stage point. point ≡ Undo all → ⊥) (λ q. cc) (λ q. cc) at);
    says = λ at. absurd (begins (λ stage point. point ≡ Say → ⊥) (λ q. cc) (λ q. cc) at);
    makes = λ f. me.seated.posed.makes (ap is_making d.at);
    unlatched = me.seated.posed.unlatched;
  }
    where
      not_claiming : first_stage d.kind ≡ Claiming → ⊥
      not_claiming = begins (λ stage point. stage ≡ Claiming → ⊥) (λ q. cc) (λ q. cc)

  none_writes : (first_stage d.kind ≡ Claiming) ⊎ (first_stage d.kind ≡ Editing) → ⊥
  none_writes = begins (λ stage point. (stage ≡ Claiming) ⊎ (stage ≡ Editing) → ⊥) (λ t. elim t [ inl q ↦ (let wrong : AskAll ≡ Claiming = q in cc) | inr q ↦ (let wrong : AskAll ≡ Editing = q in cc) ]) (λ t. elim t [ inl q ↦ (let wrong : ScanZero zero_root ≡ Claiming = q in cc) | inr q ↦ (let wrong : ScanZero zero_root ≡ Editing = q in cc) ])

  seated_now : IsSeated files_e y (latch_of e.latches (sess k)) (lock_at e k)
  seated_now = record {
    latched = me.seated.latched;
    posed = posed_now;
    there = λ p at. begins (λ stage point. page_at point ≡ Some p → is_there files_e p ≡ true) (λ q. cc) (λ q. subst (λ r. is_there files_e r ≡ true) (some_page zero_root p q) d.there) at;
    rooted = me.seated.rooted;
    nowhere = me.seated.nowhere;
    holding = λ b at source. subst (HasLocks (lock_at e k)) (its b at) (asks_first (ap (λ (x : Course). x.at) (its b at) ∙ source));
    writing = λ b at t. absurd (none_writes (subst (λ (x : Course). (x.stage ≡ Claiming) ⊎ (x.stage ≡ Editing)) (sym (its b at)) t));
    committing = λ at. absurd (begins (λ stage point. point ≡ Commit → ⊥) (λ q. cc) (λ q. cc) at);
  }
    where
      some_page : (p q : PageId) → Some p ≡ Some q → p ≡ q
      some_page p q at = ap pick at
        where
          pick : Option PageId → PageId
          pick None = p
          pick (Some r) = r

      by_kind : (kind : DbKind) → BeginsIn e k d.stmt kind → kind ≡ Source → HasLocks (lock_at e k) (course_begun d.stmt kind)
      by_kind kind (InSource within current early) is = record { all = λ q. cc; table = λ q. cc }
      by_kind kind (InSnap cut within select sound) is = cc

      asks_first : d.kind ≡ Source → HasLocks (lock_at e k) c
      asks_first = by_kind d.kind d.begins

  beside_now : IsBeside e.pages y
  beside_now = record {
    reads = λ a p within at. absurd (begins (λ stage point. page_read point ≡ Some p → ⊥) (λ q. cc) (λ q. cc) at);
    marks = me.beside.marks;
    copies = me.beside.copies;
    paid = λ a making at none sound. absurd (begins (λ stage point. point ≡ Say → ⊥) (λ q. cc) (λ q. cc) at);
    copied = me.beside.copied;
    made = me.beside.made;
    named = me.beside.named;
  }

  rested : ((session (machine e) k).first ≡ None) × ((session (machine e) k).since ≤ (machine e).moment)
  rested = me.in_step.rested (inl (ap is_between d.at))

  in_step_now : IsInStep e.pages y (session (machine e) k) (machine e).moment
  in_step_now = record {
    said = me.in_step.said;
    current = me.in_step.current;
    depth = me.in_step.depth;
    level = me.in_step.level;
    idle = me.in_step.idle;
    making = me.in_step.making;
    gone = me.in_step.gone ∙ ap is_gone d.at ∙ sym (begins (λ stage point. is_gone point ≡ false) refl refl);
    rested = λ t. rested;
    begun = λ f. (let long = moment_is e in (omega (arith, rested.1, long), subst (λ (o : Option ℕ). length e.events ≤ unwrap_or o (machine e).moment) (sym rested.0) (omega (arith, long))));
  }

  source_now : (ds : List TableDesc) → IsContent e ds → IsToldSource files_e ds y (lock_at e k) (session (machine e) k) (alone_of e k) (before_of e k) (see (machine e) k)
  source_now ds content =
      let told = (content.1 k d.moves.is).source in
      record {
        agree = told.agree;
        sees = λ f. told.sees (ap (λ t. undoes_all t (stmt_at (seat e k).sitting)) d.at);
        spread = told.spread;
        seen = λ b at source. subst (SeesSource files_e ds (alone_of e k)) (its b at) (record { base = tt; table = λ t q. cc; none = λ q. refl });
        planned = λ b at source t. absurd (begins (λ stage point. is_planned stage ≡ true → ⊥) (λ q. cc) (λ q. cc) (ap (λ (x : Course). is_planned x.stage) (its b at) ∙ t));
        apart = λ b at. subst (λ (x : Course). DifferAll x.taken) (its b at) (λ i j p lt l. absurd (omega (arith, l)));
        waits = told.waits;
        goes = told.goes;
        sized = told.sized;
        unwound = told.unwound;
        back = told.back;
      }

  reading_now : (ds : List TableDesc) → IsContent e ds → IsToldReading e.pages (machine e) y
  reading_now ds content = record {
    seen = λ cut n b within place kept at snap. subst (λ (x : Course). AllByRecursion (λ (l : Looked). page_content (view e.pages n l.page) ≡ l.slots) (x.base ++ x.seen)) (its b at) tt;
    image = λ cut n p rows within place kept at found. absurd (begins (λ stage point. point ≡ Take p rows → ⊥) (λ q. cc) (λ q. cc) at);
    reply = λ cut n b within place kept at snap ended. absurd (begins (λ stage point. stage ≡ End → ⊥) (λ q. cc) (λ q. cc) (ap (λ (x : Course). x.stage) (its b at) ∙ ended));
  }

  -- NOBODY REVERTS MEANWHILE

  no_restore : (who : ℕ) (snap : List ℕ) → (machine e).restoring ≡ Some (who, snap) → ⊥
  no_restore who snap restores = by d.kind d.begins
    where
      aside : IsAside (seat e k) (lock_at e k) e.fixed.opening.source snap
      aside = me.aside who snap restores

      by : (kind : DbKind) → BeginsIn e k d.stmt kind → ⊥
      by kind (InSource within current early) = aside.away.0 current
      by kind (InSnap cut within select sound) = (let wrong : None ≡ Some cut = sym aside.away.1 ∙ within in cc)

  pub begin_keeps : Steps e s k
  begin_keeps = seat_moves e s k y safe d.moves (stays_put e.pages s.pages d.pages) (ap (λ (v : Shown). map snap_told (catalog v).snaps) d.pages) refl refl refl refl refl
      (record {
        reads = λ j a p is ne within at. ap (λ (v : Shown). marked_by v a p) d.pages;
        marks = λ j a p is ne copied hold. ap (λ (v : Shown). marked_by v a p) d.pages;
        sparse = λ j a p is ne copied hold kept. ap (λ (v : Shown). sparse_by v a p) d.pages;
      })
      (λ j ne. ap (λ ls. latch_of ls (sess j)) d.latches)
      (subst IsLatchBook (sym d.latches) safe.whole.latches)
      (λ p. (let same : pins s.pages p ≡ pins e.pages p = ap (λ (v : Shown). pins v p) d.pages in omega (arith, same)))
      (record {
        seated = subst (λ (ls : Latches). IsSeated files_e y (latch_of ls (sess k)) (lock_at e k)) (sym d.latches) seated_now;
        beside = subst (λ (v : Shown). IsBeside v y) (sym d.pages) beside_now;
        placed = me.placed;
        script = refl;
        in_step = in_step_now;
        aside = λ who snap restores. absurd (no_restore who snap restores);
      })
      (λ ds content. (source_now ds content, reading_now ds content))
