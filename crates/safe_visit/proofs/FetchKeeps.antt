-- A page that is brought in leaves to others what it owes them, and shows the rest.
use Rattle.std.proofs.Common.{◌≡◌, ℕ, ◌+◌, Bool, true, false, cond, List, refl, ap, sym, subst, ◌∙◌, inl, inr, arith, map}
use Rattle.std.specs.Prelude.{Some, None}
use Rattle.std.specs.Option.{option_map_or}
use Rattle.page_base.specs.Pages.{blank}
use Rattle.snap_cat.specs.Catalog.{Snap as SnapEntry, Catalog}
use Rattle.std.proofs.lemmas.Bool.{cases_Bool}
use Rattle.page_base.specs.declared.numbers.PageId.{PageId}
use Rattle.page_base.specs.Pages.{is_page}
use Rattle.latch_book.specs.declared.latch.LatchMode.{LatchMode}
use Rattle.latch_book.specs.declared.latch.LatchMode.TheVariants.{Sh}
use Rattle.latch_book.specs.Latches.{Latches, latch_of, IsLatchBook}
use Rattle.plain_model.specs.State.{session, see}
use Rattle.sparse_set.specs.Sparse.{Sparse, is_copied, sparse_page}
use Rattle.snap_pages.specs.Owed.{count_on}
use Rattle.snap_pages.specs.Cuts.{marked_by, sparse_by}
use Rattle.snap_pages.specs.Shown.{counts, pins}
use Rattle.sys_cat.specs.declared.desc.TableDesc.{TableDesc}
use Rattle.step_words.specs.declared.point.Point.{Point}
use Rattle.step_words.specs.declared.point.Point.TheVariants.{Start, Fetch, Take, Claim, Change, Undo, Commit, Say}
use Rattle.step_words.specs.Courses.{Course}
use Rattle.step_words.specs.Sittings.{stmt_at, undoes_all}
use Rattle.step_words.specs.Seats.{Seated, Grip, Free, Latched, Fetched, latch_at}
use Rattle.step_state.specs.State.{State, sess, seat, machine, alone_of, before_of}
use Rattle.step_state.specs.Holding.{lock_at}
use Rattle.step_state.specs.Posed.{FitsGrip, lacks_course, lacks_work, is_making, IsNextEdit, IsIn, IsPosed}
use Rattle.step_state.specs.Own.{IsSeated, IsInStep, IsSafeSession, page_at, is_gone, is_between}
use Rattle.step_state.specs.Snapshots.{IsBeside, page_read}
use Rattle.step_state.specs.Whole.{grip_pin, gathered_on, seat_pins, snap_told}
use Rattle.step_state.specs.Told.{IsToldSource, IsToldReading}
use Rattle.step_state.specs.Safe.{Safe, IsContent}
use Rattle.step_state.specs.Steps.{Steps}
use Rattle.step_state.specs.Moving.{StaysShown}
use Rattle.step_state.proofs.MoveLemmas.{stays_same, beside_stays, on_moved, source_moved, seat_moves}
use Rattle.step_state.proofs.ApartLemmas.{marked_on}
use Rattle.step_state.proofs.SnapLemmas.{sets_stay, snaps_stay}
use Rattle.safe_visit.specs.Fetching.{wants_rows, Fetches, Reads, Edits, Claims, seat_fetched, DoesFetch}

-- whatever is so of the point before and then, each in its case
by_fetches : (P : Point → Point → Type 0) (x : Seated) (p : PageId) (mode : LatchMode) (next : Point) → Fetches x p mode next
    → ((rows : Bool) → P (Fetch p) (Take p rows)) → P (Fetch p) (Change p) → ((owner : ℕ) → P (Claim owner) (Claim owner)) → P x.sitting.point next
by_fetches P x p mode next (Reads c at has visits where_is) a b d = subst (λ t. P t (Take p (wants_rows c.stage))) (sym at) (a (wants_rows c.stage))
by_fetches P x p mode next (Edits c at has edit) a b d = subst (λ t. P t (Change p)) (sym at) b
by_fetches P x p mode next (Claims owner at) a b d = subst (λ t. P t (Claim owner)) (sym at) (d owner)

module _ (e s : State) (k : ℕ) (safe : Safe e) (d : DoesFetch e s k) where
  abbrev y : Seated
  y = seat_fetched (seat e k) d.page d.mode d.next

  me : IsSafeSession e k
  me = safe.sessions k d.moves.is

  abbrev files_e : List ℕ
  files_e = counts e.pages

  stays : StaysShown e.pages s.pages
  stays = stays_same e.pages s.pages d.pool.tells d.pool.images d.snaps d.places d.views

  step : (P : Point → Point → Type 0) → ((rows : Bool) → P (Fetch d.page) (Take d.page rows)) → P (Fetch d.page) (Change d.page) → ((owner : ℕ) → P (Claim owner) (Claim owner)) → P (seat e k).sitting.point d.next
  step P = by_fetches P (seat e k) d.page d.mode d.next d.fetches

  latch_same : latch_at (seat e k).hold ≡ latch_at y.hold
  latch_same = ap latch_at d.hold

  grip_now : FitsGrip d.next (seat e k).sitting.found (Fetched d.page d.mode)
  grip_now = by d.mode d.next d.fetches
    where
      take : (rows found : Bool) → FitsGrip (Take d.page rows) found (Fetched d.page Sh)
      take rows true = inr refl
      take rows false = refl

      by : (mode : LatchMode) (next : Point) → Fetches (seat e k) d.page mode next → FitsGrip next (seat e k).sitting.found (Fetched d.page mode)
      by mode next (Reads c at has visits where_is) = take (wants_rows c.stage) (seat e k).sitting.found
      by mode next (Edits c at has edit) = refl
      by mode next (Claims owner at) = tt

  changes_now : (p : PageId) → d.next ≡ Change p → (c : Course) × ((seat e k).sitting.course ≡ Some c) × IsNextEdit c p
  changes_now p = by d.mode d.next d.fetches
    where
      page_of : Point → PageId
      page_of (Change q) = q
      page_of point = d.page

      by : (mode : LatchMode) (next : Point) → Fetches (seat e k) d.page mode next → next ≡ Change p → (c : Course) × ((seat e k).sitting.course ≡ Some c) × IsNextEdit c p
      by mode next (Reads c at has visits where_is) q = cc
      by mode next (Edits c at has edit) q = (c, has, subst (IsNextEdit c) (ap page_of q) edit)
      by mode next (Claims owner at) q = cc

  posed_now : IsPosed files_e y
  posed_now = record {
    grip = grip_now;
    course = λ c at. on_moved files_e (seat e k) y c refl refl refl refl (me.seated.posed.course c at);
    changes = changes_now;
    commits = λ at. absurd (step (λ old new. new ≡ Commit → ⊥) (λ rows q. cc) (λ q. cc) (λ o q. cc) at);
    off_course = λ t. absurd (step (λ old new. lacks_course new ≡ true → ⊥) (λ rows q. cc) (λ q. cc) (λ o q. cc) t);
    based = me.seated.posed.based;
    idle = me.seated.posed.idle;
    started = λ at. absurd (step (λ old new. new ≡ Start → ⊥) (λ rows q. cc) (λ q. cc) (λ o q. cc) at);
    without = λ t. absurd (step (λ old new. lacks_work new ≡ true → ⊥) (λ rows q. cc) (λ q. cc) (λ o q. cc) t);
    claims = me.seated.posed.claims;
    claiming = λ owner at. me.seated.posed.claiming owner (step (λ old new. new ≡ Claim owner → old ≡ Claim owner) (λ rows q. cc) (λ q. cc) (λ o q. q) at);
    undoes = λ all at. absurd (step (λ old new. new ≡ Undo all → ⊥) (λ rows q. cc) (λ q. cc) (λ o q. cc) at);
    says = λ at. absurd (step (λ old new. new ≡ Say → ⊥) (λ rows q. cc) (λ q. cc) (λ o q. cc) at);
    makes = λ f. me.seated.posed.makes (step (λ old new. is_making old ≡ false) (λ rows. refl) refl (λ o. refl));
    unlatched = λ some. (let old = me.seated.posed.unlatched some in (old.0, sym latch_same ∙ old.1));
  }

  seated_now : IsSeated files_e y (latch_of e.latches (sess k)) (lock_at e k)
  seated_now = record {
    latched = me.seated.latched ∙ latch_same;
    posed = posed_now;
    there = λ p at. me.seated.there p (step (λ old new. page_at new ≡ Some p → page_at old ≡ Some p) (λ rows q. q) (λ q. q) (λ o q. cc) at);
    rooted = me.seated.rooted;
    nowhere = me.seated.nowhere;
    holding = me.seated.holding;
    writing = me.seated.writing;
    committing = λ at. absurd (step (λ old new. new ≡ Commit → ⊥) (λ rows q. cc) (λ q. cc) (λ o q. cc) at);
  }

  beside_before : IsBeside e.pages y
  beside_before = record {
    reads = λ c p within at. me.beside.reads c p within (step (λ old new. page_read new ≡ Some p → page_read old ≡ Some p) (λ rows q. q) (λ q. cc) (λ o q. cc) at);
    marks = λ c p copied ex sound. me.beside.marks c p copied (latch_same ∙ ex) sound;
    copies = λ c p copied ex kept. me.beside.copies c p copied (latch_same ∙ ex) kept;
    paid = λ c making at none sound. absurd (step (λ old new. new ≡ Say → ⊥) (λ rows q. cc) (λ q. cc) (λ o q. cc) at);
    copied = me.beside.copied;
    made = me.beside.made;
    named = me.beside.named;
  }

  map_same : (c : ℕ) (p : PageId) → marked_by s.pages c p ≡ marked_by e.pages c p
  map_same c p = marked_on e.pages s.pages d.places c p (λ n. ap (λ (t : Sparse). is_copied t p) (sets_stay e.pages s.pages d.snaps n))

  file_same : (c : ℕ) (p : PageId) → sparse_by s.pages c p ≡ sparse_by e.pages c p
  file_same c p = ap (λ o. option_map_or (λ (f : SnapEntry × Sparse). sparse_page f.1 p) o blank) (snaps_stay e.pages s.pages d.snaps c)

  in_step_now : IsInStep e.pages y (session (machine e) k) (machine e).moment
  in_step_now = record {
    said = me.in_step.said;
    current = me.in_step.current;
    depth = me.in_step.depth;
    level = me.in_step.level;
    idle = me.in_step.idle;
    making = me.in_step.making;
    gone = me.in_step.gone ∙ step (λ old new. is_gone old ≡ is_gone new) (λ rows. refl) refl (λ o. refl);
    rested = λ t. me.in_step.rested (elim t [ inl b ↦ absurd (step (λ old new. is_between new ≡ true → ⊥) (λ rows q. cc) (λ q. cc) (λ o q. cc) b) | inr none ↦ inr none ]);
    begun = λ f. me.in_step.begun (step (λ old new. is_between old ≡ false) (λ rows. refl) refl (λ o. refl));
  }

  source_now : (ds : List TableDesc) → IsContent e ds → IsToldSource files_e ds y (lock_at e k) (session (machine e) k) (alone_of e k) (before_of e k) (see (machine e) k)
  source_now ds content = source_moved files_e ds (seat e k) y (lock_at e k) (session (machine e) k) (alone_of e k) (before_of e k) (see (machine e) k) refl refl refl refl
      (step (λ old new. undoes_all new (stmt_at (seat e k).sitting) ≡ false → undoes_all old (stmt_at (seat e k).sitting) ≡ false) (λ rows q. refl) (λ q. refl) (λ o q. refl))
      (content.1 k d.moves.is).source

  -- what it takes in from memory isn't a copy
  no_copy : (cut : ℕ) (p : PageId) (rows : Bool) → (seat e k).sitting.within ≡ Some cut → d.next ≡ Take p rows → (seat e k).sitting.found ≡ true → ⊥
  no_copy cut p rows within at found = by d.mode d.next d.fetches at
    where
      by : (mode : LatchMode) (next : Point) → Fetches (seat e k) d.page mode next → next ≡ Take p rows → ⊥
      by mode next (Reads c at has visits where_is) q = elim where_is [
        | inl source ↦ (let none : (seat e k).sitting.within ≡ None = subst (λ a. IsIn a (seat e k).sitting.within) source (me.seated.posed.course c has).database in let wrong : None ≡ Some cut = sym none ∙ within in cc)
        | inr through ↦ (let wrong : true ≡ false = sym found ∙ through in cc)
      ]
      by mode next (Edits c at has edit) q = cc
      by mode next (Claims owner at) q = cc

  reading_now : (ds : List TableDesc) → IsContent e ds → IsToldReading e.pages (machine e) y
  reading_now ds content =
      let old = (content.1 k d.moves.is).reading in
      record {
        seen = old.seen;
        image = λ cut n p rows within place kept at found. absurd (no_copy cut p rows within at found);
        reply = old.reply;
      }

  pinned_now : (p : PageId) → pins s.pages p + seat_pins (seat e k) p ≡ pins e.pages p + seat_pins y p
  pinned_now p =
      let now : pins s.pages p ≡ cond (is_page d.page p) (pins e.pages p + 1) (pins e.pages p) = λ i. d.pool.pinned i p in
      let was : seat_pins (seat e k) p ≡ 0 + (gathered_on (seat e k).gathered p + count_on (seat e k).work.recs p) = ap (λ (h : Grip). grip_pin h p + (gathered_on (seat e k).gathered p + count_on (seat e k).work.recs p)) d.hold in
      elim (cases_Bool (is_page d.page p)) [
        | inl t ↦ (let a = now ∙ ap (λ b. cond b (pins e.pages p + 1) (pins e.pages p)) t in let b : seat_pins y p ≡ 1 + (gathered_on (seat e k).gathered p + count_on (seat e k).work.recs p) = ap (λ b. cond b 1 0 + (gathered_on (seat e k).gathered p + count_on (seat e k).work.recs p)) t in omega (arith, a, b, was))
        | inr f ↦ (let a = now ∙ ap (λ b. cond b (pins e.pages p + 1) (pins e.pages p)) f in let b : seat_pins y p ≡ 0 + (gathered_on (seat e k).gathered p + count_on (seat e k).work.recs p) = ap (λ b. cond b 1 0 + (gathered_on (seat e k).gathered p + count_on (seat e k).work.recs p)) f in omega (arith, a, b, was))
      ]

  pub fetch_keeps : Steps e s k
  fetch_keeps = seat_moves e s k y safe d.moves stays (ap (λ (c : Catalog). map snap_told c.snaps) d.snaps.cat) refl refl refl refl refl
      (record { reads = λ j c p is ne within at. map_same c p; marks = λ j c p is ne copied hold. map_same c p; sparse = λ j c p is ne copied hold kept. file_same c p })
      (λ j ne. ap (λ ls. latch_of ls (sess j)) d.latches)
      (subst IsLatchBook (sym d.latches) safe.whole.latches)
      pinned_now
      (record {
        seated = subst (λ (ls : Latches). IsSeated files_e y (latch_of ls (sess k)) (lock_at e k)) (sym d.latches) seated_now;
        beside = beside_stays e.pages s.pages stays y (λ c p within at. map_same c p) (λ c p copied hold. map_same c p) (λ c p copied hold kept. file_same c p) beside_before;
        placed = me.placed;
        script = refl;
        in_step = in_step_now;
        aside = λ who snap restores. (let old = me.aside who snap restores in absurd (let wrong : Latched d.page d.mode ≡ Free = sym d.hold ∙ old.latch in cc));
      })
      (λ ds content. (source_now ds content, reading_now ds content))
