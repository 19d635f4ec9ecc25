-- A look at a snapshot's map leaves to others what it owes them, and shows the rest.
use Rattle.std.proofs.Common.{◌≡◌, ℕ, List, refl, ap, sym, subst, ◌∙◌, inl, arith, inr, true, false, map}
use Rattle.std.specs.Prelude.{Option, Some, None}
use Rattle.page_base.specs.declared.numbers.PageId.{PageId}
use Rattle.latch_book.specs.declared.latch.Latch.{Latch}
use Rattle.latch_book.specs.declared.latch.LatchMode.{LatchMode}
use Rattle.latch_book.specs.declared.latch.LatchMode.TheVariants.{Sh, Ex}
use Rattle.latch_book.specs.Latches.{Latches, latch_of, IsLatchBook}
use Rattle.latch_book.proofs.LatchLemmas.{some_latch}
use Rattle.plain_model.specs.State.{session, see}
use Rattle.snap_pages.specs.Cuts.{marked_by, sparse_by}
use Rattle.snap_pages.specs.Shown.{Shown, counts, pins, catalog}
use Rattle.sys_cat.specs.declared.desc.TableDesc.{TableDesc}
use Rattle.step_state.specs.Whole.{snap_told}
use Rattle.step_words.specs.Courses.{Course}
use Rattle.step_words.specs.Sittings.{stmt_at, undoes_all}
use Rattle.step_words.specs.Seats.{Seated, Free, Latched, latch_at}
use Rattle.step_state.specs.State.{State, sess, seat, machine, alone_of, before_of}
use Rattle.step_state.specs.Holding.{lock_at}
use Rattle.step_state.specs.Posed.{FitsGrip, is_making, IsOnCourse, IsPosed}
use Rattle.step_state.specs.Own.{IsSeated, IsInStep, IsSafeSession, page_at, is_gone, is_between}
use Rattle.step_state.specs.Snapshots.{IsBeside, HoldsEx}
use Rattle.step_state.specs.Told.{IsToldSource, IsToldReading}
use Rattle.step_state.specs.Safe.{Safe, IsContent}
use Rattle.step_state.specs.Steps.{Steps}
use Rattle.safe_visit.specs.Looking.{seat_looked, DoesLook}
use Rattle.step_state.proofs.MoveLemmas.{stays_put, seat_moves}

some_is : {T : Type 0} (a b : T) → Some a ≡ Some b → a ≡ b
some_is {T} a b e = ap pick e
  where
    pick : Option T → T
    pick None = a
    pick (Some x) = x

not_both : (p q : PageId) → some_latch p Sh ≡ some_latch q Ex → ⊥
not_both p q same = (let wrong : Sh ≡ Ex = ap mode_of same in cc)
  where
    mode_of : Option Latch → LatchMode
    mode_of None = Sh
    mode_of (Some l) = l.mode

module _ (e s : State) (k : ℕ) (safe : Safe e) (d : DoesLook e s k) where
  abbrev y : Seated
  y = seat_looked (seat e k) d.page (marked_by e.pages d.cut d.page)

  me : IsSafeSession e k
  me = safe.sessions k d.moves.is

  abbrev files_e : List ℕ
  files_e = counts e.pages

  -- it holds the page's latch, in SH
  hold : (seat e k).hold ≡ Latched d.page Sh
  hold = subst (λ t. FitsGrip t (seat e k).sitting.found (seat e k).hold) d.at me.seated.posed.grip

  -- and so it copies nothing
  no_ex : (p : PageId) → HoldsEx (seat e k) p → ⊥
  no_ex p ex = not_both d.page p (sym (ap latch_at hold) ∙ ex)

  on_same : (c : Course) → IsOnCourse files_e (seat e k) c → IsOnCourse files_e y c
  on_same c on = record {
    lent = on.lent;
    tables = on.tables;
    database = on.database;
    emptied = on.emptied;
    unasked = on.unasked;
    unread = on.unread;
    fresh = on.fresh;
    numbers = on.numbers;
    taken = on.taken;
    claimed = on.claimed;
    targets = on.targets;
    there = on.there;
    within = on.within;
    room = on.room;
    ended = on.ended;
  }

  posed_now : IsPosed files_e y
  posed_now = record {
    grip = inl hold;
    course = λ c at. on_same c (me.seated.posed.course c at);
    changes = λ p at. cc;
    commits = λ at. cc;
    off_course = λ t. cc;
    based = me.seated.posed.based;
    idle = me.seated.posed.idle;
    started = λ at. cc;
    without = λ t. cc;
    claims = me.seated.posed.claims;
    claiming = λ owner at. cc;
    undoes = λ all at. cc;
    says = λ at. cc;
    makes = λ f. me.seated.posed.makes (ap is_making d.at);
    unlatched = me.seated.posed.unlatched;
  }

  seated_now : IsSeated files_e y (latch_of e.latches (sess k)) (lock_at e k)
  seated_now = record {
    latched = me.seated.latched;
    posed = posed_now;
    there = λ p at. me.seated.there p (ap page_at d.at ∙ at);
    rooted = me.seated.rooted;
    nowhere = me.seated.nowhere;
    holding = me.seated.holding;
    writing = me.seated.writing;
    committing = λ at. cc;
  }

  beside_now : IsBeside e.pages y
  beside_now = record {
    reads = λ c p within at.
        let cut_is : d.cut ≡ c = some_is d.cut c (sym d.within ∙ within) in
        let page_is : d.page ≡ p = some_is d.page p at in
        let same : marked_by e.pages d.cut d.page ≡ marked_by e.pages c p = ap (λ m. marked_by e.pages m d.page) cut_is ∙ ap (marked_by e.pages c) page_is in
        ((λ t. sym same ∙ t), (λ f. inl (sym same ∙ f)));
    marks = λ c p copied ex sound. absurd (no_ex p ex);
    copies = λ c p copied ex kept. absurd (no_ex p ex);
    copied = me.beside.copied;
    paid = λ c made at none sound. cc;
    made = me.beside.made;
    named = me.beside.named;
  }

  in_step_now : IsInStep e.pages y (session (machine e) k) (machine e).moment
  in_step_now = record {
    said = me.in_step.said;
    current = me.in_step.current;
    depth = me.in_step.depth;
    level = me.in_step.level;
    idle = me.in_step.idle;
    making = me.in_step.making;
    gone = me.in_step.gone ∙ ap is_gone d.at;
    rested = λ t. me.in_step.rested (elim t [ inl b ↦ absurd (let wrong : false ≡ true = b in cc) | inr none ↦ inr none ]);
    begun = λ f. me.in_step.begun (ap is_between d.at);
  }

  source_now : (ds : List TableDesc) → IsContent e ds → IsToldSource files_e ds y (lock_at e k) (session (machine e) k) (alone_of e k) (before_of e k) (see (machine e) k)
  source_now ds content =
      let told = (content.1 k d.moves.is).source in
      record {
        agree = told.agree;
        sees = λ f. told.sees (ap (λ t. undoes_all t (stmt_at (seat e k).sitting)) d.at);
        spread = told.spread;
        seen = told.seen;
        planned = told.planned;
        apart = told.apart;
        waits = told.waits;
        goes = told.goes;
        sized = told.sized;
        unwound = told.unwound;
        back = told.back;
      }

  reading_now : (ds : List TableDesc) → IsContent e ds → IsToldReading e.pages (machine e) y
  reading_now ds content =
      let old = (content.1 k d.moves.is).reading in
      record { seen = old.seen; image = λ cut n p rows within place kept at found. cc; reply = old.reply }

  pub look_keeps : Steps e s k
  look_keeps = seat_moves e s k y safe d.moves (stays_put e.pages s.pages d.pages) (ap (λ (v : Shown). map snap_told (catalog v).snaps) d.pages) refl refl refl refl refl
      (record {
        reads = λ j c p is ne within at. ap (λ (v : Shown). marked_by v c p) d.pages;
        marks = λ j c p is ne copied hold. ap (λ (v : Shown). marked_by v c p) d.pages;
        sparse = λ j c p is ne copied hold kept. ap (λ (v : Shown). sparse_by v c p) d.pages;
      })
      (λ j ne. ap (λ ls. latch_of ls (sess j)) d.latches)
      (subst IsLatchBook (sym d.latches) safe.whole.latches)
      (λ p. (let same : pins s.pages p ≡ pins e.pages p = ap (λ (v : Shown). pins v p) d.pages in omega (arith, same)))
      (record {
        seated = subst (λ (ls : Latches). IsSeated files_e y (latch_of ls (sess k)) (lock_at e k)) (sym d.latches) seated_now;
        beside = subst (λ (v : Shown). IsBeside v y) (sym d.pages) beside_now;
        placed = me.placed;
        script = refl;
        in_step = in_step_now;
        aside = λ who snap restores. (let old = me.aside who snap restores in absurd (let wrong : Latched d.page Sh ≡ Free = sym hold ∙ old.latch in cc));
      })
      (λ ds content. (source_now ds content, reading_now ds content))
