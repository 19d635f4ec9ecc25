-- A snapshot's own copy that is read leaves to others what it owes them, and shows the rest.
use Rattle.std.proofs.Common.{◌≡◌, ℕ, Bool, true, false, List, refl, ap, sym, subst, ◌∙◌, inl, inr, arith, map}
use Rattle.std.specs.Prelude.{Option, Some, None, IsTrue}
use Rattle.snap_cat.specs.Catalog.{Catalog}
use Rattle.page_base.specs.declared.numbers.PageId.{PageId}
use Rattle.page_base.specs.declared.numbers.SnapNo.{SnapNo}
use Rattle.latch_book.specs.declared.latch.LatchMode.TheVariants.{Sh}
use Rattle.latch_book.specs.Latches.{Latches, latch_of, IsLatchBook}
use Rattle.plain_model.specs.State.{session, see}
use Rattle.sparse_set.specs.Sparse.{Sparse, is_copied, sparse_page}
use Rattle.snap_pages.specs.Cuts.{place_of, marked_by, sparse_by}
use Rattle.snap_pages.specs.Views.{IsKept, view}
use Rattle.page_base.specs.Pages.{Pages, image_at, page_or}
use Rattle.buf_pool.specs.Pool.{Pooled, pins as pool_pins}
use Rattle.snap_pages.specs.Shown.{counts, pins, set_of}
use Rattle.sys_cat.specs.declared.desc.TableDesc.{TableDesc}
use Rattle.step_words.specs.declared.point.Point.{Point}
use Rattle.step_words.specs.declared.point.Point.TheVariants.{Take}
use Rattle.step_words.specs.Sittings.{stmt_at, undoes_all}
use Rattle.step_words.specs.Seats.{Seated, Free, Latched}
use Rattle.step_state.specs.State.{State, sess, seat, machine, alone_of, before_of}
use Rattle.step_state.specs.Holding.{lock_at}
use Rattle.step_state.specs.Posed.{FitsGrip, is_making, IsPosed}
use Rattle.step_state.specs.Own.{IsSeated, IsInStep, IsSafeSession, page_at, is_gone, is_between}
use Rattle.step_state.specs.Snapshots.{IsBeside, IsKeptBy, page_read}
use Rattle.step_state.specs.Whole.{snap_told}
use Rattle.step_state.specs.Told.{IsToldSource, IsToldReading}
use Rattle.step_state.specs.Safe.{Safe, IsContent}
use Rattle.step_state.specs.Steps.{Steps}
use Rattle.step_state.specs.Moving.{StaysShown}
use Rattle.step_state.proofs.MoveLemmas.{beside_stays, on_moved, source_moved, seat_moves}
use Rattle.step_state.proofs.ApartLemmas.{by_place_no, marked_on, sparse_at, stays_set}
use Rattle.safe_visit.specs.Fetching.{wants_rows, seat_read, DoesReadCopy}

some_is : {T : Type 0} (a b : T) → Some a ≡ Some b → a ≡ b
some_is {T} a b e = ap pick e
  where
    pick : Option T → T
    pick None = a
    pick (Some x) = x

module _ (e s : State) (k : ℕ) (safe : Safe e) (d : DoesReadCopy e s k) where
  abbrev y : Seated
  y = seat_read (seat e k) d.page (wants_rows d.course.stage) d.image

  me : IsSafeSession e k
  me = safe.sessions k d.moves.is

  abbrev files_e : List ℕ
  files_e = counts e.pages

  map_here : (p : PageId) → is_copied (set_of s.pages d.place) p ≡ is_copied (set_of e.pages d.place) p
  map_here p = ap (λ (m : Pages Bool). page_or m p false) d.map

  stays : StaysShown e.pages s.pages
  stays = stays_set e.pages s.pages d.place d.only d.places d.views d.counts (λ p t. map_here p ∙ t) (λ p t f. absurd (let wrong : true ≡ false = sym t ∙ map_here p ∙ f in cc))

  grip_now : (rows found : Bool) → found ≡ true → FitsGrip (Take d.page rows) found (Latched d.page Sh)
  grip_now rows true t = inl refl
  grip_now rows false t = absurd (let wrong : false ≡ true = t in cc)

  posed_now : IsPosed files_e y
  posed_now = record {
    grip = subst (λ h. FitsGrip (Take d.page (wants_rows d.course.stage)) (seat e k).sitting.found h) (sym d.hold) (grip_now (wants_rows d.course.stage) (seat e k).sitting.found d.found);
    course = λ c at. on_moved files_e (seat e k) y c refl refl refl refl (me.seated.posed.course c at);
    changes = λ p at. cc;
    commits = λ at. cc;
    off_course = λ t. cc;
    based = me.seated.posed.based;
    idle = me.seated.posed.idle;
    started = λ at. cc;
    without = λ t. cc;
    claims = me.seated.posed.claims;
    claiming = λ owner at. cc;
    undoes = λ all at. cc;
    says = λ at. cc;
    makes = λ f. me.seated.posed.makes (ap is_making d.at);
    unlatched = me.seated.posed.unlatched;
  }

  seated_now : IsSeated files_e y (latch_of e.latches (sess k)) (lock_at e k)
  seated_now = record {
    latched = me.seated.latched;
    posed = posed_now;
    there = λ p at. me.seated.there p (ap page_at d.at ∙ at);
    rooted = me.seated.rooted;
    nowhere = me.seated.nowhere;
    holding = me.seated.holding;
    writing = me.seated.writing;
    committing = λ at. cc;
  }

  beside_before : IsBeside e.pages y
  beside_before = record {
    reads = λ c p within at. me.beside.reads c p within (ap page_read d.at ∙ at);
    marks = me.beside.marks;
    copies = me.beside.copies;
    paid = λ c making at none sound. cc;
    copied = me.beside.copied;
    made = me.beside.made;
    named = me.beside.named;
  }

  map_same : (c : ℕ) (p : PageId) → marked_by s.pages c p ≡ marked_by e.pages c p
  map_same c p = marked_on e.pages s.pages d.places c p (λ n. by_place_no (λ m. is_copied (set_of s.pages m) p ≡ is_copied (set_of e.pages m) p) d.place n (map_here p) (λ ne. ap (λ (t : Sparse). is_copied t p) (d.only.others n ne)))

  page_same : (n : SnapNo) (p : PageId) → IsKept s.pages n → sparse_page (set_of s.pages n) p ≡ sparse_page (set_of e.pages n) p
  page_same n p kept = by_place_no (λ m. IsTrue (set_of e.pages m).files.tells → sparse_page (set_of s.pages m) p ≡ sparse_page (set_of e.pages m) p) d.place n
      (λ tells. ap (λ (x : Pages (List ℕ)). image_at x p) (d.content tells)) (λ ne tells. ap (λ (t : Sparse). sparse_page t p) (d.only.others n ne)) (d.views.each n kept).0.tells

  file_same : (c : ℕ) (p : PageId) → IsKeptBy s.pages c → sparse_by s.pages c p ≡ sparse_by e.pages c p
  file_same c p kept = sparse_at s.pages c kept.0 kept.1 p ∙ page_same kept.0 p kept.2 ∙ sym (sparse_at e.pages c kept.0 ((λ i. sym d.places.places i c) ∙ kept.1) p)

  in_step_now : IsInStep e.pages y (session (machine e) k) (machine e).moment
  in_step_now = record {
    said = me.in_step.said;
    current = me.in_step.current;
    depth = me.in_step.depth;
    level = me.in_step.level;
    idle = me.in_step.idle;
    making = me.in_step.making;
    gone = me.in_step.gone ∙ ap is_gone d.at;
    rested = λ t. me.in_step.rested (elim t [ inl b ↦ absurd (let wrong : false ≡ true = b in cc) | inr none ↦ inr none ]);
    begun = λ f. me.in_step.begun (ap is_between d.at);
  }

  source_now : (ds : List TableDesc) → IsContent e ds → IsToldSource files_e ds y (lock_at e k) (session (machine e) k) (alone_of e k) (before_of e k) (see (machine e) k)
  source_now ds content = source_moved files_e ds (seat e k) y (lock_at e k) (session (machine e) k) (alone_of e k) (before_of e k) (see (machine e) k) refl refl refl refl
      (λ f. ap (λ t. undoes_all t (stmt_at (seat e k).sitting)) d.at) (content.1 k d.moves.is).source

  -- what it has read is the page of the view
  image_now : (cut : ℕ) (n : SnapNo) (p : PageId) (rows : Bool) → (seat e k).sitting.within ≡ Some cut → place_of e.pages cut ≡ Some n → IsKept e.pages n → Take d.page (wants_rows d.course.stage) ≡ Take p rows → d.image ≡ view e.pages n p
  image_now cut n p rows within place kept at =
      let cut_is : cut ≡ d.cut = some_is cut d.cut (sym within ∙ d.within) in
      let n_is : n ≡ d.place = some_is n d.place (sym place ∙ ap (place_of e.pages) cut_is ∙ d.its) in
      let p_is : d.page ≡ p = ap page_of at in
      d.reads (subst (λ m. IsKept e.pages m) n_is kept) ∙ ap (λ m. view e.pages m d.page) (sym n_is) ∙ ap (view e.pages n) p_is
    where
      page_of : Point → PageId
      page_of (Take q r) = q
      page_of point = d.page

  reading_now : (ds : List TableDesc) → IsContent e ds → IsToldReading e.pages (machine e) y
  reading_now ds content =
      let old = (content.1 k d.moves.is).reading in
      record {
        seen = old.seen;
        image = λ cut n p rows within place kept at found. image_now cut n p rows within place kept at;
        reply = old.reply;
      }

  pub read_copy_keeps : Steps e s k
  read_copy_keeps = seat_moves e s k y safe d.moves stays (ap (λ (c : Catalog). map snap_told c.snaps) d.only.cat) refl refl refl refl refl
      (record { reads = λ j c p is ne within at. map_same c p; marks = λ j c p is ne copied hold. map_same c p; sparse = λ j c p is ne copied hold kept. file_same c p kept })
      (λ j ne. ap (λ ls. latch_of ls (sess j)) d.latches)
      (subst IsLatchBook (sym d.latches) safe.whole.latches)
      (λ p. (let same : pins s.pages p ≡ pins e.pages p = ap (λ (x : Pooled). pool_pins x p) d.only.pool in omega (arith, same)))
      (record {
        seated = subst (λ (ls : Latches). IsSeated files_e y (latch_of ls (sess k)) (lock_at e k)) (sym d.latches) seated_now;
        beside = beside_stays e.pages s.pages stays y (λ c p within at. map_same c p) (λ c p copied hold. map_same c p) (λ c p copied hold kept. file_same c p kept) beside_before;
        placed = me.placed;
        script = refl;
        in_step = in_step_now;
        aside = λ who snap restores. (let old = me.aside who snap restores in absurd (let wrong : Latched d.page Sh ≡ Free = sym d.hold ∙ old.latch in cc));
      })
      (λ ds content. (source_now ds content, reading_now ds content))
