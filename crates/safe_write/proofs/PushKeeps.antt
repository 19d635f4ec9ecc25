-- A copy and a mark leave to others what they owe them, and show the rest.
use Rattle.std.proofs.Common.{◌≡◌, ◌≢◌, ℕ, Bool, true, false, List, refl, ap, sym, subst, ◌∙◌, inl, inr, arith, map}
use Rattle.std.specs.Prelude.{Option, Some, None, IsTrue}
use Rattle.page_base.specs.declared.numbers.Mode.{Mode}
use Rattle.page_base.specs.declared.numbers.PageId.{PageId}
use Rattle.page_base.specs.declared.numbers.SnapNo.{SnapNo}
use Rattle.page_base.specs.Pages.{Pages, blank, image_at, page_or}
use Rattle.page_base.proofs.PagesLemmas.{page_or-with_page_other, cases_page}
use Rattle.buf_pool.specs.Pool.{Pooled, pins as pool_pins}
use Rattle.latch_book.specs.declared.latch.Latch.{Latch}
use Rattle.latch_book.specs.declared.latch.LatchMode.TheVariants.{Ex}
use Rattle.latch_book.specs.Latches.{Latches, latch_of, IsLatchBook}
use Rattle.latch_book.proofs.LatchLemmas.{some_latch}
use Rattle.plain_model.specs.State.{session, see}
use Rattle.sparse_set.specs.Sparse.{Sparse, is_copied, sparse_page, marked}
use Rattle.snap_cat.specs.Catalog.{Catalog}
use Rattle.snap_pages.specs.Cuts.{place_of, marked_by, sparse_by}
use Rattle.snap_pages.specs.Shown.{Shown, catalog, counts, pins, img, set_of, cut_of}
use Rattle.snap_pages.specs.Views.{IsKept}
use Rattle.snap_pages.proofs.CutLemmas.{place_of_cut}
use Rattle.sys_cat.specs.declared.desc.TableDesc.{TableDesc}
use Rattle.page_tables.specs.Owners.{is_there}
use Rattle.step_state.specs.Whole.{snap_told}
use Rattle.step_words.specs.Seats.{Seated, Free, Latched, Fetched, latch_at}
use Rattle.step_state.specs.State.{State, IsSession, sess, seat, machine, alone_of, before_of}
use Rattle.step_state.specs.Holding.{lock_at}
use Rattle.step_state.specs.Posed.{IsPosed}
use Rattle.step_state.specs.Own.{IsSeated, IsInStep, IsSafeSession}
use Rattle.step_state.specs.Snapshots.{IsBeside, HoldsEx, IsKeptBy, page_read}
use Rattle.step_state.specs.Told.{IsToldSource, IsToldReading}
use Rattle.step_state.specs.Safe.{Safe, IsContent}
use Rattle.step_state.specs.Steps.{Steps}
use Rattle.step_state.specs.Moving.{StaysShown, MovesOn}
use Rattle.step_state.proofs.MoveLemmas.{stays_put, beside_stays, reading_stays, on_moved, source_moved, moves_on, seat_moves}
use Rattle.step_state.proofs.TurnLemmas.{stays_turned, moves_turned, turned_file, in_step_later, reading_over, same_seat}
use Rattle.step_state.proofs.ApartLemmas.{by_place_no, marked_on, marked_at, sparse_at, stays_set, latch_apart, read_apart}
use Rattle.safe_write.specs.Pushing.{Pushes, ToChange, ToClaim, ToUndo, ToHeal, seat_copied, DoesCopy, Marks, Marked, Gone, DoesMark, DoesLoseCopy}

some_is : {T : Type 0} (a b : T) → Some a ≡ Some b → a ≡ b
some_is {T} a b e = ap pick e
  where
    pick : Option T → T
    pick None = a
    pick (Some x) = x

held_page : (p q : PageId) → some_latch p Ex ≡ some_latch q Ex → p ≡ q
held_page p q e = ap page_of e
  where
    page_of : Option Latch → PageId
    page_of None = p
    page_of (Some l) = l.page

pushes_ex : (x : Seated) (p : PageId) → Pushes x p → HoldsEx x p
pushes_ex x p (ToChange at hold) = ap latch_at hold
pushes_ex x p (ToClaim owner at hold) = ap latch_at hold
pushes_ex x p (ToUndo all at hold) = ap latch_at hold
pushes_ex x p (ToHeal at hold) = ap latch_at hold

pushes_reads : (x : Seated) (p q : PageId) → Pushes x p → page_read x.sitting.point ≡ Some q → ⊥
pushes_reads x p q (ToChange at hold) r = (let wrong : None ≡ Some q = sym (ap page_read at) ∙ r in cc)
pushes_reads x p q (ToClaim owner at hold) r = (let wrong : None ≡ Some q = sym (ap page_read at) ∙ r in cc)
pushes_reads x p q (ToUndo all at hold) r = (let wrong : None ≡ Some q = sym (ap page_read at) ∙ r in cc)
pushes_reads x p q (ToHeal at hold) r = (let wrong : None ≡ Some q = sym (ap page_read at) ∙ r in cc)

pushes_held : (x : Seated) (p : PageId) → Pushes x p → x.hold ≢ Free
pushes_held x p (ToChange at hold) free = (let wrong : Fetched p Ex ≡ Free = sym hold ∙ free in cc)
pushes_held x p (ToClaim owner at hold) free = (let wrong : Fetched p Ex ≡ Free = sym hold ∙ free in cc)
pushes_held x p (ToUndo all at hold) free = (let wrong : Latched p Ex ≡ Free = sym hold ∙ free in cc)
pushes_held x p (ToHeal at hold) free = (let wrong : Latched p Ex ≡ Free = sym hold ∙ free in cc)

-- WHAT BOTH HAVE IN COMMON: THE SEAT

module _ (files : List ℕ) (x : Seated) (latch : Option Latch) (held : ℕ → Option Mode) (copied : Option ℕ) (holds : (p : PageId) × HoldsEx x p) (a : IsSeated files x latch held) where
  posed_copied : IsPosed files (seat_copied x copied)
  posed_copied = record {
    grip = a.posed.grip;
    course = λ c at. on_moved files x (seat_copied x copied) c refl refl refl refl (a.posed.course c at);
    changes = a.posed.changes;
    commits = a.posed.commits;
    off_course = a.posed.off_course;
    based = a.posed.based;
    idle = a.posed.idle;
    started = a.posed.started;
    without = a.posed.without;
    claims = a.posed.claims;
    claiming = a.posed.claiming;
    undoes = λ all at. let old = a.posed.undoes all at in record { some = old.some; whole = old.whole; ends = old.ends };
    says = a.posed.says;
    makes = a.posed.makes;
    unlatched = λ some. holds;
  }

  seated_copied : IsSeated files (seat_copied x copied) latch held
  seated_copied = record {
    latched = a.latched;
    posed = posed_copied;
    there = a.there;
    rooted = a.rooted;
    nowhere = a.nowhere;
    holding = a.holding;
    writing = a.writing;
    committing = a.committing;
  }

module _ (e s : State) (k : ℕ) (safe : Safe e) (copied : Option ℕ) (is : IsSession e k) where
  abbrev z : Seated
  z = seat_copied (seat e k) copied

  in_step_copied : IsInStep e.pages z (session (machine e) k) (machine e).moment
  in_step_copied =
      let a = (safe.sessions k is).in_step in
      record { said = a.said; current = a.current; depth = a.depth; level = a.level; idle = a.idle; making = a.making; gone = a.gone; rested = a.rested; begun = a.begun }

  told_copied : (ds : List TableDesc) → IsContent e ds → IsToldSource (counts e.pages) ds z (lock_at e k) (session (machine e) k) (alone_of e k) (before_of e k) (see (machine e) k) × IsToldReading e.pages (machine e) z
  told_copied ds content =
      let r = (content.1 k is).reading in (
        source_moved (counts e.pages) ds (seat e k) z (lock_at e k) (session (machine e) k) (alone_of e k) (before_of e k) (see (machine e) k) refl refl refl refl (λ f. f) (content.1 k is).source,
        record { seen = r.seen; image = r.image; reply = r.reply },
      )

-- A COPY

module _ (e s : State) (k : ℕ) (safe : Safe e) (d : DoesCopy e s k) where
  abbrev y : Seated
  y = seat_copied (seat e k) (Some (cut_of e.pages d.place))

  me : IsSafeSession e k
  me = safe.sessions k d.moves.is

  ex : HoldsEx (seat e k) d.page
  ex = pushes_ex (seat e k) d.page d.pushes

  map_here : (p : PageId) → is_copied (set_of s.pages d.place) p ≡ is_copied (set_of e.pages d.place) p
  map_here p = ap (λ (m : Pages Bool). page_or m p false) d.map

  stays : StaysShown e.pages s.pages
  stays = stays_set e.pages s.pages d.place d.only d.places d.views d.counts (λ p t. map_here p ∙ t) (λ p t f. absurd (let wrong : true ≡ false = sym t ∙ map_here p ∙ f in cc))

  map_same : (c : ℕ) (p : PageId) → marked_by s.pages c p ≡ marked_by e.pages c p
  map_same c p = marked_on e.pages s.pages d.places c p (λ n. by_place_no (λ m. is_copied (set_of s.pages m) p ≡ is_copied (set_of e.pages m) p) d.place n (map_here p) (λ ne. ap (λ (t : Sparse). is_copied t p) (d.only.others n ne)))

  page_same : (n : SnapNo) (p : PageId) → p ≢ d.page → IsKept s.pages n → sparse_page (set_of s.pages n) p ≡ sparse_page (set_of e.pages n) p
  page_same n p other kept = by_place_no (λ m. IsTrue (set_of e.pages m).files.tells → sparse_page (set_of s.pages m) p ≡ sparse_page (set_of e.pages m) p) d.place n
      (λ tells. ap (λ (x : Pages (List ℕ)). image_at x p) (d.written tells) ∙ page_or-with_page_other (set_of e.pages d.place).files.content d.page p (img e.pages d.page) blank other)
      (λ ne tells. ap (λ (t : Sparse). sparse_page t p) (d.only.others n ne)) (d.views.each n kept).0.tells

  place_back : (c : ℕ) (n : SnapNo) → place_of s.pages c ≡ Some n → place_of e.pages c ≡ Some n
  place_back c n at = (λ i. sym d.places.places i c) ∙ at

  file_same : (c : ℕ) (p : PageId) → p ≢ d.page → IsKeptBy s.pages c → sparse_by s.pages c p ≡ sparse_by e.pages c p
  file_same c p other kept = sparse_at s.pages c kept.0 kept.1 p ∙ page_same kept.0 p other kept.2 ∙ sym (sparse_at e.pages c kept.0 (place_back c kept.0 kept.1) p)

  none_copied : (c : ℕ) → (seat e k).copied ≡ Some c → ⊥
  none_copied c at = (let wrong : None ≡ Some c = sym d.unmarked ∙ at in cc)

  its_place : place_of s.pages (cut_of e.pages d.place) ≡ Some d.place
  its_place = (λ i. d.places.places i (cut_of e.pages d.place)) ∙ place_of_cut e.pages d.place safe.whole.ordered d.opened

  lacks : marked_by s.pages (cut_of e.pages d.place) d.page ≡ false
  lacks = marked_at s.pages (cut_of e.pages d.place) d.place its_place d.page ∙ map_here d.page ∙ d.due.due.uncopied

  has_image : IsKeptBy s.pages (cut_of e.pages d.place) → sparse_by s.pages (cut_of e.pages d.place) d.page ≡ img s.pages d.page
  has_image kept =
      let same : kept.0 ≡ d.place = some_is kept.0 d.place (sym kept.1 ∙ its_place) in
      sparse_at s.pages (cut_of e.pages d.place) d.place its_place d.page ∙ d.copied (subst (λ n. IsTrue (set_of s.pages n).files.tells) same kept.2.tells)

  old_beside : IsBeside s.pages (seat e k)
  old_beside = beside_stays e.pages s.pages stays (seat e k) (λ c p within at. map_same c p) (λ c p copied hold. map_same c p) (λ c p copied hold kept. absurd (none_copied c copied)) me.beside

  beside_now : IsBeside s.pages y
  beside_now = record {
    reads = old_beside.reads;
    marks = λ c p copied hold sound.
        let cut_is : cut_of e.pages d.place ≡ c = some_is (cut_of e.pages d.place) c copied in
        let page_is : d.page ≡ p = held_page d.page p (sym ex ∙ hold) in
        sym (ap (λ m. marked_by s.pages m d.page) cut_is ∙ ap (marked_by s.pages c) page_is) ∙ lacks;
    copies = λ c p copied hold kept.
        let cut_is : cut_of e.pages d.place ≡ c = some_is (cut_of e.pages d.place) c copied in
        let page_is : d.page ≡ p = held_page d.page p (sym ex ∙ hold) in
        subst (λ q. sparse_by s.pages c q ≡ img s.pages q) page_is (subst (λ m. IsKeptBy s.pages m → sparse_by s.pages m d.page ≡ img s.pages d.page) cut_is has_image kept);
    paid = old_beside.paid;
    copied = λ c copied.
        let cut_is : cut_of e.pages d.place ≡ c = some_is (cut_of e.pages d.place) c copied in
        let below = safe.whole.ordered.below d.place d.opened in
        let same : (catalog s.pages).next_cut ≡ (catalog e.pages).next_cut = ap (λ (cat : Catalog). cat.next_cut) d.only.cat in
        omega (arith, below, same, cut_is);
    made = old_beside.made;
    named = old_beside.named;
  }

  pub copy_keeps : Steps e s k
  copy_keeps = seat_moves e s k y safe d.moves stays (ap (λ (c : Catalog). map snap_told c.snaps) d.only.cat) refl refl refl refl refl
      (record {
        reads = λ j c p is ne within at. map_same c p;
        marks = λ j c p is ne copied hold. map_same c p;
        sparse = λ j c p is ne copied hold kept. file_same c p (latch_apart e k d.page safe d.moves.is ex j p Ex is ne hold) kept;
      })
      (λ j ne. ap (λ ls. latch_of ls (sess j)) d.latches)
      (subst IsLatchBook (sym d.latches) safe.whole.latches)
      (λ p. (let same : pins s.pages p ≡ pins e.pages p = ap (λ (x : Pooled). pool_pins x p) d.only.pool in omega (arith, same)))
      (record {
        seated = subst (λ (ls : Latches). IsSeated (counts e.pages) y (latch_of ls (sess k)) (lock_at e k)) (sym d.latches)
            (seated_copied (counts e.pages) (seat e k) (latch_of e.latches (sess k)) (lock_at e k) (Some (cut_of e.pages d.place)) (d.page, pushes_ex (seat e k) d.page d.pushes) me.seated);
        beside = beside_now;
        placed = me.placed;
        script = refl;
        in_step = in_step_copied e s k safe (Some (cut_of e.pages d.place)) d.moves.is;
        aside = λ who snap restores. absurd (pushes_held (seat e k) d.page d.pushes (me.aside who snap restores).latch);
      })
      (told_copied e s k safe (Some (cut_of e.pages d.place)) d.moves.is)

-- A MARK

marked_else : (set : Sparse) (p q : PageId) → q ≢ p → is_copied (marked set p) q ≡ is_copied set q
marked_else set p q ne = page_or-with_page_other set.map p q true false ne

module _ (old new : Shown) (cut : ℕ) (p : PageId) (here : is_there (counts old) p ≡ true) where
  stays_marked : Marks old new cut p → StaysShown old new
  stays_marked (Gone none same) = stays_put old new same
  stays_marked (Marked n at is now only places views) = stays_set old new n only places views (ap (λ (t : Sparse). t.files.counts) is)
      (λ q t. elim (cases_page q p) [
        | inl same ↦ subst (λ r. is_copied (set_of new n) r ≡ true) (sym same) now
        | inr ne ↦ ap (λ (x : Sparse). is_copied x q) is ∙ marked_else (set_of old n) p q ne ∙ t
      ])
      (λ q t f. elim (cases_page q p) [
        | inl same ↦ subst (λ r. is_there (counts old) r ≡ true) (sym same) here
        | inr ne ↦ absurd (let wrong : true ≡ false = sym t ∙ ap (λ (x : Sparse). is_copied x q) is ∙ marked_else (set_of old n) p q ne ∙ f in cc)
      ])

  map_marked : Marks old new cut p → (c : ℕ) (q : PageId) → q ≢ p → marked_by new c q ≡ marked_by old c q
  map_marked (Gone none same) c q ne = ap (λ (v : Shown). marked_by v c q) same
  map_marked (Marked n at is now only places views) c q ne = marked_on old new places c q (λ m. by_place_no (λ j. is_copied (set_of new j) q ≡ is_copied (set_of old j) q) n m (ap (λ (x : Sparse). is_copied x q) is ∙ marked_else (set_of old n) p q ne) (λ other. ap (λ (t : Sparse). is_copied t q) (only.others m other)))

  file_marked : Marks old new cut p → (c : ℕ) (q : PageId) → IsKeptBy new c → sparse_by new c q ≡ sparse_by old c q
  file_marked (Gone none same) c q kept = ap (λ (v : Shown). sparse_by v c q) same
  file_marked (Marked n at is now only places views) c q kept = sparse_at new c kept.0 kept.1 q
      ∙ by_place_no (λ m. sparse_page (set_of new m) q ≡ sparse_page (set_of old m) q) n kept.0 (ap (λ (x : Sparse). sparse_page x q) is) (λ other. ap (λ (x : Sparse). sparse_page x q) (only.others kept.0 other))
      ∙ sym (sparse_at old c kept.0 ((λ i. sym places.places i c) ∙ kept.1) q)

  told_marked : Marks old new cut p → map snap_told (catalog new).snaps ≡ map snap_told (catalog old).snaps
  told_marked (Gone none same) = ap (λ (v : Shown). map snap_told (catalog v).snaps) same
  told_marked (Marked n at is now only places views) = ap (λ (c : Catalog). map snap_told c.snaps) only.cat

  pool_marked : Marks old new cut p → (q : PageId) → pins new q ≡ pins old q
  pool_marked (Gone none same) q = ap (λ (v : Shown). pins v q) same
  pool_marked (Marked n at is now only places views) q = ap (λ (x : Pooled). pool_pins x q) only.pool

module _ (e s : State) (k : ℕ) (safe : Safe e) (d : DoesMark e s k) where
  abbrev w : Seated
  w = seat_copied (seat e k) None

  us : IsSafeSession e k
  us = safe.sessions k d.moves.is

  holds : HoldsEx (seat e k) d.page
  holds = pushes_ex (seat e k) d.page d.pushes

  shown_stays : StaysShown e.pages s.pages
  shown_stays = stays_marked e.pages s.pages d.cut d.page d.there d.marks

  beside_before : IsBeside e.pages w
  beside_before = record {
    reads = us.beside.reads;
    marks = λ c p copied hold sound. cc;
    copies = λ c p copied hold kept. cc;
    paid = us.beside.paid;
    copied = λ c copied. cc;
    made = us.beside.made;
    named = us.beside.named;
  }

  pub mark_keeps : Steps e s k
  mark_keeps = seat_moves e s k w safe d.moves shown_stays (told_marked e.pages s.pages d.cut d.page d.there d.marks) refl refl refl refl refl
      (record {
        reads = λ j c p is ne within at. map_marked e.pages s.pages d.cut d.page d.there d.marks c p (read_apart e k d.page safe d.moves.is holds j p is ne at);
        marks = λ j c p is ne copied hold. map_marked e.pages s.pages d.cut d.page d.there d.marks c p (latch_apart e k d.page safe d.moves.is holds j p Ex is ne hold);
        sparse = λ j c p is ne copied hold kept. file_marked e.pages s.pages d.cut d.page d.there d.marks c p kept;
      })
      (λ j ne. ap (λ ls. latch_of ls (sess j)) d.latches)
      (subst IsLatchBook (sym d.latches) safe.whole.latches)
      (λ p. (let same = pool_marked e.pages s.pages d.cut d.page d.there d.marks p in omega (arith, same)))
      (record {
        seated = subst (λ (ls : Latches). IsSeated (counts e.pages) w (latch_of ls (sess k)) (lock_at e k)) (sym d.latches)
            (seated_copied (counts e.pages) (seat e k) (latch_of e.latches (sess k)) (lock_at e k) None (d.page, pushes_ex (seat e k) d.page d.pushes) us.seated);
        beside = beside_stays e.pages s.pages shown_stays w (λ c p within at. absurd (pushes_reads (seat e k) d.page p d.pushes at)) (λ c p copied hold. cc) (λ c p copied hold kept. cc) beside_before;
        placed = us.placed;
        script = refl;
        in_step = in_step_copied e s k safe None d.moves.is;
        aside = λ who snap restores. absurd (pushes_held (seat e k) d.page d.pushes (us.aside who snap restores).latch);
      })
      (told_copied e s k safe None d.moves.is)

-- A COPY THAT FAILS

module _ (e s : State) (k : ℕ) (safe : Safe e) (d : DoesLoseCopy e s k) where
  abbrev u : Seated
  u = seat e k

  my : IsSafeSession e k
  my = safe.sessions k d.is

  turned_stays : StaysShown e.pages s.pages
  turned_stays = stays_turned e.pages s.pages d.place d.turns

  moves : MovesOn e s k u (lock_at e k) (session (machine e) k)
  moves = moves_turned e s k d.place safe d.turns d.says u d.is (d.seats ∙ same_seat e k)

  map_turned : (c : ℕ) (p : PageId) → marked_by s.pages c p ≡ marked_by e.pages c p
  map_turned c p = marked_on e.pages s.pages d.turns.places c p (λ n. by_place_no (λ m. is_copied (set_of s.pages m) p ≡ is_copied (set_of e.pages m) p) d.place n (ap (λ (m : Pages Bool). page_or m p false) d.turns.map) (λ ne. ap (λ (t : Sparse). is_copied t p) (d.turns.others n ne)))

  file_turned : (c : ℕ) (p : PageId) → IsKeptBy s.pages c → sparse_by s.pages c p ≡ sparse_by e.pages c p
  file_turned c p kept = turned_file e.pages s.pages d.place d.turns c p kept

  none_waits : (c : ℕ) → u.copied ≡ Some c → ⊥
  none_waits c at = (let wrong : None ≡ Some c = sym d.unmarked ∙ at in cc)

  pub lost_copy_keeps : Steps e s k
  lost_copy_keeps = moves_on e s k u (lock_at e k) (session (machine e) k) safe moves turned_stays (λ c in_it. in_it) refl refl refl
      (record {
        reads = λ j c p is ne within at. map_turned c p;
        marks = λ j c p is ne copied hold. map_turned c p;
        sparse = λ j c p is ne copied hold kept. file_turned c p kept;
      })
      (λ j ne. ap (λ ls. latch_of ls (sess j)) d.latches)
      (subst IsLatchBook (sym d.latches) safe.whole.latches)
      (λ p. (let same : pins s.pages p ≡ pins e.pages p = ap (λ (x : Pooled). pool_pins x p) d.turns.pool in omega (arith, same)))
      (record {
        seated = subst (λ (ls : Latches). IsSeated (counts e.pages) u (latch_of ls (sess k)) (lock_at e k)) (sym d.latches) my.seated;
        beside = beside_stays e.pages s.pages turned_stays u (λ c p within at. map_turned c p) (λ c p copied hold. map_turned c p) (λ c p copied hold kept. absurd (none_waits c copied)) my.beside;
        placed = my.placed;
        script = refl;
        in_step = in_step_later e.pages u (session (machine e) k) (machine e).moment (machine s).moment moves.machine.later my.in_step;
        aside = λ who snap restores. my.aside who snap (moves.machine.restores who snap restores);
      })
      (λ ds content. (
        (content.1 k d.is).source,
        reading_over s.pages (machine e) (machine s) u moves.machine.copies (reading_stays e.pages s.pages turned_stays (machine e) u (content.1 k d.is).reading),
      ))
