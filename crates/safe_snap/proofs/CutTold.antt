-- What a cut leaves where the files tell: all see what they saw, and the new snapshot's copy is what was committed.
use Rattle.std.proofs.Common.{◌≡◌, ◌≢◌, ℕ, ◌+◌, Bool, true, false, cond, List, [], ◌∷◌, refl, ap, sym, subst, ◌∙◌, inl, inr, arith}
use Rattle.std.specs.Prelude.{Option, Some, None, IsTrue, option_map}
use Rattle.std.proofs.lemmas.Bool.{cases_eq}
use Rattle.std.proofs.lemmas.List.{get_or_past}
use Rattle.page_base.specs.declared.numbers.PageId.{PageId}
use Rattle.page_base.specs.declared.numbers.SnapNo.{SnapNo}
use Rattle.page_base.specs.Slots.{Slots}
use Rattle.page_dev.specs.Files.{Files}
use Rattle.page_fmt.specs.Content.{IsPage}
use Rattle.plain_model.specs.declared.event.Event.TheVariants.{CutAt}
use Rattle.plain_model.specs.Legal.{Legal}
use Rattle.plain_model.specs.State.{Plain, Session, session, committed, see, copy}
use Rattle.plain_model.specs.Tables.{Tables, apply}
use Rattle.plain_steps.proofs.AfterLemmas.{source_is, sights_are, cut_copy}
use Rattle.plain_steps.proofs.LockLemmas.{bytes_same, other_bytes}
use Rattle.rec_log.specs.Records.{Record}
use Rattle.rec_log.specs.Undone.{undone}
use Rattle.sparse_set.specs.Sparse.{Sparse, is_copied, sparse_page}
use Rattle.snap_cat.specs.Catalog.{Snap, snap_at, no_snap}
use Rattle.snap_pages.specs.Shown.{catalog, count, counts, img, set_of, owes_of, IsOpen}
use Rattle.snap_pages.specs.Slots.{slots_of}
use Rattle.snap_pages.specs.Views.{IsKept, view}
use Rattle.snap_pages.proofs.CutLemmas.{place_some, by_place}
use Rattle.sys_cat.specs.declared.desc.TableDesc.{TableDesc}
use Rattle.page_tables.specs.Bases.{IsBase}
use Rattle.page_tables.specs.Owners.{is_there}
use Rattle.page_tables.specs.Sheets.{sheets}
use Rattle.open_work.specs.Open.{Parts, all, settled, alone, before}
use Rattle.step_words.specs.declared.point.Point.{Point}
use Rattle.step_words.specs.declared.point.Point.TheVariants.{Heal, Say, Take}
use Rattle.step_words.specs.Courses.{Course}
use Rattle.step_words.specs.Sittings.{stmt_at, undoes_all}
use Rattle.step_words.specs.Seats.{Seated}
use Rattle.step_state.specs.State.{State, Fixed, IsSession, sess, seat, works, many, machine, slots_at, settled_of, alone_of, before_of}
use Rattle.step_state.specs.Holding.{lock_at}
use Rattle.step_state.specs.Snapshots.{name_by}
use Rattle.plain_steps.specs.Modes.{mode_in}
use Rattle.step_state.specs.Posed.{lacks_course}
use Rattle.step_state.specs.Own.{IsSafeSession}
use Rattle.step_state.specs.Told.{GoBack, IsToldSource, IsToldReading, IsTold, IsToldWhole}
use Rattle.step_state.specs.Safe.{Safe, IsContent}
use Rattle.step_state.specs.Steps.{LeavesQuiet}
use Rattle.step_state.proofs.KeptLemmas.{source_same}
use Rattle.step_state.proofs.MachineLemmas.{history_more}
use Rattle.safe_snap.specs.Cutting.{point_after, seat_after, DoesCut}
use Rattle.safe_snap.proofs.CutSnaps.{old_snap, old_set, new_snap, new_set, old_or_new, files_same, place_back}
use Rattle.safe_snap.proofs.CutWhole.{history, now, else, as_many, held_same, works_same, its_session, kept_back, cut_known, no_revert}
use Rattle.safe_snap.proofs.OwingLemmas.{all_go}

-- which points come then
pub by_owed : (P : Point → Type 0) (owed : List Record) → P Say → P Heal → P (point_after owed)
by_owed P [] a b = a
by_owed P (r ∷ rs) a b = b

module _ (e s : State) (k : ℕ) (safe : Safe e) (d : DoesCut e s k) (ds : List TableDesc) (content : IsContent e ds) where
  abbrev y : Seated
  y = seat_after (seat e k) d.owed.recs (catalog e.pages).next_cut

  me : IsSafeSession e k
  me = safe.sessions k d.is

  -- PAGES AND RECORDS

  works_all : works s ≡ works e
  works_all = λ i j. works_same e s k safe d j i

  slots_all : slots_at s ≡ slots_at e
  slots_all = ap slots_of d.shown.images

  same_many : many s ≡ many e
  same_many = ap (λ n. n + 1) (as_many e s k safe d)

  settled_now : settled_of s ≡ settled_of e
  settled_now = ap (λ n. settled n (works s) (slots_at s)) same_many ∙ ap (λ (w : Parts). settled (many e) w (slots_at s)) works_all ∙ ap (λ (t : Slots). settled (many e) (works e) t) slots_all

  alone_now : (j : ℕ) → alone_of s j ≡ alone_of e j
  alone_now j = ap (λ n. alone n (works s) j (slots_at s)) same_many ∙ ap (λ (w : Parts). alone (many e) w j (slots_at s)) works_all ∙ ap (λ (t : Slots). alone (many e) (works e) j t) slots_all

  base_now : (j : ℕ) → (seat s j).base ≡ (seat e j).base
  base_now j = elim (cases_eq j k) [
    | inl here ↦ ap (λ m. (seat s m).base) here ∙ ap (λ (x : Seated). x.base) (now e s k safe d) ∙ sym (ap (λ m. (seat e m).base) here)
    | inr ne ↦ ap (λ (x : Seated). x.base) (else e s k safe d j ne)
  ]

  before_now : (j : ℕ) → before_of s j ≡ before_of e j
  before_now j = ap (λ b. before (many s) (works s) j b (slots_at s)) (base_now j) ∙ ap (λ n. before n (works s) j (seat e j).base (slots_at s)) same_many ∙ ap (λ (w : Parts). before (many e) w j (seat e j).base (slots_at s)) works_all ∙ ap (λ (t : Slots). before (many e) (works e) j (seat e j).base t) slots_all

  -- THE PLAIN MACHINE

  committed_now : committed (machine s) ≡ committed (machine e)
  committed_now = ap committed (history e s k safe d) ∙ source_is (machine e) (CutAt (sess k) d.snap)

  see_else : (j : ℕ) → IsSession e j → j ≢ k → see (machine s) j ≡ see (machine e) j
  see_else j is ne = ap (λ (m : Plain). see m j) (history e s k safe d) ∙ sights_are (machine e) (CutAt (sess k) d.snap) d.comes j is.first ne

  see_own : see (machine s) k ≡ see (machine e) k
  see_own = ap (λ (x : Session). apply x.work (committed (machine s))) (its_session e s k safe d) ∙ ap (apply (session (machine e) k).work) committed_now

  copy_else : (name : List ℕ) → name ≢ d.snap → copy (machine s) name ≡ copy (machine e) name
  copy_else name ne = ap (λ (m : Plain). copy m name) (history e s k safe d) ∙ cut_copy (machine e) (sess k) d.snap name ∙ ap (λ b. cond b (committed (machine e)) (copy (machine e) name)) (other_bytes name d.snap ne)

  copy_new : copy (machine s) d.snap ≡ committed (machine e)
  copy_new = ap (λ (m : Plain). copy m d.snap) (history e s k safe d) ∙ cut_copy (machine e) (sess k) d.snap d.snap ∙ ap (λ b. cond b (committed (machine e)) (copy (machine e) d.snap)) (bytes_same d.snap)

  -- SNAPSHOTS BY THEIR PLACES

  new_view : (n : SnapNo) → n.0 ≡ count e.pages → IsKept s.pages n → view s.pages n ≡ img e.pages
  new_view n here kept = elim (d.views n kept) [
    | inr new ↦ new.1
    | inl was ↦ absurd (was.0.sound (ap (λ (x : Snap). x.state) (get_or_past (catalog e.pages).snaps n.0 no_snap (omega (arith, here)))))
  ]

  new_owes : (n : SnapNo) → n.0 ≡ count e.pages → owes_of s.pages n ≡ all (many e) (works e)
  new_owes n here = ap (λ (x : Snap). x.owed.recs) (new_snap e s k safe d n here) ∙ d.owes

  copies_now : (n : SnapNo) → IsOpen s.pages n → IsKept s.pages n → (es : List TableDesc) × IsBase (counts s.pages) (sheets (undone (owes_of s.pages n) (slots_of (view s.pages n)))) es (copy (machine s) (snap_at (catalog s.pages) n).name)
  copies_now n there kept = elim (old_or_new e s k safe d n there) [
    | inl old ↦
        let was = kept_back e s k safe d n old kept in
        let c = content.0.copies n old was.0 in
        let snap = old_snap e s k safe d n old in (
          c.0,
          subst (λ f. IsBase f (sheets (undone (owes_of s.pages n) (slots_of (view s.pages n)))) c.0 (copy (machine s) (snap_at (catalog s.pages) n).name)) (sym (files_same e s k safe d))
              (subst (λ (x : Snap). IsBase (counts e.pages) (sheets (undone x.owed.recs (slots_of (view s.pages n)))) c.0 (copy (machine s) x.name)) (sym snap)
              (subst (λ (v : PageId → List ℕ). IsBase (counts e.pages) (sheets (undone (owes_of e.pages n) (slots_of v))) c.0 (copy (machine s) (snap_at (catalog e.pages) n).name)) (sym was.1)
              (subst (λ (t : Tables). IsBase (counts e.pages) (sheets (undone (owes_of e.pages n) (slots_of (view e.pages n)))) c.0 t) (sym (copy_else (snap_at (catalog e.pages) n).name (d.lacks n old))) c.1))),
        )
    | inr here ↦
        let name : (snap_at (catalog s.pages) n).name ≡ d.snap = ap (λ (x : Snap). x.name) (new_snap e s k safe d n here) in (
          ds,
          subst (λ f. IsBase f (sheets (undone (owes_of s.pages n) (slots_of (view s.pages n)))) ds (copy (machine s) (snap_at (catalog s.pages) n).name)) (sym (files_same e s k safe d))
              (subst (λ (t : Tables). IsBase (counts e.pages) (sheets (undone (owes_of s.pages n) (slots_of (view s.pages n)))) ds t) (sym (ap (copy (machine s)) name ∙ copy_new))
              (subst (λ (rs : List Record). IsBase (counts e.pages) (sheets (undone rs (slots_of (view s.pages n)))) ds (committed (machine e))) (sym (new_owes n here))
              (subst (λ (v : PageId → List ℕ). IsBase (counts e.pages) (sheets (undone (all (many e) (works e)) (slots_of v))) ds (committed (machine e))) (sym (new_view n here kept)) content.0.source))),
        )
  ]

  owing_now : (n : SnapNo) → IsOpen s.pages n → IsKept s.pages n → GoBack (owes_of s.pages n) (slots_of (view s.pages n))
  owing_now n there kept = elim (old_or_new e s k safe d n there) [
    | inl old ↦
        let was = kept_back e s k safe d n old kept in
        subst (λ (x : Snap). GoBack x.owed.recs (slots_of (view s.pages n))) (sym (old_snap e s k safe d n old))
        (subst (λ (v : PageId → List ℕ). GoBack (owes_of e.pages n) (slots_of v)) (sym was.1) (content.0.owing n old was.0))
    | inr here ↦
        subst (λ (rs : List Record). GoBack rs (slots_of (view s.pages n))) (sym (new_owes n here))
        (subst (λ (v : PageId → List ℕ). GoBack (all (many e) (works e)) (slots_of v)) (sym (new_view n here kept)) (all_go e safe ds content))
  ]

  mapped_now : (n : SnapNo) (p : PageId) → IsOpen s.pages n → IsKept s.pages n → is_copied (set_of s.pages n) p ≡ true → IsPage (sparse_page (set_of s.pages n) p)
  mapped_now n p there kept t = elim (old_or_new e s k safe d n there) [
    | inl old ↦
        let set = old_set e s k safe d n old in
        subst (λ (x : Sparse). IsPage (sparse_page x p)) (sym set) (content.0.mapped n p old (kept_back e s k safe d n old kept).0 (sym (ap (λ (x : Sparse). is_copied x p) set) ∙ t))
    | inr here ↦ absurd (let wrong : true ≡ false = sym t ∙ ap (λ (x : Sparse). is_copied x p) (new_set e s k safe d n here) ∙ d.empty p in cc)
  ]

  -- ITS SESSION

  told : IsToldSource (counts e.pages) ds (seat e k) (lock_at e k) (session (machine e) k) (alone_of e k) (before_of e k) (see (machine e) k)
  told = (content.1 k d.is).source

  no_course : (c : Course) → (seat e k).sitting.course ≡ Some c → ⊥
  no_course c at = (let wrong : None ≡ Some c = sym (me.seated.posed.off_course (ap lacks_course d.at)) ∙ at in cc)

  told_now : IsToldSource (counts e.pages) ds y (lock_at e k) (session (machine s) k) (alone_of e k) (before_of e k) (see (machine e) k)
  told_now = record {
    agree = λ name. ap (λ (x : Session). mode_in x.locks name) (its_session e s k safe d) ∙ told.agree name;
    sees = λ f. told.sees (ap (λ t. undoes_all t (stmt_at (seat e k).sitting)) d.at);
    spread = told.spread;
    seen = λ c at source. absurd (no_course c at);
    planned = λ c at source stage. absurd (no_course c at);
    apart = told.apart;
    waits = told.waits;
    goes = told.goes;
    sized = told.sized;
    unwound = told.unwound;
    back = told.back;
  }

  no_take : (p : PageId) (rows : Bool) → point_after d.owed.recs ≡ Take p rows → ⊥
  no_take p rows = by_owed (λ t. t ≡ Take p rows → ⊥) d.owed.recs (λ q. cc) (λ q. cc)

  reading_now : IsToldReading s.pages (machine s) y
  reading_now = record {
    seen = λ cut n c within place kept at snap. absurd (no_course c at);
    image = λ cut n p rows within place kept point found. absurd (no_take p rows point);
    reply = λ cut n c within place kept at snap ended. absurd (no_course c at);
  }

  pub own_told : IsTold s ds k
  own_told = record {
    source = subst (λ x. IsToldSource (counts s.pages) ds x (lock_at s k) (session (machine s) k) (alone_of s k) (before_of s k) (see (machine s) k)) (sym (now e s k safe d))
        (source_same (counts e.pages) (counts s.pages) ds y (lock_at e k) (lock_at s k) (session (machine s) k) (session (machine s) k) (alone_of e k) (alone_of s k) (before_of e k) (before_of s k) (see (machine e) k) (see (machine s) k)
        (files_same e s k safe d) (held_same e s k safe d k) refl (alone_now k) (before_now k) see_own told_now);
    reading = subst (λ x. IsToldReading s.pages (machine s) x) (sym (now e s k safe d)) reading_now;
  }

  -- THE OTHERS

  -- the database of a session isn't the new snapshot
  other_name : (j c : ℕ) → IsSession e j → (seat e j).sitting.within ≡ Some c → (seat e j).sitting.current ≢ d.snap
  other_name j c is within same = by_place {P = ⊥} e.pages c
      (λ n at.
      let here : name_by e.pages c ≡ Some (snap_at (catalog e.pages) n).name = ap (λ o. option_map (λ (f : Snap × Sparse). f.0.name) (option_map (λ (m : SnapNo). (snap_at (catalog e.pages) m, set_of e.pages m)) o)) at in
      let is_it : Some (snap_at (catalog e.pages) n).name ≡ Some (seat e j).sitting.current = sym here ∙ ((safe.sessions j is).beside.named c within).1 in
      d.lacks n (place_some e.pages c n at).there (ap (λ o. named_or o) is_it ∙ same))
      (λ none.
      let here : name_by e.pages c ≡ None = ap (λ o. option_map (λ (f : Snap × Sparse). f.0.name) (option_map (λ (m : SnapNo). (snap_at (catalog e.pages) m, set_of e.pages m)) o)) none in
      (let wrong : None ≡ Some (seat e j).sitting.current = sym here ∙ ((safe.sessions j is).beside.named c within).1 in cc))
    where
      named_or : Option (List ℕ) → List ℕ
      named_or None = []
      named_or (Some name) = name

  pub quiet : LeavesQuiet e s k
  quiet = record {
    alone = λ j is ne. alone_now j;
    before = λ j is ne. before_now j;
    see = see_else;
    views = λ j c n is ne within place kept.
        let old = place_back e s k safe d c n (cut_known e s k safe d j c is within) place in
        let was = kept_back e s k safe d n old.1 kept in
        (n, old.0, was.0, was.1);
    copies = λ j c is ne within. copy_else (seat e j).sitting.current (other_name j c is within);
  }

  -- THE WHOLE

  legal_now : Legal s.fixed.opening s.fixed.scripts s.events
  legal_now = subst (λ (f : Fixed). Legal f.opening f.scripts s.events) (sym d.fixed) (subst (λ es. Legal e.fixed.opening e.fixed.scripts es) (sym d.events) (history_more e.fixed.opening e.fixed.scripts e.events (CutAt (sess k) d.snap) content.0.legal d.comes))

  pub whole_told : IsToldWhole s ds
  whole_told = record {
    tells = subst (λ (f : Files). IsTrue f.tells) (sym d.shown.files) content.0.tells;
    legal = legal_now;
    images = λ p there. subst IsPage (sym (λ i. d.shown.images i p)) (content.0.images p (sym (ap (λ f. is_there f p) (files_same e s k safe d)) ∙ there));
    mapped = mapped_now;
    copies = copies_now;
    owing = owing_now;
    source =
        subst (λ f. IsBase f (sheets (settled_of s)) ds (committed (machine s))) (sym (files_same e s k safe d))
        (subst (λ (t : Slots). IsBase (counts e.pages) (sheets t) ds (committed (machine s))) (sym settled_now)
        (subst (λ (t : Tables). IsBase (counts e.pages) (sheets (settled_of e)) ds t) (sym committed_now) content.0.source));
    gathered = λ who snap restores kept. absurd (let wrong : None ≡ Some (who, snap) = sym (no_revert e s k safe d) ∙ restores in cc);
  }
