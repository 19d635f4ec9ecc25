-- A cut leaves to others what it owes them, and shows the rest.
use Rattle.std.proofs.Common.{length, ◌≡◌, ℕ, ◌-◌, ◌≤◌, true, false, List, [], ◌∷◌, refl, ap, sym, subst, ◌∙◌, inl, inr, arith}
use Rattle.std.specs.Prelude.{Option, Some, None, slice_index_or, unwrap_or, option_map, is_some, slice_get}
use Rattle.page_base.specs.declared.numbers.PageId.{PageId}
use Rattle.page_base.specs.declared.numbers.SnapNo.{SnapNo}
use Rattle.latch_book.specs.Latches.{latch_of}
use Rattle.plain_model.specs.State.{Plain, Session, session, stmt_of}
use Rattle.sparse_set.specs.Sparse.{Sparse}
use Rattle.snap_cat.specs.Catalog.{Snap, snap_at}
use Rattle.std.specs.Option.{option_map_or}
use Rattle.rec_log.specs.Records.{Record}
use Rattle.snap_pages.specs.Cuts.{snap_by, is_open_by, owed_by}
use Rattle.snap_pages.specs.Shown.{catalog, count, counts, set_of}
use Rattle.plain_model.specs.Coming.{Silent, Cuts}
use Rattle.plain_model.specs.Next.{next_of}
use Rattle.plain_model.specs.declared.stmt.Stmt.{Stmt}
use Rattle.step_words.specs.Sittings.{stmt_at}
use Rattle.step_words.specs.declared.point.Point.TheVariants.{Say, Start, Change, Claim, Undo, Commit}
use Rattle.step_words.specs.Courses.{Course}
use Rattle.step_words.specs.Seats.{Seated, Free, latch_at}
use Rattle.step_state.specs.State.{State, Fixed, sess, seat, machine}
use Rattle.step_state.specs.Holding.{lock_at}
use Rattle.step_state.specs.Snapshots.{IsBeside, HoldsEx, name_by, page_read}
use Rattle.step_state.specs.Posed.{FitsGrip, lacks_course, lacks_work, is_making, IsPosed}
use Rattle.step_state.specs.Own.{IsSeated, IsInStep, IsSafeSession, is_between, is_gone, page_at, IsPlaced}
use Rattle.step_state.specs.Safe.{Safe}
use Rattle.step_state.specs.Steps.{Steps, Quietly}
use Rattle.step_state.proofs.KeptLemmas.{seated_same}
use Rattle.safe_snap.specs.Cutting.{point_after, seat_after, DoesCut}
use Rattle.safe_snap.proofs.CutSnaps.{new_snap, next_more, files_same}
use Rattle.safe_snap.proofs.CutWhole.{history, now, held_same, its_session, guards, whole_kept, name_same, no_revert}
use Rattle.safe_snap.proofs.CutTold.{by_owed, own_told, quiet, whole_told}

module _ (e s : State) (k : ℕ) (safe : Safe e) (d : DoesCut e s k) where
  abbrev y : Seated
  y = seat_after (seat e k) d.owed.recs (catalog e.pages).next_cut

  me : IsSafeSession e k
  me = safe.sessions k d.is

  no_course : (c : Course) → (seat e k).sitting.course ≡ Some c → ⊥
  no_course c at = (let wrong : None ≡ Some c = sym (me.seated.posed.off_course (ap lacks_course d.at)) ∙ at in cc)

  free_hold : (seat e k).hold ≡ Free
  free_hold = subst (λ t. FitsGrip t (seat e k).sitting.found (seat e k).hold) d.at me.seated.posed.grip

  no_records : (seat e k).work.recs ≡ []
  no_records = me.seated.posed.without (ap lacks_work d.at)

  posed_now : IsPosed (counts e.pages) y
  posed_now = record {
    grip = by_owed (λ t. FitsGrip t (seat e k).sitting.found (seat e k).hold) d.owed.recs free_hold tt;
    course = λ c at. absurd (no_course c at);
    changes = λ p at. absurd (by_owed (λ t. t ≡ Change p → ⊥) d.owed.recs (λ q. cc) (λ q. cc) at);
    commits = λ at. absurd (by_owed (λ t. t ≡ Commit → ⊥) d.owed.recs (λ q. cc) (λ q. cc) at);
    off_course = λ t. me.seated.posed.off_course (ap lacks_course d.at);
    based = me.seated.posed.based;
    idle = me.seated.posed.idle;
    started = λ at. absurd (by_owed (λ t. t ≡ Start → ⊥) d.owed.recs (λ q. cc) (λ q. cc) at);
    without = λ t. no_records;
    claims = λ c at stage. absurd (no_course c at);
    claiming = λ owner at. absurd (by_owed (λ t. t ≡ Claim owner → ⊥) d.owed.recs (λ q. cc) (λ q. cc) at);
    undoes = λ all at. absurd (by_owed (λ t. t ≡ Undo all → ⊥) d.owed.recs (λ q. cc) (λ q. cc) at);
    says = λ at none. (let few : (seat e k).base ≤ length (seat e k).work.recs = me.seated.posed.based in let nothing = ap length no_records in omega (arith, few, nothing));
    makes = λ f. absurd (let wrong : true ≡ false = sym (by_owed (λ t. is_making t ≡ true) d.owed.recs refl refl) ∙ f in cc);
    unlatched = me.seated.posed.unlatched;
  }

  seated_now : IsSeated (counts e.pages) y (latch_of e.latches (sess k)) (lock_at e k)
  seated_now = record {
    latched = me.seated.latched;
    posed = posed_now;
    there = λ p at. absurd (by_owed (λ t. page_at t ≡ Some p → ⊥) d.owed.recs (λ q. cc) (λ q. cc) at);
    rooted = me.seated.rooted;
    nowhere = me.seated.nowhere;
    holding = λ c at source. absurd (no_course c at);
    committing = λ at. absurd (by_owed (λ t. t ≡ Commit → ⊥) d.owed.recs (λ q. cc) (λ q. cc) at);
    writing = λ c at t. absurd (no_course c at);
  }

  -- the new snapshot is there, under its name
  new_by : snap_by s.pages (catalog e.pages).next_cut ≡ Some (snap_at (catalog s.pages) (record { 0 = count e.pages }), set_of s.pages (record { 0 = count e.pages }))
  new_by = ap (λ o. option_map (λ (m : SnapNo). (snap_at (catalog s.pages) m, set_of s.pages m)) o) d.cuts.place

  new_open : is_open_by s.pages (catalog e.pages).next_cut ≡ true
  new_open = ap (λ o. is_some {T = Snap × Sparse} o) new_by

  new_name : name_by s.pages (catalog e.pages).next_cut ≡ Some d.snap
  new_name = ap (λ o. option_map (λ (f : Snap × Sparse). f.0.name) o) new_by ∙ ap (λ (x : Snap). Some x.name) (new_snap e s k safe d (record { 0 = count e.pages }) refl)

  new_owed : owed_by s.pages (catalog e.pages).next_cut ≡ d.owed.recs
  new_owed = ap (λ o. option_map_or (λ (f : Snap × Sparse). f.0.owed.recs) o []) new_by ∙ ap (λ (x : Snap). x.owed.recs) (new_snap e s k safe d (record { 0 = count e.pages }) refl)

  says_empty : (rs : List Record) → point_after rs ≡ Say → rs ≡ []
  says_empty [] at = refl
  says_empty (r ∷ rs) at = cc

  not_held : (p : PageId) → HoldsEx (seat e k) p → ⊥
  not_held p hold = (let none : latch_at (seat e k).hold ≡ None = ap latch_at free_hold in let wrong = sym none ∙ hold in cc)

  beside_now : IsBeside s.pages y
  beside_now = record {
    reads = λ c p within at. absurd (by_owed (λ t. page_read t ≡ Some p → ⊥) d.owed.recs (λ q. cc) (λ q. cc) at);
    marks = λ c p copied hold sound. absurd (not_held p hold);
    copies = λ c p copied hold kept. absurd (not_held p hold);
    copied = λ c copied. let lt = me.beside.copied c copied in omega (arith, lt, next_more e s k safe d);
    paid = λ c making at none sound.
        let it : (catalog e.pages).next_cut ≡ c = ap (λ (o : Option ℕ). unwrap_or o 0) making in
        ap (owed_by s.pages) (sym it) ∙ new_owed ∙ says_empty d.owed.recs at;
    made = λ c making.
        let it : (catalog e.pages).next_cut ≡ c = ap (λ (o : Option ℕ). unwrap_or o 0) making in
        (omega (arith, it, next_more e s k safe d), subst (λ n. is_open_by s.pages n ≡ true) it new_open);
    named = λ c within. let old = me.beside.named c within in (omega (arith, old.0, next_more e s k safe d), name_same e s k safe d c old.0 ∙ old.1);
  }

  -- who has no statement left cuts nothing
  cuts_something : stmt_at (seat e k).sitting ≡ None → ⊥
  cuts_something none =
      let same : stmt_of (machine e) k ≡ stmt_at (seat e k).sitting = ap (λ n. slice_get (slice_index_or (machine e).scripts (k - 1) []) n) me.in_step.said ∙ ap (λ (l : List Stmt). slice_get l (seat e k).sitting.said) (sym me.script) in
      let silent : next_of (machine e) k (stmt_of (machine e) k) ≡ Silent = ap (next_of (machine e) k) (same ∙ none) in
      (let wrong : Silent ≡ Cuts d.snap = sym silent ∙ d.comes.1 in cc)

  in_step_now : IsInStep s.pages y (session (machine s) k) (machine s).moment
  in_step_now = record {
    said = ap (λ (x : Session). x.said) (its_session e s k safe d) ∙ me.in_step.said;
    current = ap (λ (x : Session). x.current) (its_session e s k safe d) ∙ me.in_step.current;
    depth = ap (λ (x : Session). x.depth) (its_session e s k safe d) ∙ me.in_step.depth;
    level = ap (λ (x : Session). x.level) (its_session e s k safe d) ∙ me.in_step.level;
    idle = λ z. ap (λ (x : Session). x.work) (its_session e s k safe d) ∙ me.in_step.idle (sym (ap (λ (x : Session). x.depth) (its_session e s k safe d)) ∙ z);
    making = ap (λ (x : Session). x.making) (its_session e s k safe d) ∙ sym new_name;
    gone = ap (λ (x : Session). x.gone) (its_session e s k safe d) ∙ me.in_step.gone ∙ ap is_gone d.at ∙ sym (by_owed (λ t. is_gone t ≡ false) d.owed.recs refl refl);
    rested = λ t. absurd (elim t [
      | inl b ↦ by_owed (λ t. is_between t ≡ true → ⊥) d.owed.recs (λ q. cc) (λ q. cc) b
      | inr none ↦ cuts_something none
    ]);
    begun = λ f.
        let old = me.in_step.begun (ap is_between d.at) in (
          subst (λ n. n ≤ (seat e k).began) (sym (ap (λ (x : Session). x.since) (its_session e s k safe d))) old.0,
          subst (λ (o : Option ℕ). (seat e k).began ≤ unwrap_or o (machine s).moment) (sym (ap (λ (x : Session). x.first) (its_session e s k safe d))) old.1,
        );
  }

  own_kept : IsSafeSession s k
  own_kept = record {
    seated = subst (λ x. IsSeated (counts s.pages) x (latch_of s.latches (sess k)) (lock_at s k)) (sym (now e s k safe d))
        (seated_same (counts e.pages) (counts s.pages) y (latch_of e.latches (sess k)) (latch_of s.latches (sess k)) (lock_at e k) (lock_at s k) (files_same e s k safe d) (ap (λ ls. latch_of ls (sess k)) d.latches) (held_same e s k safe d k) seated_now);
    beside = subst (IsBeside s.pages) (sym (now e s k safe d)) beside_now;
    placed = subst (λ (f : Fixed). IsPlaced (seat s k) f.opening.source) (sym d.fixed) (subst (λ x. IsPlaced x e.fixed.opening.source) (sym (now e s k safe d)) me.placed);
    script = ap (λ (x : Seated). x.sitting.script) (now e s k safe d) ∙ me.script ∙ ap (λ (m : Plain). slice_index_or m.scripts (k - 1) []) (sym (history e s k safe d));
    in_step = subst (λ x. IsInStep s.pages x (session (machine s) k) (machine s).moment) (sym (now e s k safe d)) in_step_now;
    aside = λ who snap restores. absurd (let wrong : None ≡ Some (who, snap) = sym (no_revert e s k safe d) ∙ restores in cc);
  }

  pub cut_keeps : Steps e s k
  cut_keeps = record {
    guards = guards e s k safe d;
    own = λ is. own_kept;
    whole = whole_kept e s k safe d;
    content = λ told ds content. (ds, whole_told e s k safe d ds content, (λ is. own_told e s k safe d ds content), Quietly refl (quiet e s k safe d ds content));
  }
