-- The session that takes a record back, by itself.
use Rattle.std.proofs.Common.{eq-eqb, eqb-true, ◌≡◌, ◌≢◌, ℕ, ◌+◌, ◌≤◌, Bool, true, false, cond, ◌==◌, List, [], ◌∷◌, ◌++◌, length, refl, ap, sym, subst, ◌∙◌, arith}
use Rattle.std.specs.Prelude.{Option, Some, None}
use Rattle.std.proofs.lemmas.List.{length-append}
use Rattle.page_base.specs.declared.numbers.Mode.{Mode}
use Rattle.latch_book.specs.declared.latch.Latch.{Latch}
use Rattle.plain_model.specs.declared.stmt.Stmt.{Stmt}
use Rattle.rec_log.specs.Records.{Record}
use Rattle.step_words.specs.declared.point.Point.{Point}
use Rattle.step_words.specs.declared.point.Point.TheVariants.{Start, Change, Claim, Undo, Commit, Say, Leave}
use Rattle.step_words.specs.Courses.{Course}
use Rattle.step_words.specs.Sittings.{stmt_at, ends_work, undoes_all}
use Rattle.step_words.specs.Seats.{Seated, Free}
use Rattle.step_state.specs.Posed.{FitsGrip, lacks_course, lacks_work, is_making, IsUndoing, IsPosed}
use Rattle.step_state.specs.Own.{IsSeated, page_at}
use Rattle.safe_write.specs.Backing.{end_point, point_back, seat_back}

module _ (files : List ℕ) (x : Seated) (latch : Option Latch) (held : ℕ → Option Mode) (a : IsSeated files x latch held) (all : Bool) (at : x.sitting.point ≡ Undo all) (last : Record) (records : List Record) (were : x.work.recs ≡ records ++ last ∷ []) (unmarked : x.copied ≡ None) where
  undoing : IsUndoing x all
  undoing = a.posed.undoes all at

  pub no_course : (c : Course) → x.sitting.course ≡ Some c → ⊥
  no_course c is = (let wrong : None ≡ Some c = sym (a.posed.off_course (ap lacks_course at)) ∙ is in cc)

  long : length x.work.recs ≡ length records + 1
  long = ap length were ∙ length-append records (last ∷ [])

  pub enough : x.base ≤ length records
  enough = (let some = undoing.some in omega (arith, some, long))

  -- what holds of the point at each end
  pub by_back : (P : Point → Type 0) → (length records ≢ x.base → P (Undo all)) → (length records ≡ x.base → stmt_at x.sitting ≡ None → P Leave) → ((stmt : Stmt) → length records ≡ x.base → stmt_at x.sitting ≡ Some stmt → P Say) → P (point_back all x records)
  by_back P more leaves says = by (length records == x.base) refl
    where
      ended : (o : Option Stmt) → stmt_at x.sitting ≡ o → length records ≡ x.base → P (end_point o)
      ended None is same = leaves same is
      ended (Some stmt) is same = says stmt same is

      by : (b : Bool) → (length records == x.base) ≡ b → P (cond b (end_point (stmt_at x.sitting)) (Undo all))
      by true t = ended (stmt_at x.sitting) refl (eqb-true (length records) x.base t)
      by false f = more (λ same. (let wrong : true ≡ false = sym (eq-eqb (length records) x.base same) ∙ f in cc))

  none_left : stmt_at x.sitting ≡ None → length records ≡ x.base → records ≡ []
  none_left none same = empty records (same ∙ undoing.whole (sym undoing.ends ∙ ap ends_work none))
    where
      empty : (rs : List Record) → length rs ≡ 0 → rs ≡ []
      empty [] e = refl
      empty (r ∷ rs) e = cc

  posed_back : IsPosed files (seat_back all x records)
  posed_back = record {
    grip = by_back (λ t. FitsGrip t x.sitting.found Free) (λ ne. tt) (λ same none. refl) (λ stmt same is. refl);
    course = λ c is. absurd (no_course c is);
    changes = λ p e. absurd (by_back (λ t. t ≡ Change p → ⊥) (λ ne q. cc) (λ same none q. cc) (λ stmt same is q. cc) e);
    commits = λ e. absurd (by_back (λ t. t ≡ Commit → ⊥) (λ ne q. cc) (λ same none q. cc) (λ stmt same is q. cc) e);
    off_course = λ t. a.posed.off_course (ap lacks_course at);
    based = enough;
    idle = a.posed.idle;
    started = λ e. absurd (by_back (λ t. t ≡ Start → ⊥) (λ ne q. cc) (λ same none q. cc) (λ stmt same is q. cc) e);
    without = by_back (λ t. lacks_work t ≡ true → records ≡ []) (λ ne q. cc) (λ same none q. none_left none same) (λ stmt same is q. cc);
    claims = λ c is stage. absurd (no_course c is);
    claiming = λ owner e. absurd (by_back (λ t. t ≡ Claim owner → ⊥) (λ ne q. cc) (λ same none q. cc) (λ stmt same is q. cc) e);
    undoes = λ other. by_back (λ t. t ≡ Undo other → IsUndoing (seat_back all x records) other)
        (λ ne e. subst (IsUndoing (seat_back all x records)) (ap which e) (record { some = omega (arith, ne, enough); whole = undoing.whole; ends = undoing.ends }))
        (λ same none q. cc) (λ stmt same is q. cc);
    says = by_back (λ t. t ≡ Say → x.sitting.course ≡ None → length records ≡ x.base) (λ ne q. cc) (λ same none q. cc) (λ stmt same is q none. same);
    makes = λ f. a.posed.makes (ap is_making at);
    unlatched = λ some. absurd (some unmarked);
  }
    where
      which : Point → Bool
      which (Undo b) = b
      which point = all

  pub seated_back : held 0 ≢ None → IsSeated files (seat_back all x records) None held
  seated_back some = record {
    latched = refl;
    posed = posed_back;
    there = λ p e. absurd (by_back (λ t. page_at t ≡ Some p → ⊥) (λ ne q. cc) (λ same none q. cc) (λ stmt same is q. cc) e);
    rooted = a.rooted;
    nowhere = λ none. absurd (some none);
    holding = λ c is source. absurd (no_course c is);
    writing = λ c is t. absurd (no_course c is);
    committing = λ e c is. absurd (no_course c is);
  }

  -- it goes on undoing all, or undid no more than its statement
  pub still_all : undoes_all (point_back all x records) (stmt_at x.sitting) ≡ false → undoes_all x.sitting.point (stmt_at x.sitting) ≡ false
  still_all = by_back (λ t. undoes_all t (stmt_at x.sitting) ≡ false → undoes_all x.sitting.point (stmt_at x.sitting) ≡ false)
      (λ ne f. ap (λ t. undoes_all t (stmt_at x.sitting)) at ∙ f)
      (λ same none f. cc)
      (λ stmt same is f. ap (λ t. undoes_all t (stmt_at x.sitting)) at ∙ sym undoing.ends ∙ ap ends_work is ∙ sym (ap (undoes_all Say) is) ∙ f)
