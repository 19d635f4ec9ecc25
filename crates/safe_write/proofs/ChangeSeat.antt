-- The session of a change by itself.
use Rattle.std.proofs.Common.{◌≡◌, ◌≢◌, ℕ, suc, ◌+◌, ◌<◌, Bool, true, false, cond, ◌==◌, List, [], ◌∷◌, ◌++◌, length, refl, ap, sym, subst, ◌∙◌, inl, inr, arith}
use Rattle.std.specs.Prelude.{◌⊎◌, Option, Some, None, slice_index_or}
use Rattle.std.specs.List.{AllByRecursion}
use Rattle.std.proofs.lemmas.List.{length-append}
use Rattle.page_base.specs.declared.numbers.Mode.{Mode}
use Rattle.page_base.specs.declared.numbers.PageId.{PageId}
use Rattle.latch_book.specs.declared.latch.Latch.{Latch}
use Rattle.rec_log.specs.Records.{Record}
use Rattle.table_walk.specs.declared.plan.Spot.{Spot}
use Rattle.table_walk.specs.declared.plan.Spot.TheVariants.{Old, New}
use Rattle.table_walk.specs.Plans.{place}
use Rattle.page_tables.specs.Owners.{is_there}
use Rattle.step_words.specs.declared.point.Point.{Point}
use Rattle.step_words.specs.declared.point.Point.TheVariants.{Start, Latch as Latching, Change, Claim, Undo, Commit, Say}
use Rattle.step_words.specs.declared.stage.DbKind.TheVariants.{Source}
use Rattle.step_words.specs.declared.stage.Stage.TheVariants.{Claim as Claiming, Edit as Editing, End}
use Rattle.step_words.specs.Courses.{Course, Draft, Plain, Root, is_planned, is_past_all, is_past_table}
use Rattle.step_words.specs.Coming.{taken_at}
use Rattle.step_words.specs.Sittings.{Sitting}
use Rattle.step_words.specs.Seats.{Seated, Free}
use Rattle.step_state.specs.Holding.{HasLocks}
use Rattle.step_state.specs.Posed.{FitsGrip, lacks_course, lacks_work, is_making, IsOnCourse, IsDraftOn, IsEditOn, IsPosed}
use Rattle.step_state.specs.Own.{IsSeated, page_at, is_gone}
use Rattle.safe_write.specs.Changing.{next_write, stage_after, course_after, point_after, seat_after}

pub some_same : {T : Type 0} (a b : T) → Some a ≡ Some b → a ≡ b
some_same {T} a b e = ap pick e
  where
    pick : Option T → T
    pick None = a
    pick (Some x) = x

-- POINTS THAT COME THEN

-- what holds of the point at each end
pub by_point : (P : Point → Type 0) (s : Sitting) (c : Course) (drafts : List Draft) → P Commit → P Say → ((draft : Draft) (later : List Draft) → drafts ≡ draft ∷ later → P (Latching (next_write c draft).page true)) → P (point_after s c drafts)
by_point P s c [] a b l = by (s.depth == 0)
  where
    by : (t : Bool) → P (cond t Commit Say)
    by true = a
    by false = b
by_point P s c (draft ∷ later) a b l = l draft later refl

-- the page of an edit that may be done, once all pages are claimed, is there
pub edit_there : (files : List ℕ) (c : Course) (draft : Draft) → ((i : ℕ) (d : PageId) → i < length c.taken → is_there files (slice_index_or c.taken i d) ≡ true) → length c.taken ≡ length c.owners → IsDraftOn files (length c.owners) draft → is_there files (next_write c draft).page ≡ true
edit_there files c (Plain e) there all on = spot_there e.spot on.0
  where
    spot_there : (spot : Spot) → IsEditOn files (length c.owners) spot → is_there files (place (taken_at c) spot) ≡ true
    spot_there (Old p) t = t
    spot_there (New i) lt = there i (record { file = 0; page = 0 }) (omega (arith, lt, all))
edit_there files c (Root e d new) there all on = spot_there e.spot on.0
  where
    spot_there : (spot : Spot) → IsEditOn files (length c.owners) spot → is_there files (place (taken_at c) spot) ≡ true
    spot_there (Old p) t = t
    spot_there (New i) lt = there i (record { file = 0; page = 0 }) (omega (arith, lt, all))

module _ (files : List ℕ) (x : Seated) (latch : Option Latch) (held : ℕ → Option Mode) (a : IsSeated files x latch held) (p : PageId) (at : x.sitting.point ≡ Change p) (c : Course) (has : x.sitting.course ≡ Some c) (draft : Draft) (drafts : List Draft) (next : c.edits ≡ draft ∷ drafts) (r : Record) (unmarked : x.copied ≡ None) where
  on : IsOnCourse files x c
  on = a.posed.course c has

  pub editing : c.stage ≡ Editing
  editing =
      let ch = a.posed.changes p at in
      ap (λ (d : Course). d.stage) (some_same c ch.0 (sym has ∙ ch.1)) ∙ ch.2.0

  pub all_taken : length c.taken ≡ length c.owners
  all_taken = on.claimed (inl editing)

  pub planned_now : is_planned c.stage ≡ true
  planned_now = ap is_planned editing

  y : Seated
  y = seat_after x c drafts r

  many_more : length (x.work.recs ++ r ∷ []) ≡ length x.work.recs + 1
  many_more = length-append x.work.recs (r ∷ [])

  edits_left : AllByRecursion (IsDraftOn files (length c.owners)) (draft ∷ drafts)
  edits_left = subst (λ ds. AllByRecursion (IsDraftOn files (length c.owners)) ds) next on.within

  stage_cases : (drafts : List Draft) → (stage_after drafts ≡ Editing) ⊎ ((stage_after drafts ≡ End) × (drafts ≡ []))
  stage_cases [] = inr (refl, refl)
  stage_cases (d ∷ ds) = inl refl

  planned_after : (drafts : List Draft) → is_planned (stage_after drafts) ≡ true
  planned_after [] = refl
  planned_after (d ∷ ds) = refl

  past_all_after : (drafts : List Draft) → is_past_all (stage_after drafts) ≡ true
  past_all_after [] = refl
  past_all_after (d ∷ ds) = refl

  past_table_after : (drafts : List Draft) → is_past_table (stage_after drafts) ≡ true
  past_table_after [] = refl
  past_table_after (d ∷ ds) = refl

  no_claim : (drafts : List Draft) → stage_after drafts ≢ Claiming
  no_claim [] e = cc
  no_claim (d ∷ ds) e = cc

  ended : (drafts : List Draft) → stage_after drafts ≡ End → drafts ≡ []
  ended [] e = refl
  ended (d ∷ ds) e = cc

  on_after : IsOnCourse files (seat_after x c drafts r) (course_after c drafts)
  on_after = record {
    lent = on.lent;
    tables = on.tables;
    database = on.database;
    emptied = λ t. on.emptied planned_now;
    unasked = λ f. absurd (let wrong : true ≡ false = sym (past_all_after drafts) ∙ f in cc);
    unread = λ f. absurd (let wrong : true ≡ false = sym (past_table_after drafts) ∙ f in cc);
    fresh = λ f. absurd (let wrong : true ≡ false = sym (planned_after drafts) ∙ f in cc);
    numbers = on.numbers;
    taken = on.taken;
    claimed = λ t. all_taken;
    targets = on.targets;
    there = on.there;
    within = edits_left.1;
    room = (let long : length c.edits ≡ suc (length drafts) = ap length next in omega (arith, on.room, all_taken, long));
    ended = ended drafts;
  }

  on_any : (d : Course) → Some (course_after c drafts) ≡ Some d → IsOnCourse files (seat_after x c drafts r) d
  on_any d e = subst (IsOnCourse files (seat_after x c drafts r)) (some_same (course_after c drafts) d e) on_after

  no_change : (q : PageId) → point_after x.sitting c drafts ≡ Change q → ⊥
  no_change q = by_point (λ t. t ≡ Change q → ⊥) x.sitting c drafts (λ e. cc) (λ e. cc) (λ d later is e. cc)

  no_start : point_after x.sitting c drafts ≡ Start → ⊥
  no_start = by_point (λ t. t ≡ Start → ⊥) x.sitting c drafts (λ e. cc) (λ e. cc) (λ d later is e. cc)

  has_course : lacks_course (point_after x.sitting c drafts) ≡ false
  has_course = by_point (λ t. lacks_course t ≡ false) x.sitting c drafts refl refl (λ d later is. refl)

  has_work : lacks_work (point_after x.sitting c drafts) ≡ false
  has_work = by_point (λ t. lacks_work t ≡ false) x.sitting c drafts refl refl (λ d later is. refl)

  pub not_gone : is_gone (point_after x.sitting c drafts) ≡ false
  not_gone = by_point (λ t. is_gone t ≡ false) x.sitting c drafts refl refl (λ d later is. refl)

  commits_after : (drafts : List Draft) → point_after x.sitting c drafts ≡ Commit → stage_after drafts ≡ End
  commits_after [] e = refl
  commits_after (d ∷ ds) e = cc

  posed_after : IsPosed files (seat_after x c drafts r)
  posed_after = record {
    grip = by_point (λ t. FitsGrip t x.sitting.found Free) x.sitting c drafts refl refl (λ d later is. refl);
    course = on_any;
    changes = λ q e. absurd (no_change q e);
    commits = λ e. inr (course_after c drafts, refl, commits_after drafts e);
    off_course = λ t. absurd (let wrong : true ≡ false = sym t ∙ has_course in cc);
    based = omega (arith, a.posed.based, many_more);
    idle = a.posed.idle;
    started = λ e. absurd (no_start e);
    without = λ t. absurd (let wrong : true ≡ false = sym t ∙ has_work in cc);
    claims = λ d e stage. absurd (no_claim drafts (ap (λ (g : Course). g.stage) (some_same (course_after c drafts) d e) ∙ stage));
    claiming = λ owner e. absurd (by_point (λ t. t ≡ Claim owner → ⊥) x.sitting c drafts (λ q. cc) (λ q. cc) (λ d later is q. cc) e);
    undoes = λ all e. absurd (by_point (λ t. t ≡ Undo all → ⊥) x.sitting c drafts (λ q. cc) (λ q. cc) (λ d later is q. cc) e);
    says = λ e none. cc;
    makes = λ f. a.posed.makes (ap is_making at);
    unlatched = λ some. absurd (some unmarked);
  }

  there_after : (q : PageId) → page_at (point_after x.sitting c drafts) ≡ Some q → is_there files q ≡ true
  there_after q = by_point (λ t. page_at t ≡ Some q → is_there files q ≡ true) x.sitting c drafts (λ e. cc) (λ e. cc)
      (λ d later is e. ap (is_there files) (sym (some_same (next_write c d).page q e)) ∙ edit_there files c d on.there all_taken (subst (λ ds. AllByRecursion (IsDraftOn files (length c.owners)) ds) is edits_left.1).0)

  locks_of : (d : Course) → Some (course_after c drafts) ≡ Some d → d.at ≡ Source → HasLocks held d
  locks_of d e source = subst (HasLocks held) (some_same (course_after c drafts) d e) (
      let old = a.holding c has (ap (λ (g : Course). g.at) (some_same (course_after c drafts) d e) ∙ source) in
      record {
        all = λ t. old.all (ap is_past_all editing);
        table = λ t mode second. old.table (ap is_past_table editing) mode second;
      })

  pub seated_after : held 0 ≢ None → IsSeated files (seat_after x c drafts r) None held
  seated_after some = record {
    latched = refl;
    posed = posed_after;
    there = there_after;
    rooted = a.rooted;
    nowhere = λ none. absurd (some none);
    holding = locks_of;
    writing = λ d is t. ap (λ (g : Course). g.at) (sym (some_same (course_after c drafts) d is)) ∙ a.writing c has (inr editing);
    committing = λ e d is. ap (λ (g : Course). g.at) (sym (some_same (course_after c drafts) d is)) ∙ a.writing c has (inr editing);
  }
