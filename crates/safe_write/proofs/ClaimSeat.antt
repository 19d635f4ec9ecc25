-- The session of a claim by itself.
use Rattle.std.proofs.Common.{◌≡◌, ◌≢◌, ℕ, suc, ◌+◌, ◌-◌, ◌<◌, Bool, true, false, List, [], ◌∷◌, ◌++◌, length, drop, refl, ap, sym, subst, ◌∙◌, inl, inr, arith}
use Rattle.std.specs.Prelude.{◌⊎◌, Option, Some, None, slice_index_or}
use Rattle.std.specs.List.{AllByRecursion}
use Rattle.std.proofs.lemmas.Bool.{cases_eq}
use Rattle.std.proofs.lemmas.List.{length-append, length-drop, drop-append-le, get_or_append_left}
use Rattle.std.proofs.Math.Seq.{get_or-append_seam}
use Rattle.page_base.specs.declared.numbers.Mode.{Mode}
use Rattle.page_base.specs.declared.numbers.PageId.{PageId}
use Rattle.latch_book.specs.declared.latch.Latch.{Latch}
use Rattle.rec_log.specs.Records.{Record}
use Rattle.table_walk.specs.Addresses.{IsTarget}
use Rattle.page_tables.specs.Owners.{is_there}
use Rattle.page_tables.specs.Writes.{claim}
use Rattle.step_words.specs.declared.point.Point.{Point}
use Rattle.step_words.specs.declared.point.Point.TheVariants.{Start, Latch as Latching, Change, Claim, Undo, Commit, Say}
use Rattle.step_words.specs.declared.stage.DbKind.TheVariants.{Source}
use Rattle.step_words.specs.declared.stage.Stage.{Stage}
use Rattle.step_words.specs.declared.stage.Stage.TheVariants.{Claim as Claiming, Edit as Editing, End}
use Rattle.step_words.specs.Courses.{Course, Draft, is_planned, is_past_all, is_past_table}
use Rattle.step_words.specs.Sittings.{Sitting}
use Rattle.step_words.specs.Seats.{Seated, Free}
use Rattle.step_words.proofs.TakenLemmas.{drop_next}
use Rattle.step_state.specs.Holding.{HasLocks}
use Rattle.step_state.specs.Posed.{FitsGrip, lacks_course, lacks_work, is_making, IsOnCourse, IsDraftOn, IsRecordOf, AreClaimsOf, IsPosed}
use Rattle.step_state.specs.Own.{IsSeated, page_at}
use Rattle.safe_write.specs.Changing.{next_write}
use Rattle.safe_write.specs.Claiming.{stage_then, course_then, point_then, seat_then}
use Rattle.safe_write.proofs.ChangeSeat.{some_same, by_point, edit_there}

-- what holds of the point at each end
pub by_then : (P : Point → Type 0) (s : Sitting) (c : Course) (numbers : List ℕ) → P Commit → P Say → ((draft : Draft) (later : List Draft) → numbers ≡ [] → c.edits ≡ draft ∷ later → P (Latching (next_write c draft).page true)) → ((n : ℕ) (ns : List ℕ) → numbers ≡ n ∷ ns → P (Claim (n + 1))) → P (point_then s c numbers)
by_then P s c [] a b l m = by_point P s c c.edits a b (λ draft later is. l draft later refl is)
by_then P s c (n ∷ ns) a b l m = m n ns refl

-- what holds of the stage
by_stage : (P : Stage → Type 0) (numbers : List ℕ) (drafts : List Draft) → P Claiming → P Editing → (numbers ≡ [] → drafts ≡ [] → P End) → P (stage_then numbers drafts)
by_stage P [] [] a b c = c refl refl
by_stage P [] (d ∷ ds) a b c = b
by_stage P (n ∷ ns) drafts a b c = a

-- claims, and one more
pub more_claims : (rs : List Record) (owners : List ℕ) (taken : List PageId) (r : Record) (number : ℕ) (numbers : List ℕ) (p : PageId) → drop (length taken) owners ≡ number ∷ numbers → IsRecordOf r (claim number p) → AreClaimsOf rs owners taken → AreClaimsOf (rs ++ r ∷ []) owners (taken ++ p ∷ [])
more_claims [] [] [] r number numbers p next of a = cc
more_claims [] (n ∷ ns) [] r number numbers p next of a = (subst (λ m. IsRecordOf r (claim m p)) (sym (ap first next)) of, tt)
  where
    first : List ℕ → ℕ
    first [] = 0
    first (x ∷ xs) = x
more_claims [] owners (q ∷ taken) r number numbers p next of a = absurd a
more_claims (x ∷ rs) owners [] r number numbers p next of a = absurd a
more_claims (x ∷ rs) [] (q ∷ taken) r number numbers p next of a = absurd a
more_claims (x ∷ rs) (n ∷ ns) (q ∷ taken) r number numbers p next of a = (a.0, more_claims rs ns taken r number numbers p next of a.1)

module _ (files : List ℕ) (x : Seated) (latch : Option Latch) (held : ℕ → Option Mode) (a : IsSeated files x latch held) (number : ℕ) (at : x.sitting.point ≡ Claim (number + 1)) (c : Course) (has : x.sitting.course ≡ Some c) (numbers : List ℕ) (next : drop (length c.taken) c.owners ≡ number ∷ numbers) (p : PageId) (target : IsTarget p) (there : is_there files p ≡ true) (r : Record) (of : IsRecordOf r (claim number p)) (unmarked : x.copied ≡ None) where
  on : IsOnCourse files x c
  on = a.posed.course c has

  pub claiming : c.stage ≡ Claiming
  claiming =
      let cl = a.posed.claiming (number + 1) at in
      ap (λ (d : Course). d.stage) (some_same c cl.0 (sym has ∙ cl.1)) ∙ cl.2

  pub planned_now : is_planned c.stage ≡ true
  planned_now = ap is_planned claiming

  long : length (c.taken ++ p ∷ []) ≡ length c.taken + 1
  long = length-append c.taken (p ∷ [])

  pub owners_left : length c.owners - length c.taken ≡ suc (length numbers)
  owners_left = sym (length-drop (length c.taken) c.owners) ∙ ap length next

  many_more : length (x.work.recs ++ r ∷ []) ≡ length x.work.recs + 1
  many_more = length-append x.work.recs (r ∷ [])

  pub taken_now : (P : PageId → Type 0) → ((i : ℕ) (d : PageId) → i < length c.taken → P (slice_index_or c.taken i d)) → P p → (i : ℕ) (d : PageId) → i < length (c.taken ++ p ∷ []) → P (slice_index_or (c.taken ++ p ∷ []) i d)
  taken_now P old new i d lt = elim (cases_eq i (length c.taken)) [
    | inl here ↦ subst (λ m. P (slice_index_or (c.taken ++ p ∷ []) m d)) (sym here) (subst P (sym (get_or-append_seam c.taken p [] d)) new)
    | inr ne ↦ (let less : i < length c.taken = omega (arith, lt, long, ne) in subst P (sym (get_or_append_left c.taken (p ∷ []) d i less)) (old i d less))
  ]

  on_then : IsOnCourse files (seat_then x c numbers p r) (course_then c numbers p)
  on_then = record {
    lent = on.lent;
    tables = on.tables;
    database = on.database;
    emptied = λ t. on.emptied planned_now;
    unasked = λ f. absurd (let wrong : true ≡ false = sym (by_stage (λ t. is_past_all t ≡ true) numbers c.edits refl refl (λ n d. refl)) ∙ f in cc);
    unread = λ f. absurd (let wrong : true ≡ false = sym (by_stage (λ t. is_past_table t ≡ true) numbers c.edits refl refl (λ n d. refl)) ∙ f in cc);
    fresh = λ f. absurd (let wrong : true ≡ false = sym (by_stage (λ t. is_planned t ≡ true) numbers c.edits refl refl (λ n d. refl)) ∙ f in cc);
    numbers = on.numbers;
    taken = omega (arith, long, owners_left);
    claimed = λ t. all_claimed numbers owners_left t;
    targets = taken_now IsTarget on.targets target;
    there = taken_now (λ q. is_there files q ≡ true) on.there there;
    within = on.within;
    room = (let room = on.room in omega (arith, room, long, owners_left));
    ended = λ e. by_stage (λ t. t ≡ End → c.edits ≡ []) numbers c.edits (λ q. cc) (λ q. cc) (λ n d q. d) e;
  }
    where
      all_claimed : (ns : List ℕ) → length c.owners - length c.taken ≡ suc (length ns) → (stage_then ns c.edits ≡ Editing) ⊎ (stage_then ns c.edits ≡ End) → length (c.taken ++ p ∷ []) ≡ length c.owners
      all_claimed [] left t = omega (arith, left, long)
      all_claimed (n ∷ ns) left (inl e) = cc
      all_claimed (n ∷ ns) left (inr e) = cc

  on_any : (d : Course) → Some (course_then c numbers p) ≡ Some d → IsOnCourse files (seat_then x c numbers p r) d
  on_any d e = subst (IsOnCourse files (seat_then x c numbers p r)) (some_same (course_then c numbers p) d e) on_then

  pub at_then : (P : Point → Type 0) → P Commit → P Say → ((draft : Draft) (later : List Draft) → numbers ≡ [] → c.edits ≡ draft ∷ later → P (Latching (next_write (course_then c numbers p) draft).page true)) → ((n : ℕ) (ns : List ℕ) → numbers ≡ n ∷ ns → P (Claim (n + 1))) → P (point_then x.sitting (course_then c numbers p) numbers)
  at_then P = by_then P x.sitting (course_then c numbers p) numbers

  no_change : (q : PageId) → point_then x.sitting (course_then c numbers p) numbers ≡ Change q → ⊥
  no_change q = at_then (λ t. t ≡ Change q → ⊥) (λ e. cc) (λ e. cc) (λ d later none is e. cc) (λ n ns is e. cc)

  no_start : point_then x.sitting (course_then c numbers p) numbers ≡ Start → ⊥
  no_start = at_then (λ t. t ≡ Start → ⊥) (λ e. cc) (λ e. cc) (λ d later none is e. cc) (λ n ns is e. cc)

  no_undo : (all : Bool) → point_then x.sitting (course_then c numbers p) numbers ≡ Undo all → ⊥
  no_undo all = at_then (λ t. t ≡ Undo all → ⊥) (λ e. cc) (λ e. cc) (λ d later none is e. cc) (λ n ns is e. cc)

  has_course : lacks_course (point_then x.sitting (course_then c numbers p) numbers) ≡ false
  has_course = at_then (λ t. lacks_course t ≡ false) refl refl (λ d later none is. refl) (λ n ns is. refl)

  has_work : lacks_work (point_then x.sitting (course_then c numbers p) numbers) ≡ false
  has_work = at_then (λ t. lacks_work t ≡ false) refl refl (λ d later none is. refl) (λ n ns is. refl)

  commits_then : (ns : List ℕ) (drafts : List Draft) → point_then x.sitting (record (course_then c ns p) { edits = drafts }) ns ≡ Commit → stage_then ns drafts ≡ End
  commits_then [] [] e = refl
  commits_then [] (d ∷ ds) e = cc
  commits_then (n ∷ ns) drafts e = cc

  claims_then : c.stage ≡ Claiming → AreClaimsOf (drop x.base (x.work.recs ++ r ∷ [])) c.owners (c.taken ++ p ∷ [])
  claims_then stage = subst (λ rs. AreClaimsOf rs c.owners (c.taken ++ p ∷ [])) (sym (drop-append-le x.base x.work.recs (r ∷ []) a.posed.based))
      (more_claims (drop x.base x.work.recs) c.owners c.taken r number numbers p next of (a.posed.claims c has stage))

  claiming_then : (owner : ℕ) (ns : List ℕ) → drop (length (c.taken ++ p ∷ [])) c.owners ≡ ns → point_then x.sitting (course_then c ns p) ns ≡ Claim owner → (stage_then ns c.edits ≡ Claiming) × ((m : ℕ) × (ms : List ℕ) × (drop (length (c.taken ++ p ∷ [])) c.owners ≡ m ∷ ms) × (owner ≡ m + 1))
  claiming_then owner [] left e = absurd (by_point (λ t. t ≡ Claim owner → ⊥) x.sitting (course_then c [] p) c.edits (λ q. cc) (λ q. cc) (λ d later is q. cc) e)
  claiming_then owner (n ∷ ns) left e = (refl, (n, ns, left, sym (ap owner_of e)))
    where
      owner_of : Point → ℕ
      owner_of (Claim o) = o
      owner_of point = 0

  left_then : drop (length (c.taken ++ p ∷ [])) c.owners ≡ numbers
  left_then = ap (λ n. drop n c.owners) long ∙ drop_next c.owners (length c.taken) number numbers next

  posed_then : IsPosed files (seat_then x c numbers p r)
  posed_then = record {
    grip = at_then (λ t. FitsGrip t x.sitting.found Free) refl refl (λ d later none is. refl) (λ n ns is. tt);
    course = on_any;
    changes = λ q e. absurd (no_change q e);
    commits = λ e. inr (course_then c numbers p, refl, commits_then numbers c.edits e);
    off_course = λ t. absurd (let wrong : true ≡ false = sym t ∙ has_course in cc);
    based = omega (arith, a.posed.based, many_more);
    idle = a.posed.idle;
    started = λ e. absurd (no_start e);
    without = λ t. absurd (let wrong : true ≡ false = sym t ∙ has_work in cc);
    claims = λ d e stage. subst (λ (g : Course). AreClaimsOf (drop x.base (x.work.recs ++ r ∷ [])) g.owners g.taken) (some_same (course_then c numbers p) d e) (claims_then claiming);
    claiming = λ owner e. let m = claiming_then owner numbers left_then e in (course_then c numbers p, refl, m.0, m.1);
    undoes = λ all e. absurd (no_undo all e);
    says = λ e none. cc;
    makes = λ f. a.posed.makes (ap is_making at);
    unlatched = λ some. absurd (some unmarked);
  }

  there_then : (q : PageId) → page_at (point_then x.sitting (course_then c numbers p) numbers) ≡ Some q → is_there files q ≡ true
  there_then q = at_then (λ t. page_at t ≡ Some q → is_there files q ≡ true) (λ e. cc) (λ e. cc)
      (λ d later none is e. ap (is_there files) (sym (some_same (next_write (course_then c numbers p) d).page q e))
      ∙ edit_there files (course_then c numbers p) d on_then.there (let left = owners_left in let nothing = ap length none in omega (arith, left, nothing, long)) (subst (λ ds. AllByRecursion (IsDraftOn files (length c.owners)) ds) is on.within).0)
      (λ n ns is e. cc)

  locks_of : (d : Course) → Some (course_then c numbers p) ≡ Some d → d.at ≡ Source → HasLocks held d
  locks_of d e source = subst (HasLocks held) (some_same (course_then c numbers p) d e) (
      let old = a.holding c has (ap (λ (g : Course). g.at) (some_same (course_then c numbers p) d e) ∙ source) in
      record {
        all = λ t. old.all (ap is_past_all claiming);
        table = λ t mode second. old.table (ap is_past_table claiming) mode second;
      })

  pub seated_then : held 0 ≢ None → IsSeated files (seat_then x c numbers p r) None held
  seated_then some = record {
    latched = refl;
    posed = posed_then;
    there = there_then;
    rooted = a.rooted;
    nowhere = λ none. absurd (some none);
    holding = locks_of;
    writing = λ d is t. ap (λ (g : Course). g.at) (sym (some_same (course_then c numbers p) d is)) ∙ a.writing c has (inl claiming);
    committing = λ e d is. ap (λ (g : Course). g.at) (sym (some_same (course_then c numbers p) d is)) ∙ a.writing c has (inl claiming);
  }
