-- What is left to do where snapshots and the number of pages stay.
use Rattle.std.proofs.Common.{◌≡◌, ℕ, ◌+◌, ◌*◌, ◌<◌, List, length, ap, refl, sym, subst, ◌∙◌, arith}
use Rattle.std.specs.Prelude.{Option, Some, None, not, sum_by, ◌&&◌}
use Rattle.sparse_set.specs.Sparse.{Sparse, is_copied}
use Rattle.buf_pool.specs.Pool.{Pooled}
use Rattle.snap_pages.specs.Shown.{Shown, counts, set_of}
use Rattle.snap_pages.specs.Steps.{SameSnaps}
use Rattle.step_words.specs.declared.point.Point.{Point}
use Rattle.step_words.specs.declared.point.Point.TheVariants.{Start, Cut, Heal, Gather}
use Rattle.step_words.specs.declared.stage.Stage.{Stage}
use Rattle.step_words.specs.Courses.{Course}
use Rattle.step_words.specs.Seats.{Seated, Grip, with_seat}
use Rattle.step_state.specs.State.{State, IsSession, seat}
use Rattle.step_trail.specs.Counting.{all_pages, count_pages, was_gathered}
use Rattle.step_trail.specs.Togo.{course_left, heals_left, mark_left, point_left, sound, stage_left, togo, unmapped}
use Rattle.step_trail.specs.Left.{Lowers, left_said, left_planned}
use Rattle.step_trail.proofs.LowerLemmas.{lowers_by_stepping}

-- other pages with as many
module _ (v : Shown) (p : Pooled) (same : p.files.counts ≡ v.pool.files.counts) where
  abbrev w : Shown
  w = record v { pool = p }

  stage_same : (x : Seated) (c : Course) (stage : Stage) → stage_left (counts w) x c stage ≡ stage_left (counts v) x c stage
  stage_same x c stage = ap (λ (n : List ℕ). stage_left n x c stage) same

  heal_same : (making : Option ℕ) (hold : Grip) → heals_left w making hold ≡ heals_left v making hold
  heal_same None hold = refl
  heal_same (Some cut) hold = refl

  point_same : (x : Seated) (q : Point) → point_left w x q ≡ point_left v x q
  point_same x Start = ap (λ (n : List ℕ). 5 * all_pages n + 6) same
  point_same x Cut = ap (λ (n : List ℕ). 2 * all_pages n + 2) same
  point_same x Gather = ap (λ (n : List ℕ). count_pages n (λ q. is_copied (set_of v (record { 0 = 0 })) q && not (was_gathered x.gathered q)) + 2) same
  point_same x Heal = heal_same x.making x.hold
  point_same x q = refl

  course_same : (x : Seated) (c : Option Course) → course_left w x c ≡ course_left v x c
  course_same x None = point_same x x.sitting.point
  course_same x (Some c) = stage_same x c c.stage

  mark_same : (copied : Option ℕ) → mark_left w copied ≡ mark_left v copied
  mark_same None = refl
  mark_same (Some cut) = refl

  pub togo_same : (x : Seated) → togo w x ≡ togo v x
  togo_same x = ap (λ (n : ℕ). 4 * length x.work.recs + (n + course_left w x x.sitting.course)) (mark_same x.copied) ∙ ap (λ (n : ℕ). 4 * length x.work.recs + (mark_left v x.copied + n)) (course_same x x.sitting.course)

  pub unmapped_same : unmapped w ≡ unmapped v
  unmapped_same = ap (λ (n : List ℕ). sum_by (λ (set : Sparse). count_pages n (λ q. not (is_copied set q))) v.sets) same

  pub sound_same : sound w ≡ sound v
  sound_same = refl

-- a step that leaves snapshots and the number of pages
module _ (e s : State) (k : ℕ) (x : Seated) (is : IsSession e k) (seats : s.seats ≡ with_seat e.seats k x) (snaps : SameSnaps e.pages s.pages) (files : s.pages.pool.files.counts ≡ e.pages.pool.files.counts) where
  as_pool : record e.pages { pool = s.pages.pool } ≡ s.pages
  as_pool = λ i. record { pool = s.pages.pool; cat = sym snaps.cat i; sets = sym snaps.sets i }

  togo_now : (y : Seated) → togo s.pages y ≡ togo e.pages y
  togo_now y = subst (λ (v : Shown). togo v y ≡ togo e.pages y) as_pool (togo_same e.pages s.pages.pool files y)

  pub lowers_in_place : left_said x.sitting ≡ left_said (seat e k).sitting → left_planned x.sitting ≡ left_planned (seat e k).sitting → togo e.pages x < togo e.pages (seat e k) → Lowers e s
  lowers_in_place said planned lt = lowers_by_stepping e s k x is seats said planned (λ j there ne. (let same = togo_now (seat e j) in omega (arith, same)))
      (let unm : unmapped s.pages ≡ unmapped e.pages = subst (λ (v : Shown). unmapped v ≡ unmapped e.pages) as_pool (unmapped_same e.pages s.pages.pool files) in
      let sou : sound s.pages ≡ sound e.pages = subst (λ (v : Shown). sound v ≡ sound e.pages) as_pool refl in
      let own = togo_now x in omega (arith, unm, sou, own, lt))
