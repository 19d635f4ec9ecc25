-- What a program's need tells of its stage.
use Rattle.std.proofs.Common.{refl, ◌≡◌, ◌⊎◌, inl, inr, arith, ℕ, Bool, true, List, [], ◌∷◌, ap, sym}
use Rattle.std.specs.Prelude.{Option, Some, None}
use Rattle.page_base.specs.declared.numbers.Mode.{Mode}
use Rattle.page_base.specs.declared.numbers.PageId.{PageId}
use Rattle.page_base.specs.declared.numbers.TableNo.{TableNo}
use Rattle.plain_model.specs.declared.event.LockName.{LockName}
use Rattle.plain_steps.specs.Phases.{second_mode}
use Rattle.sys_cat.specs.declared.desc.TableDesc.{TableDesc}
use Rattle.step_words.specs.declared.stage.Stage.{Stage}
use Rattle.step_words.specs.declared.stage.Stage.TheVariants.{AskAll, ScanZero, AskTable, Scan, Plan, Claim, Edit, End}
use Rattle.step_words.specs.Courses.{Course, Draft}
use Rattle.stmt_course.specs.Keeping.{IsCourse, AtStage}
use Rattle.stmt_prog.specs.declared.need.Need.{Need}
use Rattle.stmt_prog.specs.declared.need.Need.TheVariants as needs
use Rattle.stmt_prog.specs.Feeding.{asks, reads}
use Rattle.stmt_prog.specs.Needs.{lock_of, edit_of, need_at}

-- the kinds of needs, by number
abbrev kind : Need → ℕ
kind (needs.Lock table number mode) = 0
kind (needs.Visit page rows) = 1
kind needs.Plan = 2
kind (needs.Claim owner) = 3
kind (needs.Edit page) = 4
kind needs.Finish = 5

lock_kind : (m : Option Mode) (o : Option TableDesc) (n : ℕ) → kind (lock_of m o) ≡ n → (n ≡ 0) ⊎ (n ≡ 5)
lock_kind m None n e = inr (sym e)
lock_kind m (Some d) n e = inl (sym e)

edit_kind : (c : Course) (ds : List Draft) (n : ℕ) → kind (edit_of c ds) ≡ n → (n ≡ 4) ⊎ (n ≡ 5)
edit_kind c [] n e = inr (sym e)
edit_kind c (d ∷ ds) n e = inl (sym e)

at_lock : (s : Stage) (c : Course) → kind (need_at s c) ≡ 0 → asks s ≡ true
at_lock AskAll c e = refl
at_lock (ScanZero page) c e = absurd (omega (arith, e))
at_lock AskTable c e = refl
at_lock (Scan page rows) c e = absurd (omega (arith, e))
at_lock Plan c e = absurd (omega (arith, e))
at_lock Claim c e = absurd (omega (arith, e))
at_lock Edit c e = absurd (elim (edit_kind c c.edits 0 e) [ inl f ↦ omega (arith, f) | inr f ↦ omega (arith, f) ])
at_lock End c e = absurd (omega (arith, e))

at_visit : (s : Stage) (c : Course) → kind (need_at s c) ≡ 1 → reads s ≡ true
at_visit AskAll c e = absurd (omega (arith, e))
at_visit (ScanZero page) c e = refl
at_visit AskTable c e = absurd (elim (lock_kind (second_mode c.stmt) c.desc 1 e) [ inl f ↦ omega (arith, f) | inr f ↦ omega (arith, f) ])
at_visit (Scan page rows) c e = refl
at_visit Plan c e = absurd (omega (arith, e))
at_visit Claim c e = absurd (omega (arith, e))
at_visit Edit c e = absurd (elim (edit_kind c c.edits 1 e) [ inl f ↦ omega (arith, f) | inr f ↦ omega (arith, f) ])
at_visit End c e = absurd (omega (arith, e))

at_plan : (s : Stage) (c : Course) → kind (need_at s c) ≡ 2 → s ≡ Plan
at_plan AskAll c e = absurd (omega (arith, e))
at_plan (ScanZero page) c e = absurd (omega (arith, e))
at_plan AskTable c e = absurd (elim (lock_kind (second_mode c.stmt) c.desc 2 e) [ inl f ↦ omega (arith, f) | inr f ↦ omega (arith, f) ])
at_plan (Scan page rows) c e = absurd (omega (arith, e))
at_plan Plan c e = refl
at_plan Claim c e = absurd (omega (arith, e))
at_plan Edit c e = absurd (elim (edit_kind c c.edits 2 e) [ inl f ↦ omega (arith, f) | inr f ↦ omega (arith, f) ])
at_plan End c e = absurd (omega (arith, e))

at_claim : (s : Stage) (c : Course) → kind (need_at s c) ≡ 3 → s ≡ Claim
at_claim AskAll c e = absurd (omega (arith, e))
at_claim (ScanZero page) c e = absurd (omega (arith, e))
at_claim AskTable c e = absurd (elim (lock_kind (second_mode c.stmt) c.desc 3 e) [ inl f ↦ omega (arith, f) | inr f ↦ omega (arith, f) ])
at_claim (Scan page rows) c e = absurd (omega (arith, e))
at_claim Plan c e = absurd (omega (arith, e))
at_claim Claim c e = refl
at_claim Edit c e = absurd (elim (edit_kind c c.edits 3 e) [ inl f ↦ omega (arith, f) | inr f ↦ omega (arith, f) ])
at_claim End c e = absurd (omega (arith, e))

at_edit : (s : Stage) (c : Course) → kind (need_at s c) ≡ 4 → s ≡ Edit
at_edit AskAll c e = absurd (omega (arith, e))
at_edit (ScanZero page) c e = absurd (omega (arith, e))
at_edit AskTable c e = absurd (elim (lock_kind (second_mode c.stmt) c.desc 4 e) [ inl f ↦ omega (arith, f) | inr f ↦ omega (arith, f) ])
at_edit (Scan page rows) c e = absurd (omega (arith, e))
at_edit Plan c e = absurd (omega (arith, e))
at_edit Claim c e = absurd (omega (arith, e))
at_edit Edit c e = refl
at_edit End c e = absurd (omega (arith, e))

at_finish : (s : Stage) (c : Course) → AtStage s c → kind (need_at s c) ≡ 5 → s ≡ End
at_finish AskAll c a e = absurd (omega (arith, e))
at_finish (ScanZero page) c a e = absurd (omega (arith, e))
at_finish AskTable c a e = absurd (omega (arith, sym e, ap (λ o. kind (lock_of (second_mode c.stmt) o)) a.1.1))
at_finish (Scan page rows) c a e = absurd (omega (arith, e))
at_finish Plan c a e = absurd (omega (arith, e))
at_finish Claim c a e = absurd (omega (arith, e))
at_finish Edit c a e = absurd (by c.edits a e)
  where
    by : (ds : List Draft) → (ds ≡ [] → ⊥) → kind (edit_of c ds) ≡ 5 → ⊥
    by [] f e = f refl
    by (d ∷ ds) f e = absurd (omega (arith, e))
at_finish End c a e = refl

pub lock_stage : (c : Course) (table : LockName) (number : TableNo) (mode : Mode) → need_at c.stage c ≡ needs.Lock table number mode → asks c.stage ≡ true
lock_stage c table number mode e = at_lock c.stage c (ap kind e)

pub visit_stage : (c : Course) (page : PageId) (rows : Bool) → need_at c.stage c ≡ needs.Visit page rows → reads c.stage ≡ true
visit_stage c page rows e = at_visit c.stage c (ap kind e)

pub plan_stage : (c : Course) → need_at c.stage c ≡ needs.Plan → c.stage ≡ Plan
plan_stage c e = at_plan c.stage c (ap kind e)

pub claim_stage : (c : Course) (owner : ℕ) → need_at c.stage c ≡ needs.Claim owner → c.stage ≡ Claim
claim_stage c owner e = at_claim c.stage c (ap kind e)

pub edit_stage : (c : Course) (page : PageId) → need_at c.stage c ≡ needs.Edit page → c.stage ≡ Edit
edit_stage c page e = at_edit c.stage c (ap kind e)

pub finish_stage : (c : Course) → IsCourse c → need_at c.stage c ≡ needs.Finish → c.stage ≡ End
finish_stage c k e = at_finish c.stage c k.at (ap kind e)
