-- The queue of a program as the edits of its course.
use Rattle.std.proofs.Common.{refl, ◌≡◌, ◌≢◌, inl, inr, eq-eqb, ◌==◌, ◌++◌, ◌-◌, ℕ, zero, suc, ◌+◌, ◌<◌, ◌≤◌, Bool, true, false, cond, List, [], ◌∷◌, length, map, drop, get_or, ap, sym, ◌∙◌, subst, arith}
use Rattle.std.specs.Prelude.{Option, Some, None, nat_lt}
use Rattle.std.specs.List.{AllByRecursion}
use Rattle.std.proofs.lemmas.List.{length-map, length-drop, nil_from_length}
use Rattle.std.proofs.lemmas.Bool.{cases_eq, le-ltb, ne_eqb}
use Rattle.page_base.specs.declared.numbers.PageId.{PageId}
use Rattle.plain_model.specs.declared.reply.Reply.{Reply}
use Rattle.sys_cat.specs.declared.desc.TableDesc.{TableDesc}
use Rattle.table_walk.specs.declared.plan.Edit.{Edit}
use Rattle.table_walk.specs.declared.plan.Spot.TheVariants.{New}
use Rattle.table_walk.specs.Plans.{place, SpotBelow, IsBelow}
use Rattle.step_words.specs.Coming.{draft_write}
use Rattle.step_words.specs.declared.stage.Stage.TheVariants as stages
use Rattle.step_words.specs.Courses.{Course, Draft, Plain, Root}
use Rattle.stmt_course.specs.Keeping.{IsDraftBelow}
use Rattle.stmt_course.specs.Planning.{stage_for, stage_after}
use Rattle.stmt_prog.specs.declared.need.Need.TheVariants.{Edit as Editing, Finish}
use Rattle.stmt_prog.specs.declared.queue.NextEdit.{NextEdit}
use Rattle.stmt_prog.specs.declared.queue.Queue.{Queue}
use Rattle.stmt_prog.specs.declared.queue.Telling.{Telling}
use Rattle.stmt_prog.specs.Drafts.{told_in, all_drafts, draft_at}
use Rattle.stmt_prog.specs.declared.state.State.TheVariants.{Writing}
use Rattle.stmt_prog.specs.Feeding.{edited, later}
use Rattle.stmt_prog.specs.Heads.{Headed}
use Rattle.stmt_prog.specs.Needs.{need_at}
use Rattle.stmt_prog.specs.States.{begun, course_of, drafts}
use Rattle.stmt_prog.proofs.CourseLemmas.{below_drop}
use Rattle.stmt_prog.specs.Writing.{taken_in, Spells, IsNextEdit}

later_drop : (xs : List Draft) (n : ℕ) → drop (n + 1) xs ≡ later (drop n xs)
later_drop [] zero = refl
later_drop [] (suc n) = (let same : suc n + 1 ≡ suc (n + 1) = omega arith in ap (λ m. drop {A = Draft} m []) same)
later_drop (x ∷ xs) zero = refl
later_drop (x ∷ xs) (suc n) = (let same : suc n + 1 ≡ suc (n + 1) = omega arith in ap (λ m. drop m (x ∷ xs)) same) ∙ later_drop xs n

-- all pages are claimed where it edits
pub all_claimed : (owners : List ℕ) (taken : List PageId) (ds : List Draft) → stage_for owners taken ds ≡ stages.Edit → nat_lt (length taken) (length owners) ≡ false
all_claimed owners taken ds e = by (nat_lt (length taken) (length owners)) refl e
  where
    by : (b : Bool) → nat_lt (length taken) (length owners) ≡ b → cond b stages.Claim (stage_after ds) ≡ stages.Edit → nat_lt (length taken) (length owners) ≡ false
    by true t f = absurd (let wrong : stages.Claim ≡ stages.Edit = f in cc)
    by false t f = t

pub edited_is : (h : Headed) (d : Option TableDesc) (q new : Queue) (reply : Reply) → (course_of h (Writing d q reply)).stage ≡ stages.Edit → new.owners.items ≡ q.owners.items → new.taken.items ≡ q.taken.items → new.edits.items ≡ q.edits.items → new.told ≡ q.told → new.done ≡ q.done + 1
    → course_of h (Writing d new reply) ≡ edited (course_of h (Writing d q reply))
edited_is h d q new reply at owners taken edits told done =
    let claimed = all_claimed q.owners.items q.taken.items (drafts q) at in
    let left : drafts new ≡ later (drafts q) = (λ i. drop (done i) (all_drafts (told i) (edits i))) ∙ later_drop (all_drafts q.told q.edits.items) q.done in
    (λ i. record (begun h) { stage = stage_for (owners i) (taken i) (left i); desc = d; owners = owners i; taken = taken i; edits = left i; reply = Some reply })
    ∙ (λ i. record (begun h) { stage = cond (claimed i) stages.Claim (stage_after (later (drafts q))); desc = d; owners = q.owners.items; taken = q.taken.items; edits = later (drafts q); reply = Some reply })

abbrev first_of : Draft → List Draft → Draft
first_of z [] = z
first_of z (w ∷ ws) = w

plain_draft : (es : List Edit) (n : ℕ) (x : Draft) (xs : List Draft) (d : Edit) → drop n (map Plain es) ≡ x ∷ xs → Plain (get_or es n d) ≡ x
plain_draft [] zero x xs d e = absurd (let m : 0 ≡ suc (length xs) = ap length e in omega arith)
plain_draft [] (suc n) x xs d e = absurd (let m : 0 ≡ suc (length xs) = ap length e in omega arith)
plain_draft (y ∷ ys) zero x xs d e = ap (first_of x) e
plain_draft (y ∷ ys) (suc n) x xs d e = plain_draft ys n x xs d e

some_plain : (es : List Edit) (n : ℕ) → n < length es → (x : Draft) × (more : List Draft) × (drop n (map Plain es) ≡ x ∷ more)
some_plain [] n l = absurd (omega arith)
some_plain (x ∷ xs) zero l = (Plain x, map Plain xs, refl)
some_plain (x ∷ xs) (suc n) l = some_plain xs n (omega (arith, l))

-- the same where one tells a new table
module _ (desc : TableDesc) (new : ℕ) where
  at_place : (n at : ℕ) (e : Edit) → n ≡ at → cond (n == at) (Root e desc new) (Plain e) ≡ Root e desc new
  at_place n at e is = ap (λ b. cond b (Root e desc new) (Plain e)) (eq-eqb n at is)

  off_place : (n at : ℕ) (e : Edit) → n ≢ at → cond (n == at) (Root e desc new) (Plain e) ≡ Plain e
  off_place n at e ne = ap (λ b. cond b (Root e desc new) (Plain e)) (ne_eqb n at ne)

  one_later : (n at : ℕ) (e : Edit) → cond (suc n == suc at) (Root e desc new) (Plain e) ≡ cond (n == at) (Root e desc new) (Plain e)
  one_later n at e = elim (cases_eq n at) [
    | inl is ↦ at_place (suc n) (suc at) e (let same : suc n ≡ suc at = omega (arith, is) in same) ∙ sym (at_place n at e is)
    | inr ne ↦ off_place (suc n) (suc at) e (λ f. ne (let same : n ≡ at = omega (arith, f) in same)) ∙ sym (off_place n at e ne)
  ]

  told_draft : (es : List Edit) (at n : ℕ) (x : Draft) (xs : List Draft) (d : Edit) → drop n (told_in at desc new es) ≡ x ∷ xs → cond (n == at) (Root (get_or es n d) desc new) (Plain (get_or es n d)) ≡ x
  told_draft [] at zero x xs d e = absurd (let m : 0 ≡ suc (length xs) = ap length e in omega arith)
  told_draft [] at (suc n) x xs d e = absurd (let m : 0 ≡ suc (length xs) = ap length e in omega arith)
  told_draft (y ∷ ys) zero zero x xs d e = at_place 0 0 y refl ∙ ap (first_of x) e
  told_draft (y ∷ ys) (suc at) zero x xs d e = off_place 0 (suc at) y (λ f. absurd (let wrong : 0 ≡ suc at = f in omega arith)) ∙ ap (first_of x) e
  told_draft (y ∷ ys) zero (suc n) x xs d e = off_place (suc n) 0 (get_or ys n d) (λ f. absurd (let wrong : suc n ≡ 0 = f in omega arith)) ∙ plain_draft ys n x xs d e
  told_draft (y ∷ ys) (suc at) (suc n) x xs d e = one_later n at (get_or ys n d) ∙ told_draft ys at n x xs d e

  some_told : (es : List Edit) (at n : ℕ) → n < length es → (x : Draft) × (more : List Draft) × (drop n (told_in at desc new es) ≡ x ∷ more)
  some_told [] at n l = absurd (omega arith)
  some_told (y ∷ ys) zero zero l = (Root y desc new, map Plain ys, refl)
  some_told (y ∷ ys) (suc at) zero l = (Plain y, told_in at desc new ys, refl)
  some_told (y ∷ ys) zero (suc n) l = some_plain ys n (omega (arith, l))
  some_told (y ∷ ys) (suc at) (suc n) l = some_told ys at n (omega (arith, l))

-- the first of the edits to come is the one at that place
pub first_draft : (told : Option Telling) (es : List Edit) (n : ℕ) (x : Draft) (xs : List Draft) (d : Edit) → drop n (all_drafts told es) ≡ x ∷ xs → draft_at told n (get_or es n d) ≡ x
first_draft None es n x xs d e = plain_draft es n x xs d e
first_draft (Some t) es n x xs d e = told_draft t.desc t.new es t.at n x xs d e

pub next_is : (q : Queue) (c : Course) (e : NextEdit) → c.edits ≡ drafts q → c.taken ≡ q.taken.items → ((d : Edit) → Spells q.taken.items (draft_at q.told q.done (get_or q.edits.items q.done d)) e) → IsNextEdit c e
next_is q c e edits taken spells draft more is =
    let d : Edit = record { spot = New 0; slot = 0; names = None; bytes = []; of_row = false } in
    subst (λ (x : Draft). draft_write (taken_in c.taken) x ≡ record { page = e.page; slot = e.slot; bytes = e.bytes }) (first_draft q.told q.edits.items q.done draft more d (sym edits ∙ is))
    (subst (λ (t : List PageId). draft_write (taken_in t) (draft_at q.told q.done (get_or q.edits.items q.done d)) ≡ record { page = e.page; slot = e.slot; bytes = e.bytes }) (sym taken) (spells d))

-- where edits are to come, the first one writes on the page of the edit at that place
some_draft : (told : Option Telling) (es : List Edit) (n : ℕ) → n < length es → (x : Draft) × (more : List Draft) × (drop n (all_drafts told es) ≡ x ∷ more)
some_draft None es n l = some_plain es n l
some_draft (Some t) es n l = some_told t.desc t.new es t.at n l

place_at : (told : Option Telling) (n : ℕ) (e : Edit) (claimed : ℕ → PageId) → (draft_write claimed (draft_at told n e)).page ≡ place claimed e.spot
place_at None n e claimed = refl
place_at (Some t) n e claimed = by (n == t.at)
  where
    by : (b : Bool) → (draft_write claimed (cond b (Root e t.desc t.new) (Plain e))).page ≡ place claimed e.spot
    by true = refl
    by false = refl

same_edit : (es : List Edit) (n : ℕ) → n < length es → (e : Edit) × (e ≡ get_or es n e)
same_edit [] n l = absurd (omega arith)
same_edit (x ∷ xs) zero l = (x, refl)
same_edit (x ∷ xs) (suc n) l = same_edit xs n (omega (arith, l))

pub need_is : (q : Queue) (page : PageId) → length q.owners.items ≤ length q.taken.items → q.done < length q.edits.items → ((e : Edit) → q.done < length q.edits.items → e ≡ get_or q.edits.items q.done e → page ≡ place (taken_in q.taken.items) e.spot)
    → (c : Course) → c.owners ≡ q.owners.items → c.taken ≡ q.taken.items → c.edits ≡ drafts q → Editing page ≡ need_at (stage_for c.owners c.taken c.edits) c
need_is q page le lt at c owners taken edits =
    let it = same_edit q.edits.items q.done lt in
    let some = some_draft q.told q.edits.items q.done lt in
    let same : draft_at q.told q.done it.0 ≡ some.0 = ap (draft_at q.told q.done) it.1 ∙ first_draft q.told q.edits.items q.done some.0 some.1 it.0 some.2 in
    let here : page ≡ (draft_write (taken_in c.taken) some.0).page =
    at it.0 lt it.1 ∙ ap (λ t. place (taken_in t) it.0.spot) (sym taken) ∙ sym (place_at q.told q.done it.0 (taken_in c.taken)) ∙ ap (λ (x : Draft). (draft_write (taken_in c.taken) x).page) same in
    let claimed : nat_lt (length c.taken) (length c.owners) ≡ false = le-ltb (length c.taken) (length c.owners) (omega (arith, le, ap length owners, ap length taken)) in
    by c.edits some.0 some.1 (edits ∙ some.2) here claimed
  where
    by : (ds : List Draft) (x : Draft) (xs : List Draft) → ds ≡ x ∷ xs → page ≡ (draft_write (taken_in c.taken) x).page → nat_lt (length c.taken) (length c.owners) ≡ false → Editing page ≡ need_at (cond (nat_lt (length c.taken) (length c.owners)) stages.Claim (stage_after ds)) (record c { edits = ds })
    by ds x xs e p f = ap Editing p ∙ sym ((λ i. need_at (cond (f i) stages.Claim (stage_after (e i))) (record c { edits = e i })))

-- ---- an edit that tells a new table among others

pub plain_all : (es : List Edit) (P : Draft → Type 0) → AllByRecursion (λ (e : Edit). P (Plain e)) es → AllByRecursion P (map Plain es)
plain_all [] P a = tt
plain_all (e ∷ es) P a = (a.0, plain_all es P a.1)

pub told_among : (before later : List Edit) (e : Edit) (d : TableDesc) (new : ℕ) → told_in (length before) d new (before ++ e ∷ later) ≡ map Plain before ++ Root e d new ∷ map Plain later
told_among [] later e d new = refl
told_among (x ∷ xs) later e d new = ap (λ ds. Plain x ∷ ds) (told_among xs later e d new)

-- ---- how many edits are to come

many_told : (at new : ℕ) (d : TableDesc) (es : List Edit) → length (told_in at d new es) ≡ length es
many_told at new d [] = refl
many_told zero new d (e ∷ es) = ap suc (length-map es Plain)
many_told (suc at) new d (e ∷ es) = ap suc (many_told at new d es)

pub many_drafts : (told : Option Telling) (es : List Edit) → length (all_drafts told es) ≡ length es
many_drafts None es = length-map es Plain
many_drafts (Some t) es = many_told t.at t.new t.desc es

pub many_left : (q : Queue) → length (drafts q) ≡ length q.edits.items - q.done
many_left q = length-drop q.done (all_drafts q.told q.edits.items) ∙ ap (λ n. n - q.done) (many_drafts q.told q.edits.items)

-- ---- an edit speaks of claimed pages alone

first_below : (n : ℕ) (ds xs : List Draft) (x : Draft) → ds ≡ x ∷ xs → AllByRecursion (IsDraftBelow n) ds → IsDraftBelow n x
first_below n ds xs x is a = (subst (AllByRecursion (IsDraftBelow n)) is a).0

pub draft_below : (n : ℕ) (told : Option Telling) (es : List Edit) (i : ℕ) → AllByRecursion (IsDraftBelow n) (all_drafts told es) → i < length es → (d : Edit) → IsDraftBelow n (draft_at told i (get_or es i d))
draft_below n told es i a lt d =
    let some = some_draft told es i lt in
    subst (IsDraftBelow n) (sym (first_draft told es i some.0 some.1 d some.2)) (first_below n (drop i (all_drafts told es)) some.1 some.0 some.2 (below_drop n i (all_drafts told es) a))

pub spot_below : (n : ℕ) (told : Option Telling) (i : ℕ) (e : Edit) → IsDraftBelow n (draft_at told i e) → SpotBelow n e.spot
spot_below n None i e b = b.0
spot_below n (Some t) i e b = by (i == t.at) b
  where
    by : (b : Bool) → IsDraftBelow n (cond b (Root e t.desc t.new) (Plain e)) → SpotBelow n e.spot
    by true b = b.0
    by false b = b.0

-- nothing is to come
pub need_none : (q : Queue) → length q.owners.items ≤ length q.taken.items → length q.edits.items ≤ q.done → (c : Course) → c.owners ≡ q.owners.items → c.taken ≡ q.taken.items → c.edits ≡ drafts q → Finish ≡ need_at (stage_for c.owners c.taken c.edits) c
need_none q le lt c owners taken edits =
    let none : drafts q ≡ [] = nil_from_length (drafts q) (many_left q ∙ (let nothing : length q.edits.items - q.done ≡ 0 = omega (arith, lt) in nothing)) in
    let claimed : nat_lt (length c.taken) (length c.owners) ≡ false = le-ltb (length c.taken) (length c.owners) (omega (arith, le, ap length owners, ap length taken)) in
    sym (λ i. need_at (cond (claimed i) stages.Claim (stage_after ((edits ∙ none) i))) (record c { edits = (edits ∙ none) i }))

-- the edit at a place of a queue, all of whose pages are claimed
module _ (q : Queue) (n : ℕ) (e : Edit) (below : AllByRecursion (IsDraftBelow (length q.owners.items)) (all_drafts q.told q.edits.items)) (many : n ≡ length q.owners.items) (lt : q.done < length q.edits.items) (is : e ≡ get_or q.edits.items q.done e) where
  pub here_below : IsDraftBelow n (draft_at q.told q.done e)
  here_below = subst (λ m. IsDraftBelow m (draft_at q.told q.done e)) (sym many) (subst (λ x. IsDraftBelow (length q.owners.items) (draft_at q.told q.done x)) (sym is) (draft_below (length q.owners.items) q.told q.edits.items q.done below lt e))

  pub here_plain : q.told ≡ None → IsBelow n e
  here_plain none = subst (λ o. IsDraftBelow n (draft_at o q.done e)) none here_below

  pub here_told : (t : Telling) → q.told ≡ Some t → q.done ≡ t.at → IsDraftBelow n (Root e t.desc t.new)
  here_told t some at = subst (IsDraftBelow n) (at_place t.desc t.new q.done t.at e at) (subst (λ o. IsDraftBelow n (draft_at o q.done e)) some here_below)

  pub here_other : (t : Telling) → q.told ≡ Some t → q.done ≢ t.at → IsBelow n e
  here_other t some at = subst (IsDraftBelow n) (off_place t.desc t.new q.done t.at e at) (subst (λ o. IsDraftBelow n (draft_at o q.done e)) some here_below)

-- where it edits there is an edit
pub some_left : (q : Queue) → stage_for q.owners.items q.taken.items (drafts q) ≡ stages.Edit → q.done < length q.edits.items
some_left q at = by (drafts q) refl (nat_lt (length q.taken.items) (length q.owners.items)) at
  where
    by : (ds : List Draft) → drafts q ≡ ds → (b : Bool) → cond b stages.Claim (stage_after ds) ≡ stages.Edit → q.done < length q.edits.items
    by [] is true e = absurd (let wrong : stages.Claim ≡ stages.Edit = e in cc)
    by [] is false e = absurd (let wrong : stages.End ≡ stages.Edit = e in cc)
    by (x ∷ xs) is b e = (let left : length q.edits.items - q.done ≡ suc (length xs) = sym (many_left q) ∙ ap length is in omega (arith, left))
