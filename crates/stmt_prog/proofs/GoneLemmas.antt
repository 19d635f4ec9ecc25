-- What a statement that drops its table plans, over each database that was read so.
use Rattle.std.proofs.Common.{refl, ◌≡◌, ℕ, zero, suc, take, get_or, ◌+◌, ◌<◌, ◌^◌, ◌||◌, Bool, true, false, List, [], ◌∷◌, ◌++◌, length, map, drop, ap, sym, ◌∙◌, subst, arith, append_assoc, append-nil}
use Rattle.std.specs.Prelude.{Some, All, replicate}
use Rattle.std.specs.FinMap as finite
use Rattle.std.specs.List.{AllByRecursion}
use Rattle.std.proofs.lemmas.List.{length-replicate}
use Rattle.page_base.specs.declared.numbers.PageId.{PageId}
use Rattle.page_base.specs.Pages.{is_page}
use Rattle.page_base.specs.Slots.{Slots}
use Rattle.page_base.proofs.PagesLemmas.{is_page-true}
use Rattle.page_fmt.specs.Seen.{SlotsAt, Looked, Saw, look}
use Rattle.plain_model.specs.declared.reply.Reply.TheVariants.{Ok}
use Rattle.plain_model.specs.declared.stmt.Stmt.{Stmt}
use Rattle.plain_model.specs.declared.stmt.Stmt.TheVariants.{DropTable}
use Rattle.plain_model.specs.Meaning.{change_and_reply}
use Rattle.plain_model.specs.Statements.{table_named, is_of_rows}
use Rattle.plain_model.specs.Tables.{Tables, apply}
use Rattle.sys_cat.specs.declared.desc.TableDesc.{TableDesc}
use Rattle.sys_cat.specs.Changing.{without_desc}
use Rattle.table_walk.specs.declared.plan.Edit.{Edit}
use Rattle.table_walk.specs.declared.plan.Spot.TheVariants.{Old}
use Rattle.table_walk.specs.declared.visit.Visit.{Visit}
use Rattle.table_walk.specs.Differences.{ArePlain, AddsPage}
use Rattle.table_walk.specs.Plans.{IsBelow, SpotBelow, NameBelow}
use Rattle.table_walk.proofs.WalkLemmas.{is_all}
use Rattle.page_tables.specs.Dropping.{ArePagesOf, Empty}
use Rattle.page_tables.specs.Layout as layout
use Rattle.page_tables.specs.Sheets.{sheets}
use Rattle.page_tables.proofs.DropLemmas.{walked_pages}
use Rattle.page_tables.proofs.FreeLemmas.{is_among, empty_same}
use Rattle.table_scan.specs.Scanned.{Scanned}
use Rattle.step_words.specs.Courses.{Course, Plain}
use Rattle.stmt_course.specs.Bringing.{Brings}
use Rattle.stmt_course.specs.Defining.{release_edit, removal}
use Rattle.stmt_course.specs.Keeping.{IsDraftBelow}
use Rattle.stmt_course.specs.Knowing.{IsOver}
use Rattle.stmt_course.specs.Planning.{stage_for, CanBeTold, MayPlan, IsPlannedOver, Plans}
use Rattle.stmt_course.proofs.TableLemmas.{table_gone}
use Rattle.stmt_prog.specs.declared.queue.Queue.{Queue}
use Rattle.stmt_prog.specs.declared.refusal.Refusal.{Refusal}
use Rattle.stmt_prog.specs.declared.state.State.TheVariants.{Planning, Writing}
use Rattle.stmt_prog.specs.Drafts.{all_drafts, IsTold}
use Rattle.stmt_prog.specs.Feeding.{OverEach}
use Rattle.stmt_prog.specs.Heads.{Headed, drops}
use Rattle.stmt_prog.specs.Queues.{IsGoneQueue}
use Rattle.stmt_prog.specs.Reading.{OfBases}
use Rattle.stmt_prog.specs.Refusing.{IfSaid}
use Rattle.stmt_prog.specs.States.{begun, course_of, IsFoundIn, IsQueue}
use Rattle.stmt_prog.proofs.FeedLemmas.{its_table}
use Rattle.stmt_prog.proofs.PlanLemmas.{by_recursion, all_same, none_told}
use Rattle.stmt_prog.proofs.ReadLemmas.{said_again}

-- ---- what the statement means

gone_meaning : (stmt : Stmt) → drops stmt ≡ true → (tables : Tables) → apply (change_and_reply stmt tables).0 tables ≡ finite.remove tables (table_named stmt)
gone_meaning (DropTable name) e tables = refl
gone_meaning stmt e tables = absurd (let wrong : false ≡ true = e in cc)

gone_reply : (stmt : Stmt) → drops stmt ≡ true → (tables : Tables) → (change_and_reply stmt tables).1 ≡ Ok
gone_reply (DropTable name) e tables = refl
gone_reply stmt e tables = absurd (let wrong : false ≡ true = e in cc)

not_rows : {P : Type 0} (stmt : Stmt) → drops stmt ≡ true → is_of_rows stmt ≡ true → P
not_rows (DropTable name) e f = absurd (let wrong : false ≡ true = f in cc)
not_rows stmt e f = absurd (let wrong : false ≡ true = e in cc)

-- ---- the pages of its walk

among_saw : (own : List Looked) (vs : List Visit) → All (λ (v : Visit). Saw own v.page) vs → (q : PageId) → is_among (map (λ (v : Visit). v.page) vs) q ≡ true → Saw own q
among_saw own [] were q t = absurd (let wrong : false ≡ true = t in cc)
among_saw own (v ∷ vs) were q t = by (is_page v.page q) refl (among_saw own vs (λ k d lt. were (suc k) d (omega arith)) q)
  where
    by : (b : Bool) → is_page v.page q ≡ b → (is_among (map (λ (w : Visit). w.page) vs) q ≡ true → Saw own q) → Saw own q
    by true is later = subst (Saw own) (is_page-true v.page q is) (were 0 v (omega arith))
    by false is later = later (sym (ap (λ b. b || is_among (map (λ (w : Visit). w.page) vs) q) is) ∙ t)

-- ---- the plan

module _ (h : Headed) (scan : Scanned) (d : TableDesc) (own : Scanned) (f : IsFoundIn h.stmt scan.seen d) where
  abbrev old : Course
  old = course_of h (Planning scan d own)

  pub gone_bad : (e : Refusal) → IfSaid (λ m. OfBases scan.seen (λ ds tables. ⊥)) e → IfSaid (λ m. OverEach (course_of h (Planning scan d own)) (λ tables. ⊥)) e
  gone_bad e said = said_again (λ m. OfBases scan.seen (λ ds tables. ⊥)) (λ m. OverEach (course_of h (Planning scan d own)) (λ tables. ⊥)) e (λ m none. λ files at ds tables over. none files at ds tables over.base over.zero) said

  module _ (drop_it : drops h.stmt ≡ true) (q : Queue) (p : IsGoneQueue d scan.seen own.seen q) where
    abbrev pages : List PageId
    pages = map (λ (v : Visit). v.page) p.walked

    abbrev new : Course
    new = record old { stage = stage_for (replicate p.n 0) [] (map Plain (removal p.edits p.empties (map (λ (v : Visit). v.page) p.walked))); base = []; seen = []; owners = replicate p.n 0; taken = []; edits = map Plain (removal p.edits p.empties (map (λ (v : Visit). v.page) p.walked)); reply = Some Ok }

    new_is : course_of h (Writing (Some d) q Ok) ≡ new
    new_is = λ i. record (begun h) { stage = stage_for (p.owners i) (p.taken i) (drop (p.done i) (all_drafts (p.told i) (p.are i))); desc = Some d; owners = p.owners i; taken = p.taken i; edits = drop (p.done i) (all_drafts (p.told i) (p.are i)); reply = Some Ok }

    planned_over : (files : List ℕ) (all : Bool) (mine : ℕ → Bool) (s : Slots) (ds : List TableDesc) (tables : Tables) → CanBeTold files → IsOver files (sheets s) ds tables old → MayPlan all mine h.stmt (Some d) → IsPlannedOver files all mine s ds tables new
    planned_over files false mine s ds tables few over may = not_rows h.stmt drop_it (may.rows refl)
    planned_over files true mine s ds tables few over may =
        let found = f.found files (sheets s) ds tables over.base over.zero in
        let its = its_table files (sheets s) ds tables h.stmt d over.base found in
        let walk = its.1.pages.1.walk in
        let same : p.walked ≡ its.1.pages.0 = is_all layout.shape.kids own.seen (sheets s) (layout.first d.root) p.walked its.1.pages.0 over.own p.walk walk in
        let its_pages : ArePagesOf files (sheets s) d.number.0 pages = subst (λ (vs : List Visit). ArePagesOf files (sheets s) d.number.0 (map (λ (v : Visit). v.page) vs)) (sym same)
        (walked_pages files (sheets s) d.cols d.number.0 d.root its.1.rows its.1.pages.0 its.1.pages walk) in
        let empty : Empty (sheets s) pages p.empties = empty_same (look own.seen) (sheets s) pages p.empties (λ r t. over.own r (among_saw own.seen p.walked p.walk.were r t)) p.empty in
        let brought : Brings files true mine s new (λ claimed. without_desc ds d.name) (finite.remove tables d.name) =
        table_gone files s ds tables over.base d its.0 scan.seen over.zero p.n p.edits p.empties p.plan pages its_pages empty old (stage_for (replicate p.n 0) [] (map Plain (removal p.edits p.empties pages))) (Some Ok) mine in
        record {
          shaped = found.shaped;
          reply = ap Some (sym (gone_reply h.stmt drop_it tables));
          after = λ claimed. without_desc ds d.name;
          brings = subst (λ t. Brings files true mine s new (λ claimed. without_desc ds d.name) t) (ap (finite.remove tables) its.2 ∙ sym (gone_meaning h.stmt drop_it tables)) brought;
          same = λ e. absurd (let wrong : true ≡ false = e in cc);
        }

    pub gone_plans : Plans (course_of h (Planning scan d own)) (course_of h (Writing (Some d) q Ok))
    gone_plans = subst (Plans old) (sym new_is) (record { is = refl; over = planned_over })

-- ---- its queue

both_below : (P : Edit → Type 0) (xs ys : List Edit) → AllByRecursion P xs → AllByRecursion P ys → AllByRecursion P (xs ++ ys)
both_below P [] ys a b = b
both_below P (x ∷ xs) ys a b = (a.0, both_below P xs ys a.1 b)

plain_below : (n : ℕ) (page : PageId) (es : List Edit) → ArePlain (Old page) es → AllByRecursion (IsBelow n) es
plain_below n page [] a = tt
plain_below n page (e ∷ es) a = ((subst (SpotBelow n) (sym a.0.0) tt, subst (NameBelow n) (sym a.0.1) tt), plain_below n page es a.1)

empties_below : (n : ℕ) (at : SlotsAt) (pages : List PageId) (es : List Edit) → Empty at pages es → AllByRecursion (IsBelow n) es
empties_below n at [] es e = subst (AllByRecursion (IsBelow n)) (sym e) tt
empties_below n at (p ∷ ps) es e = subst (AllByRecursion (IsBelow n)) (sym e.2) (both_below (IsBelow n) e.0 e.1 (plain_below n p e.0 e.3.are) (empties_below n at ps e.1 e.4))

releases_below : (n : ℕ) (pages : List PageId) → AllByRecursion (IsBelow n) (map release_edit pages)
releases_below n [] = tt
releases_below n (p ∷ ps) = ((tt, tt), releases_below n ps)

pub gone_queue : (d : TableDesc) (looked own : List Looked) (q : Queue) → IsGoneQueue d looked own q → IsQueue q
gone_queue d looked own q p =
    let many : length q.owners.items ≡ p.n = ap length p.owners ∙ length-replicate {A = ℕ} p.n 0 in
    let pages : List PageId = map (λ (v : Visit). v.page) p.walked in
    let all : AllByRecursion (IsBelow p.n) (removal p.edits p.empties pages) =
    both_below (IsBelow p.n) p.edits (p.empties ++ map release_edit pages) (by_recursion (IsBelow p.n) p.edits p.plan.numbers)
    (both_below (IsBelow p.n) p.empties (map release_edit pages) (empties_below p.n (look own) pages p.empties p.empty) (releases_below p.n pages)) in
    record {
      taken = omega (arith, ap length p.taken);
      done = omega (arith, p.done);
      below = subst (λ m. AllByRecursion (IsDraftBelow m) (all_drafts q.told q.edits.items)) (sym many) (none_told q p.n p.told (subst (AllByRecursion (IsBelow p.n)) (sym p.are) all));
      small = subst (AllByRecursion (λ number. number < 2 ^ 31)) (sym p.owners) (all_same 0 p.n (omega arith));
      told = subst IsTold (sym p.told) tt;
    }

-- ---- the edits that empty the pages, one page behind the other

pub empties_more : (at : SlotsAt) (pages : List PageId) (page : PageId) (es later : List Edit) → Empty at pages es → AddsPage (Old page) (at page) [] es later → Empty at (pages ++ page ∷ []) later
empties_more at [] page es later e a = (a.edits, [], a.are ∙ ap (λ xs. xs ++ a.edits) e ∙ sym (append-nil a.edits), a.make, refl)
empties_more at (p ∷ ps) page es later e a =
    let rest = empties_more at ps page e.1 (e.1 ++ a.edits) e.4 (record { edits = a.edits; are = refl; make = a.make }) in
    (e.0, e.1 ++ a.edits, a.are ∙ ap (λ xs. xs ++ a.edits) e.2 ∙ append_assoc e.0 e.1 a.edits, e.3, rest)

-- the pages of one visit more
pub pages_more : (vs : List Visit) (i : ℕ) (d : Visit) → i < length vs → map (λ (v : Visit). v.page) (take (i + 1) vs) ≡ map (λ (v : Visit). v.page) (take i vs) ++ (get_or vs i d).page ∷ []
pages_more [] i d lt = absurd (omega arith)
pages_more (v ∷ vs) zero d lt = refl
pages_more (v ∷ vs) (suc i) d lt = ap (λ n. map (λ (w : Visit). w.page) (take n (v ∷ vs))) (let more : suc i + 1 ≡ suc (i + 1) = omega arith in more) ∙ ap (λ ps. v.page ∷ ps) (pages_more vs i d (omega (arith, lt)))
