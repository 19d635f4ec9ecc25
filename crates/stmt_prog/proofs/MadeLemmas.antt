-- What a statement that makes a table plans, over each database that was read so.
use Rattle.std.proofs.Common.{refl, ◌≡◌, ◌≢◌, ◌≤◌, ◌↔◌, ℕ, zero, suc, ◌+◌, ◌<◌, ◌^◌, ◌||◌, Bool, true, false, cond, List, [], ◌∷◌, ◌++◌, length, map, drop, ap, sym, ◌∙◌, subst, arith, append_assoc}
use Rattle.std.specs.Prelude.{Option, Some, None}
use Rattle.std.specs.FinMap as finite
use Rattle.std.specs.List.{AllByRecursion}
use Rattle.std.proofs.lemmas.List.{map-append}
use Rattle.std.specs.Str.{bytes_eq}
use Rattle.page_base.specs.Slots.{Slots}
use Rattle.page_base.specs.declared.column.Column.{Column}
use Rattle.page_base.specs.declared.limits.TheConstants.{MAX_SLOT_BYTES}
use Rattle.page_base.specs.declared.numbers.PageId.{PageId}
use Rattle.page_base.specs.declared.value.Value.{Value}
use Rattle.page_base.specs.declared.numbers.TableNo.{TableNo}
use Rattle.page_fmt.specs.Seen.{SlotsAt, Looked}
use Rattle.plain_model.specs.declared.reply.Reply.TheVariants.{Ok}
use Rattle.plain_model.specs.declared.stmt.Stmt.{Stmt}
use Rattle.plain_model.specs.declared.stmt.Stmt.TheVariants.{CreateTable}
use Rattle.plain_model.specs.Meaning.{change_and_reply}
use Rattle.plain_model.specs.Statements.{table_named, is_of_rows}
use Rattle.plain_model.specs.Tables.{Tables, apply}
use Rattle.row_fmt.specs.Rows.{row_bytes}
use Rattle.sys_cat.specs.declared.desc.TableDesc.{TableDesc}
use Rattle.sys_cat.specs.Changing.{has_name, with_desc}
use Rattle.sys_cat.specs.Lists.{IsDesc}
use Rattle.sys_cat.specs.Rows.{table_0, zero_root, table_row, rows_of}
use Rattle.table_walk.specs.declared.plan.Edit.{Edit}
use Rattle.table_walk.specs.declared.plan.Spot.{Spot}
use Rattle.table_walk.specs.Differences.{edit_at}
use Rattle.table_walk.specs.declared.plan.Spot.TheVariants.{Old, New}
use Rattle.table_walk.specs.Plans.{IsBelow, SpotBelow, NameBelow}
use Rattle.table_walk.specs.Tables.{HasRows}
use Rattle.page_tables.specs.Creating.{IsNew}
use Rattle.page_tables.specs.Layout as layout
use Rattle.page_tables.specs.Layout.{Promises}
use Rattle.page_tables.specs.Rooting.{rooted, telling}
use Rattle.page_tables.specs.Sheets.{sheets}
use Rattle.step_words.specs.Courses.{Course, Draft, Plain, Root}
use Rattle.table_scan.specs.Scanned.{Scanned}
use Rattle.stmt_course.specs.Bringing.{Brings}
use Rattle.stmt_course.specs.Defining.{owners_with, root_edit, creation}
use Rattle.stmt_course.specs.Keeping.{IsDraftBelow}
use Rattle.stmt_course.specs.Knowing.{desc_named, IsOver}
use Rattle.stmt_course.specs.Planning.{stage_for, CanBeTold, MayPlan, IsPlannedOver, Plans}
use Rattle.stmt_course.proofs.TableLemmas.{table_brought}
use Rattle.stmt_course.proofs.ComingLemmas.{many_with}
use Rattle.stmt_prog.specs.declared.queue.Queue.{Queue}
use Rattle.stmt_prog.specs.declared.refusal.Refusal.{Refusal}
use Rattle.stmt_prog.specs.declared.state.State.TheVariants.{Defining, Writing}
use Rattle.stmt_prog.specs.Drafts.{told_in, all_drafts, IsTold}
use Rattle.stmt_prog.specs.Feeding.{OverEach}
use Rattle.stmt_prog.specs.Heads.{Headed, creates, new_cols}
use Rattle.stmt_prog.specs.Placing.{IsPlacedAt}
use Rattle.stmt_prog.specs.Queues.{IsRootEdit, IsQueueFor, IsMadeQueue}
use Rattle.stmt_prog.specs.Reading.{OfBases}
use Rattle.stmt_prog.specs.Refusing.{IfSaid}
use Rattle.stmt_prog.specs.States.{begun, course_of, IsLackingIn, IsQueue}
use Rattle.stmt_prog.proofs.ReadLemmas.{said_again}
use Rattle.stmt_prog.proofs.WriteLemmas.{told_among, many_drafts}
use Rattle.stmt_prog.proofs.PlanLemmas.{by_recursion}

-- ---- what the statement means

made_meaning : (stmt : Stmt) → creates stmt ≡ true → (tables : Tables) → apply (change_and_reply stmt tables).0 tables ≡ finite.insert tables (table_named stmt) (record { cols = new_cols stmt; rows = finite.empty })
made_meaning (CreateTable name cols) e tables = refl
made_meaning stmt e tables = absurd (let wrong : false ≡ true = e in cc)

made_reply : (stmt : Stmt) → creates stmt ≡ true → (tables : Tables) → (change_and_reply stmt tables).1 ≡ Ok
made_reply (CreateTable name cols) e tables = refl
made_reply stmt e tables = absurd (let wrong : false ≡ true = e in cc)

not_rows : {P : Type 0} (stmt : Stmt) → creates stmt ≡ true → is_of_rows stmt ≡ true → P
not_rows (CreateTable name cols) e f = absurd (let wrong : false ≡ true = f in cc)
not_rows stmt e f = absurd (let wrong : false ≡ true = e in cc)

-- no table that is described has the name
lacks_name : (name : List ℕ) (ds : List TableDesc) → desc_named ds name ≡ None → has_name ds name ≡ false
lacks_name name [] e = refl
lacks_name name (x ∷ xs) e = by (lacks_name name xs) (bytes_eq x.name name) refl e
  where
    by : (desc_named xs name ≡ None → has_name xs name ≡ false) → (b : Bool) → bytes_eq x.name name ≡ b → cond b (Some x) (desc_named xs name) ≡ None → (bytes_eq x.name name || has_name xs name) ≡ false
    by rest true t f = absurd (let wrong : Some x ≡ None = f in cc)
    by rest false t f = ap (λ b. b || has_name xs name) t ∙ rest f

-- ---- the plan

module _ (h : Headed) (scan : Scanned) (number : TableNo) (l : IsLackingIn h.stmt scan.seen number) where
  abbrev old : Course
  old = course_of h (Defining scan number)

  abbrev d : TableDesc
  d = record { name = table_named h.stmt; number = number; root = zero_root; cols = new_cols h.stmt }

  pub made_bad : (e : Refusal) → IfSaid (λ m. OfBases scan.seen (λ ds tables. ⊥)) e → IfSaid (λ m. OverEach (course_of h (Defining scan number)) (λ tables. ⊥)) e
  made_bad e said = said_again (λ m. OfBases scan.seen (λ ds tables. ⊥)) (λ m. OverEach (course_of h (Defining scan number)) (λ tables. ⊥)) e (λ m none. λ files at ds tables over. none files at ds tables over.base over.zero) said

  module _ (desc : IsDesc (record { name = table_named h.stmt; number = number; root = zero_root; cols = new_cols h.stmt })) (q : Queue) (p : IsMadeQueue (record { name = table_named h.stmt; number = number; root = zero_root; cols = new_cols h.stmt }) scan.seen q) where
    abbrev es : List Draft
    es = creation p.n p.before p.spot p.slot d p.later p.bytes

    abbrev new : Course
    new = record old { stage = stage_for (owners_with p.n number.0) [] (creation p.n p.before p.spot p.slot d p.later p.bytes); base = []; seen = []; owners = owners_with p.n number.0; taken = []; edits = creation p.n p.before p.spot p.slot d p.later p.bytes; reply = Some Ok }

    new_is : course_of h (Writing None q Ok) ≡ new
    new_is = λ i. record (begun h) { stage = stage_for (p.owners i) (p.taken i) (drop (p.done i) (p.drafts i)); desc = None; owners = p.owners i; taken = p.taken i; edits = drop (p.done i) (p.drafts i); reply = Some Ok }

    planned_over : (files : List ℕ) (all : Bool) (mine : ℕ → Bool) (s : Slots) (ds : List TableDesc) (tables : Tables) → CanBeTold files → IsOver files (sheets s) ds tables old → MayPlan all mine h.stmt None → IsPlannedOver files all mine s ds tables new
    planned_over files false mine s ds tables few over may = not_rows h.stmt l.makes (may.rows refl)
    planned_over files true mine s ds tables few over may =
        let found = l.found files (sheets s) ds tables over.base over.zero in
        let is_new : IsNew ds d = record { desc = desc; name = lacks_name (table_named h.stmt) ds found.desc; number = l.new files (sheets s) ds tables over.base over.zero } in
        record {
          shaped = found.shaped;
          reply = ap Some (sym (made_reply h.stmt l.makes tables));
          after = λ claimed. with_desc ds (rooted d (claimed p.n));
          brings = subst (λ t. Brings files true mine s new (λ claimed. with_desc ds (rooted d (claimed p.n))) t) (sym (made_meaning h.stmt l.makes tables))
              (table_brought files s ds tables over.base few d is_new scan.seen over.zero p.n p.before p.later p.spot p.slot p.plan p.bytes p.blank old (stage_for (owners_with p.n number.0) [] es) (Some Ok) mine);
          same = λ e. absurd (let wrong : true ≡ false = e in cc);
        }

    pub made_plans : Plans (course_of h (Defining scan number)) (course_of h (Writing None q Ok))
    made_plans = subst (Plans old) (sym new_is) (record { is = refl; over = planned_over })

-- ---- its queue

owners_small : (n number : ℕ) → number < 2 ^ 31 → AllByRecursion (λ (m : ℕ). m < 2 ^ 31) (owners_with n number)
owners_small zero number lt = (lt, tt)
owners_small (suc n) number lt = (omega arith, owners_small n number lt)

below_more : (n : ℕ) (e : Edit) → IsBelow n e → IsBelow (n + 1) e
below_more n e b = (spot_more e.spot b.0, name_more e.names b.1)
  where
    spot_more : (s : Spot) → SpotBelow n s → SpotBelow (n + 1) s
    spot_more (Old p) b = tt
    spot_more (New i) b = omega (arith, b)

    name_more : (o : Option ℕ) → NameBelow n o → NameBelow (n + 1) o
    name_more None b = tt
    name_more (Some i) b = omega (arith, b)

-- the edits of a plan that tells a new table speak of the pages that are claimed
creation_below : (n : ℕ) (before : List Edit) (spot : Spot) (slot : ℕ) (d : TableDesc) (later : List Edit) (bytes : List ℕ) → AllByRecursion (IsBelow n) (telling before spot slot d later) → AllByRecursion (IsDraftBelow (n + 1)) (creation n before spot slot d later bytes)
creation_below n [] spot slot d later bytes a = (((below_more n (edit_at spot (slot, row_bytes (table_row d))) a.0).0, omega arith), rest later a.1)
  where
    rest : (es : List Edit) → AllByRecursion (IsBelow n) es → AllByRecursion (IsDraftBelow (n + 1)) (map Plain es ++ Plain (root_edit n bytes) ∷ [])
    rest [] a = ((omega arith, tt), tt)
    rest (e ∷ es) a = (below_more n e a.0, rest es a.1)
creation_below n (e ∷ es) spot slot d later bytes a = (below_more n e a.0, creation_below n es spot slot d later bytes a.1)

pub made_queue : (d : TableDesc) (looked : List Looked) (q : Queue) → IsDesc d → IsMadeQueue d looked q → IsTold q.told → IsQueue q
made_queue d looked q desc p told =
    let many : length q.owners.items ≡ p.n + 1 = ap length p.owners ∙ many_with p.n d.number.0 in
    let edits : length (all_drafts q.told q.edits.items) ≡ length q.edits.items = many_drafts q.told q.edits.items in
    record {
      taken = omega (arith, ap length p.taken);
      done = omega (arith, p.done);
      below = subst (λ m. AllByRecursion (IsDraftBelow m) (all_drafts q.told q.edits.items)) (sym many) (subst (AllByRecursion (IsDraftBelow (p.n + 1))) (sym p.drafts)
          (creation_below p.n p.before p.spot p.slot d p.later p.bytes (by_recursion (IsBelow p.n) (telling p.before p.spot p.slot d p.later) p.plan.numbers)));
      small = subst (AllByRecursion (λ number. number < 2 ^ 31)) (sym p.owners) (owners_small p.n d.number.0 desc.head.number);
      told = told;
    }

-- the edits as the queue has them
pub creation_is : (before later : List Edit) (spot : Spot) (slot : ℕ) (d : TableDesc) (n : ℕ) (bytes : List ℕ) (root : Edit) (edits : List Edit) → edits ≡ telling before spot slot d later → root ≡ root_edit n bytes
    → told_in (length before) d n (edits ++ root ∷ []) ≡ creation n before spot slot d later bytes
creation_is before later spot slot d n bytes root edits are is =
    (λ i. told_in (length before) d n (are i ++ is i ∷ []))
    ∙ ap (told_in (length before) d n) (append_assoc before (edit_at spot (slot, row_bytes (table_row d)) ∷ later) (root_edit n bytes ∷ []))
    ∙ told_among before (later ++ root_edit n bytes ∷ []) (edit_at spot (slot, row_bytes (table_row d))) d n
    ∙ ap (λ ds. map Plain before ++ Root (edit_at spot (slot, row_bytes (table_row d))) d n ∷ ds) (map-append Plain later (root_edit n bytes ∷ []))

pub is_root_edit : (n : ℕ) (root bytes : List ℕ) → bytes ≡ root → root ≢ [] → length root ≤ MAX_SLOT_BYTES
    → ((cols : List Column) (at : SlotsAt) (owns : PageId → Bool) (p : PageId) → at p ≡ root ∷ [] → ((q : PageId) → (owns q ≡ true) ↔ (q ≡ p)) → HasRows layout.shape cols at owns (layout.first p) finite.empty) → IsRootEdit n (root_edit n bytes)
is_root_edit n root bytes is some short empty = record { bytes = root; is = ap (root_edit n) is; blank = record { some = some; short = short; empty = empty } }

pub queue_for : (d : TableDesc) (n at : ℕ) (edits slice : List Edit) (row : List ℕ) (root : Edit) (q : Queue) → slice ≡ edits → row ≡ row_bytes (table_row d) → IsPlacedAt slice row at → IsRootEdit n root
    → q.owners.items ≡ owners_with n d.number.0 → q.taken.items ≡ [] → q.done ≡ 0 → q.told ≡ Some (record { at = at; desc = d; new = n }) → q.edits.items ≡ edits ++ root ∷ [] → IsQueueFor d n edits q
queue_for d n at edits slice row root q same spelled p r owners taken done told are =
    let its : edits ≡ telling p.before p.spot p.slot d p.later = sym same ∙ p.are ∙ ap (λ (b : List ℕ). p.before ++ edit_at p.spot (p.slot, b) ∷ p.later) spelled in
    record {
      before = p.before;
      later = p.later;
      spot = p.spot;
      slot = p.slot;
      bytes = r.bytes;
      are = its;
      owners = owners;
      taken = taken;
      done = done;
      drafts = (λ i. all_drafts (told i) (are i)) ∙ ap (λ a. told_in a d n (edits ++ root ∷ [])) (sym p.place) ∙ creation_is p.before p.later p.spot p.slot d n r.bytes root edits its r.is;
      blank = r.blank;
    }

pub made_of : (d : TableDesc) (looked : List Looked) (n : ℕ) (edits : List Edit) (rows none : List (List Value)) (q : Queue) → IsQueueFor d n edits q → rows ≡ rows_of d → none ≡ [] → Promises table_0 looked zero_root none rows n edits → IsMadeQueue d looked q
made_of d looked n edits rows none q f are nothing p = record {
  n = n;
  before = f.before;
  later = f.later;
  spot = f.spot;
  slot = f.slot;
  bytes = f.bytes;
  owners = f.owners;
  taken = f.taken;
  done = f.done;
  drafts = f.drafts;
  plan = subst (λ es. Promises table_0 looked zero_root [] (rows_of d) n es) f.are (subst (λ rs. Promises table_0 looked zero_root [] rs n edits) are (subst (λ ks. Promises table_0 looked zero_root ks rows n edits) nothing p));
  blank = f.blank;
}
