-- What a page that was read makes of a course, over each database that was read so.
use Rattle.std.proofs.Common.{refl, ◌≡◌, ◌<◌, ◌≤◌, ◌^◌, ℕ, true, false, List, [], ap, sym, ◌∙◌, subst}
use Rattle.std.specs.Prelude.{Option, Some, None, unwrap_or}
use Rattle.std.specs.Option.{is_some}
use Rattle.std.specs.FinMap as finite
use Rattle.std.specs.List.{Any}
use Rattle.page_base.specs.declared.numbers.PageId.{PageId}
use Rattle.page_base.specs.declared.numbers.TableNo.{TableNo}
use Rattle.page_fmt.specs.Seen.{SlotsAt, Looked, Shows}
use Rattle.plain_model.specs.declared.reply.Message.{Message}
use Rattle.plain_model.specs.declared.stmt.Stmt.{Stmt}
use Rattle.plain_model.specs.Meaning.{shape, change_and_reply, table_in}
use Rattle.plain_model.specs.Statements.{data_over, table_named}
use Rattle.plain_model.specs.Tables.{Rows, Table, Tables}
use Rattle.plain_steps.specs.Phases.{second_mode}
use Rattle.sys_cat.specs.declared.desc.TableDesc.{TableDesc}
use Rattle.sys_cat.specs.Lists.{has_number}
use Rattle.sys_cat.specs.Rows.{zero_root, table_0}
use Rattle.table_walk.specs.declared.refusal.SeenRefusal.{SeenRefusal}
use Rattle.table_walk.specs.declared.refusal.SeenRefusal.TheVariants as seen
use Rattle.table_walk.specs.declared.visit.Visit.{Visit}
use Rattle.table_walk.specs.Answers.{IsAt}
use Rattle.table_walk.specs.Tables.{is_leaf, HasRows}
use Rattle.table_walk.specs.Walk.{IsDone}
use Rattle.page_tables.specs.Bases.{IsBase, HasTable}
use Rattle.page_tables.specs.Layout as layout
use Rattle.page_tables.specs.Owners.{owns}
use Rattle.table_scan.specs.Scanned.{Scanned, IsScan, IsNextOf, IsBadThen, with_page}
use Rattle.table_scan.proofs.ScanLemmas.{not_damaged}
use Rattle.step_words.specs.declared.stage.Stage.{Stage}
use Rattle.step_words.specs.declared.stage.Stage.TheVariants as stages
use Rattle.step_words.specs.Courses.{Course}
use Rattle.page_base.specs.declared.column.Column.{Column}
use Rattle.stmt_course.specs.Keeping.{IsTableOf}
use Rattle.stmt_course.specs.Knowing.{IsOver, IsFound}
use Rattle.stmt_eval.specs.declared.effect.Effect.{Effect}
use Rattle.stmt_eval.specs.Verdicts.{IsEffect}
use Rattle.stmt_prog.specs.declared.refusal.Refusal.{Refusal}
use Rattle.stmt_prog.specs.declared.state.State.TheVariants.{ScanZero, ScanOwn, Planning, Defining}
use Rattle.stmt_prog.specs.Ending.{Ends}
use Rattle.stmt_prog.specs.Feeding.{table_stage, is_select, read, read_at, OverEach, TakesOn, ReadsZero, FindsTable, FindsNone, ReadsOwn, ComesToPlan, Answers}
use Rattle.stmt_prog.specs.Heads.{Headed, creates}
use Rattle.stmt_prog.specs.Reading.{OfBases, OfRows}
use Rattle.stmt_prog.specs.Refusing.{IfSaid, of_seen}
use Rattle.stmt_prog.specs.States.{begun, course_of, zero_stage, own_stage, IsFoundIn, IsLackingIn}
use Rattle.stmt_prog.proofs.ReadLemmas.{named_some, said_again}

-- all was read where nothing comes next
pub read_whole : (s : Scanned) (root : PageId) → IsScan s → s.next ≡ None → s.root ≡ root → IsDone layout.shape.kids s.seen (layout.first root)
read_whole s root scan none is = subst (λ (p : PageId). IsDone layout.shape.kids s.seen (layout.first p)) is (subst (IsNextOf s.seen s.root) none scan)

-- ---- table 0

module _ (h : Headed) (zero : Scanned) (v : Visit) (is : zero.next ≡ Some v) (slots : List (List ℕ)) where
  abbrev old : Course
  old = course_of h (ScanZero zero)

  abbrev with_base : Course
  with_base = record (begun h) { stage = stages.ScanZero v.page; base = with_page zero.seen v.page slots }

  pub zero_read : read slots (course_of h (ScanZero zero)) ≡ record (begun h) { stage = stages.ScanZero v.page; base = with_page zero.seen v.page slots }
  zero_read = λ i. read_at (zero_stage (is i)) slots (record (begun h) { stage = zero_stage (is i); base = zero.seen })

  pub zero_goes_on : (now : Scanned) (w : Visit) → now.next ≡ Some w → now.seen ≡ with_page zero.seen v.page slots → TakesOn (course_of h (ScanZero zero)) (course_of h (ScanZero now)) slots
  zero_goes_on now w next same = ReadsZero v.page w.page (ap zero_stage is) ((λ i. record (begun h) { stage = zero_stage (next i); base = same i }) ∙ sym (ap (λ (c : Course). record c { stage = stages.ScanZero w.page }) zero_read))

  pub zero_finds : (now : Scanned) (d : TableDesc) (new : Course) → now.seen ≡ with_page zero.seen v.page slots → new ≡ record (begun h) { stage = table_stage (second_mode h.stmt) h.at d.root; base = now.seen; desc = Some d } → TakesOn (course_of h (ScanZero zero)) new slots
  zero_finds now d new same e = FindsTable v.page d (ap zero_stage is) (e ∙ (λ i. record (begun h) { stage = table_stage (second_mode h.stmt) h.at d.root; base = same i; desc = Some d })
      ∙ sym (ap (λ (c : Course). record c { stage = table_stage (second_mode h.stmt) h.at d.root; desc = Some d }) zero_read))

  pub zero_lacks : (now : Scanned) (number : TableNo) → now.seen ≡ with_page zero.seen v.page slots → TakesOn (course_of h (ScanZero zero)) (course_of h (Defining now number)) slots
  zero_lacks now number same = FindsNone v.page (ap zero_stage is) ((λ i. record (begun h) { stage = stages.Plan; base = same i }) ∙ sym (ap (λ (c : Course). record c { stage = stages.Plan }) zero_read))

  -- over each database
  pub over_zero : (P : List TableDesc → Tables → Type 0) → OfBases (with_page zero.seen v.page slots) P → (files : List ℕ) (at : SlotsAt) (ds : List TableDesc) (tables : Tables) → IsOver files at ds tables (read slots (course_of h (ScanZero zero))) → P ds tables
  over_zero P f files at ds tables over = (let o : IsOver files at ds tables with_base = subst (IsOver files at ds tables) zero_read over in f files at ds tables o.base o.zero)

  pub zero_bad : (root : zero.root ≡ zero_root) (e : SeenRefusal) → IsAt (IsBadThen zero slots) e → (P : Message → Tables → Type 0) → IfSaid (λ m. OverEach (read slots (course_of h (ScanZero zero))) (P m)) (of_seen e)
  zero_bad root (seen.Damaged page slot) bad P = λ files at ds tables over.
      (let o : IsOver files at ds tables with_base = subst (IsOver files at ds tables) zero_read over in
      absurd (not_damaged zero v slots table_0 at (owns files at 0) o.base.zero_rows (seen.Damaged page slot) bad is
      (subst (λ (p : PageId). HasRows layout.shape table_0 at (owns files at 0) (layout.first p) o.base.zero_rows) (sym root) o.base.zero_pages) o.zero))
  zero_bad root seen.Memory bad P = tt

  pub zero_refused : (now : List Looked) (e : Refusal) (stmt : Stmt) → now ≡ with_page zero.seen v.page slots → stmt ≡ h.stmt → IfSaid (λ m. OfBases now (λ ds tables. shape stmt tables ≡ Some m)) e
      → IfSaid (λ m. OverEach (read slots (course_of h (ScanZero zero))) (λ tables. shape h.stmt tables ≡ Some m)) e
  zero_refused now e stmt same lent said = said_again (λ m. OfBases now (λ ds tables. shape stmt tables ≡ Some m)) (λ m. OverEach (read slots (course_of h (ScanZero zero))) (λ tables. shape h.stmt tables ≡ Some m)) e
      (λ m f. over_zero (λ ds tables. shape h.stmt tables ≡ Some m) (λ files at ds tables b shows. ap (λ s. shape s tables) (sym lent) ∙ f files at ds tables b (subst (λ (l : List Looked). Shows l at) (sym same) shows))) said

-- ---- the statement's table

abbrev table_of : TableDesc → Rows → Table
table_of d rows = record { cols = d.cols; rows = rows }

-- the table that was found, over a database
pub its_table : (files : List ℕ) (at : SlotsAt) (ds : List TableDesc) (tables : Tables) (stmt : Stmt) (d : TableDesc) → IsBase files at ds tables → IsFound ds tables stmt (Some d) → Any (λ e. e ≡ d) ds × HasTable files at tables d × (d.name ≡ table_named stmt)
its_table files at ds tables stmt d b found =
    let named = named_some (table_named stmt) ds d found.desc in
    let any = named.1 in
    (any, subst (HasTable files at tables) (any.3 ∙ any.4) (b.each any.0 any.1 any.2), named.0)

pub table_is_in : (tables : Tables) (name : List ℕ) (t : Table) → finite.get tables name ≡ Some t → table_in tables name ≡ t
table_is_in tables name t is = ap (λ o. unwrap_or o (record { cols = []; rows = finite.empty })) is

module _ (h : Headed) (zero : Scanned) (d : TableDesc) (own : Scanned) (f : IsFoundIn h.stmt zero.seen d) (v : Visit) (is : own.next ≡ Some v) (slots : List (List ℕ)) where
  abbrev with_seen : Course
  with_seen = record (begun h) { stage = stages.Scan v.page (is_leaf v); base = zero.seen; desc = Some d; seen = with_page own.seen v.page slots }

  pub own_read : read slots (course_of h (ScanOwn zero d own)) ≡ record (begun h) { stage = stages.Scan v.page (is_leaf v); base = zero.seen; desc = Some d; seen = with_page own.seen v.page slots }
  own_read = λ i. read_at (own_stage (is i)) slots (record (begun h) { stage = own_stage (is i); base = zero.seen; desc = Some d; seen = own.seen })

  pub own_goes_on : (now : Scanned) (w : Visit) → now.next ≡ Some w → now.seen ≡ with_page own.seen v.page slots → TakesOn (course_of h (ScanOwn zero d own)) (course_of h (ScanOwn zero d now)) slots
  own_goes_on now w next same = ReadsOwn v.page w.page (is_leaf v) (is_leaf w) (ap own_stage is)
      ((λ i. record (begun h) { stage = own_stage (next i); base = zero.seen; desc = Some d; seen = same i }) ∙ sym (ap (λ (c : Course). record c { stage = stages.Scan w.page (is_leaf w) }) own_read))

  pub own_plans : (now : Scanned) → now.seen ≡ with_page own.seen v.page slots → TakesOn (course_of h (ScanOwn zero d own)) (course_of h (Planning zero d now)) slots
  own_plans now same = ComesToPlan v.page (is_leaf v) (ap own_stage is) ((λ i. record (begun h) { stage = stages.Plan; base = zero.seen; desc = Some d; seen = same i }) ∙ sym (ap (λ (c : Course). record c { stage = stages.Plan }) own_read))

  -- over each database the rows of the table that was found
  over_own : (now : List Looked) (P : Rows → Type 0) (Q : Tables → Type 0) → now ≡ with_page own.seen v.page slots → OfRows d.cols d.root now P
      → ((files : List ℕ) (at : SlotsAt) (ds : List TableDesc) (tables : Tables) → IsBase files at ds tables → (t : Rows) → P t → finite.get tables (table_named h.stmt) ≡ Some (record { cols = d.cols; rows = t }) → Q tables)
      → OverEach (read slots (course_of h (ScanOwn zero d own))) Q
  over_own now P Q same of f_then = λ files at ds tables over.
      let o : IsOver files at ds tables with_seen = subst (IsOver files at ds tables) own_read over in
      let its = its_table files at ds tables h.stmt d o.base (f.found files at ds tables o.base o.zero) in
      f_then files at ds tables o.base its.1.rows (of at (owns files at d.number.0) its.1.rows its.1.pages (subst (λ (l : List Looked). Shows l at) (sym same) o.own)) (ap (finite.get tables) (sym its.2) ∙ its.1.is)

  pub own_bad : (root : own.root ≡ d.root) (e : SeenRefusal) → IsAt (IsBadThen own slots) e → (P : Message → Tables → Type 0) → IfSaid (λ m. OverEach (read slots (course_of h (ScanOwn zero d own))) (P m)) (of_seen e)
  own_bad root (seen.Damaged page slot) bad P = λ files at ds tables over.
      let o : IsOver files at ds tables with_seen = subst (IsOver files at ds tables) own_read over in
      let its = its_table files at ds tables h.stmt d o.base (f.found files at ds tables o.base o.zero) in
      absurd (not_damaged own v slots d.cols at (owns files at d.number.0) its.1.rows (seen.Damaged page slot) bad is
      (subst (λ (p : PageId). HasRows layout.shape d.cols at (owns files at d.number.0) (layout.first p) its.1.rows) (sym root) its.1.pages) o.own)
  own_bad root seen.Memory bad P = tt

  pub own_refused : (now : List Looked) (e : Refusal) (P : Message → Tables → Type 0) → now ≡ with_page own.seen v.page slots → IfSaid (λ m. OfRows d.cols d.root now (λ rows. ⊥)) e → IfSaid (λ m. OverEach (read slots (course_of h (ScanOwn zero d own))) (P m)) e
  own_refused now e P same said = said_again (λ m. OfRows d.cols d.root now (λ rows. ⊥)) (λ m. OverEach (read slots (course_of h (ScanOwn zero d own))) (P m)) e (λ m none. over_own now (λ rows. ⊥) (P m) same none (λ files at ds tables b t wrong get. absurd wrong)) said

  pub own_answers : (now : List Looked) (new : Course) → now ≡ with_page own.seen v.page slots → is_select h.stmt ≡ true → Ends h d now new → TakesOn (course_of h (ScanOwn zero d own)) new slots
  own_answers now new same select e = Answers v.page (is_leaf v) e.reply (ap own_stage is) select e.is
      (over_own now (λ rows. e.reply ≡ (data_over h.stmt (record { cols = d.cols; rows = rows })).1) (λ tables. e.reply ≡ (change_and_reply h.stmt tables).1) same e.over
      (λ files at ds tables b t meant get. meant ∙ ap (λ x. (data_over h.stmt x).1) (sym (table_is_in tables (table_named h.stmt) (record { cols = d.cols; rows = t }) get))))

-- the table that was found, by what was read of table 0
pub found_in : (h : Headed) (now : Scanned) (looked : List Looked) (stmt : Stmt) (d : TableDesc) → IsScan now → now.next ≡ None → now.root ≡ zero_root → looked ≡ now.seen → stmt ≡ h.stmt
    → OfBases looked (λ ds tables. IsFound ds tables stmt (Some d)) → IsTableOf stmt d → creates stmt ≡ false → IsFoundIn h.stmt now.seen d
found_in h now looked stmt d scan none root same lent found table there = record {
  whole = read_whole now zero_root scan none root;
  found = λ files at ds tables b shows. subst (λ x. IsFound ds tables x (Some d)) lent (found files at ds tables b (subst (λ (l : List Looked). Shows l at) (sym same) shows));
  table = subst (λ x. IsTableOf x d) lent table;
  there = ap creates (sym lent) ∙ there;
}

-- none of its name was found
pub lacking_in : (h : Headed) (now : Scanned) (looked : List Looked) (stmt : Stmt) (number : TableNo) → IsScan now → now.next ≡ None → now.root ≡ zero_root → looked ≡ now.seen → stmt ≡ h.stmt
    → OfBases looked (λ ds tables. IsFound ds tables stmt None) → OfBases looked (λ ds tables. has_number ds number.0 ≡ false) → creates stmt ≡ true → 1 ≤ number.0 → number.0 < 2 ^ 31 → IsLackingIn h.stmt now.seen number
lacking_in h now looked stmt number scan none root same lent found new makes some small = record {
  whole = read_whole now zero_root scan none root;
  found = λ files at ds tables b shows. subst (λ x. IsFound ds tables x None) lent (found files at ds tables b (subst (λ (l : List Looked). Shows l at) (sym same) shows));
  new = λ files at ds tables b shows. new files at ds tables b (subst (λ (l : List Looked). Shows l at) (sym same) shows);
  makes = ap creates (sym lent) ∙ makes;
  some = some;
  small = small;
}

pub effect_in : (looked own : List Looked) (cols : List Column) (root : PageId) (stmt of : Stmt) (effect : Effect) → looked ≡ own → stmt ≡ of → OfRows cols root looked (λ rows. IsEffect stmt (record { cols = cols; rows = rows }) effect) → OfRows cols root own (λ rows. IsEffect of (record { cols = cols; rows = rows }) effect)
effect_in looked own cols root stmt of effect same lent f = λ at owned rows table shows. subst (λ x. IsEffect x (record { cols = cols; rows = rows }) effect) lent (f at owned rows table (subst (λ (l : List Looked). Shows l at) (sym same) shows))

pub none_in : (looked own : List Looked) (cols : List Column) (root : PageId) → looked ≡ own → OfRows cols root looked (λ rows. ⊥) → OfRows cols root own (λ rows. ⊥)
none_in looked own cols root same f = λ at owned rows table shows. f at owned rows table (subst (λ (l : List Looked). Shows l at) (sym same) shows)

pub some_next : (o : Option Visit) → is_some o ≡ true → (x : Visit) × (o ≡ Some x)
some_next None e = absurd (let wrong : false ≡ true = e in cc)
some_next (Some v) e = (v, refl)

-- ---- the statement stays

read_stmt : (s : Stage) (slots : List (List ℕ)) (c : Course) → (read_at s slots c).stmt ≡ c.stmt
read_stmt stages.AskAll slots c = refl
read_stmt (stages.ScanZero page) slots c = refl
read_stmt stages.AskTable slots c = refl
read_stmt (stages.Scan page rows) slots c = refl
read_stmt stages.Plan slots c = refl
read_stmt stages.Claim slots c = refl
read_stmt stages.Edit slots c = refl
read_stmt stages.End slots c = refl

pub takes_stmt : (old new : Course) (slots : List (List ℕ)) → TakesOn old new slots → new.stmt ≡ old.stmt
takes_stmt was new slots (ReadsZero page next at is) = ap (λ (c : Course). c.stmt) is ∙ read_stmt was.stage slots was
takes_stmt was new slots (FindsTable page d at is) = ap (λ (c : Course). c.stmt) is ∙ read_stmt was.stage slots was
takes_stmt was new slots (FindsNone page at is) = ap (λ (c : Course). c.stmt) is ∙ read_stmt was.stage slots was
takes_stmt was new slots (ReadsOwn page next had rows at is) = ap (λ (c : Course). c.stmt) is ∙ read_stmt was.stage slots was
takes_stmt was new slots (ComesToPlan page had at is) = ap (λ (c : Course). c.stmt) is ∙ read_stmt was.stage slots was
takes_stmt was new slots (Answers page had reply at select is meant) = ap (λ (c : Course). c.stmt) is
