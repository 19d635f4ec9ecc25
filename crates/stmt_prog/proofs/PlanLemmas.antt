-- What a plan comes to, over each database that was read so.
use Rattle.std.proofs.Common.{refl, ◌≡◌, ℕ, zero, suc, ◌<◌, ◌^◌, true, List, [], ◌∷◌, length, map, drop, replicate, ap, sym, ◌∙◌, subst, arith}
use Rattle.std.specs.Prelude.{Some, None, All}
use Rattle.std.specs.FinMap as finite
use Rattle.std.specs.List.{AllByRecursion}
use Rattle.std.proofs.lemmas.List.{length-replicate}
use Rattle.plain_model.specs.declared.stmt.Stmt.{Stmt}
use Rattle.page_base.specs.declared.value.Value.{Value}
use Rattle.page_fmt.specs.Seen.{Looked}
use Rattle.plain_model.specs.Meaning.{change_and_reply}
use Rattle.plain_model.specs.Sound.{is_sound}
use Rattle.plain_model.specs.Statements.{data_over, shape_over, table_named, is_of_rows}
use Rattle.plain_model.specs.Tables.{Table, apply}
use Rattle.sys_cat.specs.declared.desc.TableDesc.{TableDesc}
use Rattle.table_walk.specs.declared.plan.Edit.{Edit}
use Rattle.table_walk.specs.Plans.{IsBelow, cut_all, put_all}
use Rattle.table_walk.specs.Tables.{MayPut}
use Rattle.page_tables.specs.Owners.{owns}
use Rattle.page_tables.specs.Sheets.{sheets}
use Rattle.table_scan.specs.Scanned.{Scanned}
use Rattle.step_words.specs.Courses.{Course, Plain}
use Rattle.stmt_course.specs.Keeping.{IsTableOf, IsDraftBelow}
use Rattle.stmt_course.specs.Planning.{stage_for, Plans}
use Rattle.stmt_course.proofs.StandLemmas.{may_all_be_put}
use Rattle.stmt_course.proofs.ApplyLemmas.{effect_applied}
use Rattle.stmt_course.proofs.BringLemmas.{rows_brought}
use Rattle.stmt_eval.specs.declared.effect.Effect.{Effect}
use Rattle.stmt_eval.specs.Verdicts.{IsEffect}
use Rattle.stmt_prog.specs.declared.queue.Queue.{Queue}
use Rattle.stmt_prog.specs.declared.refusal.Refusal.{Refusal}
use Rattle.stmt_prog.specs.declared.state.State.TheVariants.{Planning, Writing}
use Rattle.stmt_prog.specs.Drafts.{all_drafts, IsTold}
use Rattle.stmt_prog.specs.Ending.{Ends}
use Rattle.stmt_prog.specs.Feeding.{OverEach}
use Rattle.stmt_prog.specs.Heads.{Headed}
use Rattle.stmt_prog.specs.Queues.{IsPlannedQueue}
use Rattle.stmt_prog.specs.Reading.{OfRows}
use Rattle.stmt_prog.specs.Refusing.{IfSaid}
use Rattle.stmt_prog.specs.States.{begun, course_of, IsFoundIn, IsQueue}
use Rattle.stmt_prog.proofs.FeedLemmas.{its_table, table_is_in}
use Rattle.stmt_prog.proofs.ReadLemmas.{said_again}
use Rattle.stmt_prog.proofs.WriteLemmas.{plain_all}

pub by_recursion : (P : Edit → Type 0) (xs : List Edit) → All P xs → AllByRecursion P xs
by_recursion P [] a = tt
by_recursion P (x ∷ xs) a = (a 0 x (omega arith), by_recursion P xs (λ k d lt. a (suc k) d (omega arith)))

pub all_same : (x n : ℕ) → x < 2 ^ 31 → AllByRecursion (λ number. number < 2 ^ 31) (replicate n x)
all_same x zero lt = tt
all_same x (suc n) lt = (lt, all_same x n lt)

-- edits of which none tells a new table speak of claimed pages alone
pub none_told : (q : Queue) (n : ℕ) → q.told ≡ None → AllByRecursion (IsBelow n) q.edits.items → AllByRecursion (IsDraftBelow n) (all_drafts q.told q.edits.items)
none_told q n none a = subst (λ o. AllByRecursion (IsDraftBelow n) (all_drafts o q.edits.items)) (sym none) (plain_all q.edits.items (IsDraftBelow n) a)

pub queue_is : (stmt : Stmt) (d : TableDesc) (own : List Looked) (cuts puts : List (List Value)) (q : Queue) → IsTableOf stmt d → IsPlannedQueue d own cuts puts q → IsQueue q
queue_is stmt d own cuts puts q table p =
    let many : length q.owners.items ≡ p.n = ap length p.owners ∙ length-replicate p.n d.number.0 in
    record {
      taken = omega (arith, ap length p.taken);
      done = omega (arith, p.done);
      below = subst (λ m. AllByRecursion (IsDraftBelow m) (all_drafts q.told q.edits.items)) (sym many) (none_told q p.n p.told (by_recursion (IsBelow p.n) q.edits.items p.plan.numbers));
      small = subst (AllByRecursion (λ number. number < 2 ^ 31)) (sym p.owners) (all_same d.number.0 p.n table.desc.head.number);
      told = subst IsTold (sym p.told) tt;
    }

pub nothing_is : (q : Queue) → q.owners.items ≡ [] → q.taken.items ≡ [] → q.edits.items ≡ [] → q.done ≡ 0 → q.told ≡ None → IsQueue q
nothing_is q owners taken edits done told = record {
  taken = omega (arith, ap length taken);
  done = omega (arith, done);
  below = none_told q (length q.owners.items) told (subst (AllByRecursion (IsBelow (length q.owners.items))) (sym edits) tt);
  small = subst (AllByRecursion (λ number. number < 2 ^ 31)) (sym owners) tt;
  told = subst IsTold (sym told) tt;
}

pub ends : (h : Headed) (d : TableDesc) (own : List Looked) (q : Queue) (effect : Effect) → q.owners.items ≡ [] → q.taken.items ≡ [] → q.edits.items ≡ [] → q.done ≡ 0 → q.told ≡ None
    → OfRows d.cols d.root own (λ rows. IsEffect h.stmt (record { cols = d.cols; rows = rows }) effect) → Ends h d own (course_of h (Writing (Some d) q effect.reply))
ends h d own q effect owners taken edits done told is = record {
  reply = effect.reply;
  is = λ i. record (begun h) { stage = stage_for (owners i) (taken i) (drop (done i) (all_drafts (told i) (edits i))); desc = Some d; owners = owners i; taken = taken i; edits = drop (done i) (all_drafts (told i) (edits i)); reply = Some effect.reply };
  over = λ at owns rows table shows. sym (ap (λ x. x.1) (is at owns rows table shows));
}

module _ (h : Headed) (sound : is_sound h.stmt ≡ true) (of_rows : is_of_rows h.stmt ≡ true) (zero : Scanned) (d : TableDesc) (own : Scanned) (f : IsFoundIn h.stmt zero.seen d) where
  abbrev old : Course
  old = course_of h (Planning zero d own)

  pub plan_bad : (e : Refusal) → IfSaid (λ m. OfRows d.cols d.root own.seen (λ rows. ⊥)) e → IfSaid (λ m. OverEach (course_of h (Planning zero d own)) (λ tables. ⊥)) e
  plan_bad e said = said_again (λ m. OfRows d.cols d.root own.seen (λ rows. ⊥)) (λ m. OverEach (course_of h (Planning zero d own)) (λ tables. ⊥)) e
      (λ m none. λ files at ds tables over.
      let its = its_table files at ds tables h.stmt d over.base (f.found files at ds tables over.base over.zero) in
      none at (owns files at d.number.0) its.1.rows its.1.pages over.own) said

  module _ (effect : Effect) (is : OfRows d.cols d.root own.seen (λ rows. IsEffect h.stmt (record { cols = d.cols; rows = rows }) effect)) where
    pub queue_bad : (e : Refusal) → IfSaid (λ m. All (MayPut d.cols) effect.puts → OfRows d.cols d.root own.seen (λ rows. ⊥)) e → IfSaid (λ m. OverEach (course_of h (Planning zero d own)) (λ tables. ⊥)) e
    queue_bad e said = said_again (λ m. All (MayPut d.cols) effect.puts → OfRows d.cols d.root own.seen (λ rows. ⊥)) (λ m. OverEach (course_of h (Planning zero d own)) (λ tables. ⊥)) e
        (λ m none. λ files at ds tables over.
        let found = f.found files at ds tables over.base over.zero in
        let its = its_table files at ds tables h.stmt d over.base found in
        let rows = its.1.rows in
        let get : finite.get tables (table_named h.stmt) ≡ Some (record { cols = d.cols; rows = rows }) = ap (finite.get tables) (sym its.2) ∙ its.1.is in
        let may = may_all_be_put h.stmt d.cols _ rows effect sound f.table.desc.sound its.1.pages.1.gathers (ap (shape_over h.stmt) (sym get) ∙ found.shaped) (is at (owns files at d.number.0) rows its.1.pages over.own) in
        none may at (owns files at d.number.0) rows its.1.pages over.own) said

    pub plans : (q : Queue) → IsPlannedQueue d own.seen effect.cuts effect.puts q → Plans (course_of h (Planning zero d own)) (course_of h (Writing (Some d) q effect.reply))
    plans q p = subst (Plans old) (sym new_is) (record {
      is = refl;
      over = λ files all mine s ds tables few over may.
          let found = f.found files (sheets s) ds tables over.base over.zero in
          let its = its_table files (sheets s) ds tables h.stmt d over.base found in
          let rows = its.1.rows in
          let t : Table = record { cols = d.cols; rows = rows } in
          let get : finite.get tables (table_named h.stmt) ≡ Some t = ap (finite.get tables) (sym its.2) ∙ its.1.is in
          let meant : IsEffect h.stmt t effect = is (sheets s) (owns files (sheets s) d.number.0) rows its.1.pages over.own in
          let in_tables = table_is_in tables (table_named h.stmt) t get in
          record {
            shaped = found.shaped;
            reply = ap Some (sym (ap (λ x. (data_over h.stmt x).1) in_tables ∙ ap (λ y. y.1) meant));
            after = λ claimed. ds;
            brings = rows_brought files s ds tables over.base d its.0 rows its.1.pages own.seen over.own effect.cuts effect.puts p.n q.edits.items p.plan old (stage_for (replicate p.n d.number.0) [] (map Plain q.edits.items)) (Some effect.reply)
                all mine (λ e. may.own e d refl) (apply (change_and_reply h.stmt tables).0 tables)
                (ap (λ x. apply (data_over h.stmt x).0 tables) in_tables ∙ effect_applied h.stmt effect tables t of_rows get meant
                ∙ ap (λ name. finite.insert tables name (record { cols = d.cols; rows = put_all d.cols effect.puts (cut_all effect.cuts rows) })) (sym its.2));
            same = λ e claimed. refl;
          };
    })
      where
        new_is : course_of h (Writing (Some d) q effect.reply) ≡ record old { stage = stage_for (replicate p.n d.number.0) [] (map Plain q.edits.items); base = []; seen = []; owners = replicate p.n d.number.0; taken = []; edits = map Plain q.edits.items; reply = Some effect.reply }
        new_is = λ i. record (begun h) { stage = stage_for (p.owners i) (p.taken i) (drop (p.done i) (all_drafts (p.told i) q.edits.items)); desc = Some d; owners = p.owners i; taken = p.taken i; edits = drop (p.done i) (all_drafts (p.told i) q.edits.items); reply = Some effect.reply }
