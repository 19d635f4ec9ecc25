-- Decisions of each kind.
use Rattle.std.proofs.Common.{◌≡◌, ◌<◌, ℕ, true, false, List, [], ◌∷◌, length, refl, ap, sym, ◌∙◌, subst, arith}
use Rattle.std.specs.Prelude.{Option, Some, None, MatchOption, ◌==◌, unwrap_or}
use Rattle.std.specs.FinMap as finite
use Rattle.std.proofs.lemmas.Bool.{ne_eqb, eqb-false}
use Rattle.page_base.specs.declared.column.Column.{Column}
use Rattle.page_base.specs.declared.numbers.Mode.TheVariants.{S, X}
use Rattle.page_base.specs.declared.value.Value.{Value}
use Rattle.page_fmt.specs.Content.{content}
use Rattle.plain_model.specs.declared.reply.Carried.{Carried}
use Rattle.plain_model.specs.declared.reply.Carried.TheVariants.{Nothing}
use Rattle.plain_model.specs.declared.reply.Message.{Message}
use Rattle.plain_model.specs.declared.reply.Reply.{Reply}
use Rattle.plain_model.specs.declared.reply.Reply.TheVariants.{Ok, Count, Rows, Msg}
use Rattle.plain_model.specs.declared.stmt.SelectStmt.{SelectStmt}
use Rattle.plain_model.specs.declared.stmt.Stmt.{Stmt}
use Rattle.plain_model.specs.declared.stmt.Stmt.TheVariants.{CreateTable, Select}
use Rattle.plain_model.specs.declared.reply.TheConstants.Message.{FILE_FAILED, NO_ROOM, NO_TABLE, TABLE_IS_THERE}
use Rattle.plain_model.specs.Journal.{Opening}
use Rattle.plain_model.specs.Meaning.{shape, change_and_reply}
use Rattle.plain_model.specs.Messages.{plain}
use Rattle.plain_model.specs.Sound.{is_definition}
use Rattle.plain_model.specs.Statements.{is_new, shape_over, data_over, table_named}
use Rattle.plain_model.specs.Tables.{Table, Tables, Change, Add, applied}
use Rattle.early_pages.specs.Shown.{Shown, img}
use Rattle.stmt_eval.specs.declared.effect.Effect.{Effect}
use Rattle.stmt_eval.specs.declared.effect.Verdict.TheVariants.{Does}
use Rattle.stmt_eval.specs.Verdicts.{changes_in, IsVerdict}
use Rattle.table_pages.specs.declared.edit.Edit.{Edit}
use Rattle.table_pages.specs.Carried.{data_pages, Carries, Holds, LacksPage}
use Rattle.table_pages.specs.Drafts as drafts
use Rattle.table_pages.specs.Layout.{place}
use Rattle.table_pages.specs.Plans as plans
use Rattle.table_pages.specs.Plans.{Plans}
use Rattle.early_engine.specs.declared.answer.Answer.{Answer}
use Rattle.early_engine.specs.declared.answer.Answer.TheVariants.{AtOnce, UnderAll, UnderTable}
use Rattle.early_engine.specs.declared.decision.Decision.{Decision}
use Rattle.early_engine.specs.Causes.{IsForRows, IsRoomReply, IsNoFailure, is_early}
use Rattle.early_engine.specs.Changing.{is_change}
use Rattle.early_engine.specs.Deciding.{Setting, IsDecision, IsStill, IsShort}
use Rattle.early_engine.specs.Pushing.{snaps_of}
use Rattle.early_engine.specs.Ready.{Seen, Comes, reply_of}
use Rattle.early_engine.specs.Seeing.{unless_refused}
use Rattle.early_engine.specs.Stepping.{tables_after, IsPlain}
use Rattle.early_engine.proofs.ChangeLemmas.{Fills, FillsPuts, FillsCuts, FillsNone, change_plain, shape_harmless, shape_without, fills, in_order, after_change, always_cut, has_place, has_no_need, lacks_place}
use Rattle.early_engine.proofs.Coming.{of_change, of_select, shape_comes, reply_comes, room_comes, taken_comes, made_comes, full_comes}
use Rattle.early_engine.proofs.Mild.{IsHarmless}
use Rattle.early_engine.proofs.SelectLemmas.{select_harmless, select_room, select_stays}

pub msg_tables : (stmt : Stmt) (m : Message) (t : Tables) → tables_after stmt (Msg m) t ≡ t
msg_tables stmt m t = refl

short_none : (reply : Reply) → IsShort reply []
short_none (Msg m) = λ _. refl
short_none Ok = tt
short_none (Count n) = tt
short_none (Rows rs) = tt

still_none : (answer : Answer) → IsStill answer []
still_none (AtOnce reply) = refl
still_none (UnderAll mode reply) = tt
still_none (UnderTable name mode reply) = tt

-- an answer that edits nothing, and leaves the tables as they are
pub decides_only : (opening : Opening) (source current : List ℕ) (v : Shown) (seen : Seen) (stmt : Stmt) (answer : Answer) → Setting opening source v seen → tables_after stmt (reply_of answer) seen.source ≡ seen.source →
    IsPlain stmt (reply_of answer) → IsRoomReply v stmt (reply_of answer) → IsNoFailure (reply_of answer) → Comes opening current seen (snaps_of v) stmt answer → IsDecision opening current v seen stmt (record { answer = answer; edits = [] })
decides_only opening source current v seen stmt answer setting same simple room fine comes = record {
  comes = comes;
  simple = simple;
  still = still_none answer;
  short = short_none (reply_of answer);
  carries = subst (λ (t : Tables). Carries v [] t) (sym same) setting.none;
  room = room;
  fine = fine;
}

-- a refusal of another number says nothing of room or of the volume
pub other_number : (v : Shown) (stmt : Stmt) (n : ℕ) (carried : Carried) → (n == NO_ROOM) ≡ false → IsRoomReply v stmt (Msg (record { number = n; carried = carried }))
other_number v stmt n carried e = λ is. absurd (eqb-false n NO_ROOM e is)

pub no_failure : (n : ℕ) (carried : Carried) → is_early n ≡ false → (n == FILE_FAILED) ≡ false → IsNoFailure (Msg (record { number = n; carried = carried }))
no_failure n carried early e = (early, λ is. eqb-false n FILE_FAILED e is)

-- a refusal that carries nothing, or a place, of a number that asks for no cause
pub refuses_only : (opening : Opening) (source current : List ℕ) (v : Shown) (seen : Seen) (stmt : Stmt) (answer : Answer) (n : ℕ) (carried : Carried) → reply_of answer ≡ Msg (record { number = n; carried = carried }) → (n == NO_ROOM) ≡ false → is_early n ≡ false → (n == FILE_FAILED) ≡ false →
    Setting opening source v seen → IsPlain stmt (reply_of answer) → Comes opening current seen (snaps_of v) stmt answer → IsDecision opening current v seen stmt (record { answer = answer; edits = [] })
refuses_only opening source current v seen stmt answer n carried is r early f setting simple comes =
    decides_only opening source current v seen stmt answer setting (ap (λ (x : Reply). tables_after stmt x seen.source) is) simple
    (subst (λ (x : Reply). IsRoomReply v stmt x) (sym is) (other_number v stmt n carried r)) (subst IsNoFailure (sym is) (no_failure n carried early f)) comes

-- a definition has columns
pub some_columns : (cols : List Column) → is_definition cols ≡ true → (length cols == 0) ≡ false
some_columns [] d = absurd (let x : false ≡ true = d in cc)
some_columns (c ∷ cs) d = ne_eqb (length (c ∷ cs)) 0 (λ e. omega (arith, e))

module _ (opening : Opening) (v : Shown) (seen : Seen) (setting : Setting opening opening.source v seen) where
  -- CREATE TABLE

  module _ (name : List ℕ) (cols : List Column) (definition : is_definition cols ≡ true) where
    pub create_taken : (t : Table) → finite.get seen.source name ≡ Some t → IsDecision opening opening.source v seen (CreateTable name cols) (record { answer = UnderAll X (Msg (plain TABLE_IS_THERE)); edits = [] })
    create_taken t there = refuses_only opening opening.source opening.source v seen (CreateTable name cols) (UnderAll X (Msg (plain TABLE_IS_THERE))) TABLE_IS_THERE Nothing refl refl refl refl setting tt
        (taken_comes opening opening.source seen (snaps_of v) refl name cols (some_columns cols definition) (plain TABLE_IS_THERE) (ap is_new there))

    pub create_full : finite.get seen.source name ≡ None → LacksPage v name cols → IsDecision opening opening.source v seen (CreateTable name cols) (record { answer = UnderAll X (Msg (plain NO_ROOM)); edits = [] })
    create_full none lacks = decides_only opening opening.source opening.source v seen (CreateTable name cols) (UnderAll X (Msg (plain NO_ROOM))) setting refl tt (λ _. lacks) (no_failure NO_ROOM Nothing refl refl)
        (full_comes opening opening.source seen (snaps_of v) refl name cols (some_columns cols definition) (ap is_new none))

    pub create_made : (e : Edit) → finite.get seen.source name ≡ None → (LacksPage v name cols → ⊥) → Carries v (e ∷ []) (applied (Add name cols) seen.source) → IsDecision opening opening.source v seen (CreateTable name cols) (record { answer = UnderAll X Ok; edits = e ∷ [] })
    create_made e none room plan = record {
      comes = made_comes opening opening.source seen (snaps_of v) refl name cols (some_columns cols definition) (ap is_new none);
      simple = tt;
      still = tt;
      short = tt;
      carries = plan;
      room = room;
      fine = tt;
    }

  -- SELECT

  module _ (s : SelectStmt) where
    pub select_none : finite.get seen.source s.table ≡ None → IsDecision opening opening.source v seen (Select s) (record { answer = UnderAll S (Msg (plain NO_TABLE)); edits = [] })
    select_none none = refuses_only opening opening.source opening.source v seen (Select s) (UnderAll S (Msg (plain NO_TABLE))) NO_TABLE Nothing refl refl refl refl setting tt
        (shape_comes opening opening.source seen (snaps_of v) refl (Select s) s.table S (of_select s refl) (plain NO_TABLE) (ap (shape_over (Select s)) none))

    module _ (t : Table) (there : finite.get seen.source s.table ≡ Some t) where
      pub select_refused : (m : Message) → shape_over (Select s) (Some t) ≡ Some m → IsDecision opening opening.source v seen (Select s) (record { answer = UnderAll S (Msg m); edits = [] })
      select_refused m e =
          let h = subst IsHarmless (ap (λ (o : Option Message). unless_refused o (data_over (Select s) t).1) e) (select_harmless s t) in
          decides_only opening opening.source opening.source v seen (Select s) (UnderAll S (Msg m)) setting refl tt (select_room v s (Msg m) h.0) h.1
          (shape_comes opening opening.source seen (snaps_of v) refl (Select s) s.table S (of_select s refl) m (ap (shape_over (Select s)) there ∙ e))

      pub select_does : (reply : Reply) → shape_over (Select s) (Some t) ≡ None → (data_over (Select s) t).1 ≡ reply → IsDecision opening opening.source v seen (Select s) (record { answer = UnderTable s.table S reply; edits = [] })
      select_does reply e is =
          let h = subst IsHarmless (ap (λ (o : Option Message). unless_refused o (data_over (Select s) t).1) e ∙ is) (select_harmless s t) in
          decides_only opening opening.source opening.source v seen (Select s) (UnderTable s.table S reply) setting (select_stays s reply seen.source) tt (select_room v s reply h.0) h.1
          (reply_comes opening opening.source seen (snaps_of v) refl (Select s) s.table S (of_select s refl) reply (ap (shape_over (Select s)) there ∙ e)
          (ap (λ (o : Option Table). (data_over (Select s) (unwrap_or o (record { cols = []; rows = finite.empty }))).1) there ∙ is))

-- the same decision
pub is_same : (opening : Opening) (current : List ℕ) (v : Shown) (seen : Seen) (stmt : Stmt) (d e : Decision) → d ≡ e → IsDecision opening current v seen stmt e → IsDecision opening current v seen stmt d
is_same opening current v seen stmt d e is h = subst (λ (x : Decision). IsDecision opening current v seen stmt x) (sym is) h

-- WHAT A PLAN SAYS

-- what a plan says of keys that are cut and rows that are put
abbrev pub Planned : Shown → ℕ → List ℕ → Table → List (List Value) → List (List Value) → Option (List Edit) → Type 0
Planned v i name t cut put plan =
    MatchOption plan (drafts.LacksRoom t.cols cut put (content (img v (place i)))) (λ edits. Plans v i name t cut put edits × (drafts.LacksRoom t.cols cut put (content (img v (place i))) → ⊥))

-- INSERT, UPDATE AND DELETE

module _ (opening : Opening) (v : Shown) (seen : Seen) (setting : Setting opening opening.source v seen) (stmt : Stmt) (h : is_change stmt ≡ true) where
  pub change_none : finite.get seen.source (table_named stmt) ≡ None → IsDecision opening opening.source v seen stmt (record { answer = UnderAll S (Msg (plain NO_TABLE)); edits = [] })
  change_none none = refuses_only opening opening.source opening.source v seen stmt (UnderAll S (Msg (plain NO_TABLE))) NO_TABLE Nothing refl refl refl refl setting (change_plain stmt (Msg (plain NO_TABLE)) h)
      (shape_comes opening opening.source seen (snaps_of v) refl stmt (table_named stmt) X (of_change stmt h) (plain NO_TABLE) (ap (shape_over stmt) none ∙ shape_without stmt h))

  module _ (t : Table) (there : finite.get seen.source (table_named stmt) ≡ Some t) where
    pub change_refused : (m : Message) → shape_over stmt (Some t) ≡ Some m → IsDecision opening opening.source v seen stmt (record { answer = UnderAll S (Msg m); edits = [] })
    change_refused m e =
        let mild = shape_harmless stmt t m h e in
        decides_only opening opening.source opening.source v seen stmt (UnderAll S (Msg m)) setting refl (change_plain stmt (Msg m) h) (λ is. absurd (mild.0 is)) mild.1
        (shape_comes opening opening.source seen (snaps_of v) refl stmt (table_named stmt) X (of_change stmt h) m (ap (shape_over stmt) there ∙ e))

    module _ (effect : Effect) (does : IsVerdict stmt t (Does effect)) (i : ℕ) (within : i < data_pages v) (holds : Holds (img v (place i)) (table_named stmt) t) where
      shaped : shape stmt seen.source ≡ None
      shaped = ap (shape_over stmt) there ∙ does.0

      meant : change_and_reply stmt seen.source ≡ (changes_in (table_named stmt) effect, effect.reply)
      meant = ap (λ (o : Option Table). data_over stmt (unwrap_or o (record { cols = []; rows = finite.empty }))) there ∙ does.1

      replies : (change_and_reply stmt seen.source).1 ≡ effect.reply
      replies = ap (λ (d : List Change × Reply). d.1) meant

      filled : Fills stmt effect
      filled = fills stmt t effect h does.1

      abbrev Short : Type 0
      Short = drafts.LacksRoom t.cols effect.cuts effect.puts (content (img v (place i)))

      -- the rows that are put, where no key is cut
      abbrev for_rows : effect.cuts ≡ [] → IsForRows v stmt i effect.puts
      for_rows none = record {
        table = t;
        within = within;
        holds = holds;
        puts = ap (λ (d : List Change × Reply). d.0) does.1 ∙ in_order (table_named stmt) effect.puts effect.cuts none ∙ ap (λ (ks : List (List Value)). plans.changes_of (table_named stmt) ks effect.puts) none;
      }

      short_of : effect.cuts ≡ [] → Short → drafts.LacksRoom t.cols [] effect.puts (content (img v (place i)))
      short_of none = subst (λ (ks : List (List Value)). drafts.LacksRoom t.cols ks effect.puts (content (img v (place i)))) none

      short_again : effect.cuts ≡ [] → drafts.LacksRoom t.cols [] effect.puts (content (img v (place i))) → Short
      short_again none = subst (λ (ks : List (List Value)). drafts.LacksRoom t.cols ks effect.puts (content (img v (place i)))) (sym none)

      room_is : (Short → ⊥) → IsRoomReply v stmt effect.reply
      room_is fits = elim filled [
        | FillsPuts grows none reply ↦ subst (λ (r : Reply). IsRoomReply v stmt r) (sym reply) (has_place v stmt h grows (i, effect.puts, for_rows none, (λ short. fits (short_again none short))))
        | FillsCuts grows none reply ↦ subst (λ (r : Reply). IsRoomReply v stmt r) (sym reply) (has_no_need v stmt h grows)
        | FillsNone m mild no_puts no_cuts reply ↦ subst (λ (r : Reply). IsRoomReply v stmt r) (sym reply) (λ is. absurd (mild.0 is))
      ]

      fine_is : IsNoFailure effect.reply
      fine_is = elim filled [
        | FillsPuts grows none reply ↦ subst IsNoFailure (sym reply) tt
        | FillsCuts grows none reply ↦ subst IsNoFailure (sym reply) tt
        | FillsNone m mild no_puts no_cuts reply ↦ subst IsNoFailure (sym reply) mild.1
      ]

      short_made : (edits : List Edit) → IsShort effect.reply edits
      short_made edits = elim filled [
        | FillsPuts grows none reply ↦ subst (λ (r : Reply). IsShort r edits) (sym reply) tt
        | FillsCuts grows none reply ↦ subst (λ (r : Reply). IsShort r edits) (sym reply) tt
        | FillsNone m mild no_puts no_cuts reply ↦ subst (λ (r : Reply). IsShort r edits) (sym reply) (λ is. absurd (mild.0 is))
      ]

      made_here : (edits : List Edit) → Planned v i (table_named stmt) t effect.cuts effect.puts (Some edits) → IsDecision opening opening.source v seen stmt (record { answer = UnderTable (table_named stmt) X effect.reply; edits = edits })
      made_here edits plan = record {
        comes = reply_comes opening opening.source seen (snaps_of v) refl stmt (table_named stmt) X (of_change stmt h) effect.reply shaped replies;
        simple = change_plain stmt effect.reply h;
        still = tt;
        short = short_made edits;
        carries = subst (λ (x : Tables). Carries v edits x) (sym (after_change stmt effect seen.source h filled meant)) (plan.0.carries seen.source setting.none.says);
        room = room_is plan.1;
        fine = fine_is;
      }

      full_here : Short → IsDecision opening opening.source v seen stmt (record { answer = UnderTable (table_named stmt) X (Msg (plain NO_ROOM)); edits = [] })
      full_here short = elim filled [
        | FillsPuts grows none reply ↦
            decides_only opening opening.source opening.source v seen stmt (UnderTable (table_named stmt) X (Msg (plain NO_ROOM))) setting refl (change_plain stmt (Msg (plain NO_ROOM)) h)
            (λ _. lacks_place v stmt h grows (i, effect.puts, for_rows none, short_of none short)) (no_failure NO_ROOM Nothing refl refl)
            (room_comes opening opening.source seen (snaps_of v) refl stmt (table_named stmt) X (of_change stmt h) (Count (length effect.puts)) shaped grows refl (replies ∙ reply))
        | FillsCuts grows none reply ↦ absurd (always_cut t.cols effect.cuts effect.puts (content (img v (place i))) none short)
        | FillsNone m mild no_puts no_cuts reply ↦ absurd (always_cut t.cols effect.cuts effect.puts (content (img v (place i))) no_puts short)
      ]

-- the same by the table's name
module _ (opening : Opening) (v : Shown) (seen : Seen) (setting : Setting opening opening.source v seen) (stmt : Stmt) (h : is_change stmt ≡ true) (name : List ℕ) (named : table_named stmt ≡ name)
    (t : Table) (there : finite.get seen.source name ≡ Some t) (effect : Effect) (does : IsVerdict stmt t (Does effect)) (i : ℕ) (within : i < data_pages v) (holds : Holds (img v (place i)) name t) where
  there_named : finite.get seen.source (table_named stmt) ≡ Some t
  there_named = ap (finite.get seen.source) named ∙ there

  holds_named : Holds (img v (place i)) (table_named stmt) t
  holds_named = subst (λ (n : List ℕ). Holds (img v (place i)) n t) (sym named) holds

  pub change_made : (edits : List Edit) → Planned v i name t effect.cuts effect.puts (Some edits) → IsDecision opening opening.source v seen stmt (record { answer = UnderTable name X effect.reply; edits = edits })
  change_made edits plan =
      subst (λ (n : List ℕ). IsDecision opening opening.source v seen stmt (record { answer = UnderTable n X effect.reply; edits = edits })) named
      (made_here opening v seen setting stmt h t there_named effect does i within holds_named edits (subst (λ (n : List ℕ). Planned v i n t effect.cuts effect.puts (Some edits)) (sym named) plan))

  pub change_full : Planned v i name t effect.cuts effect.puts None → IsDecision opening opening.source v seen stmt (record { answer = UnderTable name X (Msg (plain NO_ROOM)); edits = [] })
  change_full short =
      subst (λ (n : List ℕ). IsDecision opening opening.source v seen stmt (record { answer = UnderTable n X (Msg (plain NO_ROOM)); edits = [] })) named
      (full_here opening v seen setting stmt h t there_named effect does i within holds_named short)
