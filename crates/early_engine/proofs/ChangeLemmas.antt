-- What an INSERT, UPDATE or DELETE changes: rows are put, or keys are cut, or a row is refused and nothing changes.
use Rattle.std.proofs.Common.{◌≡◌, ℕ, ◌+◌, Bool, true, false, List, [], ◌∷◌, ◌++◌, map, length, refl, ap, sym, ◌∙◌, subst, append-nil}
use Rattle.std.specs.Prelude.{◌||◌, Option, Some, None, nat_lt, not, option_map, All}
use Rattle.std.proofs.lemmas.List.Elements.{All-from_recursion}
use Rattle.std.specs.FinMap as finite
use Rattle.std.specs.declared.result.Result.{Result}
use Rattle.std.specs.declared.result.Result.TheVariants as result
use Rattle.std.specs.List.{list_all, list_any}
use Rattle.page_base.specs.declared.column.Column.{Column}
use Rattle.page_base.specs.declared.value.Value.{Value}
use Rattle.plain_model.specs.declared.reply.Message.{Message}
use Rattle.plain_model.specs.declared.reply.Reply.{Reply}
use Rattle.plain_model.specs.declared.reply.Reply.TheVariants.{Count, Msg}
use Rattle.plain_model.specs.declared.stmt.SetItem.{SetItem}
use Rattle.plain_model.specs.declared.stmt.Stmt.{Stmt}
use Rattle.plain_model.specs.declared.stmt.Stmt.TheVariants.{Insert, Update, Delete}
use Rattle.plain_model.specs.declared.reply.TheConstants.Message.{KEY_IS_THERE, KEY_TOO_LONG, KEY_UPDATE, NO_COLUMN, NO_TABLE, NULL_VALUE, ROW_TOO_LONG, TEXT_TOO_LONG, TYPE_CLASH}
use Rattle.plain_model.specs.Changing.{set_row, if_right, updated_row, deleted_row}
use Rattle.plain_model.specs.Free.{may_grow, is_of_tables}
use Rattle.plain_model.specs.Inserting.{target_names, new_row, is_among, key_clash, fault_among, inserted_row, with_taken, inserted_from}
use Rattle.plain_model.specs.Meaning.{change_and_reply}
use Rattle.plain_model.specs.Messages.{plain, first_that}
use Rattle.plain_model.specs.Names.{is_unknown}
use Rattle.plain_model.specs.Outcomes.{Taken, keeps, taken_from}
use Rattle.plain_model.specs.Shapes.{is_lost, is_lost_filter, is_ill_filter, may_stand, may_all_stand, type_in, is_key_name}
use Rattle.plain_model.specs.Sizes.{size_of_row, size_of_values}
use Rattle.plain_model.specs.Sound.{are_distinct, is_sound}
use Rattle.plain_model.specs.Statements.{changes_of, shape_over, data_over, table_named}
use Rattle.plain_model.specs.Storing.{lacks, overflows, some_cell, row_fault, key_fault, new_row_fault}
use Rattle.plain_model.specs.Tables.{Table, Tables, Change, Put, Cut, apply, key_of, rows_of}
use Rattle.early_pages.specs.Shown.{Shown}
use Rattle.stmt_eval.specs.declared.effect.Effect.{Effect}
use Rattle.row_fmt.specs.Rows.{FitsColumns}
use Rattle.row_types.proofs.PutLemmas.{puts_what_fits, all_put}
use Rattle.row_types.specs.Fitting.{IsFitting, PutsFit}
use Rattle.stmt_eval.specs.declared.effect.Verdict.TheVariants.{Does}
use Rattle.stmt_eval.specs.Verdicts.{changes_in, IsEffect, IsVerdict}
use Rattle.table_pages.proofs.HeldLemmas.{held_header}
use Rattle.table_pages.specs.Carried.{Holds}
use Rattle.table_pages.specs.Rows.{HoldsFitting}
use Rattle.table_pages.specs.Drafts as drafts
use Rattle.table_pages.specs.Plans as plans
use Rattle.early_engine.specs.Causes.{HasSpace, HasPlace, LacksSpace, LacksRoom}
use Rattle.early_engine.specs.Changing.{is_change}
use Rattle.early_engine.specs.Stepping.{tables_after, IsPlain}
use Rattle.early_engine.proofs.Mild.{IsHarmless, IsMildFault, IsMild, AreMild, other_numbers, mild_number, mild_or, mild_if, mild_behind, mild_unless, mild_after, mild_rows}

-- SUCH STATEMENTS

pub change_plain : (stmt : Stmt) (reply : Reply) → is_change stmt ≡ true → IsPlain stmt reply
change_plain (Insert i) reply h = tt
change_plain (Update u) reply h = tt
change_plain (Delete d) reply h = tt
change_plain stmt reply h = absurd (let x : false ≡ true = h in cc)

pub change_of_tables : (stmt : Stmt) → is_change stmt ≡ true → is_of_tables stmt ≡ true
change_of_tables (Insert i) h = refl
change_of_tables (Update u) h = refl
change_of_tables (Delete d) h = refl
change_of_tables stmt h = absurd (let x : false ≡ true = h in cc)

-- THEIR REFUSALS

-- a refusal by shape, where there is one
abbrev IsMildShape : Option Message → Type 0
IsMildShape None = Unit {0}
IsMildShape (Some m) = IsHarmless (Msg m)

two_faults : (a b : Bool) → IsMildShape (option_map plain (first_that ((a, NO_COLUMN) ∷ (b, TYPE_CLASH) ∷ [])))
two_faults true b = other_numbers NO_COLUMN refl refl refl
two_faults false true = other_numbers TYPE_CLASH refl refl refl
two_faults false false = tt

three_faults : (a b c : Bool) → IsMildShape (option_map plain (first_that ((a, NO_COLUMN) ∷ (b, KEY_UPDATE) ∷ (c, TYPE_CLASH) ∷ [])))
three_faults true b c = other_numbers NO_COLUMN refl refl refl
three_faults false true c = other_numbers KEY_UPDATE refl refl refl
three_faults false false true = other_numbers TYPE_CLASH refl refl refl
three_faults false false false = tt

mild_shape : (stmt : Stmt) (t : Table) → is_change stmt ≡ true → IsMildShape (shape_over stmt (Some t))
mild_shape (Insert i) t h = two_faults (list_any (is_unknown t.cols) i.cols) (not (are_distinct i.cols) || not (list_all (may_all_stand t.cols (target_names i.cols t.cols)) i.rows))
mild_shape (Update u) t h =
    three_faults (list_any (λ (i : SetItem). is_unknown t.cols i.col || is_lost t.cols i.to) u.sets || is_lost_filter t.cols u.filter) (list_any (λ (i : SetItem). is_key_name t.cols i.col) u.sets)
    (not (are_distinct (map (λ (i : SetItem). i.col) u.sets)) || (not (list_all (λ (i : SetItem). may_stand t.cols i.col (type_in t.cols i.to)) u.sets) || is_ill_filter t.cols u.filter))
mild_shape (Delete d) t h = two_faults (is_lost_filter t.cols d.filter) (is_ill_filter t.cols d.filter)
mild_shape stmt t h = absurd (let x : false ≡ true = h in cc)

-- a refusal by shape asks for no cause
pub shape_harmless : (stmt : Stmt) (t : Table) (m : Message) → is_change stmt ≡ true → shape_over stmt (Some t) ≡ Some m → IsHarmless (Msg m)
shape_harmless stmt t m h e = subst IsMildShape e (mild_shape stmt t h)

-- without its table the statement is refused
pub shape_without : (stmt : Stmt) → is_change stmt ≡ true → shape_over stmt None ≡ Some (plain NO_TABLE)
shape_without (Insert i) h = refl
shape_without (Update u) h = refl
shape_without (Delete d) h = refl
shape_without stmt h = absurd (let x : false ≡ true = h in cc)

mild_row_fault : (a b c : Bool) → IsMildFault (first_that ((a, NULL_VALUE) ∷ (b, TEXT_TOO_LONG) ∷ (c, ROW_TOO_LONG) ∷ []))
mild_row_fault true b c = other_numbers NULL_VALUE refl refl refl
mild_row_fault false true c = other_numbers TEXT_TOO_LONG refl refl refl
mild_row_fault false false true = other_numbers ROW_TOO_LONG refl refl refl
mild_row_fault false false false = tt

mild_row : (cols : List Column) (row : List Value) → IsMildFault (row_fault cols row)
mild_row cols row = mild_row_fault (some_cell lacks cols row) (some_cell overflows cols row) (nat_lt 8060 (size_of_row row))

mild_among : (cols : List Column) (keys : List (List Value)) (row : List Value) → IsMildFault (fault_among cols keys row)
mild_among cols keys row =
    mild_or (new_row_fault cols row) (key_clash keys (key_of cols row))
    (mild_or (row_fault cols row) (key_fault (key_of cols row)) (mild_row cols row) (mild_if (nat_lt 900 (size_of_values (key_of cols row))) KEY_TOO_LONG (other_numbers KEY_TOO_LONG refl refl refl)))
    (mild_if (is_among keys (key_of cols row)) KEY_IS_THERE (other_numbers KEY_IS_THERE refl refl refl))

mild_inserted_row : (cols : List Column) (keys : List (List Value)) (new : Option (List Value)) → IsMild (inserted_row cols keys new)
mild_inserted_row cols keys None = mild_number
mild_inserted_row cols keys (Some row) = mild_unless row (fault_among cols keys row) (mild_among cols keys row)

mild_inserted : (cols : List Column) (keys : List (List Value)) (place : ℕ) (news : List (Option (List Value))) → AreMild (inserted_from cols keys place news)
mild_inserted cols keys place [] = tt
mild_inserted cols keys place (new ∷ news) =
    let outcome = inserted_row cols keys new in
    mild_after place outcome (inserted_from cols (with_taken cols keys outcome) (place + 1) news) (mild_inserted_row cols keys new) (mild_inserted cols (with_taken cols keys outcome) (place + 1) news)

mild_right : (cols : List Column) (new : Option (List Value)) → IsMild (if_right cols new)
mild_right cols None = mild_number
mild_right cols (Some row) = mild_unless row (row_fault cols row) (mild_row cols row)

-- WHAT THEY CHANGE

-- rows are put, or keys are cut, or nothing changes
pub data Kinds (stmt : Stmt) (d : List Change × Reply) : Type 0 where
  Puts : (rows : List (List Value)) → may_grow stmt ≡ true → d ≡ (map (Put (table_named stmt)) rows, Count (length rows)) → Kinds stmt d
  Cuts : (keys : List (List Value)) → may_grow stmt ≡ false → d ≡ (map (Cut (table_named stmt)) keys, Count (length keys)) → Kinds stmt d
  Stops : (m : Message) → IsHarmless (Msg m) → d ≡ ([], Msg m) → Kinds stmt d

puts_or_stops : (stmt : Stmt) (r : Result (List (List Value)) Message) → may_grow stmt ≡ true → AreMild r → Kinds stmt (changes_of (Put (table_named stmt)) r)
puts_or_stops stmt (result.Ok taken) grows h = Puts taken grows refl
puts_or_stops stmt (result.Err m) grows h = Stops m h refl

cuts_or_stops : (stmt : Stmt) (r : Result (List (List Value)) Message) → may_grow stmt ≡ false → AreMild r → Kinds stmt (changes_of (Cut (table_named stmt)) r)
cuts_or_stops stmt (result.Ok taken) grows h = Cuts taken grows refl
cuts_or_stops stmt (result.Err m) grows h = Stops m h refl

kinds_of : (stmt : Stmt) (t : Table) → is_change stmt ≡ true → Kinds stmt (data_over stmt t)
kinds_of (Insert i) t h =
    let news = map (new_row (target_names i.cols t.cols) t.cols) i.rows in
    puts_or_stops (Insert i) (inserted_from t.cols (finite.keys t.rows) 1 news) refl (mild_inserted t.cols (finite.keys t.rows) 1 news)
kinds_of (Update u) t h =
    puts_or_stops (Update u) (taken_from 1 (map (updated_row u.sets u.filter t.cols) (rows_of t))) refl
    (mild_rows (updated_row u.sets u.filter t.cols) (λ row. mild_behind (keeps t.cols u.filter row) (if_right t.cols (set_row u.sets t.cols row)) (mild_right t.cols (set_row u.sets t.cols row))) 1 (rows_of t))
kinds_of (Delete d) t h =
    cuts_or_stops (Delete d) (taken_from 1 (map (deleted_row d.filter t.cols) (rows_of t))) refl
    (mild_rows (deleted_row d.filter t.cols) (λ row. mild_behind (keeps t.cols d.filter row) (Taken (key_of t.cols row)) tt) 1 (rows_of t))
kinds_of stmt t h = absurd (let x : false ≡ true = h in cc)

puts_only : (name : List ℕ) (puts cuts rows : List (List Value)) → map (Put name) puts ++ map (Cut name) cuts ≡ map (Put name) rows → (puts ≡ rows) × (cuts ≡ [])
puts_only name [] [] [] e = (refl, refl)
puts_only name [] [] (r ∷ rows) e = absurd cc
puts_only name [] (k ∷ cuts) [] e = absurd cc
puts_only name [] (k ∷ cuts) (r ∷ rows) e = absurd cc
puts_only name (p ∷ puts) cuts [] e = absurd cc
puts_only name (p ∷ puts) cuts (r ∷ rows) e =
    let head : p ≡ r = cc in
    let tail : map (Put name) puts ++ map (Cut name) cuts ≡ map (Put name) rows = cc in
    let more = puts_only name puts cuts rows tail in
    ((λ i. head i ∷ more.0 i), more.1)

cuts_only : (name : List ℕ) (puts cuts keys : List (List Value)) → map (Put name) puts ++ map (Cut name) cuts ≡ map (Cut name) keys → (puts ≡ []) × (cuts ≡ keys)
cuts_only name [] [] [] e = (refl, refl)
cuts_only name [] [] (k ∷ keys) e = absurd cc
cuts_only name [] (c ∷ cuts) [] e = absurd cc
cuts_only name [] (c ∷ cuts) (k ∷ keys) e =
    let head : c ≡ k = cc in
    let tail : map (Cut name) cuts ≡ map (Cut name) keys = cc in
    let more = cuts_only name [] cuts keys tail in
    (refl, (λ i. head i ∷ more.1 i))
cuts_only name (p ∷ puts) cuts [] e = absurd cc
cuts_only name (p ∷ puts) cuts (k ∷ keys) e = absurd cc

-- which of its lists an effect fills
pub data Fills (stmt : Stmt) (effect : Effect) : Type 0 where
  FillsPuts : may_grow stmt ≡ true → effect.cuts ≡ [] → effect.reply ≡ Count (length effect.puts) → Fills stmt effect
  FillsCuts : may_grow stmt ≡ false → effect.puts ≡ [] → effect.reply ≡ Count (length effect.cuts) → Fills stmt effect
  FillsNone : (m : Message) → IsHarmless (Msg m) → effect.puts ≡ [] → effect.cuts ≡ [] → effect.reply ≡ Msg m → Fills stmt effect

pub fills : (stmt : Stmt) (t : Table) (effect : Effect) → is_change stmt ≡ true → IsEffect stmt t effect → Fills stmt effect
fills stmt t effect h is = elim (kinds_of stmt t h) [
  | Puts rows grows e ↦
      let only = puts_only (table_named stmt) effect.puts effect.cuts rows (ap (λ (d : List Change × Reply). d.0) (sym is ∙ e)) in
      FillsPuts grows only.1 (ap (λ (d : List Change × Reply). d.1) (sym is ∙ e) ∙ ap (λ (rs : List (List Value)). Count (length rs)) (sym only.0))
  | Cuts keys grows e ↦
      let only = cuts_only (table_named stmt) effect.puts effect.cuts keys (ap (λ (d : List Change × Reply). d.0) (sym is ∙ e)) in
      FillsCuts grows only.0 (ap (λ (d : List Change × Reply). d.1) (sym is ∙ e) ∙ ap (λ (ks : List (List Value)). Count (length ks)) (sym only.1))
  | Stops m harmless e ↦
      let only = puts_only (table_named stmt) effect.puts effect.cuts [] (ap (λ (d : List Change × Reply). d.0) (sym is ∙ e)) in
      FillsNone m harmless only.0 only.1 (ap (λ (d : List Change × Reply). d.1) (sym is ∙ e))
]

-- the columns of a page's table may hold the rows that a sound statement puts
pub rows_fit : (stmt : Stmt) (image name : List ℕ) (t : Table) (effect : Effect) → is_sound stmt ≡ true → Holds image name t → HoldsFitting t → IsVerdict stmt t (Does effect) → All (FitsColumns t.cols) effect.puts
rows_fit stmt image name t effect sound holds fits does =
    let fitting : IsFitting t = record { definition = (held_header image name t holds).definition; rows = All-from_recursion (FitsColumns t.cols) (rows_of t) fits } in
    let put = subst (λ (d : List Change × Reply). PutsFit t.cols d.0) does.1 (puts_what_fits stmt t sound fitting does.0) in
    all_put (FitsColumns t.cols) (table_named stmt) effect.puts (map (Cut (table_named stmt)) effect.cuts) put

-- THE TABLES AFTER THEM

count_after : (stmt : Stmt) (n : ℕ) (tables : Tables) → is_change stmt ≡ true → tables_after stmt (Count n) tables ≡ apply (change_and_reply stmt tables).0 tables
count_after (Insert i) n tables h = refl
count_after (Update u) n tables h = refl
count_after (Delete d) n tables h = refl
count_after stmt n tables h = absurd (let x : false ≡ true = h in cc)

-- the lists in the other order are the same changes, where one of them is empty
pub in_order : (name : List ℕ) (puts cuts : List (List Value)) → cuts ≡ [] → map (Put name) puts ++ map (Cut name) cuts ≡ plans.changes_of name cuts puts
in_order name puts cuts none = subst (λ (ks : List (List Value)). map (Put name) puts ++ map (Cut name) ks ≡ plans.changes_of name ks puts) (sym none) (append-nil (map (Put name) puts))

pub cuts_in_order : (name : List ℕ) (puts cuts : List (List Value)) → puts ≡ [] → map (Put name) puts ++ map (Cut name) cuts ≡ plans.changes_of name cuts puts
cuts_in_order name puts cuts none = subst (λ (rs : List (List Value)). map (Put name) rs ++ map (Cut name) cuts ≡ plans.changes_of name cuts rs) (sym none) (sym (append-nil (map (Cut name) cuts)))

-- the plan's changes are those of the statement
pub after_change : (stmt : Stmt) (effect : Effect) (tables : Tables) → is_change stmt ≡ true → Fills stmt effect → change_and_reply stmt tables ≡ (changes_in (table_named stmt) effect, effect.reply) →
    tables_after stmt effect.reply tables ≡ apply (plans.changes_of (table_named stmt) effect.cuts effect.puts) tables
after_change stmt effect tables h (FillsPuts grows none reply) meant =
    ap (λ (r : Reply). tables_after stmt r tables) reply ∙ count_after stmt (length effect.puts) tables h ∙ ap (λ (d : List Change × Reply). apply d.0 tables) meant
    ∙ ap (λ (cs : List Change). apply cs tables) (in_order (table_named stmt) effect.puts effect.cuts none)
after_change stmt effect tables h (FillsCuts grows none reply) meant =
    ap (λ (r : Reply). tables_after stmt r tables) reply ∙ count_after stmt (length effect.cuts) tables h ∙ ap (λ (d : List Change × Reply). apply d.0 tables) meant
    ∙ ap (λ (cs : List Change). apply cs tables) (cuts_in_order (table_named stmt) effect.puts effect.cuts none)
after_change stmt effect tables h (FillsNone m harmless no_puts no_cuts reply) meant =
    ap (λ (r : Reply). tables_after stmt r tables) reply ∙ sym (λ i. apply (plans.changes_of (table_named stmt) (no_cuts i) (no_puts i)) tables)

-- ROOM

-- keys are cut in any room
pub always_cut : (cols : List Column) (keys rows : List (List Value)) (slots : List (List ℕ)) → rows ≡ [] → drafts.LacksRoom cols keys rows slots → ⊥
always_cut cols keys rows slots none lacks = go keys slots (subst (λ (rs : List (List Value)). drafts.LacksRoom cols keys rs slots) none lacks)
  where
    go : (keys : List (List Value)) (slots : List (List ℕ)) → drafts.LacksRoom cols keys [] slots → ⊥
    go [] slots e = let w : None ≡ Some slots = e in cc
    go (k ∷ keys) slots cut = go keys cut.0 cut.2

pub has_place : (v : Shown) (stmt : Stmt) → is_change stmt ≡ true → may_grow stmt ≡ true → HasSpace v stmt → HasPlace v stmt
has_place v (Insert i) h grows space = space
has_place v (Update u) h grows space = space
has_place v (Delete d) h grows space = tt
has_place v stmt h grows space = absurd (let x : false ≡ true = h in cc)

pub has_no_need : (v : Shown) (stmt : Stmt) → is_change stmt ≡ true → may_grow stmt ≡ false → HasPlace v stmt
has_no_need v (Insert i) h grows = absurd (let x : true ≡ false = grows in cc)
has_no_need v (Update u) h grows = absurd (let x : true ≡ false = grows in cc)
has_no_need v (Delete d) h grows = tt
has_no_need v stmt h grows = absurd (let x : false ≡ true = h in cc)

pub lacks_place : (v : Shown) (stmt : Stmt) → is_change stmt ≡ true → may_grow stmt ≡ true → LacksSpace v stmt → LacksRoom v stmt
lacks_place v (Insert i) h grows space = space
lacks_place v (Update u) h grows space = space
lacks_place v (Delete d) h grows space = absurd (let x : false ≡ true = grows in cc)
lacks_place v stmt h grows space = absurd (let x : false ≡ true = h in cc)
