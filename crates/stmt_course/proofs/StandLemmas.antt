-- The rows that pages hold as a table of the plain machine, and what a statement puts into it.
use Rattle.std.proofs.Common.{refl, ◌≡◌, ◌≢◌, ℕ, zero, suc, List, [], ◌∷◌, ◌++◌, length, map, get_or, ap, sym, ◌∙◌, subst, arith, true, false}
use Rattle.std.specs.Prelude.{Some, None, All}
use Rattle.std.specs.FinMap as finite
use Rattle.std.specs.FinMap.{put, entries-insert, len-entries, len-empty}
use Rattle.std.specs.List.{AllByRecursion}
use Rattle.std.specs.Ordering.{match_ordering}
use Rattle.std.specs.declared.cmp.Ordering.{Ordering}
use Rattle.std.specs.declared.cmp.Ordering.TheVariants.{Less, Equal, Greater}
use Rattle.std.proofs.lemmas.List.{nil_from_length}
use Rattle.page_base.specs.declared.column.Column.{Column}
use Rattle.page_base.specs.declared.value.Value.{Value}
use Rattle.page_base.specs.Order.{key_cmp}
use Rattle.page_base.proofs.Ordered.{key_cmp_total}
use Rattle.plain_model.specs.declared.stmt.Stmt.{Stmt}
use Rattle.plain_model.specs.Sound.{is_definition, is_sound}
use Rattle.plain_model.specs.Statements.{shape_over, data_over, table_named}
use Rattle.plain_model.specs.Tables.{Rows, Table, IsTable, Put, Cut, key_of, rows_of}
use Rattle.row_fmt.specs.Rows.{FitsColumns, IsRowOf}
use Rattle.row_types.specs.Fitting.{IsFitting}
use Rattle.row_types.specs.Limits.{KeepsLimits}
use Rattle.row_types.specs.Puts.{Puts}
use Rattle.row_types.proofs.PutLemmas.{puts_what_is_held, puts_what_is_small, all_put}
use Rattle.table_walk.specs.Answers.{asked}
use Rattle.table_walk.specs.declared.find.Find.TheVariants as finds
use Rattle.table_walk.specs.Sought.{kept}
use Rattle.table_walk.specs.Tables.{Gathers, IsSmall, MayPut}
use Rattle.table_walk.proofs.OrderLemmas.{keys_exact}
use Rattle.table_walk.proofs.RowsLemmas.{rows_same, get_kept}
use Rattle.table_walk.proofs.VisitLemmas.{asked_is}
use Rattle.stmt_eval.specs.declared.effect.Effect.{Effect}
use Rattle.stmt_eval.specs.Verdicts.{IsEffect}

abbrev Entry : Type 0
Entry = List Value × List Value

-- ---- rows by their keys

abbrev Stands : List Column → Entry → Type 0
Stands cols e = (e.0 ≡ key_of cols e.1) × (IsRowOf cols e.1 × IsSmall cols e.1)

put_stands : (cols : List Column) (k v : List Value) (es : List Entry) → Stands cols (k, v) → AllByRecursion (Stands cols) es → AllByRecursion (Stands cols) (put key_cmp k v es)
put_stands cols k v [] is a = (is, tt)
put_stands cols k v (e ∷ es) is a = chosen (put_stands cols k v es is a.1) (key_cmp k e.0) refl
  where
    chosen : AllByRecursion (Stands cols) (put key_cmp k v es) → (o : Ordering) → key_cmp k e.0 ≡ o → AllByRecursion (Stands cols) (match_ordering o ((k, v) ∷ e ∷ es) ((e.0, v) ∷ es) (e ∷ put key_cmp k v es))
    chosen later Less at = (is, a)
    chosen later Equal at = ((sym (keys_exact k e.0 at) ∙ is.0, is.1), a.1)
    chosen later Greater at = (a.0, later)

gathered : (cols : List Column) (cells : List (List ℕ)) (rows : Rows) → Gathers cols cells rows → AllByRecursion (Stands cols) (finite.entries rows)
gathered cols [] rows g = subst (AllByRecursion (Stands cols)) (sym (ap finite.entries g ∙ nil_from_length _ (sym (len-entries finite.empty) ∙ len-empty key_cmp (List Value)))) tt
gathered cols (x ∷ cells) rows g =
    let row : List Value = g.0 in
    let rest : Rows = g.1 in
    let is : rows ≡ finite.insert rest (key_of cols row) row = g.6 in
    subst (AllByRecursion (Stands cols)) (sym (ap finite.entries is ∙ entries-insert key_cmp_total rest (key_of cols row) row))
    (put_stands cols (key_of cols row) row (finite.entries rest) (refl, (g.2.of, g.3)) (gathered cols cells rest g.4))

keyed : (cols : List Column) (es : List Entry) → AllByRecursion (Stands cols) es → map (λ (e : Entry). e.0) es ≡ map (key_of cols) (map (λ (e : Entry). e.1) es)
keyed cols [] a = refl
keyed cols (e ∷ es) a = λ i. a.0.0 i ∷ keyed cols es a.1 i

abbrev table_of : List Column → Rows → Table
table_of cols rows = record { cols = cols; rows = rows }

pub is_table : (cols : List Column) (cells : List (List ℕ)) (rows : Rows) → Gathers cols cells rows → IsTable cols (finite.values rows) (record { cols = cols; rows = rows })
is_table cols cells rows g = record { columns = refl; values = refl; keys = keyed cols (finite.entries rows) (gathered cols cells rows g) }

-- all rows are asked for
pub asked_all : (rows : Rows) → asked finds.All rows ≡ rows
asked_all rows = sym (asked_is None finds.All rows (λ q. refl)) ∙ rows_same (kept None rows) rows (λ q. get_kept None rows q)

-- ---- what is put may be put

values_hold : (P : List Value → Type 0) (cols : List Column) (es : List Entry) → ((r : List Value) → IsRowOf cols r × IsSmall cols r → P r) → AllByRecursion (Stands cols) es → All P (map (λ (e : Entry). e.1) es)
values_hold P cols [] f a k d lt = absurd (omega arith)
values_hold P cols (e ∷ es) f a zero d lt = f e.1 a.0.1
values_hold P cols (e ∷ es) f a (suc k) d lt = values_hold P cols es f a.1 k d (omega arith)

some_columns : (cols : List Column) → is_definition cols ≡ true → cols ≢ []
some_columns [] e = absurd (let wrong : false ≡ true = e in cc)
some_columns (c ∷ cs) e = λ f. let n : suc (length cs) ≡ 0 = ap length f in omega arith

some_row : (cols : List Column) (row : List Value) → cols ≢ [] → FitsColumns cols row → row ≢ []
some_row [] row some fits = absurd (some refl)
some_row (c ∷ cs) [] some fits = absurd fits
some_row (c ∷ cs) (v ∷ vs) some fits = λ e. let n : suc (length vs) ≡ 0 = ap length e in omega arith

all_both : (P Q R : List Value → Type 0) (xs : List (List Value)) → ((r : List Value) → P r → Q r → R r) → All P xs → All Q xs → All R xs
all_both P Q R xs f p q k d lt = f (get_or xs k d) (p k d lt) (q k d lt)

pub may_all_be_put : (stmt : Stmt) (cols : List Column) (cells : List (List ℕ)) (rows : Rows) (effect : Effect) → is_sound stmt ≡ true → is_definition cols ≡ true → Gathers cols cells rows
    → shape_over stmt (Some (record { cols = cols; rows = rows })) ≡ None → IsEffect stmt (record { cols = cols; rows = rows }) effect → All (MayPut cols) effect.puts
may_all_be_put stmt cols cells rows effect sound definition g shaped is =
    let t : Table = record { cols = cols; rows = rows } in
    let es = gathered cols cells rows g in
    let of : All (IsRowOf cols) (rows_of t) = values_hold (IsRowOf cols) cols (finite.entries rows) (λ r b. b.0) es in
    let small : All (KeepsLimits cols) (rows_of t) = values_hold (KeepsLimits cols) cols (finite.entries rows) (λ r b. record { bytes = b.1.bytes; key = b.1.key }) es in
    let fitting : IsFitting t = record { definition = definition; rows = values_hold (FitsColumns cols) cols (finite.entries rows) (λ r b. b.0.fits) es } in
    let changes : (data_over stmt t).0 ≡ map (Put (table_named stmt)) effect.puts ++ map (Cut (table_named stmt)) effect.cuts = ap (λ x. x.0) is in
    let held : All (IsRowOf cols) effect.puts = all_put (IsRowOf cols) (table_named stmt) effect.puts (map (Cut (table_named stmt)) effect.cuts) (subst (Puts (IsRowOf cols)) changes (puts_what_is_held stmt t sound fitting of shaped)) in
    let limits : All (KeepsLimits cols) effect.puts = all_put (KeepsLimits cols) (table_named stmt) effect.puts (map (Cut (table_named stmt)) effect.cuts) (subst (Puts (KeepsLimits cols)) changes (puts_what_is_small stmt t sound fitting small shaped)) in
    all_both (IsRowOf cols) (KeepsLimits cols) (MayPut cols) effect.puts (λ r a b. record { of = a; small = record { bytes = b.bytes; key = b.key }; some = some_row cols r (some_columns cols definition) a.fits }) held limits
