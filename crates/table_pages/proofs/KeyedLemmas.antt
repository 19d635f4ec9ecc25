-- Each row of a table stands by its own key, before and after a change.
use Rattle.std.proofs.Common.{◌≡◌, refl, ap, sym, ◌∙◌, Bool, true, false, ◌&&◌, cond, List, [], ◌∷◌, map}
use Rattle.std.specs.Prelude.{T, Option, Some, None}
use Rattle.std.specs.declared.cmp.Ordering.{Ordering}
use Rattle.std.specs.declared.cmp.Ordering.TheVariants.{Less, Equal, Greater}
use Rattle.std.specs.Ordering.{is_eq, is_lt}
use Rattle.std.specs.Cmp.{tied_itself}
use Rattle.std.specs.FinMap as finite
use Rattle.std.specs.FinMap.{IsAntisymmetric, find, is_sorted, entries_sorted, get-entries, get-insert, get-remove}
use Rattle.std.specs.FinMap.Entries.{below_all, find_tied}
use Rattle.page_base.proofs.Ordered.{key_cmp_total}
use Rattle.page_base.specs.declared.column.Column.{Column}
use Rattle.page_base.specs.declared.value.Value.{Value}
use Rattle.page_base.specs.Order.{key_cmp}
use Rattle.plain_model.specs.Tables.{Table, IsTable, IsKeyed, rows_of, key_of, with_row, without_key}

first : (a b : Bool) → T (a && b) → T a
first true b h = tt
first false b h = h

second : (a b : Bool) → T (a && b) → T b
second true b h = h
second false b h = absurd h

-- nothing stands at a key below all others
nothing_at : (key : List Value) (es : List (List Value × List Value)) → T (below_all key_cmp key es) → find key_cmp key es ≡ None
nothing_at key [] h = refl
nothing_at key (e ∷ es) h = elim (key_cmp key e.0) as (λ r. T (is_lt r && below_all key_cmp key es) → cond (is_eq r) (Some e.1) (find key_cmp key es) ≡ None) [
  | Less ↦ λ p. nothing_at key es p
  | Equal ↦ λ p. absurd p
  | Greater ↦ λ p. absurd p
] h

-- what stands behind an entry isn't found at its key
passed : (e : List Value × List Value) (es : List (List Value × List Value)) (key row : List Value) → T (below_all key_cmp e.0 es) → find key_cmp key es ≡ Some row → find key_cmp key (e ∷ es) ≡ Some row
passed e es key row below f = elim (key_cmp key e.0) as (λ r. key_cmp key e.0 ≡ r → cond (is_eq r) (Some e.1) (find key_cmp key es) ≡ Some row) [
  | Less ↦ λ p. f
  | Equal ↦ λ p. let none : Some row ≡ None = sym f ∙ sym (find_tied key_cmp key_cmp_total key e.0 p es) ∙ nothing_at e.0 es below in cc
  | Greater ↦ λ p. f
] refl

keyed_all : (cols : List Column) (es : List (List Value × List Value)) → T (is_sorted key_cmp es) → ((key row : List Value) → find key_cmp key es ≡ Some row → key ≡ key_of cols row) →
    map (λ e. e.0) es ≡ map (key_of cols) (map (λ e. e.1) es)
keyed_all cols [] s h = refl
keyed_all cols (e ∷ es) s h =
    let here : e.0 ≡ key_of cols e.1 = h e.0 e.1 (ap (λ (r : Ordering). cond (is_eq r) (Some e.1) (find key_cmp e.0 es)) (tied_itself key_cmp_total e.0)) in
    let rest : map (λ e. e.0) es ≡ map (key_of cols) (map (λ e. e.1) es) = keyed_all cols es (second (below_all key_cmp e.0 es) (is_sorted key_cmp es) s)
    (λ key row f. h key row (passed e es key row (first (below_all key_cmp e.0 es) (is_sorted key_cmp es) s) f)) in
    λ i. here i ∷ rest i

-- a table whose rows stand by their own keys is that of its columns and its rows
pub table_of_itself : (t : Table) → IsKeyed t → IsTable t.cols (rows_of t) t
table_of_itself t h = record {
  columns = refl;
  values = refl;
  keys = keyed_all t.cols (finite.entries t.rows) (entries_sorted t.rows) (λ key row f. h.at key row (get-entries t.rows key ∙ f));
}

-- so it is of a table after a row is put
pub keyed_put : IsAntisymmetric key_cmp → (row : List Value) (t : Table) → IsKeyed t → IsKeyed (with_row row t)
keyed_put exact row t h = record {
  at = λ key found f. by_order key found (key_cmp key (key_of t.cols row)) refl (sym (get-insert key_cmp_total t.rows (key_of t.cols row) row key) ∙ f);
}
  where
    by_order : (key found : List Value) (r : Ordering) → key_cmp key (key_of t.cols row) ≡ r → cond (is_eq r) (Some row) (finite.get t.rows key) ≡ Some found → key ≡ key_of t.cols found
    by_order key found Less p f = h.at key found f
    by_order key found Equal p f = let same : row ≡ found = cc in exact key (key_of t.cols row) p ∙ ap (key_of t.cols) same
    by_order key found Greater p f = h.at key found f

-- and after a key is cut
pub keyed_cut : (key : List Value) (t : Table) → IsKeyed t → IsKeyed (without_key key t)
keyed_cut key t h = record {
  at = λ other found f. by_order other found (key_cmp other key) (sym (get-remove key_cmp_total t.rows key other) ∙ f);
}
  where
    by_order : (other found : List Value) (r : Ordering) → cond (is_eq r) None (finite.get t.rows other) ≡ Some found → other ≡ key_of t.cols found
    by_order other found Less f = h.at other found f
    by_order other found Equal f = cc
    by_order other found Greater f = h.at other found f
