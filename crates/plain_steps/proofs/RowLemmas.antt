-- A table whose rows are right stays so when a right row is put or a row is cut.
use Rattle.std.proofs.Common.{◌≡◌, Bool, true, false, ◌&&◌, cond, List, [], ◌∷◌, map, refl, ap, sym, ◌∙◌, subst, All}
use Rattle.std.specs.Prelude.{T, Some, None}
use Rattle.std.specs.List.{AllByRecursion}
use Rattle.std.specs.declared.cmp.Ordering.{Ordering}
use Rattle.std.specs.declared.cmp.Ordering.TheVariants.{Less, Equal, Greater}
use Rattle.std.specs.Ordering.{int_cmp, ordering_then, is_eq, is_lt}
use Rattle.std.specs.Cmp.{tied_itself}
use Rattle.std.specs.FinMap as finite
use Rattle.std.specs.FinMap.{IsAntisymmetric, nat_cmp-IsAntisymmetric, int_cmp-IsAntisymmetric, slice_cmp-IsAntisymmetric, find, is_sorted, entries_sorted, get-entries, get-empty, get-insert, get-remove}
use Rattle.std.specs.FinMap.Entries.{below_all, find_tied}
use Rattle.std.proofs.lemmas.List.Elements.{All-from_recursion, recursion_from_All}
use Rattle.page_base.proofs.Ordered.{key_cmp_total}
use Rattle.page_base.specs.declared.column.Column.{Column}
use Rattle.page_base.specs.declared.value.Value.{Value}
use Rattle.page_base.specs.declared.value.Value.TheVariants.{Null, Int, Big, Text}
use Rattle.page_base.specs.Order.{value_cmp, key_cmp}
use Rattle.plain_model.specs.Sound.{is_definition}
use Rattle.plain_model.specs.Tables.{Table, rows_of, key_of, with_row, without_key}
use Rattle.row_fmt.specs.Rows.{FitsColumns, IsRowOf}
use Rattle.row_types.specs.Limits.{KeepsLimits}
use Rattle.plain_steps.specs.Good.{IsGood}

-- ONLY EQUAL KEYS TIE

tie_first : (r : Ordering) → ordering_then r Equal ≡ Equal → r ≡ Equal
tie_first Less e = cc
tie_first Equal e = refl
tie_first Greater e = cc

values_tie : IsAntisymmetric value_cmp
values_tie Null Null e = refl
values_tie Null (Int b) e = cc
values_tie Null (Big b) e = cc
values_tie Null (Text b) e = cc
values_tie (Int a) Null e = cc
values_tie (Int a) (Int b) e = ap Int (int_cmp-IsAntisymmetric a b (tie_first (int_cmp a b) e))
values_tie (Int a) (Big b) e = cc
values_tie (Int a) (Text b) e = cc
values_tie (Big a) Null e = cc
values_tie (Big a) (Int b) e = cc
values_tie (Big a) (Big b) e = ap Big (int_cmp-IsAntisymmetric a b (tie_first (int_cmp a b) e))
values_tie (Big a) (Text b) e = cc
values_tie (Text a) Null e = cc
values_tie (Text a) (Int b) e = cc
values_tie (Text a) (Big b) e = cc
values_tie (Text a) (Text b) e = ap Text (slice_cmp-IsAntisymmetric nat_cmp-IsAntisymmetric a b e)

keys_tie : IsAntisymmetric key_cmp
keys_tie = slice_cmp-IsAntisymmetric values_tie

-- ROWS AND THEIR KEYS

first : (a b : Bool) → T (a && b) → T a
first true b h = tt
first false b h = h

second : (a b : Bool) → T (a && b) → T b
second true b h = h
second false b h = absurd h

-- below all other keys nothing stands
none_below : (key : List Value) (es : List (List Value × List Value)) → T (below_all key_cmp key es) → find key_cmp key es ≡ None
none_below key [] h = refl
none_below key (e ∷ es) h = elim (key_cmp key e.0) as (λ r. T (is_lt r && below_all key_cmp key es) → cond (is_eq r) (Some e.1) (find key_cmp key es) ≡ None) [
  | Less ↦ λ p. none_below key es p
  | Equal ↦ λ p. absurd p
  | Greater ↦ λ p. absurd p
] h

-- an entry in front hides none behind it
found_behind : (e : List Value × List Value) (es : List (List Value × List Value)) (key row : List Value) → T (below_all key_cmp e.0 es) → find key_cmp key es ≡ Some row → find key_cmp key (e ∷ es) ≡ Some row
found_behind e es key row below f = elim (key_cmp key e.0) as (λ r. key_cmp key e.0 ≡ r → cond (is_eq r) (Some e.1) (find key_cmp key es) ≡ Some row) [
  | Less ↦ λ p. f
  | Equal ↦ λ p. let none : Some row ≡ None = sym f ∙ sym (find_tied key_cmp key_cmp_total key e.0 p es) ∙ none_below e.0 es below in cc
  | Greater ↦ λ p. f
] refl

-- what holds of each row that is found holds of all rows
all_found : (P : List Value → Type 0) (es : List (List Value × List Value)) → T (is_sorted key_cmp es) → ((key row : List Value) → find key_cmp key es ≡ Some row → P row) → AllByRecursion P (map (λ e. e.1) es)
all_found P [] s h = tt
all_found P (e ∷ es) s h = (
  h e.0 e.1 (ap (λ (r : Ordering). cond (is_eq r) (Some e.1) (find key_cmp e.0 es)) (tied_itself key_cmp_total e.0)),
  all_found P es (second (below_all key_cmp e.0 es) (is_sorted key_cmp es) s) (λ key row f. h key row (found_behind e es key row (first (below_all key_cmp e.0 es) (is_sorted key_cmp es) s) f)),
)

-- and the other way round
found_in : (P : List Value → Type 0) (es : List (List Value × List Value)) → AllByRecursion P (map (λ e. e.1) es) → (key row : List Value) → find key_cmp key es ≡ Some row → P row
found_in P [] h key row f = absurd (cc)
found_in P (e ∷ es) h key row f = by (is_eq (key_cmp key e.0)) (found_in P es h.1 key row) f
  where
    by : (b : Bool) → (find key_cmp key es ≡ Some row → P row) → cond b (Some e.1) (find key_cmp key es) ≡ Some row → P row
    by true rest f = let same : e.1 ≡ row = cc in subst P same h.0
    by false rest f = rest f

-- A TABLE

-- a row that these columns may hold, within the limits
pub record IsRight (cols : List Column) (row : List Value) : Type 0 where
  pub held : IsRowOf cols row
  pub small : KeepsLimits cols row

-- the columns are a good definition, and each row that is found at a key is right and stands by this key
pub record IsSound (t : Table) : Type 0 where
  pub definition : is_definition t.cols ≡ true
  pub right : (key row : List Value) → finite.get t.rows key ≡ Some row → IsRight t.cols row
  pub keyed : (key row : List Value) → finite.get t.rows key ≡ Some row → key ≡ key_of t.cols row

rows_all : (P : List Value → Type 0) (t : Table) → ((key row : List Value) → finite.get t.rows key ≡ Some row → P row) → All P (rows_of t)
rows_all P t h = All-from_recursion P (rows_of t) (all_found P (finite.entries t.rows) (entries_sorted t.rows) (λ key row f. h key row (get-entries t.rows key ∙ f)))

rows_each : (P : List Value → Type 0) (t : Table) → All P (rows_of t) → (key row : List Value) → finite.get t.rows key ≡ Some row → P row
rows_each P t h key row f = found_in P (finite.entries t.rows) (recursion_from_All P (rows_of t) h) key row (sym (get-entries t.rows key) ∙ f)

-- a sound table is a good one
pub good_of : (t : Table) → IsSound t → IsGood t
good_of t h = record {
  fits = record { definition = h.definition; rows = rows_all (FitsColumns t.cols) t (λ key row f. (h.right key row f).held.fits) };
  held = rows_all (IsRowOf t.cols) t (λ key row f. (h.right key row f).held);
  small = rows_all (KeepsLimits t.cols) t (λ key row f. (h.right key row f).small);
  keyed = record { at = h.keyed };
}

-- and the other way round
pub sound_of : (t : Table) → IsGood t → IsSound t
sound_of t h = record {
  definition = h.fits.definition;
  right = λ key row f. record { held = rows_each (IsRowOf t.cols) t h.held key row f; small = rows_each (KeepsLimits t.cols) t h.small key row f };
  keyed = h.keyed.at;
}

-- a table without rows
pub sound_new : (cols : List Column) → is_definition cols ≡ true → IsSound (record { cols = cols; rows = finite.empty })
sound_new cols h = record {
  definition = h;
  right = λ key row f. absurd (let x : None ≡ Some row = sym (get-empty key_cmp key) ∙ f in cc);
  keyed = λ key row f. absurd (let x : None ≡ Some row = sym (get-empty key_cmp key) ∙ f in cc);
}

-- a row is put
pub sound_put : (row : List Value) (t : Table) → IsRight t.cols row → IsSound t → IsSound (with_row row t)
sound_put row t right h = record {
  definition = h.definition;
  right = λ key found f. (by key found (key_cmp key (key_of t.cols row)) refl (sym (get-insert key_cmp_total t.rows (key_of t.cols row) row key) ∙ f)).0;
  keyed = λ key found f. (by key found (key_cmp key (key_of t.cols row)) refl (sym (get-insert key_cmp_total t.rows (key_of t.cols row) row key) ∙ f)).1;
}
  where
    by : (key found : List Value) (r : Ordering) → key_cmp key (key_of t.cols row) ≡ r → cond (is_eq r) (Some row) (finite.get t.rows key) ≡ Some found → IsRight t.cols found × (key ≡ key_of t.cols found)
    by key found Less p f = (h.right key found f, h.keyed key found f)
    by key found Equal p f = let same : row ≡ found = cc in (subst (IsRight t.cols) same right, keys_tie key (key_of t.cols row) p ∙ ap (key_of t.cols) same)
    by key found Greater p f = (h.right key found f, h.keyed key found f)

-- a key is cut
pub sound_cut : (key : List Value) (t : Table) → IsSound t → IsSound (without_key key t)
sound_cut key t h = record {
  definition = h.definition;
  right = λ other found f. (by other found (key_cmp other key) (sym (get-remove key_cmp_total t.rows key other) ∙ f)).0;
  keyed = λ other found f. (by other found (key_cmp other key) (sym (get-remove key_cmp_total t.rows key other) ∙ f)).1;
}
  where
    by : (other found : List Value) (r : Ordering) → cond (is_eq r) None (finite.get t.rows other) ≡ Some found → IsRight t.cols found × (other ≡ key_of t.cols found)
    by other found Less f = (h.right other found f, h.keyed other found f)
    by other found Equal f = absurd (cc)
    by other found Greater f = (h.right other found f, h.keyed other found f)
