-- The columns of a key one by one, and bytes that spell a key or none.
use Rattle.std.proofs.Common.{◌≡◌, ◌≢◌, ◌<◌, ◌≤◌, ◌+◌, ℕ, zero, suc, Bool, false, cond, List, [], ◌∷◌, ◌++◌, length, get_or, drop, refl, ap, sym, ◌∙◌, arith, append-nil, length-append, add-one, Ok, Err, eq-eqb}
use Rattle.std.specs.Prelude.{Option, None, Some, replicate, option_to_list}
use Rattle.std.specs.List.{flat_map, range_with_len}
use Rattle.std.proofs.lemmas.Bool.{ne_eqb}
use Rattle.page_base.specs.declared.column.Column.{Column}
use Rattle.page_base.specs.Reading.{Read}
use Rattle.page_base.proofs.FormatLemmas.{IsBytes}
use Rattle.row_fmt.specs.Reading.{row_at}
use Rattle.row_fmt.specs.Rows.{IsRow}
use Rattle.row_fmt.proofs.RowLemmas.{row_again, row_was_read}
use Rattle.tree_laws.specs.Keys.{Key, key_column, whole, no_nulls, key_at}

drop_at : (xs : List Column) (i : ℕ) (c : Column) → i < length xs → c ≡ get_or xs i c → drop i xs ≡ c ∷ drop (i + 1) xs
drop_at [] i c h is = absurd (omega (arith, h))
drop_at (x ∷ xs) zero c h is = ap (λ (z : Column). z ∷ xs) (sym is)
drop_at (x ∷ xs) (suc i) c h is =
    let e : suc (i + 1) ≡ suc i + 1 = omega arith in
    drop_at xs i c (omega (arith, h)) is ∙ ap (λ (n : ℕ). c ∷ drop n (x ∷ xs)) e

pub column_past : (cols : List Column) (i place : ℕ) (c : Column) → i < length cols → c ≡ get_or cols i c → c.key ≢ place → key_column (drop i cols) place ≡ key_column (drop (i + 1) cols) place
column_past cols i place c h is ne =
    ap (λ (cs : List Column). key_column cs place) (drop_at cols i c h is)
    ∙ ap (λ (b : Bool). cond b (record c { nullable = false } ∷ []) (key_column (drop (i + 1) cols) place)) (ne_eqb c.key place ne)

pub column_here : (cols : List Column) (i place : ℕ) (c : Column) → i < length cols → c ≡ get_or cols i c → c.key ≡ place → key_column (drop i cols) place ≡ record c { nullable = false } ∷ []
column_here cols i place c h is e =
    ap (λ (cs : List Column). key_column cs place) (drop_at cols i c h is)
    ∙ ap (λ (b : Bool). cond b (record c { nullable = false } ∷ []) (key_column (drop (i + 1) cols) place)) (eq-eqb c.key place e)

pub column_none : (cols : List Column) (i place : ℕ) → length cols ≤ i → key_column (drop i cols) place ≡ []
column_none [] zero place h = refl
column_none [] (suc i) place h = refl
column_none (c ∷ cols) zero place h = absurd (omega (arith, h))
column_none (c ∷ cols) (suc i) place h = column_none cols i place (omega (arith, h))

-- the columns of so many places
pub record ColumnsSoFar (cols : List Column) (i : ℕ) (keys : List Column) : Type 0 where
  pub are : keys ≡ flat_map (key_column cols) (range_with_len 1 i)
  pub few : length keys ≤ i

pub columns_begin : (cols : List Column) → ColumnsSoFar cols 0 []
columns_begin cols = record { are = refl; few = omega arith }

assoc : {A : Type 0} (a b c : List A) → (a ++ b) ++ c ≡ a ++ (b ++ c)
assoc [] b c = refl
assoc (x ∷ a) b c = ap (λ zs. x ∷ zs) (assoc a b c)

range_more : {A : Type 0} (f : ℕ → List A) (s i : ℕ) → flat_map f (range_with_len s (suc i)) ≡ flat_map f (range_with_len s i) ++ f (s + i)
range_more f s zero = let e : s ≡ s + 0 = omega arith in append-nil (f s) ∙ ap f e
range_more f s (suc i) =
    let e : (s + 1) + i ≡ s + suc i = omega arith in
    ap (λ l. f s ++ l) (range_more f (s + 1) i ∙ ap (λ (n : ℕ). flat_map f (range_with_len (s + 1) i) ++ f n) e) ∙ sym (assoc (f s) (flat_map f (range_with_len (s + 1) i)) (f (s + suc i)))

pub columns_more : (cols : List Column) (i : ℕ) (keys more : List Column) (o : Option Column) → ColumnsSoFar cols i keys → option_to_list o ≡ key_column cols (i + 1) → more ≡ keys ++ option_to_list o → ColumnsSoFar cols (i + 1) more
columns_more cols i keys more o s e is = record {
  are = is ∙ ap (λ (l : List Column). l ++ option_to_list o) s.are ∙ ap (λ (l : List Column). flat_map (key_column cols) (range_with_len 1 i) ++ l) (e ∙ ap (key_column cols) next) ∙ sym (range_more (key_column cols) 1 i) ∙ ap (λ (n : ℕ). flat_map (key_column cols) (range_with_len 1 n)) (sym (add-one i));
  few = omega (arith, ap length is, length-append keys (option_to_list o), short o, s.few);
}
  where
    next : i + 1 ≡ 1 + i
    next = omega arith

    short : (o : Option Column) → length (option_to_list o) ≤ 1
    short None = omega arith
    short (Some c) = omega arith

-- BYTES

pub key_read : (keys : List Column) (bytes row : List ℕ) (key : Key) → row ≡ no_nulls (length keys) ++ bytes → IsRow keys row key → ◌≡◌ {A = Option Key} (Some key) (key_at keys bytes)
key_read keys bytes row key is r = sym (ap whole (ap (row_at keys) (sym is) ∙ row_again keys row key r))

pub key_none : (keys : List Column) (bytes row : List ℕ) → row ≡ no_nulls (length keys) ++ bytes → IsBytes row → ((key : Key) → IsRow keys row key → ⊥) → ◌≡◌ {A = Option Key} None (key_at keys bytes)
key_none keys bytes row is h none = by (row_at keys row) refl ∙ ap (λ (xs : List ℕ). whole (row_at keys xs)) is
  where
    by : (r : Read Key) → row_at keys row ≡ r → ◌≡◌ {A = Option Key} None (whole (row_at keys row))
    by (Ok (key, [])) e = absurd (none key (row_was_read keys row h key [] e refl))
    by (Ok (key, (b ∷ rest))) e = sym (ap whole e)
    by (Err rest) e = sym (ap whole e)

-- zeros in front of bytes are bytes
pub zeros_front : (n : ℕ) (bytes : List ℕ) → IsBytes bytes → IsBytes (replicate n 0 ++ bytes)
zeros_front zero bytes h = h
zeros_front (suc n) bytes h = one (replicate n 0 ++ bytes) (zeros_front n bytes h)
  where
    one : (xs : List ℕ) → IsBytes xs → IsBytes (0 ∷ xs)
    one xs h zero = omega arith
    one xs h (suc i) = h i
