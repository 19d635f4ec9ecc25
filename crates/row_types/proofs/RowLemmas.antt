-- Rows whose values the columns keep, and that nothing refuses, fit the columns.
use Rattle.std.proofs.Common.{◌≡◌, Bool, true, false, not, List, [], ◌∷◌, map, refl, arith, ℕ, ◌&&◌, length, filter}
use Rattle.std.specs.Prelude.{⊤, Option, Some, None, option_map, find, nat_lt, nat_le}
use Rattle.std.specs.List.{AllByRecursion, list_all, list_any, range_with_len}
use Rattle.std.specs.Str.{bytes_eq}
use Rattle.std.proofs.lemmas.Bool.{and_parts, or_parts}
use Rattle.std.proofs.lemmas.Bool.Decides.{nat_tests}
use Rattle.std.proofs.lemmas.Slice.Eq.{bytes_eq-Decides}
use Rattle.page_base.specs.declared.column.Column.{Column}
use Rattle.page_base.specs.declared.column.ColType.{ColType}
use Rattle.page_base.specs.declared.column.ColType.TheVariants as kinds
use Rattle.page_base.specs.declared.value.Value.{Value}
use Rattle.page_base.specs.declared.value.Value.TheVariants.{Null, Int, Big, Text}
use Rattle.plain_model.specs.Messages.{first_that}
use Rattle.plain_model.specs.Outcomes.{all_of}
use Rattle.plain_model.specs.Sizes.{size_of_row}
use Rattle.plain_model.specs.Sound.{are_distinct, is_column, has_place, is_definition}
use Rattle.plain_model.specs.Storing.{is_longer_than, lacks, overflows, some_cell, row_fault}
use Rattle.row_fmt.specs.Rows.{IsOfKind, MayStand, FitsColumns}
use Rattle.row_types.proofs.TypeLemmas.{IsKept, Keeps, of_some}
use Rattle.plain_model.specs.declared.reply.TheConstants.Message.{NULL_VALUE, ROW_TOO_LONG, TEXT_TOO_LONG}

-- a value for each column, as the column keeps it, of each of which R holds
abbrev pub AreKept : (Value → Type 0) → List Column → List Value → Type 0
AreKept R [] [] = ⊤
AreKept R [] (v ∷ row) = ⊥
AreKept R (c ∷ cols) [] = ⊥
AreKept R (c ∷ cols) (v ∷ row) = Keeps R c.kind v × AreKept R cols row

-- the values of all columns, each of them kept
pub all_kept : (R : Value → Type 0) (f : Column → Option Value) (cols : List Column) (row : List Value) → AllByRecursion (λ c. (v : Value) → f c ≡ Some v → Keeps R c.kind v) cols → all_of (map f cols) ≡ Some row → AreKept R cols row
all_kept R f [] row each e = of_some (AreKept R []) [] row e tt
all_kept R f (c ∷ cols) row each e = first (all_kept R f cols) (f c) refl e
  where
    rest : (v : Value) → f c ≡ Some v → (o : Option (List Value)) → all_of (map f cols) ≡ o → ((more : List Value) → o ≡ Some more → AreKept R cols more) → option_map (λ more. v ∷ more) o ≡ Some row → AreKept R (c ∷ cols) row
    rest v is None all later e = absurd (cc)
    rest v is (Some more) all later e = of_some (AreKept R (c ∷ cols)) (v ∷ more) row e (each.0 v is, later more refl)

    first : ((more : List Value) → AllByRecursion (λ c. (v : Value) → f c ≡ Some v → Keeps R c.kind v) cols → all_of (map f cols) ≡ Some more → AreKept R cols more) → (o : Option Value) → f c ≡ o → all_of (o ∷ map f cols) ≡ Some row → AreKept R (c ∷ cols) row
    first later None is e = absurd (cc)
    first later (Some v) is e = rest v is (all_of (map f cols)) refl (λ more all. later more each.1 all) e

pub not_false : (b : Bool) → not b ≡ false → b ≡ true
not_false true e = refl
not_false false e = absurd (cc)

-- a kept value that isn't lacking and no text that is too long may stand in its column
kept_stands : (c : Column) (v : Value) → IsKept c.kind v → lacks c v ≡ false → overflows c v ≡ false → MayStand c v
kept_stands c Null h there short = not_false c.nullable there
kept_stands c (Int n) h there short = h
kept_stands c (Big n) h there short = h
kept_stands c (Text bytes) h there short = text c.kind h short
  where
    text : (kind : ColType) → IsKept kind (Text bytes) → is_longer_than kind (Text bytes) ≡ false → IsOfKind kind (Text bytes)
    text kinds.Int h short = absurd h
    text kinds.Big h short = absurd h
    text (kinds.Text max) h short = record { short = grind (arith, nat_tests); each = h }

row_stands : (R : Value → Type 0) (cols : List Column) (row : List Value) → AreKept R cols row → some_cell lacks cols row ≡ false → some_cell overflows cols row ≡ false → FitsColumns cols row
row_stands R [] [] h there short = tt
row_stands R [] (v ∷ row) h there short = absurd h
row_stands R (c ∷ cols) [] h there short = absurd h
row_stands R (c ∷ cols) (v ∷ row) h there short =
    let t = or_parts (lacks c v) (some_cell lacks cols row) there in
    let s = or_parts (overflows c v) (some_cell overflows cols row) short in
    (kept_stands c v h.0.0 t.0 s.0, row_stands R cols row h.1 t.1 s.1)

-- where none of some refusals applies, the first doesn't
pub none_first : {X : Type 0} (b : Bool) (x : X) (rs : List (Bool × X)) → first_that ((b, x) ∷ rs) ≡ None → (b ≡ false) × (first_that rs ≡ None)
none_first true x rs e = absurd (cc)
none_first false x rs e = (refl, e)

-- a row that nothing refuses by itself
pub row_fits : (R : Value → Type 0) (cols : List Column) (row : List Value) → AreKept R cols row → row_fault cols row ≡ None → FitsColumns cols row
row_fits R cols row h e =
    let long : List (Bool × ℕ) = (nat_lt 8060 (size_of_row row), ROW_TOO_LONG) ∷ [] in
    let there = none_first (some_cell lacks cols row) NULL_VALUE ((some_cell overflows cols row, TEXT_TOO_LONG) ∷ long) e in
    let short = none_first (some_cell overflows cols row) TEXT_TOO_LONG long there.1 in
    row_stands R cols row h there.0 short.0

-- ---- the columns of a table have different names

pub same_name : (n : List ℕ) → bytes_eq n n ≡ true
same_name n = (bytes_eq-Decides n n).1 refl

-- the first column of its name is it
abbrev pub IsFirst : List Column → Column → Type 0
IsFirst cols c = find (λ d. bytes_eq d.name c.name) cols ≡ Some c

-- a column of another name in front
first_behind : (x : Column) (all cols : List Column) → list_any (bytes_eq x.name) (map (λ c. c.name) cols) ≡ false → AllByRecursion (IsFirst all) cols → AllByRecursion (IsFirst (x ∷ all)) cols
first_behind x all [] others h = tt
first_behind x all (c ∷ cols) others h =
    let o = or_parts (bytes_eq x.name c.name) (list_any (bytes_eq x.name) (map (λ (c : Column). c.name) cols)) others in
    ((rw o.0 h.0), first_behind x all cols o.1 h.1)

pub absent : (b : Bool) → not b ≡ true → b ≡ false
absent true e = absurd (cc)
absent false e = refl

each_first : (cols : List Column) → are_distinct (map (λ c. c.name) cols) ≡ true → AllByRecursion (IsFirst cols) cols
each_first [] h = tt
each_first (x ∷ cols) h =
    let d = and_parts (not (list_any (bytes_eq x.name) (map (λ (c : Column). c.name) cols))) (are_distinct (map (λ (c : Column). c.name) cols)) h in
    ((rw (same_name x.name) refl), first_behind x cols cols (absent _ d.0) (each_first cols d.1))

-- those of a good definition
pub definition_names : (cols : List Column) → is_definition cols ≡ true → are_distinct (map (λ c. c.name) cols) ≡ true
definition_names cols h =
    let size : ℕ = length (filter (λ (c : Column). nat_le 1 c.key) cols) in
    let keys : Bool = nat_le 1 size && (nat_le size 16 && list_all (has_place cols) (range_with_len 1 size)) in
    let few = and_parts (nat_le (length cols) 64) (are_distinct (map (λ (c : Column). c.name) cols) && (list_all is_column cols && keys)) h in
    (and_parts (are_distinct (map (λ (c : Column). c.name) cols)) (list_all is_column cols && keys) few.1).0

pub definition_firsts : (cols : List Column) → is_definition cols ≡ true → AllByRecursion (IsFirst cols) cols
definition_firsts cols h = each_first cols (definition_names cols h)
