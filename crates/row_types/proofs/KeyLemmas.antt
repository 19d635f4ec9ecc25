-- SETs of columns that are no key leave a row its key.
use Rattle.std.proofs.Common.{◌≡◌, ℕ, zero, suc, ◌+◌, ◌==◌, ◌&&◌, Bool, true, false, cond, not, List, [], ◌∷◌, length, map, refl, sym, ap, ◌∙◌, arith}
use Rattle.std.specs.Prelude.{⊤, Option, Some, None, option_map, option_and_then, find, nat_le, slice_index_or}
use Rattle.std.specs.List.{AllByRecursion, concat, list_any, position_or_len}
use Rattle.std.specs.Str.{bytes_eq}
use Rattle.std.proofs.lemmas.Bool.{and_parts, or_parts}
use Rattle.std.proofs.lemmas.Bool.Decides.{nat_tests}
use Rattle.page_base.specs.declared.column.Column.{Column}
use Rattle.page_base.specs.declared.value.Value.{Value}
use Rattle.page_base.specs.declared.value.Value.TheVariants.{Null}
use Rattle.plain_model.specs.declared.stmt.SetItem.{SetItem}
use Rattle.plain_model.specs.Cells.{cell}
use Rattle.plain_model.specs.Changing.{set_to, set_row}
use Rattle.plain_model.specs.Outcomes.{all_of}
use Rattle.plain_model.specs.Shapes.{is_key_name}
use Rattle.plain_model.specs.Sound.{are_distinct}
use Rattle.plain_model.specs.Storing.{kept_as}
use Rattle.plain_model.specs.Tree.{tree_of}
use Rattle.plain_model.specs.Values.{value_of}
use Rattle.row_fmt.specs.Keys.{key_bytes}
use Rattle.row_fmt.specs.Rows.{value_field, FitsColumns}
use Rattle.row_fmt.proofs.SizeLemmas.{key_sum, key_size_is}
use Rattle.row_types.proofs.TypeLemmas.{of_some, fitting_length, cell_at_place}
use Rattle.row_types.proofs.RowLemmas.{same_name, absent, IsFirst}

-- the same values in the columns of the key
abbrev pub KeepsKey : List Column → List Value → List Value → Type 0
KeepsKey [] old new = ⊤
KeepsKey (c ∷ cols) [] new = ⊥
KeepsKey (c ∷ cols) (v ∷ old) [] = ⊥
KeepsKey (c ∷ cols) (v ∷ old) (w ∷ new) = (nat_le 1 c.key ≡ true → w ≡ v) × KeepsKey cols old new

-- ---- the cells of a row under the names of its columns

-- the value at the place of the first column of a name
abbrev under : List Column → List Value → List ℕ → Value
under cols row name = slice_index_or row (position_or_len (λ d. bytes_eq d.name name) cols) Null

cell_under : (cols : List Column) (row : List Value) (name : List ℕ) → FitsColumns cols row → cell cols row name ≡ under cols row name
cell_under cols row name fits = cell_at_place row (position_or_len (λ (d : Column). bytes_eq d.name name) cols) (length cols) (fitting_length cols row fits)

-- each of these columns has its own value under its name
abbrev Owns : List Column → List Value → List Column → List Value → Type 0
Owns all over [] row = ⊤
Owns all over (c ∷ cols) [] = ⊥
Owns all over (c ∷ cols) (v ∷ row) = (under all over c.name ≡ v) × Owns all over cols row

-- a value in front is that of another place
behind_first : (v : Value) (over : List Value) (m : ℕ) (b : Bool) → b ≡ false → slice_index_or (v ∷ over) (cond (not b) (1 + m) 0) Null ≡ slice_index_or over m Null
behind_first v over m true e = absurd (cc)
behind_first v over m false e = let next : 1 + m ≡ suc m = omega arith in ap (λ (n : ℕ). slice_index_or (v ∷ over) n Null) next

owns_behind : (x : Column) (v : Value) (all : List Column) (over : List Value) (cols : List Column) (row : List Value) → list_any (bytes_eq x.name) (map (λ c. c.name) cols) ≡ false → Owns all over cols row → Owns (x ∷ all) (v ∷ over) cols row
owns_behind x v all over [] row others h = tt
owns_behind x v all over (c ∷ cols) [] others h = absurd h
owns_behind x v all over (c ∷ cols) (w ∷ row) others h =
    let o = or_parts (bytes_eq x.name c.name) (list_any (bytes_eq x.name) (map (λ (c : Column). c.name) cols)) others in
    (behind_first v over (position_or_len (λ (d : Column). bytes_eq d.name c.name) all) (bytes_eq x.name c.name) o.0 ∙ h.0, owns_behind x v all over cols row o.1 h.1)

each_owns : (cols : List Column) (row : List Value) → FitsColumns cols row → are_distinct (map (λ c. c.name) cols) ≡ true → Owns cols row cols row
each_owns [] row fits h = tt
each_owns (x ∷ cols) [] fits h = absurd fits
each_owns (x ∷ cols) (v ∷ row) fits h =
    let d = and_parts (not (list_any (bytes_eq x.name) (map (λ (c : Column). c.name) cols))) (are_distinct (map (λ (c : Column). c.name) cols)) h in
    (here (bytes_eq x.name x.name) (same_name x.name), owns_behind x v cols row cols row (absent _ d.0) (each_owns cols row fits.1 d.1))
  where
    here : (b : Bool) → b ≡ true → slice_index_or (v ∷ row) (cond (not b) (1 + position_or_len (λ (d : Column). bytes_eq d.name x.name) cols) 0) Null ≡ v
    here true e = refl
    here false e = absurd (cc)

-- ---- columns that aren't set

-- a column of the key has a name that is no other
key_name_other : (cols : List Column) (c : Column) (name : List ℕ) → IsFirst cols c → nat_le 1 c.key ≡ true → is_key_name cols name ≡ false → bytes_eq c.name name ≡ false
key_name_other cols c name first key none = walk cols first none
  where
    other : (b : Bool) → (b && nat_le 1 c.key) ≡ false → b ≡ false
    other true e = absurd (let wrong : true ≡ false = sym key ∙ e in cc)
    other false e = refl

    found : (x : Column) → Some x ≡ Some c → (bytes_eq x.name name && nat_le 1 x.key) ≡ false → bytes_eq c.name name ≡ false
    found x e none = let is : c ≡ x = cc in other (bytes_eq c.name name) (ap (λ (d : Column). bytes_eq d.name name && nat_le 1 d.key) is ∙ none)

    step : (x : Column) (more : List Column) → (bytes_eq x.name name && nat_le 1 x.key) ≡ false → (find (λ d. bytes_eq d.name c.name) more ≡ Some c → bytes_eq c.name name ≡ false) → (b : Bool) → cond b (Some x) (find (λ d. bytes_eq d.name c.name) more) ≡ Some c → bytes_eq c.name name ≡ false
    step x more none later true e = found x e none
    step x more none later false e = later e

    walk : (more : List Column) → find (λ d. bytes_eq d.name c.name) more ≡ Some c → list_any (λ d. bytes_eq d.name name && nat_le 1 d.key) more ≡ false → bytes_eq c.name name ≡ false
    walk [] e none = absurd (cc)
    walk (x ∷ more) e none =
        let parts = or_parts (bytes_eq x.name name && nat_le 1 x.key) (list_any (λ (d : Column). bytes_eq d.name name && nat_le 1 d.key) more) none in
        step x more parts.0 (λ found. walk more found parts.1) (bytes_eq x.name c.name) e

-- no column of the key is set
unset : (cols : List Column) (row : List Value) (sets : List SetItem) (c : Column) → IsFirst cols c → nat_le 1 c.key ≡ true → list_any (λ i. is_key_name cols i.col) sets ≡ false → set_to sets cols row c ≡ Some (cell cols row c.name)
unset cols row [] c first key none = refl
unset cols row (i ∷ sets) c first key none =
    let parts = or_parts (is_key_name cols i.col) (list_any (λ (i : SetItem). is_key_name cols i.col) sets) none in
    passed (bytes_eq c.name i.col) (key_name_other cols c i.col first key parts.0) (unset cols row sets c first key parts.1)
  where
    passed : (b : Bool) → b ≡ false → set_to sets cols row c ≡ Some (cell cols row c.name) → cond b (option_and_then (kept_as c.kind) (value_of cols row (tree_of i.to))) (set_to sets cols row c) ≡ Some (cell cols row c.name)
    passed true e later = absurd (cc)
    passed false e later = later

values_kept : (all : List Column) (over : List Value) (sets : List SetItem) (cols : List Column) (row new : List Value) → FitsColumns all over → list_any (λ i. is_key_name all i.col) sets ≡ false → AllByRecursion (IsFirst all) cols → Owns all over cols row → all_of (map (set_to sets all over) cols) ≡ Some new → KeepsKey cols row new
values_kept all over sets [] row new fits none firsts own e = tt
values_kept all over sets (c ∷ cols) [] new fits none firsts own e = absurd own
values_kept all over sets (c ∷ cols) (v ∷ row) new fits none firsts own e =
    first (λ more is. values_kept all over sets cols row more fits none firsts.1 own.1 is) (set_to sets all over c) refl e
  where
    same : (w : Value) → set_to sets all over c ≡ Some w → nat_le 1 c.key ≡ true → w ≡ v
    same w is key =
        let both : Some w ≡ Some (cell all over c.name) = sym is ∙ unset all over sets c firsts.0 key none in
        let cells : w ≡ cell all over c.name = cc in
        cells ∙ cell_under all over c.name fits ∙ own.0

    rest : (w : Value) → set_to sets all over c ≡ Some w → (o : Option (List Value)) → ((more : List Value) → o ≡ Some more → KeepsKey cols row more) → option_map (λ more. w ∷ more) o ≡ Some new → KeepsKey (c ∷ cols) (v ∷ row) new
    rest w is None later e = absurd (cc)
    rest w is (Some more) later e = of_some (KeepsKey (c ∷ cols) (v ∷ row)) (w ∷ more) new e (same w is, later more refl)

    first : ((more : List Value) → all_of (map (set_to sets all over) cols) ≡ Some more → KeepsKey cols row more) → (o : Option Value) → set_to sets all over c ≡ o → all_of (o ∷ map (set_to sets all over) cols) ≡ Some new → KeepsKey (c ∷ cols) (v ∷ row) new
    first later None is e = absurd (cc)
    first later (Some w) is e = rest w is (all_of (map (set_to sets all over) cols)) later e

-- a row after SETs of columns that are no key
pub set_row_keeps : (cols : List Column) (sets : List SetItem) (row new : List Value) → are_distinct (map (λ c. c.name) cols) ≡ true → AllByRecursion (IsFirst cols) cols → FitsColumns cols row → list_any (λ i. is_key_name cols i.col) sets ≡ false → set_row sets cols row ≡ Some new → KeepsKey cols row new
set_row_keeps cols sets row new distinct firsts fits none e = values_kept cols row sets cols row new fits none firsts (each_owns cols row fits distinct) e

-- ---- the key

part_same : (k m n : ℕ) → (nat_le 1 k ≡ true → n ≡ m) → cond (k == 0) 0 n ≡ cond (k == 0) 0 m
part_same zero m n h = refl
part_same (suc k) m n h = ap (λ (x : ℕ). cond (suc k == 0) 0 x) (h (let some : nat_le 1 (suc k) ≡ true = grind (arith, nat_tests) in some))

sum_same : (cols : List Column) (old new : List Value) → KeepsKey cols old new → key_sum cols new ≡ key_sum cols old
sum_same [] old new h = refl
sum_same (c ∷ cols) [] new h = absurd h
sum_same (c ∷ cols) (v ∷ old) [] h = absurd h
sum_same (c ∷ cols) (v ∷ old) (w ∷ new) h =
    let here = part_same c.key (length (concat (value_field v))) (length (concat (value_field w))) (λ key. ap (λ (x : Value). length (concat (value_field x))) (h.0 key)) in
    omega (arith, here, sum_same cols old new h.1)

-- the bytes of the key are as many
pub key_same_size : (cols : List Column) (old new : List Value) → KeepsKey cols old new → length (key_bytes cols new) ≡ length (key_bytes cols old)
key_same_size cols old new h = key_size_is cols new ∙ sum_same cols old new h ∙ sym (key_size_is cols old)
