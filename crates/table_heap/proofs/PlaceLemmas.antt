-- Where rows stand in leaves after one is cut, takes another's slot, or is added.
use Rattle.std.proofs.Common.{refl, ◌≡◌, ◌≢◌, ℕ, zero, suc, ◌<◌, ◌≤◌, Bool, true, false, cond, ◌||◌, List, [], ◌∷◌, ◌++◌, length, get_or, set, ap, sym, ◌∙◌, subst, arith, inl, inr, ◌⊎◌}
use Rattle.std.specs.Prelude.{Option, Some, None}
use Rattle.std.proofs.lemmas.Bool.{cases_eq, le-leb, lt-leb}
use Rattle.page_base.specs.declared.column.Column.{Column}
use Rattle.page_base.specs.declared.value.Value.{Value}
use Rattle.page_fmt.specs.Edits.{set_slot, cleared}
use Rattle.page_fmt.specs.Edits as slots
use Rattle.page_fmt.specs.Spelling.{used}
use Rattle.plain_model.specs.Tables.{key_of}
use Rattle.row_fmt.specs.Rows.{row_bytes}
use Rattle.table_walk.proofs.RowsLemmas.{same_key, ties, itself, no_Some}
use Rattle.table_heap.specs.Leaves.{Leaf, cell, slots_of, fits, has, holds, before, trimmed, changed, cut, has_room, swap, added, add}
use Rattle.table_heap.specs.Places.{IsFirstEmpty, row_at}

abbrev pub Row : Type 0
Row = List Value

-- what stands at each place
abbrev pub Cells : Type 0
Cells = ℕ → ℕ → Option Row

-- one place has something else, and the others what they had
pub record Updates (old new : Cells) (i j : ℕ) (to : Option Row) : Type 0 where
  pub here : new i j ≡ to
  pub others : (k l : ℕ) → (k ≢ i) ⊎ (l ≢ j) → new k l ≡ old k l

-- no row of a leaf has an empty slot
abbrev pub IsFull : Leaf → Type 0
IsFull leaf = (j : ℕ) (row : Row) → get_or leaf j None ≡ Some row → row_bytes row ≢ []

full_tail : (c : Option Row) (cs : Leaf) → IsFull (c ∷ cs) → IsFull cs
full_tail c cs full j row e = full (suc j) row e

-- ONE LEAF

pub cell_at : (leaf : Leaf) (j : ℕ) → get_or (slots_of leaf) j [] ≡ cell (get_or leaf j None)
cell_at [] j = refl
cell_at (c ∷ cs) zero = refl
cell_at (c ∷ cs) (suc j) = cell_at cs j

pub slots_set : (leaf : Leaf) (j : ℕ) (to : Option Row) → slots_of (set leaf j to) ≡ set (slots_of leaf) j (cell to)
slots_set [] j to = refl
slots_set (c ∷ cs) zero to = refl
slots_set (c ∷ cs) (suc j) to = ap (λ xs. cell c ∷ xs) (slots_set cs j to)

pub set_within : (xs : List (List ℕ)) (j : ℕ) (x : List ℕ) → j < length xs → set_slot xs j x ≡ set xs j x
set_within [] j x h = absurd (omega arith)
set_within (y ∷ ys) zero x h = refl
set_within (y ∷ ys) (suc j) x h = ap (λ zs. y ∷ zs) (set_within ys j x (omega arith))

slots_before : (c : Option Row) (cs : Leaf) → ((row : Row) → c ≡ Some row → row_bytes row ≢ []) → slots_of (before c cs) ≡ slots.before (cell c) (slots_of cs)
slots_before None [] full = refl
slots_before None (c ∷ cs) full = refl
slots_before (Some row) cs full = by (row_bytes row) (full row refl)
  where
    by : (x : List ℕ) → x ≢ [] → x ∷ slots_of cs ≡ slots.before x (slots_of cs)
    by [] ne = absurd (ne refl)
    by (b ∷ bs) ne = refl

pub slots_trimmed : (leaf : Leaf) → IsFull leaf → slots_of (trimmed leaf) ≡ slots.trimmed (slots_of leaf)
slots_trimmed [] full = refl
slots_trimmed (c ∷ cs) full = slots_before c (trimmed cs) (λ row e. full 0 row e) ∙ ap (slots.before (cell c)) (slots_trimmed cs (full_tail c cs full))

before_at : (c : Option Row) (cs : Leaf) (j : ℕ) → get_or (before c cs) j None ≡ get_or (c ∷ cs) j None
before_at None [] zero = refl
before_at None [] (suc j) = refl
before_at None (c ∷ cs) j = refl
before_at (Some row) cs j = refl

-- trimming takes no row away
pub trimmed_at : (leaf : Leaf) (j : ℕ) → get_or (trimmed leaf) j None ≡ get_or leaf j None
trimmed_at [] j = refl
trimmed_at (c ∷ cs) zero = before_at c (trimmed cs) zero
trimmed_at (c ∷ cs) (suc j) = before_at c (trimmed cs) (suc j) ∙ trimmed_at cs j

pub within : (leaf : Leaf) (j : ℕ) (row : Row) → get_or leaf j None ≡ Some row → j < length leaf
within [] j row e = no_Some row (sym e)
within (c ∷ cs) zero row e = omega arith
within (c ∷ cs) (suc j) row e = let h = within cs j row e in omega arith

set_same : (leaf : Leaf) (j : ℕ) (to : Option Row) → j < length leaf → get_or (set leaf j to) j None ≡ to
set_same [] j to h = absurd (omega arith)
set_same (c ∷ cs) zero to h = refl
set_same (c ∷ cs) (suc j) to h = set_same cs j to (omega arith)

set_other : (leaf : Leaf) (j k : ℕ) (to : Option Row) → k ≢ j → get_or (set leaf j to) k None ≡ get_or leaf k None
set_other [] j k to ne = refl
set_other (c ∷ cs) zero zero to ne = absurd (ne refl)
set_other (c ∷ cs) zero (suc k) to ne = refl
set_other (c ∷ cs) (suc j) zero to ne = refl
set_other (c ∷ cs) (suc j) (suc k) to ne = set_other cs j k to (λ e. ne (ap suc e))

-- the row of a key stands in a slot of a leaf, and in no other
pub record OnlyIn (cols : List Column) (key : Row) (leaf : Leaf) (j : ℕ) : Type 0 where
  pub row : Row
  pub at : get_or leaf j None ≡ Some row
  pub key_is : key_of cols row ≡ key
  pub only : (k : ℕ) (other : Row) → get_or leaf k None ≡ Some other → key_of cols other ≡ key → k ≡ j

abbrev pub NoneIn : List Column → Row → Leaf → Type 0
NoneIn cols key leaf = (k : ℕ) (other : Row) → get_or leaf k None ≡ Some other → key_of cols other ≡ key → ⊥

has_is : (cols : List Column) (key : Row) (row : Row) → key_of cols row ≡ key → has cols key (Some row) ≡ true
has_is cols key row e = ap (same_key (key_of cols row)) (sym e) ∙ itself (key_of cols row)

has_not : (cols : List Column) (key : Row) (c : Option Row) → ((row : Row) → c ≡ Some row → key_of cols row ≡ key → ⊥) → has cols key c ≡ false
has_not cols key None ne = refl
has_not cols key (Some row) ne = by (same_key (key_of cols row) key) refl
  where
    by : (b : Bool) → same_key (key_of cols row) key ≡ b → b ≡ false
    by true e = absurd (ne row refl (ties (key_of cols row) key e))
    by false e = refl

pub holds_not : (cols : List Column) (key : Row) (leaf : Leaf) → NoneIn cols key leaf → holds cols key leaf ≡ false
holds_not cols key [] none = refl
holds_not cols key (c ∷ cs) none = λ i. has_not cols key c (λ row e. none 0 row e) i || holds_not cols key cs (λ k row e. none (suc k) row e) i

pub changed_not : (cols : List Column) (key : Row) (to : Option Row) (leaf : Leaf) → NoneIn cols key leaf → changed cols key to leaf ≡ leaf
changed_not cols key to [] none = refl
changed_not cols key to (c ∷ cs) none = λ i. cond (has_not cols key c (λ row e. none 0 row e) i) to c ∷ changed_not cols key to cs (λ k row e. none (suc k) row e) i

only_tail : (cols : List Column) (key : Row) (c : Option Row) (cs : Leaf) (j : ℕ) → OnlyIn cols key (c ∷ cs) (suc j) → OnlyIn cols key cs j
only_tail cols key c cs j o = record { row = o.row; at = o.at; key_is = o.key_is; only = λ k other e f. let g : suc k ≡ suc j = o.only (suc k) other e f in omega arith }

pub holds_is : (cols : List Column) (key : Row) (leaf : Leaf) (j : ℕ) → OnlyIn cols key leaf j → holds cols key leaf ≡ true
holds_is cols key [] j o = no_Some o.row (sym o.at)
holds_is cols key (c ∷ cs) zero o = ap (λ b. b || holds cols key cs) (ap (has cols key) o.at ∙ has_is cols key o.row o.key_is)
holds_is cols key (c ∷ cs) (suc j) o = ap (λ b. has cols key c || b) (holds_is cols key cs j (only_tail cols key c cs j o)) ∙ or_true (has cols key c)
  where
    or_true : (b : Bool) → (b || true) ≡ true
    or_true true = refl
    or_true false = refl

pub changed_is : (cols : List Column) (key : Row) (to : Option Row) (leaf : Leaf) (j : ℕ) → OnlyIn cols key leaf j → changed cols key to leaf ≡ set leaf j to
changed_is cols key to [] j o = refl
changed_is cols key to (c ∷ cs) zero o = λ i.
    cond ((ap (has cols key) o.at ∙ has_is cols key o.row o.key_is) i) to c ∷ changed_not cols key to cs (λ k other e f. let g : suc k ≡ 0 = o.only (suc k) other e f in absurd (omega arith)) i
changed_is cols key to (c ∷ cs) (suc j) o = λ i.
    cond (has_not cols key c (λ row e f. let g : 0 ≡ suc j = o.only 0 row e f in absurd (omega arith)) i) to c ∷ changed_is cols key to cs j (only_tail cols key c cs j o) i

-- A NEW ROW

pub record AddsAt (row : Row) (leaf : Leaf) (j : ℕ) : Type 0 where
  pub slots_are : slots_of (added row leaf) ≡ set_slot (slots_of leaf) j (row_bytes row)
  pub here : get_or (added row leaf) j None ≡ Some row
  pub others : (k : ℕ) → k ≢ j → get_or (added row leaf) k None ≡ get_or leaf k None
  pub was : get_or leaf j None ≡ None

none_is : (c : Option Row) → ((row : Row) → c ≡ Some row → row_bytes row ≢ []) → cell c ≡ [] → c ≡ None
none_is None full e = refl
none_is (Some row) full e = absurd (full row refl e)

pub added_is : (row : Row) (leaf : Leaf) (j : ℕ) → IsFull leaf → IsFirstEmpty (slots_of leaf) j → AddsAt row leaf j
added_is row [] zero full first = record { slots_are = refl; here = refl; others = λ k. past k; was = refl }
  where
    past : (k : ℕ) → k ≢ 0 → get_or (added row []) k None ≡ None
    past zero ne = absurd (ne refl)
    past (suc k) ne = refl
added_is row [] (suc j) full first = let h : suc j ≤ 0 = first.there in absurd (omega arith)
added_is row (None ∷ cs) zero full first = record { slots_are = refl; here = refl; others = λ k. past k; was = refl }
  where
    past : (k : ℕ) → k ≢ 0 → get_or (added row (None ∷ cs)) k None ≡ get_or (None ∷ cs) k None
    past zero ne = absurd (ne refl)
    past (suc k) ne = refl
added_is row (None ∷ cs) (suc j) full first = absurd (first.first 0 (omega arith) refl)
added_is row (Some r ∷ cs) zero full first = absurd (full 0 r refl first.empty)
added_is row (Some r ∷ cs) (suc j) full first =
    let there : suc j ≤ suc (length (slots_of cs)) = first.there in
    let a = added_is row cs j (full_tail (Some r) cs full) (record { there = omega arith; empty = first.empty; first = λ k h. first.first (suc k) (omega arith) }) in
    record { slots_are = ap (λ xs. row_bytes r ∷ xs) a.slots_are; here = a.here; others = λ k. past a k; was = a.was }
  where
    past : AddsAt row cs j → (k : ℕ) → k ≢ suc j → get_or (added row (Some r ∷ cs)) k None ≡ get_or (Some r ∷ cs) k None
    past a zero ne = refl
    past a (suc k) ne = a.others k (λ e. ne (ap suc e))

-- ALL LEAVES

-- the row of a key stands at a place, and at no other
pub record OnlyAt (cols : List Column) (key : Row) (leaves : List Leaf) (i j : ℕ) : Type 0 where
  pub row : Row
  pub at : row_at leaves i j ≡ Some row
  pub key_is : key_of cols row ≡ key
  pub only : (k l : ℕ) (other : Row) → row_at leaves k l ≡ Some other → key_of cols other ≡ key → (k ≡ i) × (l ≡ j)

abbrev pub NoneAt : List Column → Row → List Leaf → Type 0
NoneAt cols key leaves = (k l : ℕ) (other : Row) → row_at leaves k l ≡ Some other → key_of cols other ≡ key → ⊥

pub only_in : (cols : List Column) (key : Row) (leaves : List Leaf) (i j : ℕ) → OnlyAt cols key leaves i j → OnlyIn cols key (get_or leaves i []) j
only_in cols key leaves i j o = record { row = o.row; at = o.at; key_is = o.key_is; only = λ k other e f. (o.only i k other e f).1 }

only_rest : (cols : List Column) (key : Row) (leaf : Leaf) (leaves : List Leaf) (i j : ℕ) → OnlyAt cols key (leaf ∷ leaves) (suc i) j → OnlyAt cols key leaves i j
only_rest cols key leaf leaves i j o = record {
  row = o.row;
  at = o.at;
  key_is = o.key_is;
  only = λ k l other e f. let g = o.only (suc k) l other e f in let h : suc k ≡ suc i = g.0 in (omega arith, g.1);
}

front_not : (cols : List Column) (key : Row) (leaf : Leaf) (leaves : List Leaf) (i j : ℕ) → OnlyAt cols key (leaf ∷ leaves) (suc i) j → holds cols key leaf ≡ false
front_not cols key leaf leaves i j o = holds_not cols key leaf (λ k other e f. let g = o.only 0 k other e f in let h : 0 ≡ suc i = g.0 in absurd (omega arith))

pub cut_is : (cols : List Column) (key : Row) (leaves : List Leaf) (i j : ℕ) → OnlyAt cols key leaves i j → cut cols key leaves ≡ set leaves i (trimmed (set (get_or leaves i []) j None))
cut_is cols key [] i j o = no_Some o.row (sym o.at)
cut_is cols key (leaf ∷ leaves) zero j o =
    let n : OnlyIn cols key leaf j = only_in cols key (leaf ∷ leaves) zero j o in
    λ k. cond (holds_is cols key leaf j n k) (trimmed (changed_is cols key None leaf j n k) ∷ leaves) (leaf ∷ cut cols key leaves)
cut_is cols key (leaf ∷ leaves) (suc i) j o =
    λ k. cond (front_not cols key leaf leaves i j o k) (trimmed (changed cols key None leaf) ∷ leaves) (leaf ∷ cut_is cols key leaves i j (only_rest cols key leaf leaves i j o) k)

pub swap_is : (cols : List Column) (key row : Row) (leaves : List Leaf) (i j : ℕ) → OnlyAt cols key leaves i j → swap cols key row leaves ≡ set leaves i (set (get_or leaves i []) j (Some row))
swap_is cols key row [] i j o = no_Some o.row (sym o.at)
swap_is cols key row (leaf ∷ leaves) zero j o =
    let n : OnlyIn cols key leaf j = only_in cols key (leaf ∷ leaves) zero j o in
    λ k. cond (holds_is cols key leaf j n k) (changed_is cols key (Some row) leaf j n k ∷ leaves) (leaf ∷ swap cols key row leaves)
swap_is cols key row (leaf ∷ leaves) (suc i) j o =
    λ k. cond (front_not cols key leaf leaves i j o k) (changed cols key (Some row) leaf ∷ leaves) (leaf ∷ swap_is cols key row leaves i j (only_rest cols key leaf leaves i j o) k)

pub room_is : (cols : List Column) (key row : Row) (leaves : List Leaf) (i j : ℕ) → OnlyAt cols key leaves i j → has_room cols key row leaves ≡ fits (set (get_or leaves i []) j (Some row))
room_is cols key row [] i j o = no_Some o.row (sym o.at)
room_is cols key row (leaf ∷ leaves) zero j o =
    let n : OnlyIn cols key leaf j = only_in cols key (leaf ∷ leaves) zero j o in
    λ k. cond (holds_is cols key leaf j n k) (fits (changed_is cols key (Some row) leaf j n k)) (has_room cols key row leaves)
room_is cols key row (leaf ∷ leaves) (suc i) j o =
    λ k. cond (front_not cols key leaf leaves i j o k) (fits (changed cols key (Some row) leaf)) (room_is cols key row leaves i j (only_rest cols key leaf leaves i j o) k)

none_rest : (cols : List Column) (key : Row) (leaf : Leaf) (leaves : List Leaf) → NoneAt cols key (leaf ∷ leaves) → NoneAt cols key leaves
none_rest cols key leaf leaves none k l other e f = none (suc k) l other e f

pub cut_none : (cols : List Column) (key : Row) (leaves : List Leaf) → NoneAt cols key leaves → cut cols key leaves ≡ leaves
cut_none cols key [] none = refl
cut_none cols key (leaf ∷ leaves) none =
    λ k. cond (holds_not cols key leaf (λ l other e f. none 0 l other e f) k) (trimmed (changed cols key None leaf) ∷ leaves) (leaf ∷ cut_none cols key leaves (none_rest cols key leaf leaves none) k)

pub room_none : (cols : List Column) (key row : Row) (leaves : List Leaf) → NoneAt cols key leaves → has_room cols key row leaves ≡ false
room_none cols key row [] none = refl
room_none cols key row (leaf ∷ leaves) none =
    λ k. cond (holds_not cols key leaf (λ l other e f. none 0 l other e f) k) (fits (changed cols key (Some row) leaf)) (room_none cols key row leaves (none_rest cols key leaf leaves none) k)

-- a new row goes into the first leaf that has room
pub add_is : (row : Row) (leaves : List Leaf) (i : ℕ) → i < length leaves → fits (added row (get_or leaves i [])) ≡ true → ((k : ℕ) → k < i → fits (added row (get_or leaves k [])) ≡ false) → add row leaves ≡ set leaves i (added row (get_or leaves i []))
add_is row [] i h room first = absurd (omega arith)
add_is row (leaf ∷ leaves) zero h room first = ap (λ b. cond b (added row leaf ∷ leaves) (leaf ∷ add row leaves)) room
add_is row (leaf ∷ leaves) (suc i) h room first =
    λ k. cond (first 0 (omega arith) k) (added row leaf ∷ leaves) (leaf ∷ add_is row leaves i (omega arith) room (λ l lt. first (suc l) (omega arith)) k)

-- or into a new one
pub add_last : (row : Row) (leaves : List Leaf) → ((k : ℕ) → k < length leaves → fits (added row (get_or leaves k [])) ≡ false) → add row leaves ≡ leaves ++ (Some row ∷ []) ∷ []
add_last row [] first = refl
add_last row (leaf ∷ leaves) first = λ k. cond (first 0 (omega arith) k) (added row leaf ∷ leaves) (leaf ∷ add_last row leaves (λ l lt. first (suc l) (omega arith)) k)

-- WHAT STANDS WHERE

pub leaf_within : (leaves : List Leaf) (i j : ℕ) (row : Row) → row_at leaves i j ≡ Some row → i < length leaves
leaf_within [] i j row e = no_Some row (sym e)
leaf_within (leaf ∷ leaves) zero j row e = omega arith
leaf_within (leaf ∷ leaves) (suc i) j row e = let h = leaf_within leaves i j row e in omega arith

leaf_same : (leaves : List Leaf) (i : ℕ) (leaf : Leaf) → i < length leaves → get_or (set leaves i leaf) i [] ≡ leaf
leaf_same [] i leaf h = absurd (omega arith)
leaf_same (l ∷ ls) zero leaf h = refl
leaf_same (l ∷ ls) (suc i) leaf h = leaf_same ls i leaf (omega arith)

leaf_other : (leaves : List Leaf) (i k : ℕ) (leaf : Leaf) → k ≢ i → get_or (set leaves i leaf) k [] ≡ get_or leaves k []
leaf_other [] i k leaf ne = refl
leaf_other (l ∷ ls) zero zero leaf ne = absurd (ne refl)
leaf_other (l ∷ ls) zero (suc k) leaf ne = refl
leaf_other (l ∷ ls) (suc i) zero leaf ne = refl
leaf_other (l ∷ ls) (suc i) (suc k) leaf ne = leaf_other ls i k leaf (λ e. ne (ap suc e))

-- one leaf is changed at one slot
pub set_leaf : (leaves : List Leaf) (i j : ℕ) (leaf : Leaf) (to : Option Row) → i < length leaves → get_or leaf j None ≡ to → ((k : ℕ) → k ≢ j → get_or leaf k None ≡ get_or (get_or leaves i []) k None)
    → Updates (row_at leaves) (row_at (set leaves i leaf)) i j to
set_leaf leaves i j leaf to h here others = record {
  here = ap (λ (l : Leaf). get_or l j None) (leaf_same leaves i leaf h) ∙ here;
  others = λ k l ne. by k l ne (cases_eq k i);
}
  where
    by : (k l : ℕ) → (k ≢ i) ⊎ (l ≢ j) → (k ≡ i) ⊎ (k ≡ i → ⊥) → row_at (set leaves i leaf) k l ≡ row_at leaves k l
    by k l ne (inr f) = ap (λ (x : Leaf). get_or x l None) (leaf_other leaves i k leaf f)
    by k l (inl ne) (inl f) = absurd (ne f)
    by k l (inr ne) (inl f) =
        ap (λ (n : ℕ). get_or (get_or (set leaves i leaf) n []) l None) f ∙ ap (λ (x : Leaf). get_or x l None) (leaf_same leaves i leaf h) ∙ others l ne ∙ ap (λ (n : ℕ). get_or (get_or leaves n []) l None) (sym f)

pub cut_updates : (cols : List Column) (key : Row) (leaves : List Leaf) (i j : ℕ) → OnlyAt cols key leaves i j → Updates (row_at leaves) (row_at (cut cols key leaves)) i j None
cut_updates cols key leaves i j o =
    let leaf : Leaf = get_or leaves i [] in
    let new : Leaf = trimmed (set leaf j None) in
    let h : i < length leaves = leaf_within leaves i j o.row o.at in
    subst (λ (ls : List Leaf). Updates (row_at leaves) (row_at ls) i j None) (sym (cut_is cols key leaves i j o))
    (set_leaf leaves i j new None h (trimmed_at (set leaf j None) j ∙ set_same leaf j None (within leaf j o.row o.at)) (λ k ne. trimmed_at (set leaf j None) k ∙ set_other leaf j k None ne))

pub swap_updates : (cols : List Column) (key row : Row) (leaves : List Leaf) (i j : ℕ) → OnlyAt cols key leaves i j → Updates (row_at leaves) (row_at (swap cols key row leaves)) i j (Some row)
swap_updates cols key row leaves i j o =
    let leaf : Leaf = get_or leaves i [] in
    let h : i < length leaves = leaf_within leaves i j o.row o.at in
    subst (λ (ls : List Leaf). Updates (row_at leaves) (row_at ls) i j (Some row)) (sym (swap_is cols key row leaves i j o))
    (set_leaf leaves i j (set leaf j (Some row)) (Some row) h (set_same leaf j (Some row) (within leaf j o.row o.at)) (λ k ne. set_other leaf j k (Some row) ne))

-- an empty leaf more at the end changes no row
pub more_at : (leaves : List Leaf) (i j : ℕ) → row_at (leaves ++ [] ∷ []) i j ≡ row_at leaves i j
more_at [] zero j = refl
more_at [] (suc i) j = refl
more_at (leaf ∷ leaves) zero j = refl
more_at (leaf ∷ leaves) (suc i) j = more_at leaves i j

pub fits_true : (leaf : Leaf) → used (slots_of leaf) ≤ 8192 → fits leaf ≡ true
fits_true leaf h = le-leb (used (slots_of leaf)) 8192 h

pub fits_false : (leaf : Leaf) → 8192 < used (slots_of leaf) → fits leaf ≡ false
fits_false leaf h = lt-leb (used (slots_of leaf)) 8192 h
