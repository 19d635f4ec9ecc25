-- Leaves whose rows have different keys: no two of their places have one key.
use Rattle.std.proofs.Common.{refl, ◌≡◌, ℕ, zero, suc, Bool, true, false, ◌||◌, List, [], ◌∷◌, ◌++◌, get_or, ap, sym, ◌∙◌, subst, arith}
use Rattle.std.specs.Prelude.{Some, None, All}
use Rattle.std.specs.FinMap as finite
use Rattle.std.proofs.lemmas.List.Elements.{All-head, All-tail}
use Rattle.page_base.specs.declared.column.Column.{Column}
use Rattle.plain_model.specs.Tables.{Rows, key_of}
use Rattle.table_walk.proofs.RowsLemmas.{Key, same_key, ties, itself, no_Some, same_Some}
use Rattle.table_heap.specs.Leaves.{Leaf, ByKeys, rows_in, all_rows}
use Rattle.table_walk.specs.Tables.{MayPut}
use Rattle.table_heap.specs.Places.{AreApart, AreRows, row_at}
use Rattle.table_heap.proofs.LeafLemmas.{is_there, is_there-append, not_there}

abbrev Row : Type 0
Row = Key

-- ALL ROWS, AND EACH

all_left : (P : Row → Type 0) (xs ys : List Row) → All P (xs ++ ys) → All P xs
all_left P [] ys a k d h = absurd (omega arith)
all_left P (x ∷ xs) ys a zero d h = All-head P x (xs ++ ys) a
all_left P (x ∷ xs) ys a (suc k) d h = all_left P xs ys (All-tail P x (xs ++ ys) a) k d (omega arith)

all_right : (P : Row → Type 0) (xs ys : List Row) → All P (xs ++ ys) → All P ys
all_right P [] ys a = a
all_right P (x ∷ xs) ys a = all_right P xs ys (All-tail P x (xs ++ ys) a)

leaf_row : (P : Row → Type 0) (leaf : Leaf) (j : ℕ) (row : Row) → All P (rows_in leaf) → get_or leaf j None ≡ Some row → P row
leaf_row P [] j row a e = no_Some row (sym e)
leaf_row P (None ∷ cs) zero row a e = no_Some row (sym e)
leaf_row P (None ∷ cs) (suc j) row a e = leaf_row P cs j row a e
leaf_row P (Some r ∷ cs) zero row a e = subst P (same_Some r row e) (All-head P r (rows_in cs) a)
leaf_row P (Some r ∷ cs) (suc j) row a e = leaf_row P cs j row (All-tail P r (rows_in cs) a) e

pub rows_are : (cols : List Column) (leaves : List Leaf) → All (MayPut cols) (all_rows leaves) → AreRows cols leaves
rows_are cols [] a i j row e = no_Some row (sym e)
rows_are cols (leaf ∷ leaves) a zero j row e = leaf_row (MayPut cols) leaf j row (all_left (MayPut cols) (rows_in leaf) (all_rows leaves) a) e
rows_are cols (leaf ∷ leaves) a (suc i) j row e = rows_are cols leaves (all_right (MayPut cols) (rows_in leaf) (all_rows leaves) a) i j row e

-- DIFFERENT KEYS

-- a row that stands in a leaf is there
there_in : (cols : List Column) (key : Key) (leaf : Leaf) (j : ℕ) (row : Row) → get_or leaf j None ≡ Some row → key_of cols row ≡ key → is_there cols key (rows_in leaf) ≡ true
there_in cols key [] j row e f = no_Some row (sym e)
there_in cols key (None ∷ cs) zero row e f = no_Some row (sym e)
there_in cols key (None ∷ cs) (suc j) row e f = there_in cols key cs j row e f
there_in cols key (Some r ∷ cs) zero row e f = ap (λ b. b || is_there cols key (rows_in cs)) (ap (λ (x : Row). same_key (key_of cols x) key) (same_Some r row e) ∙ ap (λ (k : Key). same_key k key) f ∙ itself key)
there_in cols key (Some r ∷ cs) (suc j) row e f = ap (λ b. same_key (key_of cols r) key || b) (there_in cols key cs j row e f) ∙ or_true (same_key (key_of cols r) key)
  where
    or_true : (b : Bool) → (b || true) ≡ true
    or_true true = refl
    or_true false = refl

there_at : (cols : List Column) (key : Key) (leaves : List Leaf) (i j : ℕ) (row : Row) → row_at leaves i j ≡ Some row → key_of cols row ≡ key → is_there cols key (all_rows leaves) ≡ true
there_at cols key [] i j row e f = no_Some row (sym e)
there_at cols key (leaf ∷ leaves) zero j row e f = is_there-append cols key (rows_in leaf) (all_rows leaves) ∙ ap (λ b. b || is_there cols key (all_rows leaves)) (there_in cols key leaf j row e f)
there_at cols key (leaf ∷ leaves) (suc i) j row e f = is_there-append cols key (rows_in leaf) (all_rows leaves) ∙ ap (λ b. is_there cols key (rows_in leaf) || b) (there_at cols key leaves i j row e f) ∙ or_true (is_there cols key (rows_in leaf))
  where
    or_true : (b : Bool) → (b || true) ≡ true
    or_true true = refl
    or_true false = refl

-- rows of different keys: what is there in front is there no more behind
apart_parts : (cols : List Column) (key : Key) (xs ys : List Row) (m : Rows) → ByKeys cols (xs ++ ys) m → is_there cols key xs ≡ true → is_there cols key ys ≡ true → ⊥
apart_parts cols key [] ys m a e f = let w : false ≡ true = e in absurd (let u : false ≡ true = w in cc)
apart_parts cols key (x ∷ xs) ys m a e f = by (same_key (key_of cols x) key) refl e (λ h. apart_parts cols key xs ys a.0 a.1 h f)
  where
    by : (b : Bool) → same_key (key_of cols x) key ≡ b → (b || is_there cols key xs) ≡ true → (is_there cols key xs ≡ true → ⊥) → ⊥
    by true g h later =
        let same : key_of cols x ≡ key = ties (key_of cols x) key g in
        let none : is_there cols key (xs ++ ys) ≡ false = not_there cols (xs ++ ys) a.0 key a.1 (ap (finite.get a.0) (sym same) ∙ a.2) in
        behind (is_there cols key xs) (is_there cols key ys) (sym (is_there-append cols key xs ys) ∙ none) f
      where
        behind : (b c : Bool) → (b || c) ≡ false → c ≡ true → ⊥
        behind true c p q = let u : true ≡ false = p in cc
        behind false c p q = let u : true ≡ false = sym q ∙ p in cc
    by false g h later = later h

one_in : (cols : List Column) (key : Key) (leaf : Leaf) (more : List Row) (m : Rows) (j l : ℕ) (row other : Row) → ByKeys cols (rows_in leaf ++ more) m → get_or leaf j None ≡ Some row → key_of cols row ≡ key → get_or leaf l None ≡ Some other → key_of cols other ≡ key → j ≡ l
one_in cols key [] more m j l row other a e f g h = no_Some row (sym e)
one_in cols key (None ∷ cs) more m zero l row other a e f g h = no_Some row (sym e)
one_in cols key (None ∷ cs) more m (suc j) zero row other a e f g h = no_Some other (sym g)
one_in cols key (None ∷ cs) more m (suc j) (suc l) row other a e f g h = ap suc (one_in cols key cs more m j l row other a e f g h)
one_in cols key (Some r ∷ cs) more m zero zero row other a e f g h = refl
one_in cols key (Some r ∷ cs) more m zero (suc l) row other a e f g h =
    absurd (apart_parts cols key (r ∷ []) (rows_in cs ++ more) m a (there_in cols key (Some r ∷ []) 0 row e f) (front (there_in cols key cs l other g h)))
  where
    front : is_there cols key (rows_in cs) ≡ true → is_there cols key (rows_in cs ++ more) ≡ true
    front t = is_there-append cols key (rows_in cs) more ∙ ap (λ b. b || is_there cols key more) t
one_in cols key (Some r ∷ cs) more m (suc j) zero row other a e f g h =
    absurd (apart_parts cols key (r ∷ []) (rows_in cs ++ more) m a (there_in cols key (Some r ∷ []) 0 other g h) (front (there_in cols key cs j row e f)))
  where
    front : is_there cols key (rows_in cs) ≡ true → is_there cols key (rows_in cs ++ more) ≡ true
    front t = is_there-append cols key (rows_in cs) more ∙ ap (λ b. b || is_there cols key more) t
one_in cols key (Some r ∷ cs) more m (suc j) (suc l) row other a e f g h = ap suc (one_in cols key cs more a.0 j l row other a.1 e f g h)

behind_all : (cols : List Column) (xs ys : List Row) (m : Rows) → ByKeys cols (xs ++ ys) m → (rest : Rows) × ByKeys cols ys rest
behind_all cols [] ys m a = (m, a)
behind_all cols (x ∷ xs) ys m a = behind_all cols xs ys a.0 a.1

one_at : (cols : List Column) (key : Key) (leaves : List Leaf) (m : Rows) (i j k l : ℕ) (row other : Row) → ByKeys cols (all_rows leaves) m → row_at leaves i j ≡ Some row → key_of cols row ≡ key → row_at leaves k l ≡ Some other → key_of cols other ≡ key → (i ≡ k) × (j ≡ l)
one_at cols key [] m i j k l row other a e f g h = no_Some row (sym e)
one_at cols key (leaf ∷ leaves) m zero j zero l row other a e f g h = (refl, one_in cols key leaf (all_rows leaves) m j l row other a e f g h)
one_at cols key (leaf ∷ leaves) m zero j (suc k) l row other a e f g h = absurd (apart_parts cols key (rows_in leaf) (all_rows leaves) m a (there_in cols key leaf j row e f) (there_at cols key leaves k l other g h))
one_at cols key (leaf ∷ leaves) m (suc i) j zero l row other a e f g h = absurd (apart_parts cols key (rows_in leaf) (all_rows leaves) m a (there_in cols key leaf l other g h) (there_at cols key leaves i j row e f))
one_at cols key (leaf ∷ leaves) m (suc i) j (suc k) l row other a e f g h =
    let b = behind_all cols (rows_in leaf) (all_rows leaves) m a in
    let s = one_at cols key leaves b.0 i j k l row other b.1 e f g h in
    (ap suc s.0, s.1)

-- rows by their keys stand at different places
pub apart_of : (cols : List Column) (leaves : List Leaf) (m : Rows) → ByKeys cols (all_rows leaves) m → AreApart cols leaves
apart_of cols leaves m a key p q x y =
    let s = one_at cols key leaves m p.leaf p.slot q.leaf q.slot x.row y.row a x.at x.key_is y.at y.key_is in
    λ i. record { leaf = s.0 i; slot = s.1 i }
