-- The rows of a leaf in key order, with one row put: it takes the place of the row of its key, or its own among the others.
use Rattle.std.proofs.Common.{◌≡◌, ◌≢◌, ◌||◌, Bool, true, false, cond, List, [], ◌∷◌, ◌++◌, map, refl, ap, sym, ◌∙◌, subst, append_assoc, inl, inr}
use Rattle.std.specs.Prelude.{None, Some}
use Rattle.std.specs.Ordering.{is_le}
use Rattle.page_base.specs.declared.column.Column.{Column}
use Rattle.page_base.specs.declared.value.Value.{Value}
use Rattle.page_base.specs.Order.{key_cmp}
use Rattle.plain_model.specs.Tables.{key_of}
use Rattle.table_walk.specs.Leaves.{Leaf, holds, changed, added}
use Rattle.table_walk.proofs.RowsLemmas.{same_key, ties, itself}
use Rattle.tree_laws.specs.Keys.{Key}
use Rattle.tree_laws.specs.Order.{Mark, placed_key}
use Rattle.tree_laws.specs.Order.Mark.{Row}
use Rattle.tree_laws.specs.Puts.{placed_row, rows_in_order, with_row}
use Rattle.tree_laws.specs.Trees.{row_mark}
use Rattle.tree_laws.proofs.KeyOrder.{Below, Upto, upto_cases, above_of, below_upto, upto_of, never_below}
use Rattle.tree_laws.proofs.Lists.{Each, Precedes, Ascend, each-append, ascend-right, ascend-left}
use Rattle.tree_laws.proofs.MarkLemmas.{ascend-put}

-- the keys of a leaf's rows, in order
abbrev pub keys_of : List Column → Leaf → List Key
keys_of cols [] = []
keys_of cols (None ∷ cs) = keys_of cols cs
keys_of cols (Some r ∷ cs) = placed_key (key_of cols r) (keys_of cols cs)

marks_placed : (cols : List Column) (r : List Value) (rs : List (List Value)) (ks : List Key) → map (row_mark cols) rs ≡ map Row ks → map (row_mark cols) (placed_row cols r rs) ≡ map Row (placed_key (key_of cols r) ks)
marks_placed cols r [] [] e = refl
marks_placed cols r [] (k ∷ ks) e = absurd (cc)
marks_placed cols r (q ∷ rs) [] e = absurd (cc)
marks_placed cols r (q ∷ rs) (k ∷ ks) e =
    let head : key_of cols q ≡ k = head_is e in
    let tail : map (row_mark cols) rs ≡ map Row ks = tail_is e in
    by (is_le (key_cmp (key_of cols r) k)) (ap (λ (x : Key). is_le (key_cmp (key_of cols r) x)) head) (marks_placed cols r rs ks tail)
  where
    head_is : ◌≡◌ {A = List Mark} (Row (key_of cols q) ∷ map (row_mark cols) rs) (Row k ∷ map Row ks) → key_of cols q ≡ k
    head_is e = cc

    tail_is : ◌≡◌ {A = List Mark} (Row (key_of cols q) ∷ map (row_mark cols) rs) (Row k ∷ map Row ks) → map (row_mark cols) rs ≡ map Row ks
    tail_is e = cc

    by : (b : Bool) → is_le (key_cmp (key_of cols r) (key_of cols q)) ≡ b → map (row_mark cols) (placed_row cols r rs) ≡ map Row (placed_key (key_of cols r) ks)
        → map (row_mark cols) (placed_row cols r (q ∷ rs)) ≡ map Row (cond b (key_of cols r ∷ k ∷ ks) (k ∷ placed_key (key_of cols r) ks))
    by true is rec = ap (λ (b : Bool). map (row_mark cols) (cond b (r ∷ q ∷ rs) (q ∷ placed_row cols r rs))) is ∙ ap (λ (l : List Mark). Row (key_of cols r) ∷ l) e
    by false is rec = ap (λ (b : Bool). map (row_mark cols) (cond b (r ∷ q ∷ rs) (q ∷ placed_row cols r rs))) is ∙ (λ i. Row (head_is e i) ∷ rec i)

pub marks_are : (cols : List Column) (leaf : Leaf) → map (row_mark cols) (rows_in_order cols leaf) ≡ map Row (keys_of cols leaf)
marks_are cols [] = refl
marks_are cols (None ∷ cs) = marks_are cols cs
marks_are cols (Some r ∷ cs) = marks_placed cols r (rows_in_order cols cs) (keys_of cols cs) (marks_are cols cs)

-- a row in place of the one of its key
same_keys : (cols : List Column) (row : List Value) (leaf : Leaf) → keys_of cols (changed cols (key_of cols row) (Some row) leaf) ≡ keys_of cols leaf
same_keys cols row [] = refl
same_keys cols row (None ∷ cs) = same_keys cols row cs
same_keys cols row (Some r ∷ cs) = by (same_key (key_of cols r) (key_of cols row)) refl (same_keys cols row cs)
  where
    by : (b : Bool) → same_key (key_of cols r) (key_of cols row) ≡ b → keys_of cols (changed cols (key_of cols row) (Some row) cs) ≡ keys_of cols cs
        → keys_of cols (cond b (Some row) (Some r) ∷ changed cols (key_of cols row) (Some row) cs) ≡ placed_key (key_of cols r) (keys_of cols cs)
    by true e rec = ap (placed_key (key_of cols row)) rec ∙ ap (λ (k : Key). placed_key k (keys_of cols cs)) (sym (ties (key_of cols r) (key_of cols row) e))
    by false e rec = ap (placed_key (key_of cols r)) rec

-- keys that differ may take their places in either order
swap_keys : (d e : Key) (xs : List Key) → d ≢ e → placed_key d (placed_key e xs) ≡ placed_key e (placed_key d xs)
swap_keys d e xs ne = by (is_le (key_cmp d e)) (is_le (key_cmp e d)) refl refl xs
  where
    both : is_le (key_cmp d e) ≡ true → is_le (key_cmp e d) ≡ true → ⊥
    both p q = elim (upto_cases d e p) [
      | inl less ↦ never_below d (below_upto d e d less q)
      | inr same ↦ ne same
    ]

    neither : is_le (key_cmp d e) ≡ false → is_le (key_cmp e d) ≡ false → ⊥
    neither p q = never_below e (below_upto e d e (above_of d e p) (upto_of d e (above_of e d q)))

    at : (k x : Key) (ys : List Key) (t : Bool) → is_le (key_cmp k x) ≡ t → placed_key k (x ∷ ys) ≡ cond t (k ∷ x ∷ ys) (x ∷ placed_key k ys)
    at k x ys t h = ap (λ (b : Bool). cond b (k ∷ x ∷ ys) (x ∷ placed_key k ys)) h

    trans : (a b c : Key) → Upto a b → Upto b c → Upto a c
    trans a b c p q = elim (upto_cases a b p) [
      | inl less ↦ upto_of a c (below_upto a b c less q)
      | inr same ↦ subst (λ (z : Key). Upto z c) (sym same) q
    ]

    wrong : (t : Bool) → t ≡ true → t ≡ false → ⊥
    wrong t p q = let w : true ≡ false = sym p ∙ q in cc

    less_case : (d e : Key) → Upto d e → is_le (key_cmp e d) ≡ false → (xs : List Key) → placed_key d (placed_key e xs) ≡ placed_key e (placed_key d xs)
    less_case d e le nle [] = at d e [] true le ∙ sym (at e d [] false nle)
    less_case d e le nle (x ∷ xs) = one (is_le (key_cmp e x)) (is_le (key_cmp d x)) refl refl (less_case d e le nle xs)
      where
        one : (te td : Bool) → is_le (key_cmp e x) ≡ te → is_le (key_cmp d x) ≡ td → placed_key d (placed_key e xs) ≡ placed_key e (placed_key d xs) → placed_key d (placed_key e (x ∷ xs)) ≡ placed_key e (placed_key d (x ∷ xs))
        one true true he hd rec =
            ap (placed_key d) (at e x xs true he) ∙ at d e (x ∷ xs) true le
            ∙ sym (ap (placed_key e) (at d x xs true hd) ∙ at e d (x ∷ xs) false nle ∙ ap (λ (l : List Key). d ∷ l) (at e x xs true he))
        one true false he hd rec = absurd (wrong (is_le (key_cmp d x)) (trans d e x le he) hd)
        one false true he hd rec =
            ap (placed_key d) (at e x xs false he) ∙ at d x (placed_key e xs) true hd
            ∙ sym (ap (placed_key e) (at d x xs true hd) ∙ at e d (x ∷ xs) false nle ∙ ap (λ (l : List Key). d ∷ l) (at e x xs false he))
        one false false he hd rec =
            ap (placed_key d) (at e x xs false he) ∙ at d x (placed_key e xs) false hd ∙ ap (λ (l : List Key). x ∷ l) rec
            ∙ sym (ap (placed_key e) (at d x xs false hd) ∙ at e x (placed_key d xs) false he)

    by : (p q : Bool) → is_le (key_cmp d e) ≡ p → is_le (key_cmp e d) ≡ q → (xs : List Key) → placed_key d (placed_key e xs) ≡ placed_key e (placed_key d xs)
    by true true p q xs = absurd (both p q)
    by true false p q xs = less_case d e p q xs
    by false true p q xs = sym (less_case e d q p xs)
    by false false p q xs = absurd (neither p q)

-- the keys in a leaf's slots
each_key : (P : Key → Type 0) (k : Key) (xs : List Key) → P k → Each P xs → Each P (placed_key k xs)
each_key P k [] p h = (p, tt)
each_key P k (x ∷ xs) p h = by (is_le (key_cmp k x)) (each_key P k xs p h.1)
  where
    by : (b : Bool) → Each P (placed_key k xs) → Each P (cond b (k ∷ x ∷ xs) (x ∷ placed_key k xs))
    by true rec = (p, h)
    by false rec = (h.0, rec)

or_none : (a b : Bool) → (a || b) ≡ false → (a ≡ false) × (b ≡ false)
or_none true b e = absurd (let wrong : true ≡ false = e in cc)
or_none false b e = (refl, e)

not_same : (a b : Key) → same_key a b ≡ false → a ≢ b
not_same a b e same = let w : true ≡ false = sym (itself b) ∙ ap (λ (z : Key). same_key z b) (sym same) ∙ e in cc

other_keys : (cols : List Column) (k : Key) (leaf : Leaf) → holds cols k leaf ≡ false → Each (λ l. l ≢ k) (keys_of cols leaf)
other_keys cols k [] h = tt
other_keys cols k (None ∷ cs) h = other_keys cols k cs h
other_keys cols k (Some r ∷ cs) h =
    let p = or_none (same_key (key_of cols r) k) (holds cols k cs) h in
    each_key (λ l. l ≢ k) (key_of cols r) (keys_of cols cs) (not_same (key_of cols r) k p.0) (other_keys cols k cs p.1)

added_keys : (cols : List Column) (row : List Value) (leaf : Leaf) → holds cols (key_of cols row) leaf ≡ false → keys_of cols (added row leaf) ≡ placed_key (key_of cols row) (keys_of cols leaf)
added_keys cols row [] h = refl
added_keys cols row (None ∷ cs) h = refl
added_keys cols row (Some r ∷ cs) h =
    let p = or_none (same_key (key_of cols r) (key_of cols row)) (holds cols (key_of cols row) cs) h in
    ap (placed_key (key_of cols r)) (added_keys cols row cs p.1) ∙ swap_keys (key_of cols r) (key_of cols row) (keys_of cols cs) (not_same (key_of cols r) (key_of cols row) p.0)

-- a key among keys that ascend and differ from it
pub record Parted (k : Key) (ks : List Key) : Type 0 where
  pub front : List Key
  pub back : List Key
  pub are : ks ≡ front ++ back
  pub placed : placed_key k ks ≡ front ++ k ∷ back
  pub low : Each (λ l. Below l k) front
  pub high : Each (λ l. Below k l) back

above_all : (k l : Key) (ls : List Key) → Below k l → Each (Precedes (Row l)) (map Row ls) → Each (λ m. Below k m) ls
above_all k l [] b e = tt
above_all k l (m ∷ ls) b e = (below_upto k l m b (upto_of l m e.0), above_all k l ls b e.1)

pub parted : (k : Key) (ks : List Key) → Each (λ l. l ≢ k) ks → Ascend (map Row ks) → Parted k ks
parted k [] ne a = record { front = []; back = []; are = refl; placed = refl; low = tt; high = tt }
parted k (l ∷ ls) ne a = by (is_le (key_cmp k l)) refl (parted k ls ne.1 a.1)
  where
    by : (b : Bool) → is_le (key_cmp k l) ≡ b → Parted k ls → Parted k (l ∷ ls)
    by true e rec =
        let less : Below k l = elim (upto_cases k l e) [
          | inl b ↦ b
          | inr same ↦ absurd (ne.0 (sym same))
        ] in
        record { front = []; back = l ∷ ls; are = refl; placed = ap (λ (b : Bool). cond b (k ∷ l ∷ ls) (l ∷ placed_key k ls)) e; low = tt; high = (less, above_all k l ls less a.0) }
    by false e rec = record {
      front = l ∷ rec.front;
      back = rec.back;
      are = ap (λ (x : List Key). l ∷ x) rec.are;
      placed = ap (λ (b : Bool). cond b (k ∷ l ∷ ls) (l ∷ placed_key k ls)) e ∙ ap (λ (x : List Key). l ∷ x) rec.placed;
      low = (above_of k l e, rec.low);
      high = rec.high;
    }

map-rows : (xs ys : List Key) → map Row (xs ++ ys) ≡ map Row xs ++ map Row ys
map-rows [] ys = refl
map-rows (x ∷ xs) ys = ap (λ (l : List Mark). Row x ∷ l) (map-rows xs ys)

low_marks : (k : Key) (ls : List Key) → Each (λ l. Below l k) ls → Each (λ m. Precedes m (Row k)) (map Row ls)
low_marks k [] e = tt
low_marks k (l ∷ ls) e = (e.0, low_marks k ls e.1)

high_marks : (k : Key) (ls : List Key) → Each (λ l. Below k l) ls → Each (Precedes (Row k)) (map Row ls)
high_marks k [] e = tt
high_marks k (l ∷ ls) e = (e.0, high_marks k ls e.1)

-- with the row the marks ascend, whatever stands around them
pub leaf_order : (cols : List Column) (row : List Value) (leaf : Leaf) (xs ys : List Mark) → Ascend (xs ++ (map (row_mark cols) (rows_in_order cols leaf) ++ ys)) → Each (λ m. Precedes m (Row (key_of cols row))) xs → Each (Precedes (Row (key_of cols row))) ys
    → Ascend (xs ++ (map (row_mark cols) (rows_in_order cols (with_row cols row leaf)) ++ ys))
leaf_order cols row leaf xs ys a low high = by (holds cols (key_of cols row) leaf) refl
  where
    old : Ascend (xs ++ (map Row (keys_of cols leaf) ++ ys))
    old = subst (λ (ms : List Mark). Ascend (xs ++ (ms ++ ys))) (marks_are cols leaf) a

    new : (other : Leaf) → Ascend (xs ++ (map Row (keys_of cols other) ++ ys)) → Ascend (xs ++ (map (row_mark cols) (rows_in_order cols other) ++ ys))
    new other h = subst (λ (ms : List Mark). Ascend (xs ++ (ms ++ ys))) (sym (marks_are cols other)) h

    by : (b : Bool) → holds cols (key_of cols row) leaf ≡ b → Ascend (xs ++ (map (row_mark cols) (rows_in_order cols (cond b (changed cols (key_of cols row) (Some row) leaf) (added row leaf))) ++ ys))
    by true e = new (changed cols (key_of cols row) (Some row) leaf) (subst (λ (ks : List Key). Ascend (xs ++ (map Row ks ++ ys))) (sym (same_keys cols row leaf)) old)
    by false e =
        let k : Key = key_of cols row in
        let mid : Ascend (map Row (keys_of cols leaf)) = ascend-left (map Row (keys_of cols leaf)) ys (ascend-right xs (map Row (keys_of cols leaf) ++ ys) old) in
        let p : Parted (key_of cols row) (keys_of cols leaf) = parted (key_of cols row) (keys_of cols leaf) (other_keys cols (key_of cols row) leaf e) mid in
        let two : map Row (keys_of cols leaf) ≡ map Row p.front ++ map Row p.back = ap (map Row) p.are ∙ map-rows p.front p.back in
        let spread : xs ++ (map Row (keys_of cols leaf) ++ ys) ≡ (xs ++ map Row p.front) ++ (map Row p.back ++ ys) =
        ap (λ (ms : List Mark). xs ++ (ms ++ ys)) two ∙ ap (λ (ms : List Mark). xs ++ ms) (append_assoc (map Row p.front) (map Row p.back) ys) ∙ sym (append_assoc xs (map Row p.front) (map Row p.back ++ ys)) in
        let put : Ascend ((xs ++ map Row p.front) ++ Row (key_of cols row) ∷ (map Row p.back ++ ys)) =
        ascend-put (key_of cols row) (xs ++ map Row p.front) (map Row p.back ++ ys) (subst Ascend spread old)
        (each-append (λ m. Precedes m (Row (key_of cols row))) xs (map Row p.front) low (low_marks (key_of cols row) p.front p.low))
        (each-append (Precedes (Row (key_of cols row))) (map Row p.back) ys (high_marks (key_of cols row) p.back p.high) high) in
        let keys : map Row (keys_of cols (added row leaf)) ≡ map Row p.front ++ Row (key_of cols row) ∷ map Row p.back = ap (map Row) (added_keys cols row leaf e ∙ p.placed) ∙ map-rows p.front (key_of cols row ∷ p.back) in
        let back : (xs ++ map Row p.front) ++ Row (key_of cols row) ∷ (map Row p.back ++ ys) ≡ xs ++ (map Row (keys_of cols (added row leaf)) ++ ys) =
        append_assoc xs (map Row p.front) (Row (key_of cols row) ∷ (map Row p.back ++ ys)) ∙ ap (λ (ms : List Mark). xs ++ ms) (sym (append_assoc (map Row p.front) (Row (key_of cols row) ∷ map Row p.back) ys))
        ∙ ap (λ (ms : List Mark). xs ++ (ms ++ ys)) (sym keys) in
        new (added row leaf) (subst Ascend back put)
