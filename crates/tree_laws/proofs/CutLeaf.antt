-- A leaf without the row of a key: the same other rows in the same order, in no more room.
use Rattle.std.proofs.Common.{◌≡◌, ◌≢◌, ◌≤◌, ◌+◌, ◌*◌, ◌⊎◌, inl, inr, Bool, true, false, cond, List, [], ◌∷◌, ◌++◌, length, map, refl, ap, sym, ◌∙◌, subst, arith, append_assoc}
use Rattle.std.specs.Prelude.{Option, None, Some}
use Rattle.std.specs.FinMap as finite
use Rattle.std.specs.Ordering.{is_le}
use Rattle.page_base.specs.declared.column.Column.{Column}
use Rattle.page_base.specs.declared.value.Value.{Value}
use Rattle.page_base.specs.Order.{key_cmp}
use Rattle.page_fmt.specs.Spelling.{row_bytes as bytes_in, LastIsFull}
use Rattle.plain_model.specs.Tables.{Rows, key_of}
use Rattle.row_fmt.specs.Rows.{row_bytes}
use Rattle.table_walk.specs.Leaves.{Leaf, cell, rows_in, ByKeys, has, holds, before, trimmed, changed}
use Rattle.table_walk.proofs.LeafLemmas.{is_there, OneOf, out, lacks, remove_none, remove_put, rows_in-trimmed, holds_is, changed_none, Found, found}
use Rattle.tree_laws.specs.Keys.{Key}
use Rattle.tree_laws.specs.Order.{Mark, placed_key}
use Rattle.tree_laws.specs.Order.Mark.{Row}
use Rattle.tree_laws.specs.Puts.{rows_in_order}
use Rattle.tree_laws.specs.Trees.{row_mark}
use Rattle.tree_laws.proofs.KeyOrder.{Below, upto_of, upto_below}
use Rattle.tree_laws.proofs.LeafOrder.{keys_of, marks_are}
use Rattle.tree_laws.proofs.LeafRows.{to_sorted, from_sorted, behind, around, no_more}
use Rattle.tree_laws.proofs.LeafStep.{full_cons}
use Rattle.tree_laws.proofs.Lists.{Each, Precedes, Ascend, ascend-left, ascend-right}
use Rattle.tree_laws.proofs.Totals.{ascend_placed}

abbrev Rs : Type 0
Rs = List (List Value)

-- SOME OF THESE, IN THEIR ORDER

abbrev pub IsSub : {X : Type 0} → List X → List X → Type 0
IsSub [] ys = Unit {0}
IsSub (x ∷ xs) [] = ⊥
IsSub (x ∷ xs) (y ∷ ys) = ((x ≡ y) × IsSub xs ys) ⊎ IsSub (x ∷ xs) ys

sub_self : {X : Type 0} (xs : List X) → IsSub xs xs
sub_self [] = tt
sub_self (x ∷ xs) = inl (refl, sub_self xs)

sub_behind : {X : Type 0} (y : X) (xs ys : List X) → IsSub xs ys → IsSub xs (y ∷ ys)
sub_behind y [] ys s = tt
sub_behind y (x ∷ xs) ys s = inr s

sub_under : {X : Type 0} (zs xs ys : List X) → IsSub xs ys → IsSub (zs ++ xs) (zs ++ ys)
sub_under [] xs ys s = s
sub_under (z ∷ zs) xs ys s = inl (refl, sub_under zs xs ys s)

sub_front : {X : Type 0} (xs ys zs : List X) → IsSub xs ys → IsSub (xs ++ zs) (ys ++ zs)
sub_front [] [] zs s = sub_self zs
sub_front [] (y ∷ ys) zs s = sub_behind y zs (ys ++ zs) (sub_front [] ys zs tt)
sub_front (x ∷ xs) [] zs s = absurd s
sub_front (x ∷ xs) (y ∷ ys) zs (inl s) = inl (s.0, sub_front xs ys zs s.1)
sub_front (x ∷ xs) (y ∷ ys) zs (inr s) = inr (sub_front (x ∷ xs) ys zs s)

sub_map : (xs ys : List Key) → IsSub xs ys → IsSub (map Row xs) (map Row ys)
sub_map [] ys s = tt
sub_map (x ∷ xs) [] s = absurd s
sub_map (x ∷ xs) (y ∷ ys) (inl s) = inl (ap Row s.0, sub_map xs ys s.1)
sub_map (x ∷ xs) (y ∷ ys) (inr s) = inr (sub_map (x ∷ xs) ys s)

each_sub : {X : Type 0} (P : X → Type 0) (xs ys : List X) → IsSub xs ys → Each P ys → Each P xs
each_sub P [] ys s h = tt
each_sub P (x ∷ xs) [] s h = absurd s
each_sub P (x ∷ xs) (y ∷ ys) (inl s) h = (subst P (sym s.0) h.0, each_sub P xs ys s.1 h.1)
each_sub P (x ∷ xs) (y ∷ ys) (inr s) h = each_sub P (x ∷ xs) ys s h.1

ascend_sub : (xs ys : List Mark) → IsSub xs ys → Ascend ys → Ascend xs
ascend_sub [] ys s a = tt
ascend_sub (x ∷ xs) [] s a = absurd s
ascend_sub (x ∷ xs) (y ∷ ys) (inl s) a = (each_sub (Precedes x) xs ys s.1 (subst (λ (z : Mark). Each (Precedes z) ys) (sym s.0) a.0), ascend_sub xs ys s.1 a.1)
ascend_sub (x ∷ xs) (y ∷ ys) (inr s) a = ascend_sub (x ∷ xs) ys s a.1

-- KEYS IN ORDER

one_placed : (k : Key) (ks : List Key) → IsSub (k ∷ []) (placed_key k ks)
one_placed k [] = inl (refl, tt)
one_placed k (l ∷ ls) = by (is_le (key_cmp k l)) (one_placed k ls)
  where
    by : (b : Bool) → IsSub (k ∷ []) (placed_key k ls) → IsSub (k ∷ []) (cond b (k ∷ l ∷ ls) (l ∷ placed_key k ls))
    by true rec = inl (refl, tt)
    by false rec = inr rec

sub_placed : (k : Key) (xs ks : List Key) → IsSub xs ks → IsSub xs (placed_key k ks)
sub_placed k xs [] s = sub_behind k xs [] s
sub_placed k [] (l ∷ ls) s = tt
sub_placed k (x ∷ xs) (l ∷ ls) s = by (is_le (key_cmp k l)) (λ t. sub_placed k xs ls t) (λ t. sub_placed k (x ∷ xs) ls t) s
  where
    by : (b : Bool) → (IsSub xs ls → IsSub xs (placed_key k ls)) → (IsSub (x ∷ xs) ls → IsSub (x ∷ xs) (placed_key k ls)) → ((x ≡ l) × IsSub xs ls) ⊎ IsSub (x ∷ xs) ls → IsSub (x ∷ xs) (cond b (k ∷ l ∷ ls) (l ∷ placed_key k ls))
    by true one two s = inr s
    by false one two (inl s) = inl (s.0, one s.1)
    by false one two (inr s) = inr (two s)

-- a key takes its place among some of other keys as it does among those
placed_sub : (k : Key) (xs ks : List Key) → Ascend (map Row ks) → IsSub xs ks → IsSub (placed_key k xs) (placed_key k ks)
placed_sub k [] ks a s = one_placed k ks
placed_sub k (x ∷ xs) [] a s = absurd s
placed_sub k (x ∷ xs) (l ∷ ls) a s = by (is_le (key_cmp k l)) refl (λ t. placed_sub k xs ls a.1 t) (λ t. placed_sub k (x ∷ xs) ls a.1 t) s
  where
    later : (ls : List Key) → Each (Precedes (Row l)) (map Row ls) → Each (Below l) ls
    later [] h = tt
    later (m ∷ ms) h = (h.0, later ms h.1)

    by : (b : Bool) → is_le (key_cmp k l) ≡ b → (IsSub xs ls → IsSub (placed_key k xs) (placed_key k ls)) → (IsSub (x ∷ xs) ls → IsSub (placed_key k (x ∷ xs)) (placed_key k ls)) → ((x ≡ l) × IsSub xs ls) ⊎ IsSub (x ∷ xs) ls
        → IsSub (placed_key k (x ∷ xs)) (cond b (k ∷ l ∷ ls) (l ∷ placed_key k ls))
    by true e one two (inl s) =
        subst (λ (z : List Key). IsSub z (k ∷ l ∷ ls)) (sym (ap (λ (t : Bool). cond t (k ∷ x ∷ xs) (x ∷ placed_key k xs)) (ap (λ (z : Key). is_le (key_cmp k z)) s.0 ∙ e))) (inl (refl, inl (s.0, s.1)))
    by true e one two (inr s) =
        let over : Below l x = (each_sub (Below l) (x ∷ xs) ls s (later ls a.0)).0 in
        let up : is_le (key_cmp k x) ≡ true = upto_of k x (upto_below k l x e over) in
        subst (λ (z : List Key). IsSub z (k ∷ l ∷ ls)) (sym (ap (λ (t : Bool). cond t (k ∷ x ∷ xs) (x ∷ placed_key k xs)) up)) (inl (refl, inr s))
    by false e one two (inl s) =
        subst (λ (z : List Key). IsSub z (l ∷ placed_key k ls)) (sym (ap (λ (t : Bool). cond t (k ∷ x ∷ xs) (x ∷ placed_key k xs)) (ap (λ (z : Key). is_le (key_cmp k z)) s.0 ∙ e))) (inl (s.0, one s.1))
    by false e one two (inr s) = sub_behind l (placed_key k (x ∷ xs)) (placed_key k ls) (two s)

cut_keys : (cols : List Column) (k : Key) (leaf : Leaf) → Ascend (map Row (keys_of cols leaf)) → IsSub (keys_of cols (changed cols k None leaf)) (keys_of cols leaf)
cut_keys cols k [] a = tt
cut_keys cols k (None ∷ cs) a = cut_keys cols k cs a
cut_keys cols k (Some r ∷ cs) a = by (has cols k (Some r)) (cut_keys cols k cs rest)
  where
    rest : Ascend (map Row (keys_of cols cs))
    rest = (ascend_placed (key_of cols r) (keys_of cols cs) a).1

    by : (b : Bool) → IsSub (keys_of cols (changed cols k None cs)) (keys_of cols cs) → IsSub (keys_of cols (cond b None (Some r) ∷ changed cols k None cs)) (placed_key (key_of cols r) (keys_of cols cs))
    by true s = sub_placed (key_of cols r) (keys_of cols (changed cols k None cs)) (keys_of cols cs) s
    by false s = placed_sub (key_of cols r) (keys_of cols (changed cols k None cs)) (keys_of cols cs) rest s

trimmed_keys : (cols : List Column) (leaf : Leaf) → keys_of cols (trimmed leaf) ≡ keys_of cols leaf
trimmed_keys cols [] = refl
trimmed_keys cols (c ∷ cs) = first c (trimmed cs) ∙ rest c (trimmed_keys cols cs)
  where
    first : (c : Option (List Value)) (ds : Leaf) → keys_of cols (before c ds) ≡ keys_of cols (c ∷ ds)
    first None [] = refl
    first None (d ∷ ds) = refl
    first (Some r) ds = refl

    rest : (c : Option (List Value)) → keys_of cols (trimmed cs) ≡ keys_of cols cs → keys_of cols (c ∷ trimmed cs) ≡ keys_of cols (c ∷ cs)
    rest None e = e
    rest (Some r) e = ap (placed_key (key_of cols r)) e

-- the leaf without the row of a key
abbrev pub without : List Column → Key → Leaf → Leaf
without cols k leaf = trimmed (changed cols k None leaf)

pub cut_order : (cols : List Column) (k : Key) (leaf : Leaf) (xs ys : List Mark) → Ascend (xs ++ (map (row_mark cols) (rows_in_order cols leaf) ++ ys)) → Ascend (xs ++ (map (row_mark cols) (rows_in_order cols (without cols k leaf)) ++ ys))
cut_order cols k leaf xs ys a =
    let old : Ascend (xs ++ (map Row (keys_of cols leaf) ++ ys)) = subst (λ (ms : List Mark). Ascend (xs ++ (ms ++ ys))) (marks_are cols leaf) a in
    let mid : Ascend (map Row (keys_of cols leaf)) = ascend-left (map Row (keys_of cols leaf)) ys (ascend-right xs (map Row (keys_of cols leaf) ++ ys) old) in
    let keys : keys_of cols (without cols k leaf) ≡ keys_of cols (changed cols k None leaf) = trimmed_keys cols (changed cols k None leaf) in
    let sub : IsSub (map Row (keys_of cols (without cols k leaf))) (map Row (keys_of cols leaf)) =
    sub_map (keys_of cols (without cols k leaf)) (keys_of cols leaf) (subst (λ (z : List Key). IsSub z (keys_of cols leaf)) (sym keys) (cut_keys cols k leaf mid)) in
    subst (λ (ms : List Mark). Ascend (xs ++ (ms ++ ys))) (sym (marks_are cols (without cols k leaf)))
    (ascend_sub (xs ++ (map Row (keys_of cols (without cols k leaf)) ++ ys)) (xs ++ (map Row (keys_of cols leaf) ++ ys))
    (sub_under xs (map Row (keys_of cols (without cols k leaf)) ++ ys) (map Row (keys_of cols leaf) ++ ys) (sub_front (map Row (keys_of cols (without cols k leaf))) (map Row (keys_of cols leaf)) ys sub)) old)

-- ROWS

pub cut_rows : (cols : List Column) (k : Key) (leaf : Leaf) (cs ds : Rs) (m : Rows) → ByKeys cols (cs ++ (rows_in_order cols leaf ++ ds)) m → is_there cols k cs ≡ false → is_there cols k ds ≡ false
    → ByKeys cols (cs ++ (rows_in_order cols (without cols k leaf) ++ ds)) (finite.remove m k)
cut_rows cols k leaf cs ds m sorted no_cs no_ds = to_sorted cols (without cols k leaf) cs ds (finite.remove m k) (by (holds cols k leaf) refl)
  where
    a : ByKeys cols (cs ++ (rows_in leaf ++ ds)) m
    a = from_sorted cols leaf cs ds m sorted

    by : (b : Bool) → holds cols k leaf ≡ b → ByKeys cols (cs ++ (rows_in (without cols k leaf) ++ ds)) (finite.remove m k)
    by true e =
        let part = behind cols cs (rows_in leaf ++ ds) m a in
        let f : Found cols k leaf = found cols k leaf ds part.0 part.1 (sym (holds_is cols k leaf) ∙ e) in
        let o : OneOf cols (cs ++ f.front) f.row (f.back ++ ds) m = out cols (cs ++ f.front) f.row (f.back ++ ds) m (subst (λ (l : Rs). ByKeys cols l m) (ap (λ (l : Rs). cs ++ (l ++ ds)) f.is ∙ around cs f.front f.back ds f.row) a) in
        let gone : finite.remove m k ≡ o.rest = (λ i. finite.remove (o.all i) (sym f.key i)) ∙ remove_put o.rest (key_of cols f.row) f.row o.new in
        let left : rows_in (without cols k leaf) ≡ f.front ++ f.back = rows_in-trimmed (changed cols k None leaf) ∙ f.cut in
        subst (λ (l : Rs). ByKeys cols l (finite.remove m k)) (sym (ap (λ (l : Rs). cs ++ (l ++ ds)) left ∙ simp append_assoc)) (subst (ByKeys cols ((cs ++ f.front) ++ (f.back ++ ds))) (sym gone) o.others)
    by false e =
        let none : is_there cols k (rows_in leaf) ≡ false = sym (holds_is cols k leaf) ∙ e in
        let left : rows_in (without cols k leaf) ≡ rows_in leaf = rows_in-trimmed (changed cols k None leaf) ∙ ap rows_in (changed_none cols k None leaf none) in
        let same : finite.remove m k ≡ m = remove_none m k (lacks cols (cs ++ (rows_in leaf ++ ds)) m k a (no_more cols k cs (rows_in leaf ++ ds) no_cs (no_more cols k (rows_in leaf) ds none no_ds))) in
        subst (λ (l : Rs). ByKeys cols (cs ++ (l ++ ds)) (finite.remove m k)) (sym left) (subst (ByKeys cols (cs ++ (rows_in leaf ++ ds))) (sym same) a)

pub cut_each : (P : List Value → Type 0) (cols : List Column) (k : Key) (leaf : Leaf) → Each P (rows_in leaf) → Each P (rows_in (without cols k leaf))
cut_each P cols k leaf h = subst (Each P) (sym (rows_in-trimmed (changed cols k None leaf))) (kept leaf h)
  where
    kept : (leaf : Leaf) → Each P (rows_in leaf) → Each P (rows_in (changed cols k None leaf))
    kept [] h = tt
    kept (None ∷ cs) h = kept cs h
    kept (Some r ∷ cs) h = by (has cols k (Some r)) (kept cs h.1)
      where
        by : (b : Bool) → Each P (rows_in (changed cols k None cs)) → Each P (rows_in (cond b None (Some r) ∷ changed cols k None cs))
        by true rest = rest
        by false rest = (h.0, rest)

-- ROOM

less_changed : (cols : List Column) (k : Key) (leaf : Leaf) → bytes_in (map cell (changed cols k None leaf)) + 2 * length (map cell (changed cols k None leaf)) ≤ bytes_in (map cell leaf) + 2 * length (map cell leaf)
less_changed cols k [] = omega arith
less_changed cols k (c ∷ cs) = by (has cols k c) (less_changed cols k cs)
  where
    by : (b : Bool) → bytes_in (map cell (changed cols k None cs)) + 2 * length (map cell (changed cols k None cs)) ≤ bytes_in (map cell cs) + 2 * length (map cell cs)
        → bytes_in (map cell (cond b None c ∷ changed cols k None cs)) + 2 * length (map cell (cond b None c ∷ changed cols k None cs)) ≤ bytes_in (map cell (c ∷ cs)) + 2 * length (map cell (c ∷ cs))
    by true rec = omega (arith, rec)
    by false rec = omega (arith, rec)

less_trimmed : (leaf : Leaf) → bytes_in (map cell (trimmed leaf)) + 2 * length (map cell (trimmed leaf)) ≤ bytes_in (map cell leaf) + 2 * length (map cell leaf)
less_trimmed [] = omega arith
less_trimmed (c ∷ cs) = first c (trimmed cs) (less_trimmed cs)
  where
    first : (c : Option (List Value)) (ds : Leaf) → bytes_in (map cell ds) + 2 * length (map cell ds) ≤ bytes_in (map cell cs) + 2 * length (map cell cs)
        → bytes_in (map cell (before c ds)) + 2 * length (map cell (before c ds)) ≤ bytes_in (map cell (c ∷ cs)) + 2 * length (map cell (c ∷ cs))
    first None [] e = omega (arith, e)
    first None (d ∷ ds) e = omega (arith, e)
    first (Some r) ds e = omega (arith, e)

pub cut_room : (cols : List Column) (k : Key) (leaf : Leaf) → bytes_in (map cell (without cols k leaf)) + 2 * length (map cell (without cols k leaf)) ≤ bytes_in (map cell leaf) + 2 * length (map cell leaf)
cut_room cols k leaf = omega (arith, less_trimmed (changed cols k None leaf), less_changed cols k leaf)

pub last_trimmed : (leaf : Leaf) → Each (λ r. row_bytes r ≢ []) (rows_in leaf) → LastIsFull (map cell (trimmed leaf))
last_trimmed [] h = tt
last_trimmed (None ∷ cs) h = empty (trimmed cs) (last_trimmed cs h)
  where
    empty : (ds : Leaf) → LastIsFull (map cell ds) → LastIsFull (map cell (before None ds))
    empty [] l = tt
    empty (d ∷ ds) l = l
last_trimmed (Some r ∷ cs) h = full_cons (row_bytes r) (map cell (trimmed cs)) h.0 (last_trimmed cs h.1)
