-- A row is put into a leaf: it has room, or the leaf's rows are laid on it and on new pages.
use Rattle.std.proofs.Common.{◌≡◌, ◌≢◌, ◌≤◌, ◌+◌, ◌*◌, ℕ, Bool, true, false, cond, List, [], ◌∷◌, ◌++◌, length, map, refl, ap, sym, ◌∙◌, subst, arith, append_assoc, append-nil, ◌⊎◌, inl, inr}
use Rattle.std.specs.Prelude.{Option, None, Some, is_some}
use Rattle.std.specs.List.{flat_map}
use Rattle.std.specs.FinMap as finite
use Rattle.std.specs.Ordering.{is_le}
use Rattle.std.proofs.lemmas.Bool.{leb-true}
use Rattle.page_base.specs.declared.column.Column.{Column}
use Rattle.page_base.specs.declared.numbers.PageId.{PageId}
use Rattle.page_base.specs.declared.value.Value.{Value}
use Rattle.page_base.specs.Order.{key_cmp}
use Rattle.page_base.specs.Pages.{set_at}
use Rattle.page_fmt.specs.Spelling.{used, row_bytes as bytes_in, FitsPage, LastIsFull}
use Rattle.plain_model.specs.Tables.{Rows as Map, key_of}
use Rattle.row_fmt.specs.Rows.{row_bytes}
use Rattle.table_walk.specs.Addresses.{IsTarget}
use Rattle.table_walk.specs.Leaves.{Leaf, cell, rows_in, ByKeys, has, holds, changed, added}
use Rattle.table_walk.proofs.LeafLemmas.{is_there}
use Rattle.tree_laws.specs.Keys.{Key}
use Rattle.tree_laws.specs.Order.{Mark, own}
use Rattle.tree_laws.specs.Order.Mark.{Least, Row}
use Rattle.tree_laws.specs.Parts.{fill, joined, total, AreSmall, Fit}
use Rattle.tree_laws.specs.Puts.{placed_row, rows_in_order, row_size, leaf_of_rows, first_key, with_row, with_sheet, hand_out, lay, put_below}
use Rattle.tree_laws.specs.Sheets.{Entry, Sheet, Stand, Grown, slots_in, fits, leaf_in}
use Rattle.tree_laws.specs.Sheets.Sheet.{Rows}
use Rattle.tree_laws.specs.Trees.{row_mark, marks_of, inside, rows_of}
use Rattle.tree_laws.proofs.HandOut.{claimed_from, claimed_fewer, targets_of, length_claimed, hand_claims, AreMade, IsHanded, handed}
use Rattle.tree_laws.proofs.KeyOrder.{Below as KeyBelow, upto_of}
use Rattle.tree_laws.proofs.LeafOrder.{leaf_order, marks_are}
use Rattle.tree_laws.proofs.LeafRows.{to_sorted, from_sorted, with_row_by_keys}
use Rattle.tree_laws.proofs.Lists.{Each, Precedes, Ascend, each-left, each-right, each-map}
use Rattle.tree_laws.proofs.MarkLemmas.{ascend-part}
use Rattle.tree_laws.proofs.PartLemmas.{joined-fill, fit-fill, fit-whole, fill-three}
use Rattle.tree_laws.proofs.PartsFull.{all_full, some_part}
use Rattle.tree_laws.proofs.Sound.{AreRules, HasLeast, IsEntry, LeastIs, IsLeaf, IsSound, IsFree, IsGrown}
use Rattle.tree_laws.proofs.Totals.{total_order, total_leaf, total_with}
use Rattle.tree_laws.proofs.Times.{times, times_here, times_first, set_same, set_other, Below}

abbrev Rs : Type 0
Rs = List (List Value)

-- ROWS THAT MAY STAND

slot_each : (P : List Value → Type 0) (c : Option (List Value)) (cs : Leaf) → Each P (rows_in (c ∷ cs)) → Each P (rows_in cs)
slot_each P None cs h = h
slot_each P (Some r) cs h = h.1

changed_each : (P : List Value → Type 0) (cols : List Column) (k : Key) (row : List Value) (leaf : Leaf) → P row → Each P (rows_in leaf) → Each P (rows_in (changed cols k (Some row) leaf))
changed_each P cols k row [] p h = tt
changed_each P cols k row (None ∷ cs) p h = changed_each P cols k row cs p h
changed_each P cols k row (Some r ∷ cs) p h = by (has cols k (Some r)) (changed_each P cols k row cs p h.1)
  where
    by : (b : Bool) → Each P (rows_in (changed cols k (Some row) cs)) → Each P (rows_in (cond b (Some row) (Some r) ∷ changed cols k (Some row) cs))
    by true rest = (p, rest)
    by false rest = (h.0, rest)

added_each : (P : List Value → Type 0) (row : List Value) (leaf : Leaf) → P row → Each P (rows_in leaf) → Each P (rows_in (added row leaf))
added_each P row [] p h = (p, tt)
added_each P row (None ∷ cs) p h = (p, h)
added_each P row (Some r ∷ cs) p h = (h.0, added_each P row cs p h.1)

with_row_each : (P : List Value → Type 0) (cols : List Column) (row : List Value) (leaf : Leaf) → P row → Each P (rows_in leaf) → Each P (rows_in (with_row cols row leaf))
with_row_each P cols row leaf p h = by (holds cols (key_of cols row) leaf)
  where
    by : (b : Bool) → Each P (rows_in (cond b (changed cols (key_of cols row) (Some row) leaf) (added row leaf)))
    by true = changed_each P cols (key_of cols row) row leaf p h
    by false = added_each P row leaf p h

placed_each : (P : List Value → Type 0) (cols : List Column) (r : List Value) (rs : Rs) → P r → Each P rs → Each P (placed_row cols r rs)
placed_each P cols r [] p h = (p, tt)
placed_each P cols r (q ∷ rs) p h = by (is_le (key_cmp (key_of cols r) (key_of cols q))) (placed_each P cols r rs p h.1)
  where
    by : (b : Bool) → Each P (placed_row cols r rs) → Each P (cond b (r ∷ q ∷ rs) (q ∷ placed_row cols r rs))
    by true rec = (p, h)
    by false rec = (h.0, rec)

order_each : (P : List Value → Type 0) (cols : List Column) (leaf : Leaf) → Each P (rows_in leaf) → Each P (rows_in_order cols leaf)
order_each P cols [] h = tt
order_each P cols (None ∷ cs) h = order_each P cols cs h
order_each P cols (Some r ∷ cs) h = placed_each P cols r (rows_in_order cols cs) h.0 (order_each P cols cs h.1)

rows_in-some : (rs : Rs) → rows_in (map Some rs) ≡ rs
rows_in-some [] = refl
rows_in-some (r ∷ rs) = ap (λ (l : Rs). r ∷ l) (rows_in-some rs)

-- LAST SLOTS

pub full_cons : (x : List ℕ) (ys : List (List ℕ)) → x ≢ [] → LastIsFull ys → LastIsFull (x ∷ ys)
full_cons x [] h l = h
full_cons x (y ∷ ys) h l = l

last_changed : (cols : List Column) (k : Key) (row : List Value) (leaf : Leaf) → row_bytes row ≢ [] → LastIsFull (map cell leaf) → LastIsFull (map cell (changed cols k (Some row) leaf))
last_changed cols k row [] h l = tt
last_changed cols k row (c ∷ []) h l = by (has cols k c)
  where
    by : (b : Bool) → cell (cond b (Some row) c) ≢ []
    by true = h
    by false = l
last_changed cols k row (c ∷ d ∷ ds) h l = last_changed cols k row (d ∷ ds) h l

last_added : (row : List Value) (leaf : Leaf) → row_bytes row ≢ [] → Each (λ r. row_bytes r ≢ []) (rows_in leaf) → LastIsFull (map cell leaf) → LastIsFull (map cell (added row leaf))
last_added row [] h e l = h
last_added row (None ∷ []) h e l = h
last_added row (None ∷ d ∷ ds) h e l = l
last_added row (Some r ∷ cs) h e l = full_cons (row_bytes r) (map cell (added row cs)) e.0 (last_added row cs h e.1 (tail cs l))
  where
    tail : (cs : Leaf) → LastIsFull (row_bytes r ∷ map cell cs) → LastIsFull (map cell cs)
    tail [] l = tt
    tail (d ∷ ds) l = l

last_with : (cols : List Column) (row : List Value) (leaf : Leaf) → row_bytes row ≢ [] → Each (λ r. row_bytes r ≢ []) (rows_in leaf) → LastIsFull (map cell leaf) → LastIsFull (map cell (with_row cols row leaf))
last_with cols row leaf h e l = by (holds cols (key_of cols row) leaf)
  where
    by : (b : Bool) → LastIsFull (map cell (cond b (changed cols (key_of cols row) (Some row) leaf) (added row leaf)))
    by true = last_changed cols (key_of cols row) row leaf h l
    by false = last_added row leaf h e l

last_rows : (rs : Rs) → Each (λ r. row_bytes r ≢ []) rs → LastIsFull (map cell (map Some rs))
last_rows [] e = tt
last_rows (r ∷ rs) e = full_cons (row_bytes r) (map cell (map Some rs)) e.0 (last_rows rs e.1)

-- SIZES

used_rows : (rs : Rs) → bytes_in (map cell (map Some rs)) + 2 * length (map cell (map Some rs)) ≡ total row_size rs
used_rows [] = omega arith
used_rows (r ∷ rs) = omega (arith, used_rows rs)

small_rows : (rs : Rs) → Each (λ r. row_size r ≤ 8096) rs → AreSmall row_size 8096 rs
small_rows [] e = tt
small_rows (r ∷ rs) e = (e.0, small_rows rs e.1)

fits_rows : (rs : Rs) → total row_size rs ≤ 8096 → Each (λ r. row_bytes r ≢ []) rs → FitsPage (slots_in (leaf_of_rows rs))
fits_rows rs h e = record { small = omega (arith, used_rows rs, h); last = last_rows rs e }

-- ROWS THAT RISE

abbrev RowsRise : List Column → Rs → Type 0
RowsRise cols [] = Unit {0}
RowsRise cols (r ∷ rs) = Each (λ q. KeyBelow (key_of cols r) (key_of cols q)) rs × RowsRise cols rs

rise_one : (cols : List Column) (k : Key) (rs : Rs) → Each (Precedes (Row k)) (map (row_mark cols) rs) → Each (λ q. KeyBelow k (key_of cols q)) rs
rise_one cols k [] e = tt
rise_one cols k (r ∷ rs) e = (e.0, rise_one cols k rs e.1)

rise_of : (cols : List Column) (rs : Rs) → Ascend (map (row_mark cols) rs) → RowsRise cols rs
rise_of cols [] a = tt
rise_of cols (r ∷ rs) a = (rise_one cols (key_of cols r) rs a.0, rise_of cols rs a.1)

rise-left : (cols : List Column) (xs ys : Rs) → RowsRise cols (xs ++ ys) → RowsRise cols xs
rise-left cols [] ys r = tt
rise-left cols (x ∷ xs) ys r = (each-left (λ q. KeyBelow (key_of cols x) (key_of cols q)) xs ys r.0, rise-left cols xs ys r.1)

rise-right : (cols : List Column) (xs ys : Rs) → RowsRise cols (xs ++ ys) → RowsRise cols ys
rise-right cols [] ys r = r
rise-right cols (x ∷ xs) ys r = rise-right cols xs ys r.1

risen_rows : (cols : List Column) (rs : Rs) → RowsRise cols rs → rows_in_order cols (map Some rs) ≡ rs
risen_rows cols [] h = refl
risen_rows cols (r ∷ rs) h = ap (placed_row cols r) (risen_rows cols rs h.1) ∙ first rs h.0
  where
    first : (rs : Rs) → Each (λ q. KeyBelow (key_of cols r) (key_of cols q)) rs → placed_row cols r rs ≡ r ∷ rs
    first [] e = refl
    first (q ∷ rs) e = ap (λ (b : Bool). cond b (r ∷ q ∷ rs) (q ∷ placed_row cols r rs)) (upto_of (key_of cols r) (key_of cols q) e.0)

abbrev PartsRise : List Column → List Rs → Type 0
PartsRise cols ps = Each (RowsRise cols) ps

parts_rise : (cols : List Column) (ps : List Rs) → RowsRise cols (joined ps) → PartsRise cols ps
parts_rise cols [] h = tt
parts_rise cols (p ∷ ps) h = (rise-left cols p (joined ps) h, parts_rise cols ps (rise-right cols p (joined ps) h))

parts_each : (P : List Value → Type 0) (ps : List Rs) → Each P (joined ps) → Each (Each P) ps
parts_each P [] h = tt
parts_each P (p ∷ ps) h = (each-left P p (joined ps) h, parts_each P ps (each-right P p (joined ps) h))

parts_fit : (ps : List Rs) → Fit row_size 8096 ps → Each (λ p. total row_size p ≤ 8096) ps
parts_fit [] f = tt
parts_fit (p ∷ ps) f = (f.0, parts_fit ps f.1)

-- MARKS OF PARTS

abbrev part_marks : List Column → Rs → List Mark
part_marks cols part = own (first_key cols part) ++ map (row_mark cols) part

-- the last of some rows
record EndsIn (cols : List Column) (rs : Rs) : Type 0 where
  front : List Mark
  key : Key
  are : map (row_mark cols) rs ≡ front ++ Row key ∷ []

ends_in : (cols : List Column) (r : List Value) (rs : Rs) → EndsIn cols (r ∷ rs)
ends_in cols r [] = record { front = []; key = key_of cols r; are = refl }
ends_in cols r (q ∷ rs) = let e : EndsIn cols (q ∷ rs) = ends_in cols q rs in record { front = Row (key_of cols r) ∷ e.front; key = e.key; are = ap (λ (l : List Mark). Row (key_of cols r) ∷ l) e.are }

map-marks : (cols : List Column) (xs ys : Rs) → map (row_mark cols) (xs ++ ys) ≡ map (row_mark cols) xs ++ map (row_mark cols) ys
map-marks cols [] ys = refl
map-marks cols (x ∷ xs) ys = ap (λ (l : List Mark). row_mark cols x ∷ l) (map-marks cols xs ys)

-- each part that begins behind a row gets a least key in front
spread : (cols : List Column) (xs : List Mark) (r : Key) (ps : List Rs) (ys : List Mark) → Each (λ p. p ≢ []) ps → Ascend ((xs ++ Row r ∷ []) ++ (map (row_mark cols) (joined ps) ++ ys)) → Ascend ((xs ++ Row r ∷ []) ++ (flat_map (part_marks cols) ps ++ ys))
spread cols xs r [] ys full a = a
spread cols xs r ([] ∷ ps) ys full a = absurd (full.0 refl)
spread cols xs r ((q ∷ qs) ∷ ps) ys full a =
    let k : Key = key_of cols q in
    let e : EndsIn cols (q ∷ qs) = ends_in cols q qs in
    let rest : List Mark = map (row_mark cols) (joined ps) ++ ys in
    let m1 : map (row_mark cols) ((q ∷ qs) ++ joined ps) ++ ys ≡ Row (key_of cols q) ∷ (map (row_mark cols) qs ++ (map (row_mark cols) (joined ps) ++ ys)) =
    ap (λ (l : List Mark). l ++ ys) (map-marks cols (q ∷ qs) (joined ps)) ∙ append_assoc (map (row_mark cols) (q ∷ qs)) (map (row_mark cols) (joined ps)) ys in
    let a1 : Ascend (xs ++ Row r ∷ Row (key_of cols q) ∷ (map (row_mark cols) qs ++ (map (row_mark cols) (joined ps) ++ ys))) =
    subst Ascend (ap (λ (l : List Mark). (xs ++ Row r ∷ []) ++ l) m1 ∙ append_assoc xs (Row r ∷ []) (Row (key_of cols q) ∷ (map (row_mark cols) qs ++ (map (row_mark cols) (joined ps) ++ ys)))) a in
    let a2 : Ascend (xs ++ Row r ∷ Least (key_of cols q) ∷ Row (key_of cols q) ∷ (map (row_mark cols) qs ++ (map (row_mark cols) (joined ps) ++ ys))) = ascend-part xs r (key_of cols q) (map (row_mark cols) qs ++ (map (row_mark cols) (joined ps) ++ ys)) a1 in
    let next : List Mark = xs ++ Row r ∷ Least (key_of cols q) ∷ e.front in
    let regroup : (w : List Mark) → xs ++ Row r ∷ Least (key_of cols q) ∷ (map (row_mark cols) (q ∷ qs) ++ w) ≡ ((xs ++ Row r ∷ Least (key_of cols q) ∷ e.front) ++ Row e.key ∷ []) ++ w =
    λ w. ap (λ (l : List Mark). xs ++ Row r ∷ Least (key_of cols q) ∷ (l ++ w)) e.are
    ∙ sym (ap (λ (l : List Mark). l ++ w) (append_assoc xs (Row r ∷ Least (key_of cols q) ∷ e.front) (Row e.key ∷ [])) ∙ append_assoc xs (Row r ∷ Least (key_of cols q) ∷ (e.front ++ Row e.key ∷ [])) w) in
    let a3 : Ascend (((xs ++ Row r ∷ Least (key_of cols q) ∷ e.front) ++ Row e.key ∷ []) ++ (map (row_mark cols) (joined ps) ++ ys)) = subst Ascend (regroup (map (row_mark cols) (joined ps) ++ ys)) a2 in
    let a4 : Ascend (((xs ++ Row r ∷ Least (key_of cols q) ∷ e.front) ++ Row e.key ∷ []) ++ (flat_map (part_marks cols) ps ++ ys)) = spread cols (xs ++ Row r ∷ Least (key_of cols q) ∷ e.front) e.key ps ys full.1 a3 in
    subst Ascend (sym (regroup (flat_map (part_marks cols) ps ++ ys))
    ∙ ap (λ (l : List Mark). xs ++ Row r ∷ l) (sym (append_assoc (part_marks cols (q ∷ qs)) (flat_map (part_marks cols) ps) ys)) ∙ sym (append_assoc xs (Row r ∷ []) ((part_marks cols (q ∷ qs) ++ flat_map (part_marks cols) ps) ++ ys))) a4

-- the first part stays behind what stands before it
laid_order : (cols : List Column) (xs : List Mark) (p : Rs) (ps : List Rs) (ys : List Mark) → (p ≢ []) ⊎ (ps ≡ []) → Each (λ p. p ≢ []) ps → Ascend (xs ++ (map (row_mark cols) (p ++ joined ps) ++ ys)) → Ascend (xs ++ ((map (row_mark cols) p ++ flat_map (part_marks cols) ps) ++ ys))
laid_order cols xs [] ps ys (inl some) full a = absurd (some refl)
laid_order cols xs [] [] ys (inr none) full a = a
laid_order cols xs [] (q ∷ ps) ys (inr none) full a = absurd (cc)
laid_order cols xs (q ∷ qs) ps ys some full a =
    let e : EndsIn cols (q ∷ qs) = ends_in cols q qs in
    let regroup : (w : List Mark) → xs ++ ((map (row_mark cols) (q ∷ qs) ++ w) ++ ys) ≡ ((xs ++ e.front) ++ Row e.key ∷ []) ++ (w ++ ys) =
    λ w. ap (λ (l : List Mark). xs ++ l) (append_assoc (map (row_mark cols) (q ∷ qs)) w ys ∙ ap (λ (l : List Mark). l ++ (w ++ ys)) e.are)
    ∙ sym (ap (λ (l : List Mark). l ++ (w ++ ys)) (append_assoc xs e.front (Row e.key ∷ [])) ∙ append_assoc xs (e.front ++ Row e.key ∷ []) (w ++ ys)) in
    subst Ascend (sym (regroup (flat_map (part_marks cols) ps)))
    (spread cols (xs ++ e.front) e.key ps ys full (subst Ascend (ap (λ (l : List Mark). xs ++ (l ++ ys)) (map-marks cols (q ∷ qs) (joined ps)) ∙ regroup (map (row_mark cols) (joined ps))) a))

-- PAGES THAT WERE MADE

made_marks : (cols : List Column) (t : PageId → Sheet) (es : List Entry) (ps : List Rs) → AreMade leaf_of_rows (first_key cols) (λ i. record { file = 0; page = 0 }) t es ps → PartsRise cols ps → flat_map (marks_of (inside cols t 0)) es ≡ flat_map (part_marks cols) ps
made_marks cols t [] [] m r = refl
made_marks cols t [] (p ∷ ps) m r = absurd m
made_marks cols t (e ∷ es) [] m r = absurd m
made_marks cols t (e ∷ es) (p ∷ ps) m r =
    let here : inside cols t 0 e.page ≡ map (row_mark cols) p = ap (λ (x : Sheet). map (row_mark cols) (rows_in_order cols (leaf_in x))) m.1 ∙ ap (map (row_mark cols)) (risen_rows cols p r.0) in
    let rest = made_marks cols t es ps m.2 r.1 in
    λ i. (own (m.0 i) ++ here i) ++ rest i

made_rows : (cols : List Column) (t : PageId → Sheet) (es : List Entry) (ps : List Rs) → AreMade leaf_of_rows (first_key cols) (λ i. record { file = 0; page = 0 }) t es ps → PartsRise cols ps → flat_map (λ e. rows_of cols t 0 e.page) es ≡ joined ps
made_rows cols t [] [] m r = refl
made_rows cols t [] (p ∷ ps) m r = absurd m
made_rows cols t (e ∷ es) [] m r = absurd m
made_rows cols t (e ∷ es) (p ∷ ps) m r =
    let here : rows_of cols t 0 e.page ≡ p = ap (λ (x : Sheet). rows_in_order cols (leaf_in x)) m.1 ∙ risen_rows cols p r.0 in
    let rest = made_rows cols t es ps m.2 r.1 in
    λ i. here i ++ rest i

alone : (t : PageId → Sheet) (es : List Entry) → Below t 0 es ≡ map (λ e. e.page) es
alone t [] = refl
alone t (e ∷ es) = ap (λ (l : List PageId). e.page ∷ l) (alone t es)

-- THE LEAF, AND THE PAGES BESIDE IT

first_or_none : (xs p : Rs) (ps : List Rs) → Each (λ r. row_size r ≤ 8096) xs → fill row_size 8096 8096 xs ≡ p ∷ ps → ((p ≢ []) ⊎ (ps ≡ [])) × Each (λ p. p ≢ []) ps
first_or_none [] p ps small e = let same : ps ≡ [] = sym (tail_is e) in (inr same, subst (Each (λ p. p ≢ [])) (sym same) tt)
  where
    tail_is : ◌≡◌ {A = List Rs} ([] ∷ []) (p ∷ ps) → [] ≡ ps
    tail_is e = cc
first_or_none (x ∷ xs) p ps small e =
    let full : Each (λ p. p ≢ []) (p ∷ ps) = subst (Each (λ p. p ≢ [])) e (all_full row_size 8096 8096 x xs small.0) in
    (inl full.0, full.1)

module _ (cols : List Column) (P : List Value → Type 0) (K : Key → Type 0) (R : PageId → Bool) (rules : AreRules cols P K) (claimed : ℕ → PageId) (row : List Value) (good : P row) where
  bytes_each : (rs : Rs) → Each P rs → Each (λ r. row_bytes r ≢ []) rs
  bytes_each rs h = each-map P (λ r. row_bytes r ≢ []) rs (λ r p. rules.some r p) h

  size_each : (rs : Rs) → Each P rs → Each (λ r. row_size r ≤ 8096) rs
  size_each rs h = each-map P (λ r. row_size r ≤ 8096) rs (λ r p. rules.small r p) h

  pub leaf_of : (seen : Bool) (part : Rs) → Each P part → total row_size part ≤ 8096 → IsLeaf P seen (leaf_of_rows part)
  leaf_of seen part each fit = (refl, λ s. fits_rows part fit (bytes_each part each), subst (Each P) (sym (rows_in-some part)) each)

  new_pages : (t : PageId → Sheet) (es : List Entry) (ps : List Rs) → AreMade leaf_of_rows (first_key cols) claimed t es ps → Each (λ e. IsTarget e.page) es → Each (λ p. p ≢ []) ps → Each (Each P) ps → Each (λ p. total row_size p ≤ 8096) ps
      → Each (λ e. IsEntry K e × HasLeast e × IsSound P K R t 0 e.least e.page) es
  new_pages t [] [] m targets full each fit = tt
  new_pages t [] (p ∷ ps) m targets full each fit = absurd m
  new_pages t (e ∷ es) [] m targets full each fit = absurd m
  new_pages t (e ∷ es) ([] ∷ ps) m targets full each fit = absurd (full.0 refl)
  new_pages t (e ∷ es) ((q ∷ qs) ∷ ps) m targets full each fit = (
    (record { target = targets.0; least = subst (LeastIs K) (sym m.0) (rules.key q each.0.0) }, subst (λ (o : Option Key). is_some o ≡ true) (sym m.0) refl, subst (IsLeaf P (R e.page)) (sym m.1) (leaf_of (R e.page) (q ∷ qs) each.0 fit.0)),
    new_pages t es ps m.2 targets.1 full.1 each.1 fit.1,
  )

  module _ (s : Stand) (least : Option Key) (p : PageId) (r : ℕ) (sound : IsSound P K R s.sheets 0 least p) (asc : Ascend (inside cols s.sheets 0 p)) (looked : R p ≡ true) (free : IsFree P K R claimed s.claims r (p ∷ [])) where
    -- the leaf with the row
    abbrev New : Leaf
    New = with_row cols row (leaf_in (s.sheets p))

    new_each : Each P (rows_in New)
    new_each = with_row_each P cols row (leaf_in (s.sheets p)) good sound.2

    new_last : LastIsFull (map cell New)
    new_last =
        last_with cols row (leaf_in (s.sheets p)) (rules.some row good) (bytes_each (rows_in (leaf_in (s.sheets p))) sound.2)
        (subst (λ (x : Sheet). LastIsFull (slots_in x)) sound.0 (sound.1 looked).last)

    new_order : (xs ys : List Mark) → Ascend (xs ++ (inside cols s.sheets 0 p ++ ys)) → Each (λ m. Precedes m (Row (key_of cols row))) xs → Each (Precedes (Row (key_of cols row))) ys → Ascend (xs ++ (map (row_mark cols) (rows_in_order cols New) ++ ys))
    new_order xs ys a low high = leaf_order cols row (leaf_in (s.sheets p)) xs ys a low high

    new_rows : (cs ds : Rs) (m : Map) → ByKeys cols (cs ++ (rows_of cols s.sheets 0 p ++ ds)) m → is_there cols (key_of cols row) cs ≡ false → is_there cols (key_of cols row) ds ≡ false → ByKeys cols (cs ++ (rows_in_order cols New ++ ds)) (finite.insert m (key_of cols row) row)
    new_rows cs ds m a no_cs no_ds =
        to_sorted cols New cs ds (finite.insert m (key_of cols row) row) (with_row_by_keys cols row (leaf_in (s.sheets p)) cs ds m (from_sorted cols (leaf_in (s.sheets p)) cs ds m a) no_cs no_ds)

    new_rise : RowsRise cols (rows_in_order cols New)
    new_rise =
        rise_of cols (rows_in_order cols New) (subst Ascend (append-nil (map (row_mark cols) (rows_in_order cols New)))
        (new_order [] [] (subst Ascend (sym (append-nil (inside cols s.sheets 0 p))) asc) tt tt))

    new_total : total row_size (rows_in_order cols New) ≤ 8096 + 8096 + 1
    new_total =
        let old : bytes_in (map cell (leaf_in (s.sheets p))) + 2 * length (map cell (leaf_in (s.sheets p))) ≤ 8096 = omega (arith, subst (λ (x : Sheet). used (slots_in x) ≤ 8192) sound.0 (sound.1 looked).small) in
        omega (arith, total_order cols New, total_with cols row (leaf_in (s.sheets p)) (subst Ascend (marks_are cols (leaf_in (s.sheets p))) asc), total_leaf (leaf_in (s.sheets p)), old, rules.small row good)

    apart : (q : PageId) → times q (p ∷ []) ≡ 0 → p ≢ q
    apart q none e = let there : 1 ≤ times q (p ∷ []) = subst (λ (x : PageId). 1 ≤ times q (x ∷ [])) (sym e) (times_here q []) in absurd (omega (arith, none, there))

    stays : fits (Rows New) ≡ true → IsGrown P K R cols claimed row 0 s least p (record { stand = with_sheet p (Rows New) s; more = [] })
    stays fit =
        let at : set_at s.sheets p (Rows New) p ≡ Rows New = set_same s.sheets p (Rows New) in
        let small : used (slots_in (Rows New)) ≤ 8192 = leb-true (used (slots_in (Rows New))) 8192 fit in
        let leaf_is : IsLeaf P (R p) (Rows New) = (refl, λ s. record { small = small; last = new_last }, new_each) in
        record {
          used = 0;
          claims = omega arith;
          few = omega arith;
          sound = subst (IsLeaf P (R p)) (sym at) leaf_is;
          new = tt;
          order = λ xs ys a low high. subst (λ (l : List Mark). Ascend (xs ++ (l ++ ys))) (sym (append-nil (inside cols (set_at s.sheets p (Rows New)) 0 p) ∙ ap (λ (x : Sheet). map (row_mark cols) (rows_in_order cols (leaf_in x))) at)) (new_order xs ys a low high);
          rows = λ cs ds m a no_cs no_ds. subst (λ (l : Rs). ByKeys cols (cs ++ (l ++ ds)) (finite.insert m (key_of cols row) row)) (sym (append-nil (rows_of cols (set_at s.sheets p (Rows New)) 0 p) ∙ ap (λ (x : Sheet). rows_in_order cols (leaf_in x)) at)) (new_rows cs ds m a no_cs no_ds);
          pages = λ q. refl;
          others = λ q none claims. set_other s.sheets p q (Rows New) (apart q none);
        }

    laid : (p0 : Rs) (ps : List Rs) → fill row_size 8096 8096 (rows_in_order cols New) ≡ p0 ∷ ps → (hand_out leaf_of_rows (first_key cols) claimed ps (with_sheet p (leaf_of_rows p0) s)).stand.claims ≤ s.claims + r
        → IsGrown P K R cols claimed row 0 s least p (hand_out leaf_of_rows (first_key cols) claimed ps (with_sheet p (leaf_of_rows p0) s))
    laid p0 ps is budget =
        let g : Grown = hand_out leaf_of_rows (first_key cols) claimed ps (with_sheet p (leaf_of_rows p0) s) in
        let few : length ps ≤ r = omega (arith, budget, hand_claims leaf_of_rows (first_key cols) claimed ps (with_sheet p (leaf_of_rows p0) s)) in
        let h : IsHanded leaf_of_rows (first_key cols) claimed ps (with_sheet p (leaf_of_rows p0) s) (hand_out leaf_of_rows (first_key cols) claimed ps (with_sheet p (leaf_of_rows p0) s)) =
        handed leaf_of_rows (first_key cols) claimed ps (with_sheet p (leaf_of_rows p0) s) (λ q. omega (arith, free.once q, claimed_fewer claimed s.claims (length ps) r q few)) in
        let all : p0 ++ joined ps ≡ rows_in_order cols New = ap joined (sym is) ∙ joined-fill row_size 8096 8096 (rows_in_order cols New) in
        let each : Each P (rows_in_order cols New) = order_each P cols New new_each in
        let sizes : Each (λ r. row_size r ≤ 8096) (rows_in_order cols New) = size_each (rows_in_order cols New) each in
        let fit : Fit row_size 8096 (p0 ∷ ps) = subst (Fit row_size 8096) is (fit-whole row_size 8096 (fill row_size 8096 8096 (rows_in_order cols New)) (fit-fill row_size 8096 8096 (rows_in_order cols New) (small_rows (rows_in_order cols New) sizes))) in
        let full = first_or_none (rows_in_order cols New) p0 ps sizes is in
        let rise : PartsRise cols (p0 ∷ ps) = parts_rise cols (p0 ∷ ps) (subst (RowsRise cols) (sym all) new_rise) in
        let eaches : Each (Each P) (p0 ∷ ps) = parts_each P (p0 ∷ ps) (subst (Each P) (sym all) each) in
        let fits_all : Each (λ p. total row_size p ≤ 8096) (p0 ∷ ps) = parts_fit (p0 ∷ ps) fit in
        let none_p : times p (claimed_from claimed s.claims (length ps)) ≡ 0 = omega (arith, free.once p, times_first p [], claimed_fewer claimed s.claims (length ps) r p few) in
        let at : g.stand.sheets p ≡ leaf_of_rows p0 = h.others p none_p ∙ set_same s.sheets p (leaf_of_rows p0) in
        let mine : inside cols g.stand.sheets 0 p ≡ map (row_mark cols) p0 = ap (λ (x : Sheet). map (row_mark cols) (rows_in_order cols (leaf_in x))) at ∙ ap (map (row_mark cols)) (risen_rows cols p0 rise.0) in
        let mine_rows : rows_of cols g.stand.sheets 0 p ≡ p0 = ap (λ (x : Sheet). rows_in_order cols (leaf_in x)) at ∙ risen_rows cols p0 rise.0 in
        let three : length (fill row_size 8096 8096 (rows_in_order cols New)) ≤ 3 = fill-three row_size 8096 8096 (rows_in_order cols New) new_total in
        let theirs = made_marks cols g.stand.sheets g.more ps h.made rise.1 in
        let theirs_rows = made_rows cols g.stand.sheets g.more ps h.made rise.1 in
        record {
          used = length ps;
          claims = h.claims;
          few = omega (arith, length_claimed claimed g.more s.claims (length ps) h.pages, three, ap (λ (l : List Rs). length l) is);
          sound = subst (IsLeaf P (R p)) (sym at) (leaf_of (R p) p0 eaches.0 fits_all.0);
          new = new_pages g.stand.sheets g.more ps h.made (targets_of claimed g.more s.claims (length ps) h.pages (λ i low high. free.targets i low (omega (arith, high, few)))) full.1 eaches.1 fits_all.1;
          order = λ xs ys a low high. subst (λ (l : List Mark). Ascend (xs ++ (l ++ ys))) (λ i. sym mine i ++ sym theirs i)
              (laid_order cols xs p0 ps ys full.0 full.1 (subst (λ (rs : Rs). Ascend (xs ++ (map (row_mark cols) rs ++ ys))) (sym all) (new_order xs ys a low high)));
          rows = λ cs ds m a no_cs no_ds. subst (λ (l : Rs). ByKeys cols (cs ++ (l ++ ds)) (finite.insert m (key_of cols row) row)) (sym all ∙ (λ i. sym mine_rows i ++ sym theirs_rows i)) (new_rows cs ds m a no_cs no_ds);
          pages = λ q. ap (λ (l : List PageId). times q (p ∷ []) + times q l) (alone g.stand.sheets g.more ∙ h.pages);
          others = λ q none claims. h.others q claims ∙ set_other s.sheets p q (leaf_of_rows p0) (apart q none);
        }

    pub leaf_grown : (put_below cols claimed row 0 p s).stand.claims ≤ s.claims + r → IsGrown P K R cols claimed row 0 s least p (put_below cols claimed row 0 p s)
    leaf_grown budget = by (fits (Rows New)) refl budget
      where
        parts : (ps : List Rs) → fill row_size 8096 8096 (rows_in_order cols New) ≡ ps → (lay leaf_of_rows (first_key cols) claimed p ps s).stand.claims ≤ s.claims + r → IsGrown P K R cols claimed row 0 s least p (lay leaf_of_rows (first_key cols) claimed p ps s)
        parts [] is b = absurd (some_part row_size 8096 8096 (rows_in_order cols New) is)
        parts (p0 ∷ ps) is b = laid p0 ps is b

        by : (b : Bool) → fits (Rows New) ≡ b
            → (cond b (record { stand = with_sheet p (Rows New) s; more = [] }) (lay leaf_of_rows (first_key cols) claimed p (fill row_size 8096 8096 (rows_in_order cols New)) s)).stand.claims ≤ s.claims + r
            → IsGrown P K R cols claimed row 0 s least p (cond b (record { stand = with_sheet p (Rows New) s; more = [] }) (lay leaf_of_rows (first_key cols) claimed p (fill row_size 8096 8096 (rows_in_order cols New)) s))
        by true fit b = stays fit
        by false fit b = parts (fill row_size 8096 8096 (rows_in_order cols New)) refl b
