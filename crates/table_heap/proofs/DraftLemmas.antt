-- A draft after a key is cut, and after a row is put.
use Rattle.std.proofs.Common.{refl, ◌≡◌, ◌≢◌, ℕ, zero, suc, ◌+◌, ◌<◌, ◌≤◌, Bool, true, false, cond, List, [], ◌∷◌, ◌++◌, length, get_or, set, map, ap, sym, ◌∙◌, subst, arith, inl, inr, ◌⊎◌, ◌↔◌}
use Rattle.std.specs.Prelude.{Option, Some, None}
use Rattle.std.specs.FinMap as finite
use Rattle.std.specs.FinMap.{get-insert, get-remove, get-empty}
use Rattle.std.proofs.lemmas.Bool.{cases_eq}
use Rattle.std.proofs.lemmas.List.{map-set, length-map, map-append}
use Rattle.page_base.specs.declared.column.Column.{Column}
use Rattle.page_base.specs.Order.{key_cmp}
use Rattle.page_base.proofs.Ordered.{key_cmp_total}
use Rattle.page_fmt.specs.Edits.{set_slot, cleared}
use Rattle.page_fmt.specs.Edits as slots
use Rattle.page_fmt.specs.Spelling.{used}
use Rattle.plain_model.specs.Tables.{key_of}
use Rattle.row_fmt.specs.Rows.{row_bytes, null_bytes, IsRow}
use Rattle.row_fmt.proofs.RowLemmas.{length-fits, one_row}
use Rattle.row_fmt.proofs.SizeLemmas.{row_size}
use Rattle.table_walk.proofs.RowsLemmas.{Key, same_key, ties, itself, no_Some, same_Some}
use Rattle.table_heap.specs.declared.places.Place.{Place}
use Rattle.table_heap.specs.Leaves.{Leaf, cell, slots_of, fits, trimmed, cut, cut_keys, has_room, swap, added, add, put, put_rows}
use Rattle.table_walk.specs.Tables.{MayPut}
use Rattle.table_heap.specs.Places.{IsFirstEmpty, IsKeyAt, IsDraft, IsPlaceFor, LacksRoom, AreRows, AreApart, IsSoFar, IsBefore, Index, row_at}
use Rattle.table_heap.proofs.PlaceLemmas.{Row, Updates, IsFull, OnlyAt, NoneAt, AddsAt, cell_at, slots_set, slots_trimmed, within, cut_is, cut_none, cut_updates, swap_is, swap_updates, room_is, room_none, added_is, add_is, add_last, set_leaf, leaf_within, more_at, fits_true, fits_false}
use Rattle.table_heap.proofs.SlotsLemmas.{set_within}

-- THE INDEX

get_put : (m : Index) (k : Key) (p : Place) (q : Key) → finite.get (finite.insert m k p) q ≡ cond (same_key q k) (Some p) (finite.get m q)
get_put = get-insert key_cmp_total

get_cut : (m : Index) (k q : Key) → finite.get (finite.remove m k) q ≡ cond (same_key q k) None (finite.get m q)
get_cut = get-remove key_cmp_total

place_is : (p q : Place) → p.leaf ≡ q.leaf → p.slot ≡ q.slot → p ≡ q
place_is p q e f = λ i. record { leaf = e i; slot = f i }

same_place : (p q : Place) → (p ≡ q) ⊎ ((p.leaf ≢ q.leaf) ⊎ (p.slot ≢ q.slot))
same_place p q = elim (cases_eq p.leaf q.leaf) [
  | inr ne ↦ inr (inl ne)
  | inl e ↦ elim (cases_eq p.slot q.slot) [ inl f ↦ inl (place_is p q e f) | inr ne ↦ inr (inr ne) ]
]

abbrev pub Indexes : List Column → List Leaf → Index → Type 0
Indexes cols leaves index = (key : Key) (p : Place) → (finite.get index key ≡ Some p) ↔ IsKeyAt cols leaves key p

-- a key stands at one place
one_key : (cols : List Column) (leaves : List Leaf) (k l : Key) (p : Place) → IsKeyAt cols leaves k p → IsKeyAt cols leaves l p → k ≡ l
one_key cols leaves k l p a b = sym a.key_is ∙ ap (key_of cols) (same_Some a.row b.row (sym a.at ∙ b.at)) ∙ b.key_is

kept : (cols : List Column) (old new : List Leaf) (p q : Place) (to : Option Row) (k : Key) → Updates (row_at old) (row_at new) p.leaf p.slot to → (q.leaf ≢ p.leaf) ⊎ (q.slot ≢ p.slot) → IsKeyAt cols old k q → IsKeyAt cols new k q
kept cols old new p q to k u ne a = record { row = a.row; at = u.others q.leaf q.slot ne ∙ a.at; key_is = a.key_is }

was : (cols : List Column) (old new : List Leaf) (p q : Place) (to : Option Row) (k : Key) → Updates (row_at old) (row_at new) p.leaf p.slot to → (q.leaf ≢ p.leaf) ⊎ (q.slot ≢ p.slot) → IsKeyAt cols new k q → IsKeyAt cols old k q
was cols old new p q to k u ne a = record { row = a.row; at = sym (u.others q.leaf q.slot ne) ∙ a.at; key_is = a.key_is }

moved : (cols : List Column) (leaves : List Leaf) (k : Key) (p q : Place) → q ≡ p → IsKeyAt cols leaves k q → IsKeyAt cols leaves k p
moved cols leaves k p q e a = subst (IsKeyAt cols leaves k) e a

index_cut : (cols : List Column) (old new : List Leaf) (index : Index) (key : Key) (p : Place) → Indexes cols old index → finite.get index key ≡ Some p → Updates (row_at old) (row_at new) p.leaf p.slot None → Indexes cols new (finite.remove index key)
index_cut cols old new index key p ix here u k q = (there, back)
  where
    there : finite.get (finite.remove index key) k ≡ Some q → IsKeyAt cols new k q
    there e = by (same_key k key) refl (sym (get_cut index key k) ∙ e)
      where
        by : (b : Bool) → same_key k key ≡ b → cond b None (finite.get index k) ≡ Some q → IsKeyAt cols new k q
        by true f g = no_Some q (sym g)
        by false f g =
            let a : IsKeyAt cols old k q = (ix k q).0 g in
            elim (same_place q p) [
              | inl e ↦
                  let same : k ≡ key = one_key cols old k key p (moved cols old k p q e a) ((ix key p).0 here) in
                  let yes : same_key k key ≡ true = ap (λ (x : Key). same_key x key) same ∙ itself key in
                  let wrong : true ≡ false = sym yes ∙ f in
                  cc
              | inr ne ↦ kept cols old new p q None k u ne a
            ]

    back : IsKeyAt cols new k q → finite.get (finite.remove index key) k ≡ Some q
    back a = elim (same_place q p) [
      | inl e ↦ let b = moved cols new k p q e a in no_Some b.row (sym b.at ∙ u.here)
      | inr ne ↦ by ne (same_key k key) refl
    ]
      where
        by : (q.leaf ≢ p.leaf) ⊎ (q.slot ≢ p.slot) → (b : Bool) → same_key k key ≡ b → finite.get (finite.remove index key) k ≡ Some q
        by ne true f =
            let has : finite.get index k ≡ Some q = (ix k q).1 (was cols old new p q None k u ne a) in
            let same : q ≡ p = same_Some q p (sym has ∙ ap (finite.get index) (ties k key f) ∙ here) in
            elim ne [ inl n ↦ absurd (n (ap (λ (x : Place). x.leaf) same)) | inr n ↦ absurd (n (ap (λ (x : Place). x.slot) same)) ]
        by ne false f = get_cut index key k ∙ ap (λ b. cond b None (finite.get index k)) f ∙ (ix k q).1 (was cols old new p q None k u ne a)

index_put : (cols : List Column) (old new : List Leaf) (index : Index) (row : Row) (p : Place) → Indexes cols old index → finite.get index (key_of cols row) ≡ Some p → Updates (row_at old) (row_at new) p.leaf p.slot (Some row) → Indexes cols new index
index_put cols old new index row p ix here u k q = (there, back)
  where
    new_here : IsKeyAt cols new (key_of cols row) p
    new_here = record { row = row; at = u.here; key_is = refl }

    there : finite.get index k ≡ Some q → IsKeyAt cols new k q
    there g =
        let a : IsKeyAt cols old k q = (ix k q).0 g in
        elim (same_place q p) [
          | inl e ↦
              let same : k ≡ key_of cols row = one_key cols old k (key_of cols row) p (moved cols old k p q e a) ((ix (key_of cols row) p).0 here) in
              subst (λ (x : Key). IsKeyAt cols new x q) (sym same) (subst (IsKeyAt cols new (key_of cols row)) (sym e) new_here)
          | inr ne ↦ kept cols old new p q (Some row) k u ne a
        ]

    back : IsKeyAt cols new k q → finite.get index k ≡ Some q
    back a = elim (same_place q p) [
      | inl e ↦ ap (finite.get index) (one_key cols new k (key_of cols row) p (moved cols new k p q e a) new_here) ∙ here ∙ ap Some (sym e)
      | inr ne ↦ (ix k q).1 (was cols old new p q (Some row) k u ne a)
    ]

index_add : (cols : List Column) (old new : List Leaf) (index : Index) (row : Row) (p : Place) → Indexes cols old index → finite.get index (key_of cols row) ≡ None → row_at old p.leaf p.slot ≡ None → Updates (row_at old) (row_at new) p.leaf p.slot (Some row)
    → Indexes cols new (finite.insert index (key_of cols row) p)
index_add cols old new index row p ix none empty u k q = (there, back)
  where
    key : Key
    key = key_of cols row

    new_here : IsKeyAt cols new (key_of cols row) p
    new_here = record { row = row; at = u.here; key_is = refl }

    there : finite.get (finite.insert index (key_of cols row) p) k ≡ Some q → IsKeyAt cols new k q
    there e = by (same_key k (key_of cols row)) refl (sym (get_put index (key_of cols row) p k) ∙ e)
      where
        by : (b : Bool) → same_key k (key_of cols row) ≡ b → cond b (Some p) (finite.get index k) ≡ Some q → IsKeyAt cols new k q
        by true f g = subst (λ (x : Key). IsKeyAt cols new x q) (sym (ties k (key_of cols row) f)) (subst (IsKeyAt cols new (key_of cols row)) (same_Some p q g) new_here)
        by false f g =
            let a : IsKeyAt cols old k q = (ix k q).0 g in
            elim (same_place q p) [
              | inl e ↦ let b = moved cols old k p q e a in no_Some b.row (sym b.at ∙ empty)
              | inr ne ↦ kept cols old new p q (Some row) k u ne a
            ]

    back : IsKeyAt cols new k q → finite.get (finite.insert index (key_of cols row) p) k ≡ Some q
    back a = elim (same_place q p) [
      | inl e ↦
          let same : k ≡ key_of cols row = one_key cols new k (key_of cols row) p (moved cols new k p q e a) new_here in
          get_put index (key_of cols row) p k ∙ ap (λ b. cond b (Some p) (finite.get index k)) (ap (λ (x : Key). same_key x (key_of cols row)) same ∙ itself (key_of cols row)) ∙ ap Some (sym e)
      | inr ne ↦ by ne (same_key k (key_of cols row)) refl
    ]
      where
        by : (q.leaf ≢ p.leaf) ⊎ (q.slot ≢ p.slot) → (b : Bool) → same_key k (key_of cols row) ≡ b → finite.get (finite.insert index (key_of cols row) p) k ≡ Some q
        by ne true f =
            let has : finite.get index k ≡ Some q = (ix k q).1 (was cols old new p q (Some row) k u ne a) in
            no_Some q (sym has ∙ ap (finite.get index) (ties k (key_of cols row) f) ∙ none)
        by ne false f = get_put index (key_of cols row) p k ∙ ap (λ b. cond b (Some p) (finite.get index k)) f ∙ (ix k q).1 (was cols old new p q (Some row) k u ne a)

-- THE ROWS

rows_updated : (cols : List Column) (old new : List Leaf) (i j : ℕ) (to : Option Row) → AreRows cols old → Updates (row_at old) (row_at new) i j to → ((row : Row) → to ≡ Some row → MayPut cols row) → AreRows cols new
rows_updated cols old new i j to rows u may k l row e =
    elim (cases_eq k i) [
      | inr ne ↦ rows k l row (sym (u.others k l (inl ne)) ∙ e)
      | inl f ↦ elim (cases_eq l j) [
        | inr ne ↦ rows k l row (sym (u.others k l (inr ne)) ∙ e)
        | inl g ↦ may row (sym u.here ∙ (λ x. row_at new (sym f x) (sym g x)) ∙ e)
      ]
    ]

-- the bytes of a row are not none
pub row_some : (cols : List Column) (row : Row) → MayPut cols row → row_bytes row ≢ []
row_some cols row may none =
    let size = row_size row in
    let long = length-fits cols row may.of.fits in
    let zero : length (row_bytes row) ≡ 0 = ap length none in
    absurd (some row may.some (omega arith))
  where
    some : (row : Row) → row ≢ [] → null_bytes (length row) ≡ 0 → ⊥
    some [] ne e = ne refl
    some (v ∷ vs) ne e = omega arith

full_leaf : (cols : List Column) (leaves : List Leaf) (i : ℕ) → AreRows cols leaves → IsFull (get_or leaves i [])
full_leaf cols leaves i rows j row e = row_some cols row (rows i j row e)

pub map_at : (leaves : List Leaf) (i : ℕ) → get_or (map slots_of leaves) i [] ≡ slots_of (get_or leaves i [])
map_at [] i = refl
map_at (l ∷ ls) zero = refl
map_at (l ∷ ls) (suc i) = map_at ls i

-- ONE KEY CUT

key_only : (cols : List Column) (leaves : List Leaf) (index : Index) (key : Key) (p : Place) → Indexes cols leaves index → finite.get index key ≡ Some p → OnlyAt cols key leaves p.leaf p.slot
key_only cols leaves index key p ix here =
    let a : IsKeyAt cols leaves key p = (ix key p).0 here in
    record {
      row = a.row;
      at = a.at;
      key_is = a.key_is;
      only = λ k l other e f.
          let q : Place = record { leaf = k; slot = l } in
          let has : finite.get index key ≡ Some q = (ix key q).1 (record { row = other; at = e; key_is = f }) in
          let same : q ≡ p = same_Some q p (sym has ∙ here) in
          (ap (λ (x : Place). x.leaf) same, ap (λ (x : Place). x.slot) same);
    }

key_none : (cols : List Column) (leaves : List Leaf) (index : Index) (key : Key) → Indexes cols leaves index → finite.get index key ≡ None → NoneAt cols key leaves
key_none cols leaves index key ix none k l other e f =
    let q : Place = record { leaf = k; slot = l } in
    no_Some q (sym ((ix key q).1 (record { row = other; at = e; key_is = f })) ∙ none)

pub cut_draft : (cols : List Column) (leaves : List Leaf) (old new : List (List (List ℕ))) (index : Index) (key : Key) (p : Place) → IsDraft cols leaves old index → finite.get index key ≡ Some p → new ≡ set old p.leaf (cleared (get_or old p.leaf []) p.slot)
    → IsDraft cols (cut cols key leaves) new (finite.remove index key)
cut_draft cols leaves old new index key p d here made =
    let o : OnlyAt cols key leaves p.leaf p.slot = key_only cols leaves index key p d.index_is here in
    let u = cut_updates cols key leaves p.leaf p.slot o in
    let leaf : Leaf = get_or leaves p.leaf [] in
    let full : IsFull (set leaf p.slot None) = full_set leaf p.slot (full_leaf cols leaves p.leaf d.rows) in
    let slots_are : slots_of (trimmed (set leaf p.slot None)) ≡ cleared (slots_of leaf) p.slot = slots_trimmed (set leaf p.slot None) full ∙ ap slots.trimmed (slots_set leaf p.slot None) in
    let was : get_or old p.leaf [] ≡ slots_of leaf = ap (λ (s : List (List (List ℕ))). get_or s p.leaf []) d.are ∙ map_at leaves p.leaf in
    record {
      are = made ∙ (λ i. set (d.are i) p.leaf (cleared (was i) p.slot)) ∙ ap (set (map slots_of leaves) p.leaf) (sym slots_are) ∙ sym (map-set slots_of leaves p.leaf (trimmed (set leaf p.slot None))) ∙ ap (map slots_of) (sym (cut_is cols key leaves p.leaf p.slot o));
      rows = rows_updated cols leaves (cut cols key leaves) p.leaf p.slot None d.rows u (λ row e. no_Some row (sym e));
      index_is = index_cut cols leaves (cut cols key leaves) index key p d.index_is here u;
    }
  where
    full_set : (leaf : Leaf) (j : ℕ) → IsFull leaf → IsFull (set leaf j None)
    full_set [] j full k row e = no_Some row (sym e)
    full_set (c ∷ cs) zero full zero row e = no_Some row (sym e)
    full_set (c ∷ cs) zero full (suc k) row e = full (suc k) row e
    full_set (c ∷ cs) (suc j) full zero row e = full 0 row e
    full_set (c ∷ cs) (suc j) full (suc k) row e = full_set cs j (λ l r f. full (suc l) r f) k row e

-- there is no row of a key
remove_none : (cols : List Column) (leaves : List Leaf) (index : Index) (key : Key) → Indexes cols leaves index → finite.get index key ≡ None → Indexes cols leaves (finite.remove index key)
remove_none cols leaves index key ix none k q = ((λ e. by (same_key k key) refl (sym (get_cut index key k) ∙ e)), back)
  where
    by : (b : Bool) → same_key k key ≡ b → cond b None (finite.get index k) ≡ Some q → IsKeyAt cols leaves k q
    by true f g = no_Some q (sym g)
    by false f g = (ix k q).0 g

    back : IsKeyAt cols leaves k q → finite.get (finite.remove index key) k ≡ Some q
    back a = get_cut index key k ∙ go (same_key k key) refl
      where
        go : (b : Bool) → same_key k key ≡ b → cond b None (finite.get index k) ≡ Some q
        go true f = absurd (no_Some q (sym ((ix k q).1 a) ∙ ap (finite.get index) (ties k key f) ∙ none))
        go false f = (ix k q).1 a

pub cut_draft_none : (cols : List Column) (leaves : List Leaf) (old : List (List (List ℕ))) (index : Index) (key : Key) → IsDraft cols leaves old index → finite.get index key ≡ None → IsDraft cols (cut cols key leaves) old (finite.remove index key)
cut_draft_none cols leaves old index key d none =
    subst (λ (ls : List Leaf). IsDraft cols ls old (finite.remove index key)) (sym (cut_none cols key leaves (key_none cols leaves index key d.index_is none)))
    (record { are = d.are; rows = d.rows; index_is = remove_none cols leaves index key d.index_is none })

-- a place that the index tells is there
pub place_within : (cols : List Column) (leaves : List Leaf) (old : List (List (List ℕ))) (index : Index) (key : Key) (p : Place) → IsDraft cols leaves old index → finite.get index key ≡ Some p → (p.leaf < length old) × (p.slot < length (get_or old p.leaf []))
place_within cols leaves old index key p d here =
    let a : IsKeyAt cols leaves key p = (d.index_is key p).0 here in
    let h : p.leaf < length leaves = leaf_within leaves p.leaf p.slot a.row a.at in
    let g : p.slot < length (get_or leaves p.leaf []) = within (get_or leaves p.leaf []) p.slot a.row a.at in
    let many : length old ≡ length leaves = ap length d.are ∙ length-map leaves slots_of in
    let was : length (get_or old p.leaf []) ≡ length (get_or leaves p.leaf []) = ap (λ (s : List (List (List ℕ))). length (get_or s p.leaf [])) d.are ∙ ap length (map_at leaves p.leaf) ∙ length-map (get_or leaves p.leaf []) cell in
    (omega arith, omega arith)

-- ONE ROW PUT

-- the slots of a leaf with a row in place of another one
slots_swapped : (leaf : Leaf) (j : ℕ) (row : Row) → j < length leaf → slots_of (set leaf j (Some row)) ≡ set_slot (slots_of leaf) j (row_bytes row)
slots_swapped leaf j row h = slots_set leaf j (Some row) ∙ sym (set_within (slots_of leaf) j (row_bytes row) (let e = length-map leaf cell in omega arith))

pub lacks_swap : (cols : List Column) (leaves : List Leaf) (old : List (List (List ℕ))) (index : Index) (row : Row) (p : Place) → IsDraft cols leaves old index → finite.get index (key_of cols row) ≡ Some p
    → 8192 < used (set_slot (get_or old p.leaf []) p.slot (row_bytes row)) → has_room cols (key_of cols row) row leaves ≡ false
lacks_swap cols leaves old index row p d here lacks =
    let o : OnlyAt cols (key_of cols row) leaves p.leaf p.slot = key_only cols leaves index (key_of cols row) p d.index_is here in
    let leaf : Leaf = get_or leaves p.leaf [] in
    let was : get_or old p.leaf [] ≡ slots_of leaf = ap (λ (s : List (List (List ℕ))). get_or s p.leaf []) d.are ∙ map_at leaves p.leaf in
    room_is cols (key_of cols row) row leaves p.leaf p.slot o
    ∙ fits_false (set leaf p.slot (Some row)) (subst (λ (s : List (List ℕ)). 8192 < used s) (ap (λ (s : List (List ℕ)). set_slot s p.slot (row_bytes row)) was ∙ sym (slots_swapped leaf p.slot row (within leaf p.slot o.row o.at))) lacks)

pub lacks_key : (cols : List Column) (leaves : List Leaf) (old : List (List (List ℕ))) (index : Index) (row : Row) → IsDraft cols leaves old index → finite.get index (key_of cols row) ≡ None → has_room cols (key_of cols row) row leaves ≡ false
lacks_key cols leaves old index row d none = room_none cols (key_of cols row) row leaves (key_none cols leaves index (key_of cols row) d.index_is none)

pub swap_draft : (cols : List Column) (leaves : List Leaf) (old new : List (List (List ℕ))) (index : Index) (row : Row) (p : Place) → IsDraft cols leaves old index → MayPut cols row → finite.get index (key_of cols row) ≡ Some p
    → used (set_slot (get_or old p.leaf []) p.slot (row_bytes row)) ≤ 8192 → new ≡ set old p.leaf (set_slot (get_or old p.leaf []) p.slot (row_bytes row)) → IsDraft cols (put cols row leaves) new index
swap_draft cols leaves old new index row p d may here room made =
    let key : Key = key_of cols row in
    let o : OnlyAt cols key leaves p.leaf p.slot = key_only cols leaves index key p d.index_is here in
    let u = swap_updates cols key row leaves p.leaf p.slot o in
    let leaf : Leaf = get_or leaves p.leaf [] in
    let was : get_or old p.leaf [] ≡ slots_of leaf = ap (λ (s : List (List (List ℕ))). get_or s p.leaf []) d.are ∙ map_at leaves p.leaf in
    let swapped : slots_of (set leaf p.slot (Some row)) ≡ set_slot (slots_of leaf) p.slot (row_bytes row) = slots_swapped leaf p.slot row (within leaf p.slot o.row o.at) in
    let has : has_room cols key row leaves ≡ true =
    room_is cols key row leaves p.leaf p.slot o ∙ fits_true (set leaf p.slot (Some row)) (subst (λ (s : List (List ℕ)). used s ≤ 8192) (ap (λ (s : List (List ℕ)). set_slot s p.slot (row_bytes row)) was ∙ sym swapped) room) in
    let is : put cols row leaves ≡ swap cols key row leaves = ap (λ b. cond b (swap cols key row leaves) (add row (cut cols key leaves))) has in
    subst (λ (ls : List Leaf). IsDraft cols ls new index) (sym is)
    (record {
      are = made ∙ (λ i. set (d.are i) p.leaf (set_slot (was i) p.slot (row_bytes row))) ∙ ap (set (map slots_of leaves) p.leaf) (sym swapped) ∙ sym (map-set slots_of leaves p.leaf (set leaf p.slot (Some row))) ∙ ap (map slots_of) (sym (swap_is cols key row leaves p.leaf p.slot o));
      rows = rows_updated cols leaves (swap cols key row leaves) p.leaf p.slot (Some row) d.rows u (λ r e. subst (MayPut cols) (same_Some row r e) may);
      index_is = index_put cols leaves (swap cols key row leaves) index row p d.index_is here u;
    })

-- an empty leaf more
more_draft : (cols : List Column) (leaves : List Leaf) (old : List (List (List ℕ))) (index : Index) → IsDraft cols leaves old index → IsDraft cols (leaves ++ [] ∷ []) (old ++ [] ∷ []) index
more_draft cols leaves old index d = record {
  are = ap (λ (s : List (List (List ℕ))). s ++ [] ∷ []) d.are ∙ sym (map-append slots_of leaves ([] ∷ []));
  rows = λ i j row e. d.rows i j row (sym (more_at leaves i j) ∙ e);
  index_is = λ k q. ((λ e. let a = (d.index_is k q).0 e in record { row = a.row; at = more_at leaves q.leaf q.slot ∙ a.at; key_is = a.key_is }), λ a. (d.index_is k q).1 (record { row = a.row; at = sym (more_at leaves q.leaf q.slot) ∙ a.at; key_is = a.key_is }));
}

-- a row is added to a leaf that has room
added_draft : (cols : List Column) (leaves : List Leaf) (old new : List (List (List ℕ))) (index : Index) (row : Row) (p : Place) → IsDraft cols leaves old index → MayPut cols row → finite.get index (key_of cols row) ≡ None
    → p.leaf < length leaves → IsFirstEmpty (slots_of (get_or leaves p.leaf [])) p.slot → new ≡ set old p.leaf (set_slot (get_or old p.leaf []) p.slot (row_bytes row))
    → IsDraft cols (set leaves p.leaf (added row (get_or leaves p.leaf []))) new (finite.insert index (key_of cols row) p)
added_draft cols leaves old new index row p d may none h first made =
    let leaf : Leaf = get_or leaves p.leaf [] in
    let a : AddsAt row leaf p.slot = added_is row leaf p.slot (full_leaf cols leaves p.leaf d.rows) first in
    let u : Updates (row_at leaves) (row_at (set leaves p.leaf (added row leaf))) p.leaf p.slot (Some row) = set_leaf leaves p.leaf p.slot (added row leaf) (Some row) h a.here a.others in
    let was : get_or old p.leaf [] ≡ slots_of leaf = ap (λ (s : List (List (List ℕ))). get_or s p.leaf []) d.are ∙ map_at leaves p.leaf in
    record {
      are = made ∙ (λ i. set (d.are i) p.leaf (set_slot (was i) p.slot (row_bytes row))) ∙ ap (set (map slots_of leaves) p.leaf) (sym a.slots_are) ∙ sym (map-set slots_of leaves p.leaf (added row leaf));
      rows = rows_updated cols leaves (set leaves p.leaf (added row leaf)) p.leaf p.slot (Some row) d.rows u (λ r e. subst (MayPut cols) (same_Some row r e) may);
      index_is = index_add cols leaves (set leaves p.leaf (added row leaf)) index row p d.index_is none a.was u;
    }

-- no room in a leaf
leaf_lacks : (cols : List Column) (leaves : List Leaf) (old : List (List (List ℕ))) (index : Index) (row : Row) (k : ℕ) → IsDraft cols leaves old index → LacksRoom (get_or old k []) (length (row_bytes row)) → fits (added row (get_or leaves k [])) ≡ false
leaf_lacks cols leaves old index row k d lacks =
    let leaf : Leaf = get_or leaves k [] in
    let was : get_or old k [] ≡ slots_of leaf = ap (λ (s : List (List (List ℕ))). get_or s k []) d.are ∙ map_at leaves k in
    let e = first_there (slots_of leaf) in
    let a : AddsAt row leaf e.0 = added_is row leaf e.0 (full_leaf cols leaves k d.rows) e.1 in
    fits_false (added row leaf) (subst (λ (s : List (List ℕ)). 8192 < used s) (ap (λ (s : List (List ℕ)). set_slot s e.0 (row_bytes row)) was ∙ sym a.slots_are)
    (lacks (row_bytes row) e.0 refl (subst (λ (s : List (List ℕ)). IsFirstEmpty s e.0) (sym was) e.1)))
  where
    first_there : (s : List (List ℕ)) → (j : ℕ) × IsFirstEmpty s j
    first_there [] = (0, record { there = omega arith; empty = refl; first = λ j h. absurd (omega arith) })
    first_there ([] ∷ xs) = (0, record { there = omega arith; empty = refl; first = λ j h. absurd (omega arith) })
    first_there ((b ∷ bs) ∷ xs) =
        let r = first_there xs in
        let there = r.1.there in
        (suc r.0, record { there = omega arith; empty = r.1.empty; first = λ j. before r.0 r.1 j })
      where
        before : (i : ℕ) → IsFirstEmpty xs i → (j : ℕ) → j < suc i → get_or ((b ∷ bs) ∷ xs) j [] ≢ []
        before i f zero h e = let n : suc (length bs) ≡ 0 = ap length e in absurd (omega arith)
        before i f (suc j) h e = f.first j (omega arith) e

pub add_draft : (cols : List Column) (leaves : List Leaf) (old mid new : List (List (List ℕ))) (index : Index) (row : Row) (p : Place) → IsDraft cols leaves old index → MayPut cols row → finite.get index (key_of cols row) ≡ None
    → IsPlaceFor old mid (length (row_bytes row)) p → new ≡ set mid p.leaf (set_slot (get_or mid p.leaf []) p.slot (row_bytes row)) → IsDraft cols (add row leaves) new (finite.insert index (key_of cols row) p)
add_draft cols leaves old mid new index row p d may none place made = elim place.leaves [ inl e ↦ in_old e | inr e ↦ in_new e.0 e.1 ]
  where
    lacks : (k : ℕ) → k < p.leaf → fits (added row (get_or leaves k [])) ≡ false
    lacks k h = leaf_lacks cols leaves old index row k d (place.first k h)

    in_old : mid ≡ old → IsDraft cols (add row leaves) new (finite.insert index (key_of cols row) p)
    in_old e =
        let leaf : Leaf = get_or leaves p.leaf [] in
        let was : get_or mid p.leaf [] ≡ slots_of leaf = ap (λ (s : List (List (List ℕ))). get_or s p.leaf []) (e ∙ d.are) ∙ map_at leaves p.leaf in
        let many : length mid ≡ length leaves = ap length (e ∙ d.are) ∙ length-map leaves slots_of in
        let there = place.there in
        let h : p.leaf < length leaves = omega arith in
        let first : IsFirstEmpty (slots_of leaf) p.slot = subst (λ (s : List (List ℕ)). IsFirstEmpty s p.slot) was place.slot in
        let a : AddsAt row leaf p.slot = added_is row leaf p.slot (full_leaf cols leaves p.leaf d.rows) first in
        let room : fits (added row leaf) ≡ true = fits_true (added row leaf) (subst (λ (s : List (List ℕ)). used s ≤ 8192) (ap (λ (s : List (List ℕ)). set_slot s p.slot (row_bytes row)) was ∙ sym a.slots_are) (place.room (row_bytes row) refl)) in
        subst (λ (ls : List Leaf). IsDraft cols ls new (finite.insert index (key_of cols row) p)) (sym (add_is row leaves p.leaf h room lacks))
        (added_draft cols leaves old new index row p d may none h first (made ∙ (λ i. set (e i) p.leaf (set_slot (get_or (e i) p.leaf []) p.slot (row_bytes row)))))

    in_new : mid ≡ old ++ [] ∷ [] → p.leaf ≡ length old → IsDraft cols (add row leaves) new (finite.insert index (key_of cols row) p)
    in_new e at =
        let more : List Leaf = leaves ++ [] ∷ [] in
        let many : length old ≡ length leaves = ap length d.are ∙ length-map leaves slots_of in
        let here : p.leaf ≡ length leaves = at ∙ many in
        let dm : IsDraft cols more (old ++ [] ∷ []) index = more_draft cols leaves old index d in
        let empty : get_or more p.leaf [] ≡ [] = ap (λ n. get_or more n []) here ∙ last leaves in
        let long : length more ≡ length leaves + 1 = longer leaves in
        let was : get_or mid p.leaf [] ≡ slots_of (get_or more p.leaf []) = ap (λ (s : List (List (List ℕ))). get_or s p.leaf []) (e ∙ dm.are) ∙ map_at more p.leaf in
        let first : IsFirstEmpty (slots_of (get_or more p.leaf [])) p.slot = subst (λ (s : List (List ℕ)). IsFirstEmpty s p.slot) was place.slot in
        let is : add row leaves ≡ set more p.leaf (added row (get_or more p.leaf [])) =
        add_last row leaves (λ k lt. lacks k (omega arith)) ∙ sym (set_last leaves (Some row ∷ [])) ∙ (λ i. set more (sym here i) (added row (sym empty i))) in
        subst (λ (ls : List Leaf). IsDraft cols ls new (finite.insert index (key_of cols row) p)) (sym is)
        (added_draft cols more (old ++ [] ∷ []) new index row p dm may none (omega arith) first (made ∙ (λ i. set (e i) p.leaf (set_slot (get_or (e i) p.leaf []) p.slot (row_bytes row)))))
      where
        last : (ls : List Leaf) → get_or (ls ++ [] ∷ []) (length ls) [] ≡ []
        last [] = refl
        last (l ∷ ls) = last ls

        longer : (ls : List Leaf) → length (ls ++ [] ∷ []) ≡ length ls + 1
        longer [] = refl
        longer (l ∷ ls) = let h = longer ls in omega arith

        set_last : (ls : List Leaf) (leaf : Leaf) → set (ls ++ [] ∷ []) (length ls) leaf ≡ ls ++ leaf ∷ []
        set_last [] leaf = refl
        set_last (l ∷ ls) leaf = ap (λ xs. l ∷ xs) (set_last ls leaf)

-- a row that has no room in place of another is cut, and added
pub put_is : (cols : List Column) (leaves : List Leaf) (row : Row) → has_room cols (key_of cols row) row leaves ≡ false → put cols row leaves ≡ add row (cut cols (key_of cols row) leaves)
put_is cols leaves row lacks = ap (λ b. cond b (swap cols (key_of cols row) row leaves) (add row (cut cols (key_of cols row) leaves))) lacks

-- a key that was taken out isn't there
pub taken_out : (index : Index) (key : Key) → finite.get (finite.remove index key) key ≡ None
taken_out index key = get_cut index key key ∙ ap (λ b. cond b None (finite.get index key)) (itself key)

-- KEYS AND ROWS IN TURN

pub cut_more : (cols : List Column) (ks : List Key) (k : Key) (leaves : List Leaf) → cut_keys cols (ks ++ k ∷ []) leaves ≡ cut cols k (cut_keys cols ks leaves)
cut_more cols [] k leaves = refl
cut_more cols (q ∷ qs) k leaves = cut_more cols qs k (cut cols q leaves)

pub put_more : (cols : List Column) (rs : List Row) (r : Row) (leaves : List Leaf) → put_rows cols (rs ++ r ∷ []) leaves ≡ put cols r (put_rows cols rs leaves)
put_more cols [] r leaves = refl
put_more cols (q ∷ qs) r leaves = put_more cols qs r (put cols q leaves)

-- THE INDEX OF LEAVES THAT ARE READ

pub so_far_none : (cols : List Column) (leaves : List Leaf) (index : Index) → index ≡ finite.empty → IsSoFar cols leaves 0 0 index
so_far_none cols leaves index e k p = ((λ h. no_Some p (sym h ∙ ap (λ (m : Index). finite.get m k) e ∙ get-empty key_cmp k)), λ h. elim h.1 [ inl lt ↦ absurd (omega arith) | inr at ↦ let lt = at.1 in absurd (omega arith) ])

pub so_far_empty : (cols : List Column) (leaves : List Leaf) (i j : ℕ) (index : Index) → IsSoFar cols leaves i j index → row_at leaves i j ≡ None → IsSoFar cols leaves i (j + 1) index
so_far_empty cols leaves i j index s none k p = ((λ e. let a = (s k p).0 e in (a.0, later a.1)), λ a. (s k p).1 (a.0, earlier a.0 a.1))
  where
    later : IsBefore i j p → IsBefore i (j + 1) p
    later (inl lt) = inl lt
    later (inr at) = let lt = at.1 in inr (at.0, omega arith)

    earlier : IsKeyAt cols leaves k p → IsBefore i (j + 1) p → IsBefore i j p
    earlier a (inl lt) = inl lt
    earlier a (inr at) =
        let lt = at.1 in
        elim (cases_eq p.slot j) [
          | inl e ↦ no_Some a.row (sym a.at ∙ (λ x. row_at leaves (at.0 x) (e x)) ∙ none)
          | inr ne ↦ inr (at.0, omega arith)
        ]

pub so_far_row : (cols : List Column) (leaves : List Leaf) (i j : ℕ) (index : Index) (row : Row) (key : Key) (at : Place) → AreApart cols leaves → IsSoFar cols leaves i j index → row_at leaves i j ≡ Some row → key ≡ key_of cols row → at ≡ record { leaf = i; slot = j }
    → IsSoFar cols leaves i (j + 1) (finite.insert index key at)
so_far_row cols leaves i j index row key at apart s here key_is at_is k p = (there, back)
  where
    it : IsKeyAt cols leaves key at
    it = subst (IsKeyAt cols leaves key) (sym at_is) (record { row = row; at = here; key_is = sym key_is })

    before_it : IsBefore i (j + 1) at
    before_it = subst (IsBefore i (j + 1)) (sym at_is) (inr (refl, omega arith))

    later : IsBefore i j p → IsBefore i (j + 1) p
    later (inl lt) = inl lt
    later (inr b) = let lt = b.1 in inr (b.0, omega arith)

    there : finite.get (finite.insert index key at) k ≡ Some p → IsKeyAt cols leaves k p × IsBefore i (j + 1) p
    there e = by (same_key k key) refl (sym (get_put index key at k) ∙ e)
      where
        by : (b : Bool) → same_key k key ≡ b → cond b (Some at) (finite.get index k) ≡ Some p → IsKeyAt cols leaves k p × IsBefore i (j + 1) p
        by true f g =
            let same : at ≡ p = same_Some at p g in
            (subst (λ (x : Key). IsKeyAt cols leaves x p) (sym (ties k key f)) (subst (IsKeyAt cols leaves key) same it), subst (IsBefore i (j + 1)) same before_it)
        by false f g = let a = (s k p).0 g in (a.0, later a.1)

    back : IsKeyAt cols leaves k p × IsBefore i (j + 1) p → finite.get (finite.insert index key at) k ≡ Some p
    back a = get_put index key at k ∙ by (same_key k key) refl
      where
        other : same_key k key ≡ false → IsBefore i (j + 1) p → IsBefore i j p
        other f (inl lt) = inl lt
        other f (inr b) =
            let lt = b.1 in
            elim (cases_eq p.slot j) [
              | inl e ↦
                  let same : p ≡ at = place_is p (record { leaf = i; slot = j }) b.0 e ∙ sym at_is in
                  let eq : k ≡ key = one_key cols leaves k key at (subst (IsKeyAt cols leaves k) same a.0) it in
                  let yes : same_key k key ≡ true = ap (λ (x : Key). same_key x key) eq ∙ itself key in
                  let wrong : true ≡ false = sym yes ∙ f in
                  cc
              | inr ne ↦ inr (b.0, omega arith)
            ]

        by : (b : Bool) → same_key k key ≡ b → cond b (Some at) (finite.get index k) ≡ Some p
        by true f = ap Some (apart key at p it (subst (λ (x : Key). IsKeyAt cols leaves x p) (ties k key f) a.0))
        by false f = (s k p).1 (a.0, other f a.1)

pub so_far_leaf : (cols : List Column) (leaves : List Leaf) (i j : ℕ) (index : Index) → IsSoFar cols leaves i j index → length (get_or leaves i []) ≤ j → IsSoFar cols leaves (i + 1) 0 index
so_far_leaf cols leaves i j index s past k p = ((λ e. let a = (s k p).0 e in (a.0, later a.1)), λ a. (s k p).1 (a.0, earlier a.0 a.1))
  where
    later : IsBefore i j p → IsBefore (i + 1) 0 p
    later (inl lt) = inl (omega arith)
    later (inr at) = let e = at.0 in inl (omega arith)

    earlier : IsKeyAt cols leaves k p → IsBefore (i + 1) 0 p → IsBefore i j p
    earlier a (inr at) = let lt = at.1 in absurd (omega arith)
    earlier a (inl lt) = elim (cases_eq p.leaf i) [
      | inl e ↦
          let h : p.slot < length (get_or leaves p.leaf []) = within (get_or leaves p.leaf []) p.slot a.row a.at in
          let same : length (get_or leaves p.leaf []) ≡ length (get_or leaves i []) = ap (λ n. length (get_or leaves n [])) e in
          inr (e, omega arith)
      | inr ne ↦ inl (omega arith)
    ]

pub so_far_all : (cols : List Column) (leaves : List Leaf) (i : ℕ) (index : Index) → IsSoFar cols leaves i 0 index → length leaves ≤ i → Indexes cols leaves index
so_far_all cols leaves i index s past k p = ((λ e. ((s k p).0 e).0), λ a. let h : p.leaf < length leaves = leaf_within leaves p.leaf p.slot a.row a.at in (s k p).1 (a, inl (omega arith)))

-- what stands in a slot that is read
pub slot_none : (cols : List Column) (leaves : List Leaf) (i j : ℕ) (slots : List (List ℕ)) → AreRows cols leaves → slots_of (get_or leaves i []) ≡ slots → get_or slots j [] ≡ [] → row_at leaves i j ≡ None
slot_none cols leaves i j slots rows are e = by (row_at leaves i j) refl (sym (cell_at (get_or leaves i []) j) ∙ ap (λ (s : List (List ℕ)). get_or s j []) are ∙ e)
  where
    by : (o : Option Row) → row_at leaves i j ≡ o → cell o ≡ [] → o ≡ None
    by None f g = refl
    by (Some row) f g = absurd (row_some cols row (rows i j row f) g)

pub slot_some : (cols : List Column) (leaves : List Leaf) (i j : ℕ) (slots : List (List ℕ)) (bytes : List ℕ) (row : Row) → AreRows cols leaves → slots_of (get_or leaves i []) ≡ slots → bytes ≡ get_or slots j [] → bytes ≢ [] → IsRow cols bytes row → row_at leaves i j ≡ Some row
slot_some cols leaves i j slots bytes row rows are is ne r = by (row_at leaves i j) refl (sym (cell_at (get_or leaves i []) j) ∙ ap (λ (s : List (List ℕ)). get_or s j []) are ∙ sym is)
  where
    by : (o : Option Row) → row_at leaves i j ≡ o → cell o ≡ bytes → o ≡ Some row
    by None f g = absurd (ne (sym g))
    by (Some other) f g = ap Some (one_row cols bytes other row (record { of = (rows i j other f).of; spelled = sym g }) r)
