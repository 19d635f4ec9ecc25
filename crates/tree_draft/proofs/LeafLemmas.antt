-- Rows put into the slots of a leaf, and cut from them, slot by slot.
use Rattle.std.proofs.Common.{refl, ◌≡◌, ◌≢◌, ℕ, zero, suc, ◌+◌, ◌-◌, ◌<◌, ◌≤◌, List, [], ◌∷◌, ◌++◌, length, get_or, set, drop, ap, sym, ◌∙◌, arith, Bool, true, false, cond, ◌||◌, not, append_assoc, append-nil, ◌==◌}
use Rattle.std.specs.Prelude.{Option, None, Some, option_to_list, is_some}
use Rattle.page_base.specs.declared.column.Column.{Column}
use Rattle.page_base.specs.declared.value.Value.{Value}
use Rattle.table_walk.specs.Leaves.{Leaf, has, holds, changed, added, trimmed, before}
use Rattle.tree_draft.specs.Leaves.{IsFirstEmpty}

abbrev Slot : Type 0
Slot = Option (List Value)

-- one slot more
pub changed_more : (cols : List Column) (key : List Value) (to : Slot) (all new more left : Leaf) (slot put : Slot) → changed cols key to all ≡ new ++ changed cols key to (slot ∷ left) → cond (has cols key slot) to slot ≡ put → more ≡ new ++ put ∷ [] → changed cols key to all ≡ more ++ changed cols key to left
changed_more cols key to all new more left slot put s is are =
    s ∙ ap (λ (x : Slot). new ++ x ∷ changed cols key to left) is ∙ sym (append_assoc new (put ∷ []) (changed cols key to left)) ∙ ap (λ (l : Leaf). l ++ changed cols key to left) (sym are)

pub added_at : (row : List Value) (leaf : Leaf) (i : ℕ) → IsFirstEmpty leaf i → i < length leaf → set leaf i (Some row) ≡ added row leaf
added_at row [] i f lt = absurd (omega arith)
added_at row (None ∷ cs) zero f lt = refl
added_at row (None ∷ cs) (suc i) f lt = absurd (f.first 0 (omega arith) refl)
added_at row (Some r ∷ cs) zero f lt = absurd (let w : Some r ≡ None = f.empty in cc)
added_at row (Some r ∷ cs) (suc i) f lt = ap (λ (l : Leaf). Some r ∷ l) (added_at row cs i (record { there = omega (arith, f.there); empty = f.empty; first = λ j h. f.first (suc j) (omega (arith, h)) }) (omega (arith, lt)))

pub added_behind : (row : List Value) (leaf : Leaf) (i : ℕ) → IsFirstEmpty leaf i → length leaf ≤ i → leaf ++ Some row ∷ [] ≡ added row leaf
added_behind row [] i f le = refl
added_behind row (None ∷ cs) zero f le = absurd (omega (arith, le))
added_behind row (None ∷ cs) (suc i) f le = absurd (f.first 0 (omega arith) refl)
added_behind row (Some r ∷ cs) zero f le = absurd (omega (arith, le))
added_behind row (Some r ∷ cs) (suc i) f le = ap (λ (l : Leaf). Some r ∷ l) (added_behind row cs i (record { there = omega (arith, f.there); empty = f.empty; first = λ j h. f.first (suc j) (omega (arith, h)) }) (omega (arith, le)))

before_full : (c d : Slot) (cs : Leaf) → before c (d ∷ cs) ≡ c ∷ d ∷ cs
before_full None d cs = refl
before_full (Some r) d cs = refl

pub trimmed_full : (leaf : Leaf) (d : Slot) → 0 < length leaf → get_or leaf (length leaf - 1) d ≢ None → trimmed leaf ≡ leaf
trimmed_full [] d h ne = absurd (omega arith)
trimmed_full (None ∷ []) d h ne = absurd (ne refl)
trimmed_full (Some r ∷ []) d h ne = refl
trimmed_full (c ∷ e ∷ cs) d h ne =
    let n : length (c ∷ e ∷ cs) - 1 ≡ suc (length (e ∷ cs) - 1) = omega arith in
    let rest : trimmed (e ∷ cs) ≡ e ∷ cs = trimmed_full (e ∷ cs) d (omega arith) (λ is. ne (ap (λ (k : ℕ). get_or (c ∷ e ∷ cs) k d) n ∙ is)) in
    ap (before c) rest ∙ before_full c e cs

trimmed_empty : (leaf : Leaf) → trimmed (leaf ++ None ∷ []) ≡ trimmed leaf
trimmed_empty [] = refl
trimmed_empty (c ∷ cs) = ap (before c) (trimmed_empty cs)

pub trimmed_less : (leaf less : Leaf) (last : Slot) (d : Slot) → 0 < length leaf → get_or leaf (length leaf - 1) d ≡ None → leaf ≡ less ++ option_to_list (Some last) → trimmed leaf ≡ trimmed less
trimmed_less leaf less last d h e are = ap trimmed (are ∙ ap (λ (x : Slot). less ++ x ∷ []) is_none) ∙ trimmed_empty less
  where
    last_of : (xs : Leaf) (x d : Slot) → get_or (xs ++ x ∷ []) (length (xs ++ x ∷ []) - 1) d ≡ x
    last_of [] x d = refl
    last_of (y ∷ []) x d = refl
    last_of (y ∷ z ∷ xs) x d =
        let n : length (y ∷ z ∷ xs ++ x ∷ []) - 1 ≡ suc (length (z ∷ xs ++ x ∷ []) - 1) = omega arith in
        ap (λ (k : ℕ). get_or (y ∷ z ∷ xs ++ x ∷ []) k d) n ∙ last_of (z ∷ xs) x d

    is_none : last ≡ None
    is_none = sym (last_of less last d) ∙ ap (λ (l : Leaf). get_or l (length l - 1) d) (sym are) ∙ e

pub changed_last : (cols : List Column) (key : List Value) (to : Slot) (xs : Leaf) (slot put : Slot) → cond (has cols key slot) to slot ≡ put → changed cols key to (xs ++ slot ∷ []) ≡ changed cols key to xs ++ put ∷ []
changed_last cols key to [] slot put e = ap (λ (x : Slot). x ∷ []) e
changed_last cols key to (x ∷ xs) slot put e = ap (λ (l : Leaf). cond (has cols key x) to x ∷ l) (changed_last cols key to xs slot put e)

pub taken : (b : Bool) (to slot : Slot) → b ≡ true → cond b to slot ≡ to
taken b to slot e = ap (λ (c : Bool). cond c to slot) e

pub left_as_is : (b : Bool) (to slot : Slot) → b ≡ false → cond b to slot ≡ slot
left_as_is b to slot e = ap (λ (c : Bool). cond c to slot) e

-- a slot of a leaf, and those from it on
pub holds_here : (cols : List Column) (key : List Value) (leaf : Leaf) (i : ℕ) (slot : Slot) → i < length leaf → slot ≡ get_or leaf i slot → has cols key slot ≡ true → holds cols key (drop i leaf) ≡ true
holds_here cols key [] i slot lt is e = absurd (omega arith)
holds_here cols key (x ∷ xs) zero slot lt is e = ap (λ (b : Bool). b || holds cols key xs) (ap (has cols key) (sym is) ∙ e)
holds_here cols key (x ∷ xs) (suc i) slot lt is e = holds_here cols key xs i slot (omega arith) is e

pub holds_later : (cols : List Column) (key : List Value) (leaf : Leaf) (i : ℕ) (slot : Slot) → i < length leaf → slot ≡ get_or leaf i slot → has cols key slot ≡ false → holds cols key (drop i leaf) ≡ holds cols key (drop (i + 1) leaf)
holds_later cols key leaf i slot lt is e = let n : suc i ≡ i + 1 = omega arith in by leaf i lt is ∙ ap (λ (k : ℕ). holds cols key (drop k leaf)) n
  where
    by : (leaf : Leaf) (i : ℕ) → i < length leaf → slot ≡ get_or leaf i slot → holds cols key (drop i leaf) ≡ holds cols key (drop (suc i) leaf)
    by [] i lt is = absurd (omega arith)
    by (x ∷ xs) zero lt is = ap (λ (b : Bool). b || holds cols key xs) (ap (has cols key) (sym is) ∙ e)
    by (x ∷ xs) (suc i) lt is = by xs i (omega arith) is

pub holds_none : (cols : List Column) (key : List Value) (leaf : Leaf) (i : ℕ) → length leaf ≤ i → holds cols key (drop i leaf) ≡ false
holds_none cols key [] zero le = refl
holds_none cols key [] (suc i) le = refl
holds_none cols key (x ∷ xs) zero le = absurd (omega (arith, le))
holds_none cols key (x ∷ xs) (suc i) le = holds_none cols key xs i (omega (arith, le))

-- no slot before this one is empty
abbrev pub AreFull : Leaf → ℕ → Type 0
AreFull leaf i = (j : ℕ) → j < i → get_or leaf j None ≢ None

pub some_long : (leaf : Leaf) (b : Bool) → b ≡ (length leaf == 0) → b ≡ false → 0 < length leaf
some_long [] b e f = absurd (let t : true ≡ false = sym e ∙ f in cc)
some_long (c ∷ cs) b e f = omega arith

pub is_some_slot : (slot : Slot) (b : Bool) → is_some slot ≡ not b → b ≡ false → slot ≢ None
is_some_slot slot b e f is = let t : false ≡ true = sym (ap is_some is) ∙ e ∙ ap not f in cc

pub trimmed_pop : (leaf less : Leaf) (popped : Option Slot) → 0 < length leaf → ((d : Slot) → get_or leaf (length leaf - 1) d ≡ None) → leaf ≡ less ++ option_to_list popped → trimmed leaf ≡ trimmed less
trimmed_pop leaf less None h none are = ap trimmed (are ∙ append-nil less)
trimmed_pop leaf less (Some last) h none are = trimmed_less leaf less last None h (none None) are
