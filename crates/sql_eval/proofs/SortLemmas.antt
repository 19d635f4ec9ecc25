-- A stable sort has one outcome: the elements in order, those of which none is less as they stood.
use Rattle.std.proofs.Common.{◌≡◌, refl, sym, ap, subst, ◌∙◌, ℕ, zero, suc, ◌+◌, ◌≤◌, ◌<◌, arith, Bool, true, false, not, ◌&&◌, cond, List, [], ◌∷◌, length, get_or, map, true≢false}
use Rattle.std.specs.Prelude.{⊤, filter}
use Rattle.std.specs.Cmp.{IsStrictWeakOrder}
use Rattle.std.specs.List.Sorted.{IsSortedBy, IsStableBy, ties}
use Rattle.std.proofs.lemmas.List.Sorted.{sorted_far}
use Rattle.plain_model.specs.Sorting.{placed, sorted_by}

module _ {X : Type 0} (less : X → X → Bool) where
  -- no element of the list is less than this one
  abbrev pub Above : X → List X → Type 0
  Above x [] = ⊤
  Above x (y ∷ ys) = (less y x ≡ false) × Above x ys

  -- no element is less than one before it
  abbrev pub Up : List X → Type 0
  Up [] = ⊤
  Up (x ∷ xs) = Above x xs × Up xs

  above_of : (x : X) (xs : List X) → ((k : ℕ) → k < length xs → less (get_or xs k x) x ≡ false) → Above x xs
  above_of x [] h = tt
  above_of x (y ∷ ys) h = (h 0 (omega arith), above_of x ys (λ k p. h (suc k) (omega arith)))

  up_of : (xs : List X) → ((i j : ℕ) (d : X) → i ≤ j → j < length xs → less (get_or xs j d) (get_or xs i d) ≡ false) → Up xs
  up_of [] h = tt
  up_of (x ∷ xs) h = (above_of x xs (λ k p. h 0 (suc k) x (omega arith) (omega arith)), up_of xs (λ i j d p q. h (suc i) (suc j) d (omega arith) (omega arith)))

  module _ (o : IsStrictWeakOrder less) where
    not_less : (b : Bool) → (b ≡ true → b ≡ false) → b ≡ false
    not_less true h = h refl
    not_less false h = refl

    irreflexive : (x : X) → less x x ≡ false
    irreflexive x = not_less (less x x) (o.one_way x x)

    ties_when : (x y : X) → less x y ≡ false → less y x ≡ false → ties less x y ≡ true
    ties_when x y p q = λ i. not (p i) && not (q i)

    ties_itself : (x : X) → ties less x x ≡ true
    ties_itself x = ties_when x x (irreflexive x) (irreflexive x)

    -- an element less than the one behind which it stands is above all
    above_chain : (x y : X) (ys : List X) → less y x ≡ false → Above y ys → Above x ys
    above_chain x y [] p h = tt
    above_chain x y (w ∷ ws) p h = (o.chain w y x h.0 p, above_chain x y ws p h.1)

    above_placed : (y x : X) (ys : List X) → less x y ≡ false → Above y ys → Above y (placed less x ys)
    above_placed y x [] p h = (p, tt)
    above_placed y x (w ∷ ws) p h = elim (less w x) as (λ b. Above y (cond b (w ∷ placed less x ws) (x ∷ w ∷ ws))) [
      | true ↦ (h.0, above_placed y x ws p h.1)
      | false ↦ (p, (h.0, h.1))
    ]

    up_placed : (x : X) (ys : List X) → Up ys → Up (placed less x ys)
    up_placed x [] h = (tt, tt)
    up_placed x (y ∷ ys) h = elim (less y x) as (λ b. less y x ≡ b → Up (cond b (y ∷ placed less x ys) (x ∷ y ∷ ys))) [
      | true ↦ λ e. (above_placed y x ys (o.one_way y x e) h.0, up_placed x ys h.1)
      | false ↦ λ e. ((e, above_chain x y ys e h.0), h)
    ] refl

    up_sorted : (xs : List X) → Up (sorted_by less xs)
    up_sorted [] = tt
    up_sorted (x ∷ xs) = up_placed x (sorted_by less xs) (up_sorted xs)

    left_false : (p q : Bool) → not p && not q ≡ true → p ≡ false
    left_false true q h = cc
    left_false false q h = refl

    right_false : (p q : Bool) → not p && not q ≡ true → q ≡ false
    right_false p false h = refl
    right_false true true h = cc
    right_false false true h = cc

    -- of two tests that don't both hold, the order doesn't matter
    swapped : (b c : Bool) (x y : X) (l : List X) → (b ≡ true → c ≡ false) → cond c (y ∷ cond b (x ∷ l) l) (cond b (x ∷ l) l) ≡ cond b (x ∷ cond c (y ∷ l) l) (cond c (y ∷ l) l)
    swapped true true x y l h = absurd (true≢false (h refl))
    swapped true false x y l h = refl
    swapped false true x y l h = refl
    swapped false false x y l h = refl

    -- of two elements of which one is less, at most one ties with a third
    not_both : (t x y : X) → less y x ≡ true → ties less t x ≡ true → ties less t y ≡ false
    not_both t x y e p = not_less (ties less t y) (λ q.
        absurd (true≢false (sym e ∙ o.chain y t x (right_false (less t y) (less y t) q) (left_false (less t x) (less x t) p))))

    kept_placed : (t x : X) (ys : List X) → filter (ties less t) (placed less x ys) ≡ filter (ties less t) (x ∷ ys)
    kept_placed t x [] = refl
    kept_placed t x (y ∷ ys) = elim (less y x) as (λ b. less y x ≡ b → filter (ties less t) (cond b (y ∷ placed less x ys) (x ∷ y ∷ ys)) ≡ filter (ties less t) (x ∷ y ∷ ys)) [
      | true ↦ λ e. ap (λ (l : List X). cond (ties less t y) (y ∷ l) l) (kept_placed t x ys) ∙ swapped (ties less t x) (ties less t y) x y (filter (ties less t) ys) (not_both t x y e)
      | false ↦ λ e. refl
    ] refl

    kept_sorted : (t : X) (xs : List X) → filter (ties less t) (sorted_by less xs) ≡ filter (ties less t) xs
    kept_sorted t [] = refl
    kept_sorted t (x ∷ xs) = kept_placed t x (sorted_by less xs) ∙ ap (λ (l : List X). cond (ties less t x) (x ∷ l) l) (kept_sorted t xs)

    -- an element that a test keeps first isn't less than what all are above
    kept_above : (z y : X) (p : X → Bool) (ws kept : List X) → Above z ws → filter p ws ≡ y ∷ kept → less y z ≡ false
    kept_above z y p [] kept h e = cc
    kept_above z y p (w ∷ ws) kept h e = elim (p w) as (λ b. cond b (w ∷ filter p ws) (filter p ws) ≡ y ∷ kept → less y z ≡ false) [
      | true ↦ λ q. let same : w ≡ y = cc in subst (λ v. less v z ≡ false) same h.0
      | false ↦ λ q. kept_above z y p ws kept h.1 q
    ] e

    -- where the lists keep the same elements that tie with y, and z is the first of the other one, y isn't less than z
    first_not_less : (y z : X) (ys zs : List X) → Above z zs → filter (ties less y) (y ∷ ys) ≡ filter (ties less y) (z ∷ zs) → less y z ≡ false
    first_not_less y z ys zs v h =
        let e : y ∷ filter (ties less y) ys ≡ filter (ties less y) (z ∷ zs) = ap (λ (b : Bool). cond b (y ∷ filter (ties less y) ys) (filter (ties less y) ys)) (sym (ties_itself y)) ∙ h in
        elim (ties less y z) as (λ b. ties less y z ≡ b → y ∷ filter (ties less y) ys ≡ cond b (z ∷ filter (ties less y) zs) (filter (ties less y) zs) → less y z ≡ false) [
          | true ↦ λ q r. left_false (less y z) (less z y) q
          | false ↦ λ q r. kept_above z y (ties less y) zs (filter (ties less y) ys) v (sym r)
        ] refl e

    first_same : (y z : X) (ys zs : List X) → ties less y z ≡ true → filter (ties less y) (y ∷ ys) ≡ filter (ties less y) (z ∷ zs) → y ≡ z
    first_same y z ys zs t h =
        let e : y ∷ filter (ties less y) ys ≡ z ∷ filter (ties less y) zs =
        ap (λ (b : Bool). cond b (y ∷ filter (ties less y) ys) (filter (ties less y) ys)) (sym (ties_itself y)) ∙ h
        ∙ ap (λ (b : Bool). cond b (z ∷ filter (ties less y) zs) (filter (ties less y) zs)) t in cc

    rest_same : (b : Bool) (y z : X) (ys zs : List X) → cond b (y ∷ ys) ys ≡ cond b (z ∷ zs) zs → ys ≡ zs
    rest_same true y z ys zs h = cc
    rest_same false y z ys zs h = h

    -- two lists in order that keep the same elements of each kind of tie are one list
    one_order : (ys zs : List X) → Up ys → Up zs → ((t : X) → filter (ties less t) ys ≡ filter (ties less t) zs) → ys ≡ zs
    one_order [] [] u v h = refl
    one_order [] (z ∷ zs) u v h =
        let e : [] ≡ z ∷ filter (ties less z) zs = h z ∙ ap (λ (b : Bool). cond b (z ∷ filter (ties less z) zs) (filter (ties less z) zs)) (ties_itself z) in cc
    one_order (y ∷ ys) [] u v h =
        let e : y ∷ filter (ties less y) ys ≡ [] = ap (λ (b : Bool). cond b (y ∷ filter (ties less y) ys) (filter (ties less y) ys)) (sym (ties_itself y)) ∙ h y in cc
    one_order (y ∷ ys) (z ∷ zs) u v h =
        let p : less y z ≡ false = first_not_less y z ys zs v.0 (h y) in
        let q : less z y ≡ false = first_not_less z y zs ys u.0 (sym (h z)) in
        let same : y ≡ z = first_same y z ys zs (ties_when y z p q) (h y) in
        let rest : ys ≡ zs = one_order ys zs u.1 v.1 (λ t. rest_same (ties less t y) y z (filter (ties less t) ys) (filter (ties less t) zs)
        (h t ∙ ap (λ (w : X). cond (ties less t w) (z ∷ filter (ties less t) zs) (filter (ties less t) zs)) (sym same))) in
        cc

    -- what std's stable sort leaves is the one order
    pub sorted_once : (xs ys : List X) → IsSortedBy less ys → IsStableBy less xs ys → ys ≡ sorted_by less xs
    sorted_once xs ys sorted stable =
        one_order ys (sorted_by less xs) (up_of ys (sorted_far less o ys sorted)) (up_sorted xs) (λ t. stable t ∙ sym (kept_sorted t xs))

-- what is made of the elements is in order where they are
map_placed : {Y X : Type 0} (less : X → X → Bool) (f : Y → X) (y : Y) (ys : List Y) → map f (placed (λ a b. less (f a) (f b)) y ys) ≡ placed less (f y) (map f ys)
map_placed less f y [] = refl
map_placed less f y (w ∷ ws) = elim (less (f w) (f y)) as (λ b. map f (cond b (w ∷ placed (λ a b. less (f a) (f b)) y ws) (y ∷ w ∷ ws)) ≡ cond b (f w ∷ placed less (f y) (map f ws)) (f y ∷ f w ∷ map f ws)) [
  | true ↦ ap (λ l. f w ∷ l) (map_placed less f y ws)
  | false ↦ refl
]

pub map_sorted : {Y X : Type 0} (less : X → X → Bool) (f : Y → X) (ys : List Y) → map f (sorted_by (λ a b. less (f a) (f b)) ys) ≡ sorted_by less (map f ys)
map_sorted less f [] = refl
map_sorted less f (y ∷ ys) = map_placed less f y (sorted_by (λ a b. less (f a) (f b)) ys) ∙ ap (placed less (f y)) (map_sorted less f ys)
