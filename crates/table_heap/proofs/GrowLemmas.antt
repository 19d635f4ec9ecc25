-- A heap whose root pages name more leaves than before: its pages are the old ones and those that are claimed.
use Rattle.std.proofs.Common.{refl, ◌≡◌, ◌≢◌, ℕ, zero, suc, ◌+◌, ◌<◌, ◌≤◌, List, [], ◌∷◌, ◌++◌, length, get_or, map, ap, sym, ◌∙◌, subst, arith, Bool, true, false, cond, ◌||◌, ◌==◌, inl, inr, eq-eqb}
use Rattle.std.specs.Prelude.{◌↔◌}
use Rattle.std.specs.List.{All}
use Rattle.std.proofs.lemmas.Bool.{cases_lt, cases_eq, ne_eqb}
use Rattle.page_base.specs.declared.numbers.PageId.{PageId}
use Rattle.page_base.specs.Pages.{is_page}
use Rattle.page_fmt.specs.Seen.{SlotsAt}
use Rattle.page_fmt.proofs.SeenLemmas.{is_page-same, is_page-true}
use Rattle.table_walk.specs.Plans.{is_claimed, also, AreFree}
use Rattle.table_walk.specs.Walk.{Reaches}
use Rattle.table_heap.specs.Growth.{count_of, IsNumbering}
use Rattle.table_heap.specs.Shape.{Chain, visits_of, times, IsHeapOf}
use Rattle.table_heap.proofs.ShapeLemmas.{times_append, one_here, none_here, reaches_of, of_reaches}

-- NUMBERS, COUNTED

pub count_append : (i : ℕ) (xs ys : List ℕ) → count_of i (xs ++ ys) ≡ count_of i xs + count_of i ys
count_append i [] ys = omega arith
count_append i (x ∷ xs) ys = omega (arith, count_append i xs ys)

pub count_here : (j i n : ℕ) → j ≡ i → cond {A = ℕ} (j == i) 1 0 + n ≡ 1 + n
count_here j i n e = ap (λ b. cond {A = ℕ} b 1 0 + n) (eq-eqb j i e)

pub count_other : (j i n : ℕ) → j ≢ i → cond {A = ℕ} (j == i) 1 0 + n ≡ n
count_other j i n ne = ap (λ b. cond {A = ℕ} b 1 0 + n) (ne_eqb j i ne) ∙ zero_more n
  where
    zero_more : (n : ℕ) → 0 + n ≡ n
    zero_more n = omega arith

-- the next number, put anywhere
pub numbering_more : (n : ℕ) (xs ys zs : List ℕ) → IsNumbering n (xs ++ ys) → zs ≡ xs ++ n ∷ ys → IsNumbering (n + 1) zs
numbering_more n xs ys zs h e = record {
  each = λ i lt. elim (cases_eq n i) [
    | inl same ↦ omega (arith, counted i, one i same, subst (λ j. count_of j (xs ++ ys) ≡ 0) same (h.below n (omega arith)))
    | inr ne ↦ omega (arith, counted i, none i ne, h.each i (omega arith))
  ];
  below = λ i ge. omega (arith, counted i, none i (λ f. absurd (omega arith)), h.below i (omega arith));
}
  where
    counted : (i : ℕ) → count_of i zs ≡ cond {A = ℕ} (n == i) 1 0 + count_of i (xs ++ ys)
    counted i = omega (arith, ap (count_of i) e, count_append i xs (n ∷ ys), count_append i xs ys)

    one : (i : ℕ) → n ≡ i → cond {A = ℕ} (n == i) 1 0 + count_of i (xs ++ ys) ≡ 1 + count_of i (xs ++ ys)
    one i e = count_here n i (count_of i (xs ++ ys)) e

    none : (i : ℕ) → n ≢ i → cond {A = ℕ} (n == i) 1 0 + count_of i (xs ++ ys) ≡ count_of i (xs ++ ys)
    none i ne = count_other n i (count_of i (xs ++ ys)) ne

-- NUMBERS IN AN ORDER

pub count_at : (xs : List ℕ) (k d : ℕ) → k < length xs → 1 ≤ count_of (get_or xs k d) xs
count_at [] k d h = absurd (omega arith)
count_at (x ∷ xs) zero d h = omega (arith, count_here x x (count_of x xs) refl)
count_at (x ∷ xs) (suc k) d h = omega (arith, count_at xs k d (omega arith))

pub numbered_below : (n i : ℕ) (xs : List ℕ) → IsNumbering n xs → 1 ≤ count_of i xs → i < n
numbered_below n i xs h some = elim (cases_lt i n) [
  | inl lt ↦ lt
  | inr ge ↦ absurd (omega (arith, h.below i ge))
]

pub numbered_all : (n : ℕ) (xs : List ℕ) → IsNumbering n xs → All (λ i. i < n) xs
numbered_all n xs h k d lt = numbered_below n (get_or xs k d) xs h (count_at xs k d lt)

-- PAGES THAT ARE CLAIMED

module _ (claimed : ℕ → PageId) where
  pub claim_of : (n : ℕ) (p : PageId) → is_claimed claimed n p ≡ true → (i : ℕ) × (i < n) × (claimed i ≡ p)
  claim_of zero p e = let w : false ≡ true = e in cc
  claim_of (suc n) p e =
      let by : (b : Bool) → is_page (claimed n) p ≡ b → (b || is_claimed claimed n p) ≡ true → (i : ℕ) × (i < suc n) × (claimed i ≡ p) =
      elim [
        | true ↦ λ f g. (n, omega arith, is_page-true (claimed n) p f)
        | false ↦ λ f g. let x = claim_of n p g in (x.0, omega (arith, x.1), x.2)
      ] in
      by (is_page (claimed n) p) refl e

  pub of_claim : (n i : ℕ) (p : PageId) → i < n → claimed i ≡ p → is_claimed claimed n p ≡ true
  of_claim zero i p h e = absurd (omega arith)
  of_claim (suc n) i p h e =
      elim (cases_eq i n) [
        | inl same ↦ ap (λ b. b || is_claimed claimed n p) (ap (λ q. is_page q p) (ap claimed (sym same) ∙ e) ∙ is_page-same p)
        | inr ne ↦ or_right (is_page (claimed n) p) (is_claimed claimed n p) (of_claim n i p (omega arith) e)
      ]
    where
      or_right : (a b : Bool) → b ≡ true → (a || b) ≡ true
      or_right true b e = refl
      or_right false b e = e

  -- a page is claimed as often as its number is
  times_count : (xs : List ℕ) (i : ℕ) (p : PageId) → claimed i ≡ p → ((j : ℕ) → 1 ≤ count_of j xs → claimed j ≡ p → j ≡ i) → times p (map claimed xs) ≡ count_of i xs
  times_count [] i p e one = refl
  times_count (x ∷ xs) i p e one =
      let rest : times p (map claimed xs) ≡ count_of i xs = times_count xs i p e (λ j some f. one j (omega arith) f) in
      elim (cases_eq x i) [
        | inl same ↦ omega (arith, one_here (claimed x) p (times p (map claimed xs)) (ap claimed same ∙ e), count_here x i (count_of i xs) same)
        | inr ne ↦ omega (arith, none_here (claimed x) p (times p (map claimed xs)) (λ f. ne (one x (omega (arith, count_here x x (count_of x xs) refl)) f)), count_other x i (count_of i xs) ne)
      ]

  times_none : (xs : List ℕ) (p : PageId) → ((j : ℕ) → 1 ≤ count_of j xs → claimed j ≢ p) → times p (map claimed xs) ≡ 0
  times_none [] p h = refl
  times_none (x ∷ xs) p h = omega (arith, none_here (claimed x) p (times p (map claimed xs)) (h x (omega (arith, count_here x x (count_of x xs) refl))), times_none xs p (λ j some. h j (omega arith)))

  -- each of the first n pages is claimed once, and no other
  record TimesClaimed (n : ℕ) (p : PageId) (xs : List ℕ) : Type 0 where
    yes : is_claimed claimed n p ≡ true → times p (map claimed xs) ≡ 1
    not : is_claimed claimed n p ≡ false → times p (map claimed xs) ≡ 0

  times_claimed : (n : ℕ) (p : PageId) (xs : List ℕ) → ((i j : ℕ) → i < j → j < n → claimed i ≢ claimed j) → IsNumbering n xs → TimesClaimed n p xs
  times_claimed n p xs differ h = record {
    yes = λ e. let x = claim_of n p e in times_count xs x.0 p x.2 (λ j some f. one j x.0 some x.1 (f ∙ sym x.2)) ∙ h.each x.0 x.1;
    not = λ e. times_none xs p (λ j some f. let w : true ≡ false = sym (of_claim n j p (small j some) f) ∙ e in absurd (false_true w));
  }
    where
      false_true : true ≡ false → ⊥
      false_true w = cc

      small : (j : ℕ) → 1 ≤ count_of j xs → j < n
      small j some = elim (cases_lt j n) [
        | inl lt ↦ lt
        | inr ge ↦ absurd (omega (arith, h.below j ge))
      ]

      one : (j i : ℕ) → 1 ≤ count_of j xs → i < n → claimed j ≡ claimed i → j ≡ i
      one j i some lt e =
          elim (cases_eq j i) [
            | inl same ↦ same
            | inr ne ↦ elim (cases_lt j i) [
              | inl below ↦ absurd (differ j i below lt e)
              | inr past ↦ absurd (differ i j (omega arith) (small j some) (sym e))
            ]
          ]

-- the old pages and the claimed ones are all that the heap has afterwards
pub record IsGrown (at other : SlotsAt) (owns : PageId → Bool) (root : PageId) (claimed : ℕ → PageId) (n : ℕ) (roots leaves : List PageId) : Type 0 where
  pub heap : IsHeapOf other root roots leaves
  pub owned : (p : PageId) → (also owns claimed n p ≡ true) ↔ Reaches (visits_of root roots leaves) p

module _ (at : SlotsAt) (owns : PageId → Bool) (root : PageId) (claimed : ℕ → PageId) (n : ℕ) (roots leaves : List PageId) (more_roots more_leaves : List ℕ) (h : IsHeapOf at root roots leaves)
    (owned : (p : PageId) → (owns p ≡ true) ↔ Reaches (visits_of root roots leaves) p) (free : AreFree claimed n at owns) (numbered : IsNumbering n (more_leaves ++ more_roots)) where
  map_append : (xs ys : List ℕ) → map claimed (xs ++ ys) ≡ map claimed xs ++ map claimed ys
  map_append [] ys = refl
  map_append (x ∷ xs) ys = ap (λ ps. claimed x ∷ ps) (map_append xs ys)

  parts : (p : PageId) → times p (roots ++ map claimed more_roots) + times p (leaves ++ map claimed more_leaves) ≡ times p roots + times p leaves + times p (map claimed (more_leaves ++ more_roots))
  parts p = omega (arith, times_append p roots (map claimed more_roots), times_append p leaves (map claimed more_leaves), ap (times p) (map_append more_leaves more_roots), times_append p (map claimed more_leaves) (map claimed more_roots))

  t : (p : PageId) → TimesClaimed claimed n p (more_leaves ++ more_roots)
  t p = times_claimed claimed n p (more_leaves ++ more_roots) free.differ numbered

  -- a claimed page isn't one of the old ones
  apart : (p : PageId) → is_claimed claimed n p ≡ true → times p roots + times p leaves ≡ 0
  apart p e =
      let x = claim_of claimed n p e in
      let unowned : owns p ≡ false = ap owns (sym x.2) ∙ free.unowned x.0 x.1 in
      elim (cases_lt 0 (times p roots + times p leaves)) [
        | inl here ↦ absurd (let w : true ≡ false = sym ((owned p).1 (reaches_of at root p roots leaves h (omega arith))) ∙ unowned in cc)
        | inr none ↦ omega arith
      ]

  -- all pages differ
  pub differ_grown : (p : PageId) → times p (roots ++ map claimed more_roots) + times p (leaves ++ map claimed more_leaves) ≤ 1
  differ_grown p =
      let by : (b : Bool) → is_claimed claimed n p ≡ b → times p (roots ++ map claimed more_roots) + times p (leaves ++ map claimed more_leaves) ≤ 1 =
      elim [
        | true ↦ λ e. omega (arith, parts p, apart p e, (t p).yes e)
        | false ↦ λ e. omega (arith, parts p, h.differ p, (t p).not e)
      ] in
      by (is_claimed claimed n p) refl

  -- a page that is owned afterwards is one of these
  pub owned_there : (p : PageId) → also owns claimed n p ≡ true → 1 ≤ times p (roots ++ map claimed more_roots) + times p (leaves ++ map claimed more_leaves)
  owned_there p e =
      let by : (b : Bool) → owns p ≡ b → (b || is_claimed claimed n p) ≡ true → 1 ≤ times p (roots ++ map claimed more_roots) + times p (leaves ++ map claimed more_leaves) =
      elim [
        | true ↦ λ f g. omega (arith, parts p, of_reaches at root p roots leaves h ((owned p).0 f))
        | false ↦ λ f g. omega (arith, parts p, (t p).yes g)
      ] in
      by (owns p) refl e

  -- and the other way round
  pub there_owned : (p : PageId) → 1 ≤ times p (roots ++ map claimed more_roots) + times p (leaves ++ map claimed more_leaves) → also owns claimed n p ≡ true
  there_owned p some =
      let by : (b c : Bool) → owns p ≡ b → is_claimed claimed n p ≡ c → (b || c) ≡ true =
      elim [
        | true ↦ λ c e f. refl
        | false ↦ elim [
          | true ↦ λ e f. refl
          | false ↦ λ e f. elim (cases_lt 0 (times p roots + times p leaves)) [
            | inl here ↦ let w : true ≡ false = sym ((owned p).1 (reaches_of at root p roots leaves h (omega arith))) ∙ e in cc
            | inr none ↦ absurd (omega (arith, parts p, (t p).not f))
          ]
        ]
      ] in
      by (owns p) (is_claimed claimed n p) refl refl

pub grown_heap : (at other : SlotsAt) (owns : PageId → Bool) (root : PageId) (claimed : ℕ → PageId) (n : ℕ) (roots leaves : List PageId) (more_roots more_leaves : List ℕ)
    → IsHeapOf at root roots leaves → ((p : PageId) → (owns p ≡ true) ↔ Reaches (visits_of root roots leaves) p) → AreFree claimed n at owns → IsNumbering n (more_leaves ++ more_roots)
    → Chain other (roots ++ map claimed more_roots) (leaves ++ map claimed more_leaves) → IsGrown at other owns root claimed n (roots ++ map claimed more_roots) (leaves ++ map claimed more_leaves)
grown_heap at other owns root claimed n roots leaves more_roots more_leaves h owned free numbered chain = record {
  heap = heap;
  owned = λ p. (
    λ e. reaches_of other root p (roots ++ map claimed more_roots) (leaves ++ map claimed more_leaves) heap (owned_there at owns root claimed n roots leaves more_roots more_leaves h owned free numbered p e),
    λ x. there_owned at owns root claimed n roots leaves more_roots more_leaves h owned free numbered p (of_reaches other root p (roots ++ map claimed more_roots) (leaves ++ map claimed more_leaves) heap x),
  );
}
  where
    heap : IsHeapOf other root (roots ++ map claimed more_roots) (leaves ++ map claimed more_leaves)
    heap = record { more = h.more ++ map claimed more_roots; begins = ap (λ rs. rs ++ map claimed more_roots) h.begins; chain = chain; differ = differ_grown at owns root claimed n roots leaves more_roots more_leaves h owned free numbered }
