-- The place of a page among pages that were read, with one page more.
use Rattle.std.proofs.Common.{refl, ◌≡◌, ℕ, ◌+◌, ◌<◌, ◌≤◌, List, [], ◌∷◌, ◌++◌, length, ap, sym, ◌∙◌, subst, arith, Bool, true, false, cond, ◌==◌, ◌&&◌, inl, inr, length-append}
use Rattle.std.specs.Prelude.{Option, Some, None, IfSome, IfNone}
use Rattle.std.specs.Option.{is_some}
use Rattle.std.specs.Ordering.{nat_cmp, ordering_then, is_eq}
use Rattle.std.specs.declared.cmp.Ordering.{Ordering}
use Rattle.std.specs.declared.cmp.Ordering.TheVariants.{Less, Equal, Greater}
use Rattle.std.proofs.lemmas.Bool.{cases_lt, lt-ltb, le-ltb}
use Rattle.std.proofs.lemmas.Bool.Decides.{nat_tests}
use Rattle.page_base.specs.declared.numbers.PageId.{PageId}
use Rattle.page_base.specs.Pages.{is_page}
use Rattle.page_fmt.specs.Seen.{Looked, place_of}
use Rattle.page_fmt.proofs.SeenLemmas.{is_page-true}
use Rattle.table_walk.specs.Index.{page_cmp, place_in}

place_within : (xs : List Looked) (q : PageId) → place_of xs q ≤ length xs
place_within [] q = omega arith
place_within (x ∷ xs) q = by (is_page x.page q) (place_within xs q)
  where
    by : (b : Bool) → place_of xs q ≤ length xs → cond b 0 (place_of xs q + 1) ≤ length (x ∷ xs)
    by true h = omega arith
    by false h = omega arith

place_stays : (xs ys : List Looked) (q : PageId) → place_of xs q < length xs → place_of (xs ++ ys) q ≡ place_of xs q
place_stays [] ys q h = absurd (omega arith)
place_stays (x ∷ xs) ys q h = by (is_page x.page q) h (λ g. place_stays xs ys q g)
  where
    by : (b : Bool) → cond b 0 (place_of xs q + 1) < length (x ∷ xs) → (place_of xs q < length xs → place_of (xs ++ ys) q ≡ place_of xs q) → cond b 0 (place_of (xs ++ ys) q + 1) ≡ cond b 0 (place_of xs q + 1)
    by true g later = refl
    by false g later = ap (λ n. n + 1) (later (omega arith))

place_new : (xs : List Looked) (x : Looked) (q : PageId) → place_of xs q ≡ length xs → place_of (xs ++ x ∷ []) q ≡ cond (is_page x.page q) (length xs) (length xs + 1)
place_new [] x q h = by (is_page x.page q)
  where
    by : (b : Bool) → cond {A = ℕ} b 0 (0 + 1) ≡ cond b 0 (0 + 1)
    by b = refl
place_new (y ∷ ys) x q h = by (is_page y.page q) h (λ g. place_new ys x q g)
  where
    by : (b : Bool) → cond b 0 (place_of ys q + 1) ≡ length (y ∷ ys) → (place_of ys q ≡ length ys → place_of (ys ++ x ∷ []) q ≡ cond (is_page x.page q) (length ys) (length ys + 1)) → cond b 0 (place_of (ys ++ x ∷ []) q + 1) ≡ cond (is_page x.page q) (length (y ∷ ys)) (length (y ∷ ys) + 1)
    by true g later = absurd (omega arith)
    by false g later = ap (λ n. n + 1) (later (omega arith)) ∙ over (is_page x.page q)
      where
        over : (t : Bool) → cond t (length ys) (length ys + 1) + 1 ≡ cond t (length (y ∷ ys)) (length (y ∷ ys) + 1)
        over true = omega arith
        over false = omega arith

in_is : (xs : List Looked) (q : PageId) → place_of xs q < length xs → place_in xs q ≡ Some (place_of xs q)
in_is xs q h = ap (λ b. cond b (Some (place_of xs q)) None) (lt-ltb (place_of xs q) (length xs) h)

out_is : (xs : List Looked) (q : PageId) → length xs ≤ place_of xs q → place_in xs q ≡ None
out_is xs q h = ap (λ b. cond b (Some (place_of xs q)) None) (le-ltb (place_of xs q) (length xs) h)

-- what is answered for a place
pub place_some : (xs : List Looked) (q : PageId) (o : Option ℕ) → o ≡ place_in xs q → IfSome o (λ i. (i ≡ place_of xs q) × (i < length xs)) × IfNone o (place_of xs q ≡ length xs)
place_some xs q o e = elim (cases_lt (place_of xs q) (length xs)) [
  | inl lt ↦ subst (λ x. IfSome x (λ i. (i ≡ place_of xs q) × (i < length xs)) × IfNone x (place_of xs q ≡ length xs)) (sym (e ∙ in_is xs q lt)) ((refl, lt), tt)
  | inr ge ↦ let w = place_within xs q in subst (λ x. IfSome x (λ i. (i ≡ place_of xs q) × (i < length xs)) × IfNone x (place_of xs q ≡ length xs)) (sym (e ∙ out_is xs q ge)) (tt, omega arith)
]

no_Some : {A P : Type 0} (x : A) → ◌≡◌ {A = Option A} (Some x) None → P
no_Some x e = absurd (subst (λ b. cond b (Unit {0}) ⊥) (ap is_some e) tt)

-- one page more, which was read before
pub index_old : (xs : List Looked) (x : Looked) (q : PageId) → is_some (place_in xs x.page) ≡ true → place_in xs q ≡ place_in (xs ++ x ∷ []) q
index_old xs x q old = elim (cases_lt (place_of xs q) (length xs)) [
  | inl lt ↦
      let same = place_stays xs (x ∷ []) q lt in
      let long = length-append xs (x ∷ []) in
      in_is xs q lt ∙ ap Some (sym same) ∙ sym (in_is (xs ++ x ∷ []) q (omega arith))
  | inr ge ↦ by ge (is_page x.page q) refl
]
  where
    by : length xs ≤ place_of xs q → (b : Bool) → is_page x.page q ≡ b → place_in xs q ≡ place_in (xs ++ x ∷ []) q
    by ge true e =
        let none : place_in xs x.page ≡ None = ap (place_in xs) (is_page-true x.page q e) ∙ out_is xs q ge in
        let f : true ≡ false = sym old ∙ ap is_some none in
        absurd (let wrong : true ≡ false = f in cc)
    by ge false e =
        let w = place_within xs q in
        let at = place_new xs x q (omega arith) ∙ ap (λ b. cond b (length xs) (length xs + 1)) e in
        let long = length-append xs (x ∷ []) in
        out_is xs q ge ∙ sym (out_is (xs ++ x ∷ []) q (omega arith))

is_eq_page : (p q : PageId) → is_eq (page_cmp p q) ≡ is_page p q
is_eq_page p q = both (nat_cmp p.file q.file) (nat_cmp p.page q.page) ∙ (λ i. one p.file q.file i && one p.page q.page i)
  where
    both : (a b : Ordering) → is_eq (ordering_then a b) ≡ (is_eq a && is_eq b)
    both Less b = refl
    both Equal b = refl
    both Greater b = refl

    one : (a b : ℕ) → is_eq (nat_cmp a b) ≡ (a == b)
    one a b = grind (arith, nat_tests)

-- one page more, which wasn't
pub index_new : (xs : List Looked) (x : Looked) (q : PageId) → is_some (place_in xs x.page) ≡ false → cond (is_eq (page_cmp x.page q)) (Some (length xs)) (place_in xs q) ≡ place_in (xs ++ x ∷ []) q
index_new xs x q new = ap (λ b. cond b (Some (length xs)) (place_in xs q)) (is_eq_page x.page q) ∙ by (is_page x.page q) refl
  where
    by : (b : Bool) → is_page x.page q ≡ b → cond b (Some (length xs)) (place_in xs q) ≡ place_in (xs ++ x ∷ []) q
    by true e =
        elim (cases_lt (place_of xs q) (length xs)) as (λ _. Some (length xs) ≡ place_in (xs ++ x ∷ []) q) [
          | inl lt ↦
              let some : place_in xs x.page ≡ Some (place_of xs q) = ap (place_in xs) (is_page-true x.page q e) ∙ in_is xs q lt in
              let f : true ≡ false = sym (ap is_some some) ∙ new in
              absurd (let wrong : true ≡ false = f in cc)
          | inr ge ↦
              let w = place_within xs q in
              let at = place_new xs x q (omega arith) ∙ ap (λ b. cond b (length xs) (length xs + 1)) e in
              let long = length-append xs (x ∷ []) in
              ap Some (sym at) ∙ sym (in_is (xs ++ x ∷ []) q (omega arith))
        ]
    by false e =
        elim (cases_lt (place_of xs q) (length xs)) as (λ _. place_in xs q ≡ place_in (xs ++ x ∷ []) q) [
          | inl lt ↦
              let same = place_stays xs (x ∷ []) q lt in
              let long = length-append xs (x ∷ []) in
              in_is xs q lt ∙ ap Some (sym same) ∙ sym (in_is (xs ++ x ∷ []) q (omega arith))
          | inr ge ↦
              let w = place_within xs q in
              let at = place_new xs x q (omega arith) ∙ ap (λ b. cond b (length xs) (length xs + 1)) e in
              let long = length-append xs (x ∷ []) in
              out_is xs q ge ∙ sym (out_is (xs ++ x ∷ []) q (omega arith))
        ]

pub if_some : {A : Type 0} {P Q : A → Type 0} (o : Option A) → ((x : A) → P x → Q x) → IfSome o P → IfSome o Q
if_some None f p = tt
if_some (Some x) f p = f x p
