-- A count of pages falls by one where one page less passes.
use Rattle.std.proofs.Common.{◌≡◌, ◌≢◌, inl, inr, ℕ, zero, suc, ◌+◌, ◌-◌, ◌<◌, ◌≤◌, Bool, true, false, cond, List, [], ◌∷◌, length, get_or, refl, ap, sym, subst, ◌∙◌, arith}
use Rattle.std.specs.Prelude.{◌==◌}
use Rattle.std.specs.List.{AllByRecursion}
use Rattle.std.proofs.lemmas.Bool.{cases_Bool, cases_eq, and_parts, eqb-true, eq-eqb, leb-true}
use Rattle.page_base.specs.declared.numbers.PageId.{PageId}
use Rattle.page_base.specs.Pages.{is_page}
use Rattle.page_tables.specs.Owners.{is_there}
use Rattle.step_trail.specs.Counting.{AreApart, all_pages, is_in, pages_in, pages_from, count_pages}

abbrev one : Bool → ℕ
one b = cond b 1 0

abbrev at : ℕ → ℕ → PageId
at file n = record { file = file; page = n }

module _ (t u : PageId → Bool) where
  in_same : (file n : ℕ) → ((m : ℕ) → m < n → u (at file m) ≡ t (at file m)) → pages_in u file n ≡ pages_in t file n
  in_same file zero same = refl
  in_same file (suc n) same =
      let less : pages_in u file n ≡ pages_in t file n = in_same file n (λ m lt. same m (omega (arith, lt))) in
      let here : one (u (at file n)) ≡ one (t (at file n)) = ap one (same n (omega arith)) in
      omega (arith, less, here)

  from_same : (file : ℕ) (files : List ℕ) → ((q : PageId) → file ≤ q.file → u q ≡ t q) → pages_from u file files ≡ pages_from t file files
  from_same file [] same = refl
  from_same file (n ∷ ns) same =
      let here : pages_in u file n ≡ pages_in t file n = in_same file n (λ m lt. same (at file m) (omega arith)) in
      let later : pages_from u (file + 1) ns ≡ pages_from t (file + 1) ns = from_same (file + 1) ns (λ q le. same q (omega (arith, le))) in
      omega (arith, here, later)

  module _ (p : PageId) (was : t p ≡ true) (now : u p ≡ false) (else : (q : PageId) → q ≢ p → u q ≡ t q) where
    other_page : (m : ℕ) → m ≢ p.page → u (at p.file m) ≡ t (at p.file m)
    other_page m ne = else (at p.file m) (λ same. ne (ap (λ (q : PageId). q.page) same))

    in_falls : (n : ℕ) → p.page < n → pages_in t p.file n ≡ pages_in u p.file n + 1
    in_falls zero lt = absurd (omega (arith, lt))
    in_falls (suc n) lt = elim (cases_eq p.page n) [
      | inl here ↦
          let less : pages_in u p.file n ≡ pages_in t p.file n = in_same p.file n (λ m below. other_page m (λ same. (let lt : m < n = below in omega (arith, same, here, lt)))) in
          let gone : one (u (at p.file n)) ≡ 0 = ap one (subst (λ (m : ℕ). u (at p.file m) ≡ false) here now) in
          let stood : one (t (at p.file n)) ≡ 1 = ap one (subst (λ (m : ℕ). t (at p.file m) ≡ true) here was) in
          omega (arith, less, gone, stood)
      | inr ne ↦
          let less : pages_in t p.file n ≡ pages_in u p.file n + 1 = in_falls n (omega (arith, lt, ne)) in
          let here : one (u (at p.file n)) ≡ one (t (at p.file n)) = ap one (other_page n (λ same. ne (sym same))) in
          omega (arith, less, here)
    ]

    from_falls : (file : ℕ) (files : List ℕ) → file ≤ p.file → p.page < get_or files (p.file - file) 0 → pages_from t file files ≡ pages_from u file files + 1
    from_falls file [] le lt = absurd (omega (arith, lt))
    from_falls file (n ∷ ns) le lt = elim (cases_eq file p.file) [
      | inl same ↦
          let first : p.file - file ≡ 0 = omega (arith, same) in
          let within : p.page < n = subst (λ (i : ℕ). p.page < get_or (n ∷ ns) i 0) first lt in
          let here : pages_in t file n ≡ pages_in u file n + 1 = subst (λ (f : ℕ). pages_in t f n ≡ pages_in u f n + 1) (sym same) (in_falls n within) in
          let later : pages_from u (file + 1) ns ≡ pages_from t (file + 1) ns = from_same (file + 1) ns (λ q above. else q (λ is. (let its : q.file ≡ p.file = ap (λ (r : PageId). r.file) is in omega (arith, above, its, same)))) in
          omega (arith, here, later)
      | inr ne ↦
          let next : p.file - file ≡ suc (p.file - (file + 1)) = omega (arith, ne, le) in
          let within : p.page < get_or ns (p.file - (file + 1)) 0 = subst (λ (i : ℕ). p.page < get_or (n ∷ ns) i 0) next lt in
          let here : pages_in u file n ≡ pages_in t file n = in_same file n (λ m below. else (at file m) (λ is. ne (ap (λ (r : PageId). r.file) is))) in
          let later : pages_from t (file + 1) ns ≡ pages_from u (file + 1) ns + 1 = from_falls (file + 1) ns (omega (arith, ne, le)) within in
          omega (arith, here, later)
    ]

    pub count_falls : (files : List ℕ) → is_there files p ≡ true → count_pages files t ≡ count_pages files u + 1
    unfolding count_pages
    count_falls files there = from_falls 0 files (omega arith) (let lt = leb-true (suc p.page) (get_or files p.file 0) there in let same : p.file - 0 ≡ p.file = omega arith in subst (λ (i : ℕ). p.page < get_or files i 0) (sym same) (omega (arith, lt)))

  module _ (fewer : (q : PageId) → u q ≡ true → t q ≡ true) where
    one_fewer : (a b : Bool) → (a ≡ true → b ≡ true) → one a ≤ one b
    one_fewer true b f = rw (f refl) (omega arith)
    one_fewer false b f = omega arith

    in_fewer : (file n : ℕ) → pages_in u file n ≤ pages_in t file n
    in_fewer file zero = omega arith
    in_fewer file (suc n) =
        let less = in_fewer file n in
        let here = one_fewer (u (at file n)) (t (at file n)) (fewer (at file n)) in
        omega (arith, less, here)

    from_fewer : (file : ℕ) (files : List ℕ) → pages_from u file files ≤ pages_from t file files
    from_fewer file [] = omega arith
    from_fewer file (n ∷ ns) =
        let here = in_fewer file n in
        let later = from_fewer (file + 1) ns in
        omega (arith, here, later)

    pub count_fewer : (files : List ℕ) → count_pages files u ≤ count_pages files t
    unfolding count_pages
    count_fewer files = from_fewer 0 files

-- no page passes a test that none does
in_none : (file n : ℕ) → pages_in (λ (q : PageId). false) file n ≡ 0
in_none file zero = refl
in_none file (suc n) = (let less = in_none file n in omega (arith, less))

from_none : (file : ℕ) (files : List ℕ) → pages_from (λ (q : PageId). false) file files ≡ 0
from_none file [] = refl
from_none file (n ∷ ns) = (let here = in_none file n in let later = from_none (file + 1) ns in omega (arith, here, later))

count_none : (files : List ℕ) → count_pages files (λ (q : PageId). false) ≡ 0
unfolding count_pages
count_none files = from_none 0 files

-- a page is itself, and no other one
page_itself : (p : PageId) → is_page p p ≡ true
page_itself p = rw (eq-eqb p.file p.file refl, eq-eqb p.page p.page refl) refl

page_other : (p q : PageId) → q ≢ p → is_page p q ≡ false
page_other p q ne = elim (cases_Bool (is_page p q)) [
  | inl is ↦ absurd (ne (let both = and_parts (p.file == q.file) (p.page == q.page) is in let file : p.file ≡ q.file = eqb-true p.file q.file both.0 in let page : p.page ≡ q.page = eqb-true p.page q.page both.1 in ap (λ (n : ℕ). record { file = n; page = q.page }) (sym file) ∙ ap (λ (n : ℕ). record { file = p.file; page = n }) (sym page)))
  | inr not ↦ not
]

count_in : (files : List ℕ) (ps : List PageId) → AreApart ps → AllByRecursion (λ (p : PageId). is_there files p ≡ true) ps → count_pages files (is_in ps) ≡ length ps
count_in files [] apart there = count_none files
count_in files (p ∷ ps) apart there =
    let later : count_pages files (is_in ps) ≡ length ps = count_in files ps apart.1 there.1 in
    let more : count_pages files (is_in (p ∷ ps)) ≡ count_pages files (is_in ps) + 1 = count_falls (is_in (p ∷ ps)) (is_in ps) p (rw (page_itself p) refl) apart.0 (λ q ne. rw (page_other p q ne) refl) files there.0 in
    omega (arith, later, more)

pub apart_counted : (files : List ℕ) (ps : List PageId) → AreApart ps → AllByRecursion (λ (p : PageId). is_there files p ≡ true) ps → length ps ≤ all_pages files
apart_counted files ps apart there =
    let same = count_in files ps apart there in
    let less : count_pages files (is_in ps) ≤ all_pages files = count_fewer (λ (q : PageId). true) (is_in ps) (λ q is. refl) files in
    omega (arith, same, less)

pub apart_fewer : (files : List ℕ) (ps : List PageId) (q : PageId) → AreApart ps → AllByRecursion (λ (p : PageId). is_there files p ≡ true) ps → is_there files q ≡ true → is_in ps q ≡ false → length ps < all_pages files
apart_fewer files ps q apart there here out = (let more = apart_counted files (q ∷ ps) (out, apart) (here, there) in omega (arith, more))
