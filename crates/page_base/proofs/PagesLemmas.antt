-- A page that was set, and the others.
use Rattle.std.proofs.Common.{refl, ◌≡◌, ◌≢◌, ℕ, ◌+◌, ◌<◌, ◌≤◌, ◌++◌, ◌∷◌, take, replicate, ◌⊎◌, inl, inr, List, [], length, map, get_or, ap, sym, ◌∙◌, subst, arith, get_or-set_other, get_or-set_same, Bool, true, false, cond, ◌==◌, ◌&&◌, eq-eqb, eqb-true}
use Rattle.std.proofs.lemmas.Bool.{cases_lt, cases_eq, ne_eqb, and_parts}
use Rattle.std.proofs.Math.ListN.{set, length-set, length-map, get_or-map as get_or-map_any}
use Rattle.std.proofs.Math.Seq.{map-set_same}
use Rattle.std.proofs.lemmas.List.{get_or_past, get_or-map, map-set, map-append, take_more, get_or_default, set-get_or}
use Rattle.page_base.specs.declared.numbers.PageId.{PageId}
use Rattle.page_base.specs.Pages.{Pages, HasPage, page_or, with_page, shape, filled, image_at, blank, is_page, set_at}

module _ {X : Type 0} where
  pub file_there : (pages : Pages X) (p : PageId) → HasPage pages p → p.file < length pages
  file_there pages p h =
      elim (cases_lt p.file (length pages)) [
        | inl lt ↦ lt
        | inr past ↦ let e : length (get_or pages p.file []) ≡ 0 = ap length (get_or_past pages p.file [] past) in absurd (omega arith)
      ]

  pub page_or-with_page_same : (pages : Pages X) (p : PageId) (x d : X) → HasPage pages p → page_or (with_page pages p x) p d ≡ x
  unfolding page_or with_page
  page_or-with_page_same pages p x d h =
      ap (λ file. get_or file p.page d) (get_or-set_same pages p.file (set (get_or pages p.file []) p.page x) [] (file_there pages p h))
      ∙ get_or-set_same (get_or pages p.file []) p.page x d h

  pub page_or-with_page_other : (pages : Pages X) (p q : PageId) (x d : X) → q ≢ p → page_or (with_page pages p x) q d ≡ page_or pages q d
  unfolding page_or with_page
  page_or-with_page_other pages p q x d h =
      elim (cases_eq q.file p.file) [
        | inl e ↦ elim (cases_lt p.file (length pages)) [
          | inl lt ↦
              let ne : q.page ≢ p.page = λ f. h (λ i. record { file = e i; page = f i }) in
              ap (λ n. get_or (get_or (set pages p.file (set (get_or pages p.file []) p.page x)) n []) q.page d) e
              ∙ ap (λ file. get_or file q.page d) (get_or-set_same pages p.file (set (get_or pages p.file []) p.page x) [] lt)
              ∙ get_or-set_other (get_or pages p.file []) p.page q.page x d ne
              ∙ ap (λ n. get_or (get_or pages n []) q.page d) (sym e)
          | inr past ↦
              let old : get_or pages q.file [] ≡ [] = get_or_past pages q.file [] (omega arith) in
              let new : get_or (set pages p.file (set (get_or pages p.file []) p.page x)) q.file [] ≡ [] = get_or_past _ q.file [] (omega (arith, length-set pages p.file (set (get_or pages p.file []) p.page x))) in
              ap (λ file. get_or file q.page d) (new ∙ sym old)
        ]
        | inr ne ↦ ap (λ file. get_or file q.page d) (get_or-set_other pages p.file q.file (set (get_or pages p.file []) p.page x) [] ne)
      ]

  -- the same pages are there
  pub length-with_page : (pages : Pages X) (p : PageId) (x : X) (n : ℕ) → length (get_or (with_page pages p x) n []) ≡ length (get_or pages n [])
  unfolding with_page
  length-with_page pages p x n =
      elim (cases_eq n p.file) [
        | inl e ↦ elim (cases_lt p.file (length pages)) [
          | inl lt ↦
              ap (λ k. length (get_or (set pages p.file (set (get_or pages p.file []) p.page x)) k [])) e
              ∙ ap length (get_or-set_same pages p.file (set (get_or pages p.file []) p.page x) [] lt)
              ∙ length-set (get_or pages p.file []) p.page x
              ∙ ap (λ k. length (get_or pages k [])) (sym e)
          | inr past ↦
              ap length (get_or_past (set pages p.file (set (get_or pages p.file []) p.page x)) n [] (omega (arith, length-set pages p.file (set (get_or pages p.file []) p.page x))) ∙ sym (get_or_past pages n [] (omega arith)))
        ]
        | inr ne ↦ ap length (get_or-set_other pages p.file n (set (get_or pages p.file []) p.page x) [] ne)
      ]

  pub HasPage-with_page : (pages : Pages X) (p q : PageId) (x : X) → HasPage pages q → HasPage (with_page pages p x) q
  HasPage-with_page pages p q x h = omega (arith, length-with_page pages p x q.file)

-- Rows that are kept as values seen by f: a page that is read, and one that is written.
module _ {A X : Type 0} (f : A → List X) where
  the_row : (rows : List A) (pages : Pages X) (p : PageId) (row : A) → map f rows ≡ pages → HasPage pages p → row ≡ get_or rows p.file row → get_or pages p.file [] ≡ f row
  the_row rows pages p row e h at =
      let lt : p.file < length rows = omega (arith, file_there pages p h, ap length e, length-map rows f) in
      ap (λ ps. get_or ps p.file []) (sym e) ∙ get_or-map f rows p.file row [] lt ∙ ap f (sym at)

  pub row_read : (rows : List A) (pages : Pages X) (p : PageId) (row : A) (x : X) → map f rows ≡ pages → HasPage pages p → row ≡ get_or rows p.file row → x ≡ get_or (f row) p.page x → (d : X) → page_or pages p d ≡ x
  unfolding page_or
  row_read rows pages p row x e h at is d =
      ap (λ file. get_or file p.page d) (the_row rows pages p row e h at)
      ∙ get_or_default (f row) p.page d x (subst (λ file. p.page < length file) (the_row rows pages p row e h at) h)
      ∙ sym is

  pub row_write : (rows : List A) (pages : Pages X) (p : PageId) (row new : A) (x : X) → map f rows ≡ pages → HasPage pages p → row ≡ get_or rows p.file row → f new ≡ set (f row) p.page x → map f (set rows p.file new) ≡ with_page pages p x
  unfolding with_page
  row_write rows pages p row new x e h at is =
      map-set f rows p.file new
      ∙ ap (λ file. set (map f rows) p.file file) (is ∙ ap (λ file. set file p.page x) (sym (the_row rows pages p row e h at)))
      ∙ ap (λ ps. set ps p.file (set (get_or pages p.file []) p.page x)) e

  pub shape_row : (rows : List A) (pages : Pages X) (file : ℕ) (row : A) → map f rows ≡ pages → file < length rows → row ≡ get_or rows file row → length (f row) ≡ get_or (shape pages) file 0
  shape_row rows pages file row e lt at =
      ap (λ r. length (f r)) at
      ∙ ap length (sym (get_or-map f rows file row [] lt))
      ∙ sym (get_or-map_any length (map f rows) file [])
      ∙ ap (λ ps. get_or (shape ps) file 0) e

  pub shape_past : (rows : List A) (pages : Pages X) (file : ℕ) → map f rows ≡ pages → length rows ≤ file → 0 ≡ get_or (shape pages) file 0
  shape_past rows pages file e past = sym (get_or_past (shape pages) file 0 (omega (arith, length-map pages length, ap length e, length-map rows f)))

  -- one file more
  pub filled_more : (rows : List A) (counts : List ℕ) (i : ℕ) (row : A) (x : X) → i < length counts → f row ≡ replicate (get_or counts i 0) x → map f rows ≡ filled (take i counts) x → map f (rows ++ row ∷ []) ≡ filled (take (i + 1) counts) x
  filled_more rows counts i row x lt is h = rw (map-append, take_more counts i 0 lt, map-append, h, is) refl

-- a page that is there, by the shape
pub HasPage-shape : {X Y : Type 0} (a : Pages X) (b : Pages Y) (p : PageId) → shape a ≡ shape b → HasPage a p → HasPage b p
HasPage-shape a b p e h = subst (λ n. p.page < n) (sym (get_or-map_any length a p.file []) ∙ ap (λ l. get_or l p.file 0) e ∙ get_or-map_any length b p.file []) h

pub there_by_count : {X : Type 0} (a : Pages X) (counts : List ℕ) (p : PageId) → counts ≡ shape a → HasPage a p → p.page < get_or counts p.file 0
there_by_count a counts p e h = subst (λ n. p.page < n) (sym (get_or-map_any length a p.file []) ∙ ap (λ l. get_or l p.file 0) (sym e)) h

pub shape-with_page : {X : Type 0} (pages : Pages X) (p : PageId) (x : X) → shape (with_page pages p x) ≡ shape pages
unfolding with_page
shape-with_page pages p x = map-set_same length pages p.file (set (get_or pages p.file []) p.page x) [] (length-set (get_or pages p.file []) p.page x)

pub cases_page : (p q : PageId) → (p ≡ q) ⊎ (p ≢ q)
cases_page p q =
    elim (cases_eq p.file q.file) [
      | inl e ↦ elim (cases_eq p.page q.page) [
        | inl f ↦ inl (λ i. record { file = e i; page = f i })
        | inr ne ↦ inr (λ same. ne (ap (λ (r : PageId). r.page) same))
      ]
      | inr ne ↦ inr (λ same. ne (ap (λ (r : PageId). r.file) same))
    ]

pub with_page-same : {X : Type 0} (pages : Pages X) (p : PageId) (x d : X) → page_or pages p d ≡ x → with_page pages p x ≡ pages
unfolding page_or with_page
with_page-same pages p x d e =
    ap (λ y. set pages p.file (set (get_or pages p.file []) p.page y)) (sym e)
    ∙ ap (set pages p.file) (set-get_or (get_or pages p.file []) p.page d)
    ∙ set-get_or pages p.file []

-- the test of a page says which page it is
pub is_page-true : (p q : PageId) → is_page p q ≡ true → p ≡ q
is_page-true p q h =
    let parts = and_parts (p.file == q.file) (p.page == q.page) h in
    let file = eqb-true p.file q.file parts.0 in
    let page = eqb-true p.page q.page parts.1 in
    λ i. record { file = file i; page = page i }

pub is_page-same : (p : PageId) → is_page p p ≡ true
is_page-same p = ap (λ b. b && p.page == p.page) (eq-eqb p.file p.file refl) ∙ eq-eqb p.page p.page refl

pub is_page-other : (p q : PageId) → q ≢ p → is_page p q ≡ false
is_page-other p q ne =
    elim (cases_eq p.file q.file) [
      | inl e ↦ elim (cases_eq p.page q.page) [
        | inl f ↦ absurd (ne (λ i. record { file = sym e i; page = sym f i }))
        | inr no_page ↦ ap (λ b. p.file == q.file && b) (ne_eqb p.page q.page no_page) ∙ and_no (p.file == q.file)
      ]
      | inr no_file ↦ ap (λ b. b && p.page == q.page) (ne_eqb p.file q.file no_file)
    ]
  where
    and_no : (b : Bool) → (b && false) ≡ false
    and_no true = refl
    and_no false = refl

-- the images after one page was set, as functions
pub image_at-with_page : (pages : Pages (List ℕ)) (p : PageId) (x : List ℕ) → HasPage pages p → image_at (with_page pages p x) ≡ set_at (image_at pages) p x
image_at-with_page pages p x h = λ i q. (elim (cases_page q p) as (λ c. image_at (with_page pages p x) q ≡ set_at (image_at pages) p x q) [
  | inl e ↦ ap (image_at (with_page pages p x)) e ∙ page_or-with_page_same pages p x blank h ∙ sym (ap (λ b. cond b x (image_at pages q)) (ap (is_page p) e ∙ is_page-same p))
  | inr ne ↦ page_or-with_page_other pages p q x blank ne ∙ sym (ap (λ b. cond b x (image_at pages q)) (is_page-other p q ne))
]) i
