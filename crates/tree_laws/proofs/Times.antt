-- How often a page stands among some, and parts of a walk over typed pages that change no other part.
use Rattle.std.proofs.Common.{◌≡◌, ◌≢◌, ◌≤◌, ◌+◌, ℕ, zero, suc, Bool, cond, List, [], ◌∷◌, ◌++◌, refl, ap, sym, ◌∙◌, subst, arith, map}
use Rattle.std.specs.List.{flat_map}
use Rattle.page_base.specs.declared.column.Column.{Column}
use Rattle.page_base.specs.declared.numbers.PageId.{PageId}
use Rattle.page_base.specs.Pages.{is_page, set_at}
use Rattle.page_fmt.proofs.SeenLemmas.{is_page-same, is_page-other}
use Rattle.tree_laws.specs.Order.{own}
use Rattle.tree_laws.specs.Puts.{rows_in_order, in_key_order}
use Rattle.tree_laws.specs.Sheets.{Entry, Sheet, leaf_in, entries_in}
use Rattle.tree_laws.specs.Trees.{entries_at, headless, row_mark, marks_of, inside, rows_of, pages_of}
pub use Rattle.tree_laws.specs.Trees.{times}

pub times-append : (q : PageId) (ps qs : List PageId) → times q (ps ++ qs) ≡ times q ps + times q qs
times-append q [] qs = omega arith
times-append q (p ∷ ps) qs = omega (arith, times-append q ps qs)

pub times_here : (p : PageId) (ps : List PageId) → 1 ≤ times p (p ∷ ps)
times_here p ps = let e : cond {A = ℕ} (is_page p p) 1 0 ≡ 1 = ap (λ (b : Bool). cond {A = ℕ} b 1 0) (is_page-same p) in omega (arith, e)

pub times_first : (p : PageId) (ps : List PageId) → times p (p ∷ ps) ≡ 1 + times p ps
times_first p ps = ap (λ (b : Bool). cond {A = ℕ} b 1 0 + times p ps) (is_page-same p)

-- two states of pages that agree on some
abbrev pub AgreeOn : (PageId → Sheet) → (PageId → Sheet) → List PageId → Type 0
AgreeOn s t ps = (q : PageId) → 1 ≤ times q ps → s q ≡ t q

agree-head : (s t : PageId → Sheet) (p : PageId) (ps : List PageId) → AgreeOn s t (p ∷ ps) → s p ≡ t p
agree-head s t p ps a = a p (times_here p ps)

agree-tail : (s t : PageId → Sheet) (p : PageId) (ps : List PageId) → AgreeOn s t (p ∷ ps) → AgreeOn s t ps
agree-tail s t p ps a q h = a q (omega (arith, h))

pub agree-left : (s t : PageId → Sheet) (ps qs : List PageId) → AgreeOn s t (ps ++ qs) → AgreeOn s t ps
agree-left s t ps qs a q h = a q (omega (arith, h, times-append q ps qs))

pub agree-right : (s t : PageId → Sheet) (ps qs : List PageId) → AgreeOn s t (ps ++ qs) → AgreeOn s t qs
agree-right s t ps qs a q h = a q (omega (arith, h, times-append q ps qs))

-- pages below entries
abbrev pub Below : (PageId → Sheet) → ℕ → List Entry → List PageId
Below s n es = flat_map (λ e. pages_of s n e.page) es

pub pages-same : (s t : PageId → Sheet) (n : ℕ) (p : PageId) → AgreeOn s t (pages_of s n p) → pages_of s n p ≡ pages_of t n p
pages-same s t zero p a = refl
pages-same s t (suc n) p a =
    let here : s p ≡ t p = agree-head s t p (Below s n (entries_at s p)) a in
    let rest : Below s n (entries_at s p) ≡ Below t n (entries_at s p) = many (entries_at s p) (agree-tail s t p (Below s n (entries_at s p)) a) (pages-same s t n) in
    ap (λ (l : List PageId). p ∷ l) (rest ∙ ap (λ (x : Sheet). Below t n (in_key_order (entries_in x))) here)
  where
    many : (es : List Entry) → AgreeOn s t (flat_map (λ e. pages_of s n e.page) es) → ((p : PageId) → AgreeOn s t (pages_of s n p) → pages_of s n p ≡ pages_of t n p) → flat_map (λ e. pages_of s n e.page) es ≡ flat_map (λ e. pages_of t n e.page) es
    many [] a f = refl
    many (e ∷ es) a f =
        let one : pages_of s n e.page ≡ pages_of t n e.page = f e.page (agree-left s t (pages_of s n e.page) (flat_map (λ e. pages_of s n e.page) es) a) in
        let others = many es (agree-right s t (pages_of s n e.page) (flat_map (λ e. pages_of s n e.page) es) a) f in
        λ i. one i ++ others i

pub rows-same : (cols : List Column) (s t : PageId → Sheet) (n : ℕ) (p : PageId) → AgreeOn s t (pages_of s n p) → rows_of cols s n p ≡ rows_of cols t n p
rows-same cols s t zero p a = ap (λ (x : Sheet). rows_in_order cols (leaf_in x)) (agree-head s t p [] a)
rows-same cols s t (suc n) p a =
    let here : s p ≡ t p = agree-head s t p (Below s n (entries_at s p)) a in
    many (entries_at s p) (agree-tail s t p (Below s n (entries_at s p)) a) (rows-same cols s t n) ∙ ap (λ (x : Sheet). flat_map (λ e. rows_of cols t n e.page) (in_key_order (entries_in x))) here
  where
    many : (es : List Entry) → AgreeOn s t (flat_map (λ e. pages_of s n e.page) es) → ((p : PageId) → AgreeOn s t (pages_of s n p) → rows_of cols s n p ≡ rows_of cols t n p) → flat_map (λ e. rows_of cols s n e.page) es ≡ flat_map (λ e. rows_of cols t n e.page) es
    many [] a f = refl
    many (e ∷ es) a f =
        let one : rows_of cols s n e.page ≡ rows_of cols t n e.page = f e.page (agree-left s t (pages_of s n e.page) (flat_map (λ e. pages_of s n e.page) es) a) in
        let others = many es (agree-right s t (pages_of s n e.page) (flat_map (λ e. pages_of s n e.page) es) a) f in
        λ i. one i ++ others i

-- the same of what stands inside entries
pub marks-same : (cols : List Column) (s t : PageId → Sheet) (n : ℕ) (es : List Entry) → AgreeOn s t (Below s n es) → ((p : PageId) → AgreeOn s t (pages_of s n p) → inside cols s n p ≡ inside cols t n p)
    → flat_map (marks_of (inside cols s n)) es ≡ flat_map (marks_of (inside cols t n)) es
marks-same cols s t n [] a f = refl
marks-same cols s t n (e ∷ es) a f =
    let one : inside cols s n e.page ≡ inside cols t n e.page = f e.page (agree-left s t (pages_of s n e.page) (Below s n es) a) in
    let others = marks-same cols s t n es (agree-right s t (pages_of s n e.page) (Below s n es) a) f in
    λ i. (own e.least ++ one i) ++ others i

pub headless-below : (s : PageId → Sheet) (n : ℕ) (es : List Entry) → Below s n (headless es) ≡ Below s n es
headless-below s n [] = refl
headless-below s n (e ∷ es) = refl

pub inside-same : (cols : List Column) (s t : PageId → Sheet) (n : ℕ) (p : PageId) → AgreeOn s t (pages_of s n p) → inside cols s n p ≡ inside cols t n p
inside-same cols s t zero p a = ap (λ (x : Sheet). map (row_mark cols) (rows_in_order cols (leaf_in x))) (agree-head s t p [] a)
inside-same cols s t (suc n) p a =
    let here : s p ≡ t p = agree-head s t p (Below s n (entries_at s p)) a in
    let below : AgreeOn s t (Below s n (headless (entries_at s p))) = subst (AgreeOn s t) (sym (headless-below s n (entries_at s p))) (agree-tail s t p (Below s n (entries_at s p)) a) in
    marks-same cols s t n (headless (entries_at s p)) below (inside-same cols s t n) ∙ ap (λ (x : Sheet). flat_map (marks_of (inside cols t n)) (headless (in_key_order (entries_in x)))) here

-- ONE PAGE CHANGED

pub set_same : (s : PageId → Sheet) (p : PageId) (x : Sheet) → set_at s p x p ≡ x
set_same s p x = ap (λ (b : Bool). cond b x (s p)) (is_page-same p)

pub set_other : (s : PageId → Sheet) (p q : PageId) (x : Sheet) → p ≢ q → set_at s p x q ≡ s q
set_other s p q x ne = ap (λ (b : Bool). cond b x (s q)) (is_page-other p q ne)

-- a page that isn't among some is another
pub not_among : (p q : PageId) (ps : List PageId) → times p ps ≡ 0 → 1 ≤ times q ps → p ≢ q
not_among p q ps none some e = let same : times p ps ≡ times q ps = ap (λ (x : PageId). times x ps) e in absurd (omega (arith, none, some, same))

pub agree_set : (s : PageId → Sheet) (p : PageId) (x : Sheet) (ps : List PageId) → times p ps ≡ 0 → AgreeOn s (set_at s p x) ps
agree_set s p x ps none q h = sym (set_other s p q x (not_among p q ps none h))
