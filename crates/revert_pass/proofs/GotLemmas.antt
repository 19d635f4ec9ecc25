-- One page more among those that are kept, or one less.
use Rattle.std.proofs.Common.{◌≡◌, ℕ, ◌-◌, inl, inr, Bool, true, false, ◌||◌, cond, Option, Some, None, is_some, List, [], ◌∷◌, ◌++◌, length, arith, refl, ap, sym, ◌∙◌, subst}
use Rattle.std.proofs.lemmas.Bool.{false≢true}
use Rattle.std.specs.Prelude.{MatchOption}
use Rattle.std.specs.Option.{option_map_or}
use Rattle.std.specs.List.{IsDistinct, AllByRecursion}
use Rattle.std.specs.Map.{keys_of, lookup}
use Rattle.page_base.specs.declared.numbers.PageId.{PageId}
use Rattle.page_base.specs.Pages.{is_page, set_at}
use Rattle.page_base.proofs.PagesLemmas.{cases_page, is_page-same, is_page-other}
use Rattle.page_fmt.specs.Content.{IsPage}
use Rattle.buf_pool.specs.Pool.{without_pin}
use Rattle.revert_pass.specs.Got.{Got, IsGot, has, swapped, ungathered}

page_flips : (p q : PageId) → is_page p q ≡ is_page q p
page_flips p q = elim (cases_page q p) [
  | inl e ↦ subst (λ r. is_page p r ≡ is_page r p) (sym e) refl
  | inr ne ↦ is_page-other p q ne ∙ sym (is_page-other q p (λ e. ne (sym e)))
]

-- THE FIRST OF SEVERAL

image_test : (b : Bool) (o : Option (List ℕ)) (y d : List ℕ) → option_map_or (λ (x : List ℕ). x) (cond b (Some y) o) d ≡ cond b y (option_map_or (λ (x : List ℕ). x) o d)
image_test true o y d = refl
image_test false o y d = refl

has_test : (b : Bool) (o : Option (List ℕ)) (y : List ℕ) → is_some (cond b (Some y) o) ≡ (b || is_some o)
has_test true o y = refl
has_test false o y = refl

swapped_cons : (k : PageId) (y : List ℕ) (rest : Got) (f : PageId → List ℕ) (q : PageId) → swapped ((k, y) ∷ rest) f q ≡ cond (is_page q k) y (swapped rest f q)
swapped_cons k y rest f q = image_test (is_page q k) (lookup (is_page q) rest) y (f q)

has_cons : (k : PageId) (y : List ℕ) (rest : Got) (q : PageId) → has ((k, y) ∷ rest) q ≡ (is_page q k || has rest q)
has_cons k y rest q = has_test (is_page q k) (lookup (is_page q) rest) y

-- ONE PAGE AT THE END

-- it is swapped in before the others
pub swap_last : (front : Got) (p : PageId) (x : List ℕ) (f : PageId → List ℕ) → swapped (front ++ (p, x) ∷ []) f ≡ swapped front (set_at f p x)
swap_last front p x f = λ i q. each front q i
  where
    each : (front : Got) (q : PageId) → swapped (front ++ (p, x) ∷ []) f q ≡ swapped front (set_at f p x) q
    each [] q = swapped_cons p x [] f q ∙ ap (λ b. cond b x (f q)) (page_flips q p)
    each ((k, y) ∷ rest) q =
        swapped_cons k y (rest ++ (p, x) ∷ []) f q
        ∙ ap (cond (is_page q k) y) (each rest q)
        ∙ sym (swapped_cons k y rest (set_at f p x) q)

or_last : (a b c d : Bool) → a ≡ (b || c) → (d || a) ≡ ((d || b) || c)
or_last a b c true e = refl
or_last a b c false e = e

pub has_last : (front : Got) (p : PageId) (x : List ℕ) (q : PageId) → has (front ++ (p, x) ∷ []) q ≡ (has front q || is_page p q)
has_last [] p x q = has_cons p x [] q ∙ one (is_page q p) (is_page p q) (page_flips q p)
  where
    one : (a b : Bool) → a ≡ b → (a || false) ≡ b
    one true b e = e
    one false b e = e
has_last ((k, y) ∷ rest) p x q =
    has_cons k y (rest ++ (p, x) ∷ []) q
    ∙ or_last (has (rest ++ (p, x) ∷ []) q) (has rest q) (is_page p q) (is_page q k) (has_last rest p x q)
    ∙ ap (λ b. b || is_page p q) (sym (has_cons k y rest q))

or_left : (a b : Bool) → a ≡ true → (a || b) ≡ true
or_left true b e = refl
or_left false b e = absurd (false≢true e)

-- what was kept is kept
pub has_still : (front : Got) (p : PageId) (x : List ℕ) (q : PageId) → has front q ≡ true → has (front ++ (p, x) ∷ []) q ≡ true
has_still front p x q h = has_last front p x q ∙ or_left (has front q) (is_page p q) h

or_right : (a b : Bool) → b ≡ true → (a || b) ≡ true
or_right true b e = refl
or_right false b e = e

pub has_it : (front : Got) (p : PageId) (x : List ℕ) → has (front ++ (p, x) ∷ []) p ≡ true
has_it front p x = has_last front p x p ∙ or_right (has front p) (is_page p p) (is_page-same p)

pins_test : (h : Bool) (n : ℕ) (b : Bool) → (b ≡ true → h ≡ false) → cond (h || b) (n - 1) n ≡ cond h (cond b (n - 1) n - 1) (cond b (n - 1) n)
pins_test true n true apart = absurd (false≢true (sym (apart refl)))
pins_test true n false apart = refl
pins_test false n true apart = refl
pins_test false n false apart = refl

-- its pin is taken back before the others
pub pins_last : (front : Got) (p : PageId) (x : List ℕ) (f : PageId → ℕ) → has front p ≡ false → ungathered (front ++ (p, x) ∷ []) f ≡ ungathered front (without_pin f p)
pins_last front p x f lacks = λ i q. each q i
  where
    apart : (q : PageId) → is_page p q ≡ true → has front q ≡ false
    apart q same = elim (cases_page q p) [
      | inl e ↦ ap (has front) e ∙ lacks
      | inr ne ↦ absurd (false≢true (sym (is_page-other p q ne) ∙ same))
    ]

    each : (q : PageId) → ungathered (front ++ (p, x) ∷ []) f q ≡ ungathered front (without_pin f p) q
    each q = ap (λ b. cond b (f q - 1) (f q)) (has_last front p x q) ∙ pins_test (has front q) (f q) (is_page p q) (apart q)

-- THE PAGES DIFFER

all_last : {X : Type 0} (P : PageId → Type 0) (front : List (PageId × X)) (p : PageId) (x : X) → AllByRecursion P (keys_of (front ++ (p, x) ∷ [])) → P p × AllByRecursion P (keys_of front)
all_last P [] p x h = (h.0, tt)
all_last P ((k, y) ∷ rest) p x h = let r = all_last P rest p x h.1 in (r.0, (h.0, r.1))

all_push : {X : Type 0} (P : PageId → Type 0) (front : List (PageId × X)) (p : PageId) (x : X) → P p → AllByRecursion P (keys_of front) → AllByRecursion P (keys_of (front ++ (p, x) ∷ []))
all_push P [] p x it h = (it, tt)
all_push P ((k, y) ∷ rest) p x it h = (h.0, all_push P rest p x it h.1)

-- of the last one and those before it
pub record IsLastOf (front : Got) (p : PageId) (x : List ℕ) : Type 0 where
  pub lacks : has front p ≡ false
  pub page : IsPage x
  pub others : IsGot front

lacks_last : (front : Got) (p : PageId) (x : List ℕ) → IsDistinct is_page (keys_of (front ++ (p, x) ∷ [])) → (has front p ≡ false) × IsDistinct is_page (keys_of front)
unfolding IsDistinct
lacks_last [] p x h = (refl, tt)
lacks_last ((k, y) ∷ rest) p x h =
    let r = lacks_last rest p x h.1 in
    let a = all_last (λ z. is_page k z ≡ false) rest p x h.0 in
    (has_cons k y rest p ∙ ap (λ b. b || has rest p) (page_flips p k ∙ a.0) ∙ r.0, (a.1, r.1))

pages_last : (front : Got) (p : PageId) (x : List ℕ) → AllByRecursion (λ (e : PageId × List ℕ). IsPage e.1) (front ++ (p, x) ∷ []) → IsPage x × AllByRecursion (λ (e : PageId × List ℕ). IsPage e.1) front
pages_last [] p x h = (h.0, tt)
pages_last (e ∷ rest) p x h = let r = pages_last rest p x h.1 in (r.0, (h.0, r.1))

pub last_of : (front : Got) (p : PageId) (x : List ℕ) → IsGot (front ++ (p, x) ∷ []) → IsLastOf front p x
last_of front p x is =
    let once = lacks_last front p x is.once in
    let pages = pages_last front p x is.pages in
    record { lacks = once.0; page = pages.0; others = record { once = once.1; pages = pages.1 } }

or_false : (a b : Bool) → (a || b) ≡ false → (a ≡ false) × (b ≡ false)
or_false true b e = absurd (false≢true (sym e))
or_false false b e = (refl, e)

once_push : (front : Got) (p : PageId) (x : List ℕ) → has front p ≡ false → IsDistinct is_page (keys_of front) → IsDistinct is_page (keys_of (front ++ (p, x) ∷ []))
unfolding IsDistinct
once_push [] p x lacks h = (tt, tt)
once_push ((k, y) ∷ rest) p x lacks h =
    let parts = or_false (is_page p k) (has rest p) (sym (has_cons k y rest p) ∙ lacks) in
    (all_push (λ z. is_page k z ≡ false) rest p x (page_flips k p ∙ parts.0) h.0, once_push rest p x parts.1 h.1)

pages_push : (front : Got) (p : PageId) (x : List ℕ) → IsPage x → AllByRecursion (λ (e : PageId × List ℕ). IsPage e.1) front → AllByRecursion (λ (e : PageId × List ℕ). IsPage e.1) (front ++ (p, x) ∷ [])
pages_push [] p x it h = (it, tt)
pages_push (e ∷ rest) p x it h = (h.0, pages_push rest p x it h.1)

-- one page more, which isn't among them
pub got_push : (got : Got) (p : PageId) (x : List ℕ) → has got p ≡ false → IsPage x → IsGot got → IsGot (got ++ (p, x) ∷ [])
got_push got p x lacks page is = record { once = once_push got p x lacks is.once; pages = pages_push got p x page is.pages }

pub got_none : IsGot []
unfolding IsDistinct
got_none = record { once = tt; pages = tt }

-- nothing is left where nothing was taken
pub emptied : {X : Type 0} (o : Option X) (n m : ℕ) (Q : X → Type 0) (items : List X) → MatchOption o ((n ≡ 0) × (m ≡ 0)) Q → ((x : X) → o ≡ Some x → ⊥) → n ≡ length items → items ≡ []
emptied None n m Q items h none len = no_items items (sym len ∙ h.0)
  where
    no_items : {X : Type 0} (items : List X) → length items ≡ 0 → items ≡ []
    no_items [] e = refl
    no_items (x ∷ xs) e = absurd (omega (arith, e))
emptied (Some x) n m Q items h none len = absurd (none x refl)
