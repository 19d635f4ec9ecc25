-- Finding a page in what was read.
use Rattle.std.proofs.Common.{refl, ◌≡◌, ◌≢◌, suc, ◌+◌, List, [], ◌∷◌, get_or, ap, sym, ◌∙◌, arith, Bool, true, false, cond, ◌==◌, ◌&&◌, eq-eqb, eqb-true}
use Rattle.page_base.specs.declared.numbers.PageId.{PageId}
use Rattle.page_base.specs.Pages.{is_page}
use Rattle.page_fmt.specs.Seen.{Looked, place_of, look, Saw}

both : (a b : Bool) → (a && b) ≡ true → (a ≡ true) × (b ≡ true)
both true b e = (refl, e)
both false b e = cc

pub is_page-same : (p : PageId) → is_page p p ≡ true
is_page-same p = ap (λ b. b && p.page == p.page) (eq-eqb p.file p.file refl) ∙ eq-eqb p.page p.page refl

pub is_page-true : (p q : PageId) → is_page p q ≡ true → p ≡ q
is_page-true p q e =
    let parts = both (p.file == q.file) (p.page == q.page) e in
    let files : p.file ≡ q.file = eqb-true p.file q.file parts.0 in
    let numbers : p.page ≡ q.page = eqb-true p.page q.page parts.1 in
    λ i. record { file = files i; page = numbers i }

pub is_page-other : (p q : PageId) → p ≢ q → is_page p q ≡ false
is_page-other p q ne =
    let by : (b : Bool) → is_page p q ≡ b → b ≡ false =
    elim [
      | true ↦ λ e. absurd (ne (is_page-true p q e))
      | false ↦ λ e. refl
    ] in
    by (is_page p q) refl

-- what stands at the place is what was read
pub look-place : (xs : List Looked) (p : PageId) (d : Looked) → Saw xs p → look xs p ≡ (get_or xs (place_of xs p) d).slots
look-place [] p d h = absurd (omega arith)
look-place (x ∷ xs) p d h =
    let by : (b : Bool) → is_page x.page p ≡ b → cond b x.slots (look xs p) ≡ (get_or (x ∷ xs) (cond b 0 (place_of xs p + 1)) d).slots =
    elim [
      | true ↦ λ e. refl
      | false ↦ λ e.
          let one : place_of xs p + 1 ≡ suc (place_of xs p) = omega arith in
          let seen : place_of (x ∷ xs) p ≡ place_of xs p + 1 = ap (λ b. cond b 0 (place_of xs p + 1)) e in
          look-place xs p d (omega arith) ∙ sym (ap (λ n. (get_or (x ∷ xs) n d).slots) one)
    ] in
    by (is_page x.page p) refl
